use Rattle.hv_meaning.proofs.Meanings.{changes-seen}
use Rattle.hv_meaning.proofs.laws.changes_are_seen.Goals as goal

pub returns : goal.returns
returns c = record { law = changes-seen }
