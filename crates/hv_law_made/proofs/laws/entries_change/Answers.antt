use Rattle.hv_law_made.proofs.EntryChanges.{entries-change}
use Rattle.hv_law_made.proofs.laws.entries_change.Goals as goal

pub returns : goal.returns
returns c = record { law = entries-change }
