use Rattle.hv_meaning.proofs.Meanings.{inserts-keep}
use Rattle.hv_meaning.proofs.laws.inserts_delete_nothing.Goals as goal

pub returns : goal.returns
returns c = record { law = inserts-keep }
