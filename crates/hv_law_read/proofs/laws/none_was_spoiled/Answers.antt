use Rattle.hv_law_read.proofs.RowLemmas.{none-was-spoiled}
use Rattle.hv_law_read.proofs.laws.none_was_spoiled.Goals as goal

pub returns : goal.returns
returns c = record { law = none-was-spoiled }
