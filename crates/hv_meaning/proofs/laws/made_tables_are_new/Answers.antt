use Rattle.hv_meaning.proofs.Meanings.{tables-new}
use Rattle.hv_meaning.proofs.laws.made_tables_are_new.Goals as goal

pub returns : goal.returns
returns c = record { law = tables-new }
