use Rattle.hv_table_reader.proofs.Stood.{none-amiss}
use Rattle.hv_table_reader.proofs.laws.none_amiss.Goals as goal

pub returns : goal.returns
returns c = record { law = none-amiss }
