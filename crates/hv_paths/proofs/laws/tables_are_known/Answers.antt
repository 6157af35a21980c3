use Rattle.hv_paths.proofs.NameLemmas.{table_name-is_table}
use Rattle.hv_paths.proofs.laws.tables_are_known.Goals as goal

pub returns : goal.returns
returns c = record { law = table_name-is_table }
