use Rattle.hv_table_reader.proofs.Stood.{rows-content, none-spoiled}
use Rattle.hv_table_reader.proofs.laws.seen_is_content.Goals as goal

pub returns : goal.returns
returns c = record { rows = rows-content; none = none-spoiled }
