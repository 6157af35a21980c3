use Rattle.hv_parse_stmt.proofs.Texts.{tree_spelled}
use Rattle.hv_reading.proofs.reading.read_text.Goals as goal

pub returns-in-Ok-clause-tree : goal.returns-in-Ok-clause-tree
returns-in-Ok-clause-tree c = (tree_spelled c.args.text.now c.in-Ok.tree).1 c.in-Ok.ensures.tree
