use Rattle.std.proofs.Common.{sym}
use Rattle.tests_books.proofs.Starts.{no_tree_of}
use Rattle.tests_books.proofs.meanings.tree_of.Goals as goal

pub returns-in_default : goal.returns-in_default
returns-in_default c = sym (no_tree_of c.in-Err.fault c.args.text.now c.in-Err.ensures.fault c.in_default.not-NoMemory)
