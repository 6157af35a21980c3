use Rattle.std.proofs.Common.{ap, ◌∙◌}
use Rattle.std.specs.Option.{option_map}
use Rattle.hv_book.specs.Said.{said}
use Rattle.hv_book.proofs.SaidLaws.{said-entry}
use Rattle.hv_book.proofs.book.Book.put.Goals as goal

pub put_said-requires-clause-tree : goal.put_said-requires-clause-tree
put_said-requires-clause-tree c = ap (option_map said) c.requires.tree ∙ said-entry c.args.entry
