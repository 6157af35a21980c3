use Rattle.std.proofs.Common.{◌≡◌, take}
use Rattle.std.specs.List.{flat_map}
use Rattle.hv_grammar.specs.Texts.{tree_of}
use Rattle.hv_history.specs.declared.state.Statement.{Statement}
use Rattle.hv_history.specs.Legal.{locks_of_tree}
use Rattle.tests_books.proofs.listing.locks_of.Given as goal

abbrev pub invariant-loop-statement : goal.invariant-loop-statement
invariant-loop-statement l =
    l.locks.items
    ≡ flat_map (λ (statement : Statement). locks_of_tree (tree_of statement.text)) (take l.statement-index l.statements)
