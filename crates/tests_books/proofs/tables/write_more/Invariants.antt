use Rattle.std.proofs.Common.{◌≡◌, drop}
use Rattle.std.specs.List.{flat_map}
use Rattle.hv_history.specs.declared.state.Statement.{Statement}
use Rattle.hv_history.specs.State.{tables_behind}
use Rattle.tests_books.proofs.tables.write_more.Given as goal

abbrev pub invariant-loop-statement : goal.invariant-loop-statement
invariant-loop-statement l =
    tables_behind (flat_map (λ (statement : Statement). statement.wrote) l.statements) l.initial.tables.items
    ≡ tables_behind (flat_map (λ (statement : Statement). statement.wrote) (drop l.statement-index l.statements)) l.tables.items
