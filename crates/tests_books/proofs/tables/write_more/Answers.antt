use Rattle.std.proofs.Common.{◌≡◌, List, suc, ◌+◌, ◌∷◌, drop, sym, ap, ◌∙◌, arith}
use Rattle.std.proofs.Math.Seq.{drop-cons}
use Rattle.std.specs.List.{flat_map}
use Rattle.hv_history.specs.declared.state.Statement.{Statement}
use Rattle.hv_history.specs.State.{tables_behind}
use Rattle.tests_books.proofs.Writes.{behind-more}
use Rattle.tests_books.proofs.tables.write_more.Goals as goal

pub loop-statement-preserved : goal.loop-statement-preserved
loop-statement-preserved c =
    let statements = c.args.statements.now in
    let i = c.loop-statement.statement-index in
    let statement = c.statement-item.result in
    let tables = c.loop-statement.tables.items in
    let e : suc i ≡ i + 1 = omega arith in
    let more : drop i statements ≡ statement ∷ drop (i + 1) statements =
    drop-cons statements i statement c.loop-statement-test.true ∙ (λ j. sym c.statement-item.is j ∷ drop (e j) statements) in
    c.loop-statement.invariant
    ∙ ap (λ (all : List Statement). tables_behind (flat_map (λ (s : Statement). s.wrote) all) tables) more
    ∙ behind-more statement (drop (i + 1) statements) tables
    ∙ ap (λ wrote. tables_behind (flat_map (λ (s : Statement). s.wrote) (drop (i + 1) statements)) (tables_behind wrote tables)) (sym c.as_slice.ensures)
    ∙ ap (tables_behind (flat_map (λ (s : Statement). s.wrote) (drop (i + 1) statements))) (sym c.in_ok-write_all.ensures)
