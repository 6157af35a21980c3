use Rattle.std.proofs.Common.{Some, sym, ap, ◌∙◌, refl}
use Rattle.std.specs.List.{list_all}
use Rattle.hv_ast.specs.declared.statement.Stmt.TheVariants as stmt
use Rattle.hv_book.specs.hv_history.specs.State.{state_of, numbered}
use Rattle.hv_meta.specs.States.{is_flat_definition}
use Rattle.hv_meta.proofs.FactLemmas.{create-next, unflat}
use Rattle.hv_meta.proofs.creating.create_fits.Goals as goal

pub returns-then-not-are_flat : goal.returns-then-not-are_flat
returns-then-not-are_flat c = record {
  fits =
      unflat (state_of c.args.book.now.entries) c.args.table.0 (numbered (state_of c.args.book.now.entries).transactions c.args.txn.0)
      (Some (stmt.CreateTable c.in-CreateTable.create)) (ap Some (sym c.in-CreateTable.is) ∙ c.in-Some.ensures.tree) c.are_flat.result
      (c.are_flat.ensures.flat ∙ ap (list_all is_flat_definition) c.as_slice.ensures) c.if-not-are_flat.true;
}

pub returns-then-not-named : goal.returns-then-not-named
returns-then-not-named c = record {
  fits =
      create-next (state_of c.args.book.now.entries) c.args.table.0 (numbered (state_of c.args.book.now.entries).transactions c.args.txn.0)
      (Some (stmt.CreateTable c.in-CreateTable.create)) (ap Some (sym c.in-CreateTable.is) ∙ c.in-Some.ensures.tree) refl
      c.are_flat.result c.is_running.result c.has_named-named.result c.tables.result.now
      (c.are_flat.ensures.flat ∙ ap (list_all is_flat_definition) c.as_slice.ensures) c.if-not-are_flat.false
      c.is_running.ensures.running c.if-not-named.true.0 c.has_named-named.ensures.named c.if-not-named.true.1 c.tables.ensures.tables;
}
