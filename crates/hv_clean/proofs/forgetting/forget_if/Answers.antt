use Rattle.hv_actor.specs.Acting.{known}
use Rattle.std.proofs.Common.{[], ◌∷◌, sym, ◌∙◌}
use Rattle.hv_clean.specs.Passing.{ids_of}
use Rattle.hv_clean.proofs.Moved.{none-ok, one-ok}
use Rattle.hv_clean.proofs.Forgets.{one-of-table, none-of-table}
use Rattle.hv_clean.proofs.forgetting.forget_if.Goals as goal

pub returns-then-not-is_of_table-clause-forgets : goal.returns-then-not-is_of_table-clause-forgets
returns-then-not-is_of_table-clause-forgets g c =
    none-ok g.D.Shelf.told g.D.Shelf.faults g.W.Actor.between g.met.W.Actor.rows g.W.Actor.meanwhile (known (g.W.Actor.own c.args.actor.now) (g.W.Actor.house c.args.actor.now)) (ids_of c.args.table (c.args.id ∷ [])) c.args.swept.now c.requires.running
    (none-of-table c.args.table c.args.id (sym c.is_of_table.ensures ∙ c.if-not-is_of_table.true))

pub returns-clause-forgets : goal.returns-clause-forgets
returns-clause-forgets g c =
    one-ok g.D.Shelf.told g.D.Shelf.faults g.W.Actor.between g.met.W.Actor.rows g.W.Actor.meanwhile (known (g.W.Actor.own c.args.actor.now) (g.W.Actor.house c.args.actor.now)) (known (g.W.Actor.own c.forget_id.new.actor) (g.W.Actor.house c.forget_id.new.actor)) c.args.id (ids_of c.args.table (c.args.id ∷ [])) c.args.swept.now c.forget_id.new.swept c.forget_id.result
    (one-of-table c.args.table c.args.id (sym c.is_of_table.ensures ∙ c.if-not-is_of_table.false)) c.forget_id.ensures.forgets
