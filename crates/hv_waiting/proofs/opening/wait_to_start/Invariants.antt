use Rattle.std.proofs.Common.{ℕ, List}
use Rattle.hv_ast.specs.declared.statement.Stmt.{Stmt}
use Rattle.hv_stands.specs.Running.{Asking}
use Rattle.hv_actor.specs.Acting.{known}
use Rattle.hv_session.specs.hv_beginning.specs.hv_steps.specs.hv_table_reader.specs.hv_acts.specs.declared.told.ToldHouse.{ToldHouse}
use Rattle.hv_session.specs.hv_beginning.specs.hv_steps.specs.hv_table_reader.specs.hv_acts.specs.Told.{trail_in}
use Rattle.hv_session.specs.hv_beginning.specs.hv_steps.specs.Going.{IsOpenHouse, WasOpened}
use Rattle.hv_waiting.specs.Beginnings.{OpenedToWait}
use Rattle.hv_waiting.proofs.opening.wait_to_start.Given as goal

-- it has to wait, and was opened still
abbrev pub invariant-loop : goal.invariant-loop
invariant-loop g l =
    g.W.Actor.keeps l.actor
    × IsOpenHouse (g.W.Actor.house l.actor)
    × WasOpened (trail_in (g.W.Actor.house l.actor)) l.txn.0
    × ((first : ToldHouse g.row.D.Denot) (own : List ℕ) (asking : Asking) (said : Stmt)
    → OpenedToWait g.D.Shelf.faults g.W.Actor.between asking l.txn.0 said (known own first) (known (g.W.Actor.own l.fn.actor) (g.W.Actor.house l.fn.actor))
    → OpenedToWait g.D.Shelf.faults g.W.Actor.between asking l.txn.0 said (known own first) (known (g.W.Actor.own l.actor) (g.W.Actor.house l.actor)))
