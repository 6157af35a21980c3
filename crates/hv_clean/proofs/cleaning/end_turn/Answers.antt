use Rattle.hv_actor.specs.Acting.{known}
use Rattle.std.proofs.Common.{sym, subst}
use Rattle.std.specs.Prelude.{IfOk}
use Rattle.hv_actor.specs.Acting.{among}
use Rattle.hv_clean.specs.declared.cleaning.Removal.{Removal}
use Rattle.hv_clean.specs.Removing.{EndsTurn}
use Rattle.hv_clean.proofs.Ended.{end-left, end-held, end-over}
use Rattle.hv_clean.proofs.cleaning.end_turn.Goals as goal

pub returns-in-Left-clause-ends : goal.returns-in-Left-clause-ends
returns-in-Left-clause-ends g c =
    subst (λ (removal : Removal). EndsTurn (among g.D.Shelf.told g.D.Shelf.faults g.W.Actor.between g.W.Actor.meanwhile) (known (g.W.Actor.own c.args.actor.now) (g.W.Actor.house c.args.actor.now))
    (known (g.W.Actor.own c.args.actor.now) (g.W.Actor.house c.args.actor.now)) c.args.job removal c.args.swept.now c.args.swept.now) (sym c.in-Left.is)
    (end-left g.D.Shelf.told g.D.Shelf.faults g.W.Actor.between g.met.W.Actor.rows g.W.Actor.meanwhile g.met.W.Actor.goes_on c.args.job (known (g.W.Actor.own c.args.actor.now) (g.W.Actor.house c.args.actor.now)) c.args.swept.now c.requires.running)

pub returns-in-Held-clause-ends : goal.returns-in-Held-clause-ends
returns-in-Held-clause-ends g c =
    subst (λ (removal : Removal). EndsTurn (among g.D.Shelf.told g.D.Shelf.faults g.W.Actor.between g.W.Actor.meanwhile) (known (g.W.Actor.own c.args.actor.now) (g.W.Actor.house c.args.actor.now))
    (known (g.W.Actor.own c.args.actor.now) (g.W.Actor.house c.args.actor.now)) c.args.job removal c.args.swept.now c.count_held.result) (sym c.in-Held.is)
    (end-held g.D.Shelf.told g.D.Shelf.faults g.W.Actor.between g.met.W.Actor.rows g.W.Actor.meanwhile g.met.W.Actor.goes_on c.args.job (known (g.W.Actor.own c.args.actor.now) (g.W.Actor.house c.args.actor.now)) c.args.swept.now c.count_held.result c.requires.running c.count_held.ensures)

pub returns-in-Over-clause-ends : goal.returns-in-Over-clause-ends
returns-in-Over-clause-ends g c =
    subst (λ (removal : Removal). EndsTurn (among g.D.Shelf.told g.D.Shelf.faults g.W.Actor.between g.W.Actor.meanwhile) (known (g.W.Actor.own c.args.actor.now) (g.W.Actor.house c.args.actor.now))
    (known (g.W.Actor.own c.args.actor.now) (g.W.Actor.house c.args.actor.now)) c.args.job removal c.args.swept.now c.args.swept.now) (sym c.in-Over.is)
    (end-over g.D.Shelf.told g.D.Shelf.faults g.W.Actor.between g.met.W.Actor.rows g.W.Actor.meanwhile g.met.W.Actor.goes_on c.args.job (known (g.W.Actor.own c.args.actor.now) (g.W.Actor.house c.args.actor.now)) c.args.swept.now c.requires.running)

pub returns-in-All-clause-ends : goal.returns-in-All-clause-ends
returns-in-All-clause-ends g c =
    subst (λ (removal : Removal). IfOk c.note_cleaned.result (λ done. EndsTurn (among g.D.Shelf.told g.D.Shelf.faults g.W.Actor.between g.W.Actor.meanwhile) (known (g.W.Actor.own c.args.actor.now) (g.W.Actor.house c.args.actor.now))
    (known (g.W.Actor.own c.note_cleaned.new.actor) (g.W.Actor.house c.note_cleaned.new.actor)) c.args.job removal c.args.swept.now c.note_cleaned.new.swept)) (sym c.in-All.is) c.note_cleaned.ensures.ends
