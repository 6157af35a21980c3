use Rattle.hv_actor.specs.Acting.{known}
use Rattle.std.specs.Prelude.{Result}
use Rattle.hv_trail.specs.Steps.{HouseSeen}
use Rattle.hv_trail.specs.Trail.{book_of}
use Rattle.hv_job_acts.specs.Questions.{AnswersSo}
use Rattle.std.proofs.Common.{◌≡◌, ℕ, List, sym, ◌∙◌, ap, subst}
use Rattle.std.specs.Prelude.{IfOk, IfErr}
use Rattle.std.specs.Global.{Vec}
use Rattle.hv_history.specs.declared.entry.Entry.{Entry}
use Rattle.hv_history.specs.State.{state_of}
use Rattle.hv_actor.specs.Acting.{among, numbers_from}
use Rattle.hv_job_acts.specs.hv_acts.specs.Told.{trail_in}
use Rattle.hv_job_acts.specs.declared.asking.LostId.{LostId}
use Rattle.hv_job_acts.specs.Work.{lost_in}
use Rattle.hv_clean.specs.Passing.{ForgetTables, last_table}
use Rattle.hv_clean.specs.Fronts.{TablesFront, StopsBehind}
use Rattle.hv_clean.specs.Removing.{AreLost}
use Rattle.hv_clean.proofs.Holds.{asked-so, asked-less, asked-says}
use Rattle.hv_clean.proofs.Moved.{all-ok}
use Rattle.hv_clean.proofs.Forgets.{all-lost-so}
use Rattle.hv_clean.proofs.Came.{all-up, all-stop}
use Rattle.hv_clean.proofs.forgetting.forget_all.Goals as goal

pub hold-requires-clause-few : goal.hold-requires-clause-few
hold-requires-clause-few g c = g.met.W.Actor.one

pub forget_each-requires : goal.forget_each-requires
forget_each-requires g c =
    let asks = asked-so g.D.Shelf.told g.D.Shelf.faults g.W.Actor.between g.W.Actor.meanwhile g.met.W.Actor.goes_on (λ (seen : HouseSeen g.row.D.Denot) (r : Result _ _). AnswersSo (λ (book : List Entry) (ids : Vec LostId). ids.items ≡ lost_in (state_of book)) (book_of seen.trail) r)
    (g.W.Actor.own c.args.actor.now) (g.W.Actor.own c.hold.new.self) (g.W.Actor.house c.args.actor.now) (g.W.Actor.house c.hold.new.self) c.in-Ok.ids c.hold.result c.in-Ok.is c.hold.ensures.held c.hold.ensures.went in
    record {
      keeps = c.hold.ensures.keeps;
      running = asks.running;
      lost = subst (AreLost (trail_in (g.W.Actor.house c.hold.new.self)))
          (sym (c.deref-in-Ok.ensures.value
          ∙ asked-says g.D.Shelf.told g.D.Shelf.faults g.W.Actor.between g.W.Actor.meanwhile g.met.W.Actor.goes_on (λ (book : List Entry) (ids : Vec LostId). ids.items ≡ lost_in (state_of book)) (g.W.Actor.own c.args.actor.now) (g.W.Actor.own c.hold.new.self) (g.W.Actor.house c.args.actor.now) (g.W.Actor.house c.hold.new.self) c.requires.running c.hold.result c.in-Ok.ids c.in-Ok.is c.hold.ensures.held))
          (all-lost-so (trail_in (g.W.Actor.house c.hold.new.self)));
    }

pub returns-in-Ok-clause-forgets : goal.returns-in-Ok-clause-forgets
returns-in-Ok-clause-forgets g c =
    all-ok g.D.Shelf.told g.D.Shelf.faults g.W.Actor.between g.met.W.Actor.rows g.W.Actor.meanwhile (known (g.W.Actor.own c.args.actor.now) (g.W.Actor.house c.args.actor.now)) (known (g.W.Actor.own c.hold.new.self) (g.W.Actor.house c.hold.new.self)) (known (g.W.Actor.own c.forget_each.new.actor) (g.W.Actor.house c.forget_each.new.actor)) c.deref-in-Ok.result.now c.args.swept.now c.forget_each.new.swept
    c.forget_each.result (asked-so g.D.Shelf.told g.D.Shelf.faults g.W.Actor.between g.W.Actor.meanwhile g.met.W.Actor.goes_on (λ (seen : HouseSeen g.row.D.Denot) (r : Result _ _). AnswersSo (λ (book : List Entry) (ids : Vec LostId). ids.items ≡ lost_in (state_of book)) (book_of seen.trail) r)
    (g.W.Actor.own c.args.actor.now) (g.W.Actor.own c.hold.new.self) (g.W.Actor.house c.args.actor.now) (g.W.Actor.house c.hold.new.self) c.in-Ok.ids c.hold.result c.in-Ok.is c.hold.ensures.held c.hold.ensures.went)
    (c.deref-in-Ok.ensures.value ∙ asked-says g.D.Shelf.told g.D.Shelf.faults g.W.Actor.between g.W.Actor.meanwhile g.met.W.Actor.goes_on (λ (book : List Entry) (ids : Vec LostId). ids.items ≡ lost_in (state_of book)) (g.W.Actor.own c.args.actor.now) (g.W.Actor.own c.hold.new.self) (g.W.Actor.house c.args.actor.now) (g.W.Actor.house c.hold.new.self) c.requires.running c.hold.result c.in-Ok.ids c.in-Ok.is c.hold.ensures.held)
    (subst (λ (n : ℕ). IfOk c.forget_each.result (λ done. ForgetTables (among g.D.Shelf.told g.D.Shelf.faults g.W.Actor.between g.W.Actor.meanwhile) (known (g.W.Actor.own c.hold.new.self) (g.W.Actor.house c.hold.new.self)) (known (g.W.Actor.own c.forget_each.new.actor) (g.W.Actor.house c.forget_each.new.actor))
    (numbers_from 1 n) c.deref-in-Ok.result.now c.args.swept.now c.forget_each.new.swept))
    (c.last_table.ensures ∙ ap last_table (c.deref.ensures.value ∙ sym c.deref-in-Ok.ensures.value)) c.forget_each.ensures.forgets)

pub returns-in-Ok-clause-less : goal.returns-in-Ok-clause-less
returns-in-Ok-clause-less g c =
    all-up g.D.Shelf.told g.D.Shelf.faults g.W.Actor.between g.met.W.Actor.rows g.W.Actor.meanwhile (known (g.W.Actor.own c.args.actor.now) (g.W.Actor.house c.args.actor.now)) (known (g.W.Actor.own c.hold.new.self) (g.W.Actor.house c.hold.new.self)) (known (g.W.Actor.own c.forget_each.new.actor) (g.W.Actor.house c.forget_each.new.actor)) c.deref-in-Ok.result.now c.args.swept.now c.forget_each.result (asked-so g.D.Shelf.told g.D.Shelf.faults g.W.Actor.between g.W.Actor.meanwhile g.met.W.Actor.goes_on (λ (seen : HouseSeen g.row.D.Denot) (r : Result _ _). AnswersSo (λ (book : List Entry) (ids : Vec LostId). ids.items ≡ lost_in (state_of book)) (book_of seen.trail) r)
    (g.W.Actor.own c.args.actor.now) (g.W.Actor.own c.hold.new.self) (g.W.Actor.house c.args.actor.now) (g.W.Actor.house c.hold.new.self) c.in-Ok.ids c.hold.result c.in-Ok.is c.hold.ensures.held c.hold.ensures.went) (c.deref-in-Ok.ensures.value ∙ asked-says g.D.Shelf.told g.D.Shelf.faults g.W.Actor.between g.W.Actor.meanwhile g.met.W.Actor.goes_on (λ (book : List Entry) (ids : Vec LostId). ids.items ≡ lost_in (state_of book)) (g.W.Actor.own c.args.actor.now) (g.W.Actor.own c.hold.new.self) (g.W.Actor.house c.args.actor.now) (g.W.Actor.house c.hold.new.self) c.requires.running c.hold.result c.in-Ok.ids c.in-Ok.is c.hold.ensures.held) (subst (λ (n : ℕ). IfErr c.forget_each.result (StopsBehind (among g.D.Shelf.told g.D.Shelf.faults g.W.Actor.between g.W.Actor.meanwhile) (TablesFront (among g.D.Shelf.told g.D.Shelf.faults g.W.Actor.between g.W.Actor.meanwhile) (numbers_from 1 n) c.deref-in-Ok.result.now c.args.swept.now)
    (known (g.W.Actor.own c.hold.new.self) (g.W.Actor.house c.hold.new.self)) (known (g.W.Actor.own c.forget_each.new.actor) (g.W.Actor.house c.forget_each.new.actor))))
    (c.last_table.ensures ∙ ap last_table (c.deref.ensures.value ∙ sym c.deref-in-Ok.ensures.value)) c.forget_each.ensures.less)

pub returns-in-Err-clause-less : goal.returns-in-Err-clause-less
returns-in-Err-clause-less g c =
    all-stop g.D.Shelf.told g.D.Shelf.faults g.W.Actor.between g.met.W.Actor.rows g.W.Actor.meanwhile (known (g.W.Actor.own c.args.actor.now) (g.W.Actor.house c.args.actor.now)) (known (g.W.Actor.own c.hold.new.self) (g.W.Actor.house c.hold.new.self)) c.args.swept.now c.stopped.result c.requires.running
    (asked-less g.D.Shelf.told g.D.Shelf.faults g.W.Actor.between g.W.Actor.meanwhile g.met.W.Actor.goes_on (λ (book : List Entry) (ids : Vec LostId). ids.items ≡ lost_in (state_of book))
    (g.W.Actor.own c.args.actor.now) (g.W.Actor.own c.hold.new.self) (g.W.Actor.house c.args.actor.now) (g.W.Actor.house c.hold.new.self) c.requires.running c.hold.result c.in-Err.why c.stopped.result c.in-Err.is c.stopped.ensures c.hold.ensures.held c.hold.ensures.went)
