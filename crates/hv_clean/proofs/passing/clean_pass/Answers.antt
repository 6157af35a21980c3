use Rattle.hv_actor.specs.Acting.{known}
use Rattle.std.specs.Prelude.{Result}
use Rattle.hv_trail.specs.Steps.{HouseSeen}
use Rattle.hv_trail.specs.Trail.{book_of}
use Rattle.hv_job_acts.specs.Questions.{AnswersSo}
use Rattle.std.proofs.Common.{◌≡◌, List, sym, ◌∙◌, subst}
use Rattle.std.specs.Global.{Vec}
use Rattle.hv_base.specs.declared.ids.JobId.{JobId}
use Rattle.hv_history.specs.declared.entry.Entry.{Entry}
use Rattle.hv_history.specs.State.{state_of}
use Rattle.hv_job_acts.specs.hv_acts.specs.Told.{trail_in}
use Rattle.hv_job_acts.specs.Work.{ready_in}
use Rattle.hv_clean.specs.Removing.{AreKnown}
use Rattle.hv_clean.proofs.Holds.{asked-so, asked-less, asked-says}
use Rattle.hv_clean.proofs.Moved.{pass-ok, pass-running}
use Rattle.hv_clean.proofs.Came.{pass-up, pass-stop, pass-later}
use Rattle.hv_clean.proofs.Forgets.{all-ready-known}
use Rattle.hv_clean.proofs.passing.clean_pass.Goals as goal

pub hold-requires-clause-few : goal.hold-requires-clause-few
hold-requires-clause-few g c = g.met.W.Actor.one

pub pass_over-requires : goal.pass_over-requires
pass_over-requires g c =
    let asks = asked-so g.D.Shelf.told g.D.Shelf.faults g.W.Actor.between g.W.Actor.meanwhile g.met.W.Actor.goes_on (λ (seen : HouseSeen g.row.D.Denot) (r : Result _ _). AnswersSo (λ (book : List Entry) (jobs : Vec JobId). jobs.items ≡ ready_in (state_of book)) (book_of seen.trail) r)
    (g.W.Actor.own c.args.actor.now) (g.W.Actor.own c.hold.new.self) (g.W.Actor.house c.args.actor.now) (g.W.Actor.house c.hold.new.self) c.in-Ok.jobs c.hold.result c.in-Ok.is c.hold.ensures.held c.hold.ensures.went in
    record {
      keeps = c.hold.ensures.keeps;
      running = asks.running;
      there = subst (AreKnown (trail_in (g.W.Actor.house c.hold.new.self)))
          (sym (c.deref.ensures.value
          ∙ asked-says g.D.Shelf.told g.D.Shelf.faults g.W.Actor.between g.W.Actor.meanwhile g.met.W.Actor.goes_on (λ (book : List Entry) (jobs : Vec JobId). jobs.items ≡ ready_in (state_of book)) (g.W.Actor.own c.args.actor.now) (g.W.Actor.own c.hold.new.self) (g.W.Actor.house c.args.actor.now) (g.W.Actor.house c.hold.new.self) c.requires.running c.hold.result c.in-Ok.jobs c.in-Ok.is c.hold.ensures.held))
          (all-ready-known (trail_in (g.W.Actor.house c.hold.new.self)));
    }

pub returns-in-Ok-clause-passes : goal.returns-in-Ok-clause-passes
returns-in-Ok-clause-passes g c =
    pass-ok g.D.Shelf.told g.D.Shelf.faults g.W.Actor.between g.met.W.Actor.rows g.W.Actor.meanwhile (known (g.W.Actor.own c.args.actor.now) (g.W.Actor.house c.args.actor.now)) (known (g.W.Actor.own c.hold.new.self) (g.W.Actor.house c.hold.new.self)) (known (g.W.Actor.own c.pass_over.new.actor) (g.W.Actor.house c.pass_over.new.actor)) c.deref.result.now c.pass_over.result (asked-so g.D.Shelf.told g.D.Shelf.faults g.W.Actor.between g.W.Actor.meanwhile g.met.W.Actor.goes_on (λ (seen : HouseSeen g.row.D.Denot) (r : Result _ _). AnswersSo (λ (book : List Entry) (jobs : Vec JobId). jobs.items ≡ ready_in (state_of book)) (book_of seen.trail) r)
    (g.W.Actor.own c.args.actor.now) (g.W.Actor.own c.hold.new.self) (g.W.Actor.house c.args.actor.now) (g.W.Actor.house c.hold.new.self) c.in-Ok.jobs c.hold.result c.in-Ok.is c.hold.ensures.held c.hold.ensures.went)
    (c.deref.ensures.value ∙ asked-says g.D.Shelf.told g.D.Shelf.faults g.W.Actor.between g.W.Actor.meanwhile g.met.W.Actor.goes_on (λ (book : List Entry) (jobs : Vec JobId). jobs.items ≡ ready_in (state_of book)) (g.W.Actor.own c.args.actor.now) (g.W.Actor.own c.hold.new.self) (g.W.Actor.house c.args.actor.now) (g.W.Actor.house c.hold.new.self) c.requires.running c.hold.result c.in-Ok.jobs c.in-Ok.is c.hold.ensures.held)
    c.pass_over.ensures.passes

pub returns-in-Ok-clause-less : goal.returns-in-Ok-clause-less
returns-in-Ok-clause-less g c =
    pass-up g.D.Shelf.told g.D.Shelf.faults g.W.Actor.between g.met.W.Actor.rows g.W.Actor.meanwhile (known (g.W.Actor.own c.args.actor.now) (g.W.Actor.house c.args.actor.now)) (known (g.W.Actor.own c.hold.new.self) (g.W.Actor.house c.hold.new.self)) (known (g.W.Actor.own c.pass_over.new.actor) (g.W.Actor.house c.pass_over.new.actor)) c.deref.result.now c.pass_over.result (asked-so g.D.Shelf.told g.D.Shelf.faults g.W.Actor.between g.W.Actor.meanwhile g.met.W.Actor.goes_on (λ (seen : HouseSeen g.row.D.Denot) (r : Result _ _). AnswersSo (λ (book : List Entry) (jobs : Vec JobId). jobs.items ≡ ready_in (state_of book)) (book_of seen.trail) r)
    (g.W.Actor.own c.args.actor.now) (g.W.Actor.own c.hold.new.self) (g.W.Actor.house c.args.actor.now) (g.W.Actor.house c.hold.new.self) c.in-Ok.jobs c.hold.result c.in-Ok.is c.hold.ensures.held c.hold.ensures.went) (c.deref.ensures.value ∙ asked-says g.D.Shelf.told g.D.Shelf.faults g.W.Actor.between g.W.Actor.meanwhile g.met.W.Actor.goes_on (λ (book : List Entry) (jobs : Vec JobId). jobs.items ≡ ready_in (state_of book)) (g.W.Actor.own c.args.actor.now) (g.W.Actor.own c.hold.new.self) (g.W.Actor.house c.args.actor.now) (g.W.Actor.house c.hold.new.self) c.requires.running c.hold.result c.in-Ok.jobs c.in-Ok.is c.hold.ensures.held) c.pass_over.ensures.less

pub returns-in-Ok-clause-later : goal.returns-in-Ok-clause-later
returns-in-Ok-clause-later g c =
    pass-later g.D.Shelf.told g.D.Shelf.faults g.W.Actor.between g.met.W.Actor.rows g.W.Actor.meanwhile (known (g.W.Actor.own c.args.actor.now) (g.W.Actor.house c.args.actor.now)) (known (g.W.Actor.own c.pass_over.new.actor) (g.W.Actor.house c.pass_over.new.actor)) c.pass_over.result
    (pass-ok g.D.Shelf.told g.D.Shelf.faults g.W.Actor.between g.met.W.Actor.rows g.W.Actor.meanwhile (known (g.W.Actor.own c.args.actor.now) (g.W.Actor.house c.args.actor.now)) (known (g.W.Actor.own c.hold.new.self) (g.W.Actor.house c.hold.new.self)) (known (g.W.Actor.own c.pass_over.new.actor) (g.W.Actor.house c.pass_over.new.actor)) c.deref.result.now c.pass_over.result (asked-so g.D.Shelf.told g.D.Shelf.faults g.W.Actor.between g.W.Actor.meanwhile g.met.W.Actor.goes_on (λ (seen : HouseSeen g.row.D.Denot) (r : Result _ _). AnswersSo (λ (book : List Entry) (jobs : Vec JobId). jobs.items ≡ ready_in (state_of book)) (book_of seen.trail) r)
    (g.W.Actor.own c.args.actor.now) (g.W.Actor.own c.hold.new.self) (g.W.Actor.house c.args.actor.now) (g.W.Actor.house c.hold.new.self) c.in-Ok.jobs c.hold.result c.in-Ok.is c.hold.ensures.held c.hold.ensures.went)
    (c.deref.ensures.value ∙ asked-says g.D.Shelf.told g.D.Shelf.faults g.W.Actor.between g.W.Actor.meanwhile g.met.W.Actor.goes_on (λ (book : List Entry) (jobs : Vec JobId). jobs.items ≡ ready_in (state_of book)) (g.W.Actor.own c.args.actor.now) (g.W.Actor.own c.hold.new.self) (g.W.Actor.house c.args.actor.now) (g.W.Actor.house c.hold.new.self) c.requires.running c.hold.result c.in-Ok.jobs c.in-Ok.is c.hold.ensures.held)
    c.pass_over.ensures.passes)
    (pass-up g.D.Shelf.told g.D.Shelf.faults g.W.Actor.between g.met.W.Actor.rows g.W.Actor.meanwhile (known (g.W.Actor.own c.args.actor.now) (g.W.Actor.house c.args.actor.now)) (known (g.W.Actor.own c.hold.new.self) (g.W.Actor.house c.hold.new.self)) (known (g.W.Actor.own c.pass_over.new.actor) (g.W.Actor.house c.pass_over.new.actor)) c.deref.result.now c.pass_over.result (asked-so g.D.Shelf.told g.D.Shelf.faults g.W.Actor.between g.W.Actor.meanwhile g.met.W.Actor.goes_on (λ (seen : HouseSeen g.row.D.Denot) (r : Result _ _). AnswersSo (λ (book : List Entry) (jobs : Vec JobId). jobs.items ≡ ready_in (state_of book)) (book_of seen.trail) r)
    (g.W.Actor.own c.args.actor.now) (g.W.Actor.own c.hold.new.self) (g.W.Actor.house c.args.actor.now) (g.W.Actor.house c.hold.new.self) c.in-Ok.jobs c.hold.result c.in-Ok.is c.hold.ensures.held c.hold.ensures.went) (c.deref.ensures.value ∙ asked-says g.D.Shelf.told g.D.Shelf.faults g.W.Actor.between g.W.Actor.meanwhile g.met.W.Actor.goes_on (λ (book : List Entry) (jobs : Vec JobId). jobs.items ≡ ready_in (state_of book)) (g.W.Actor.own c.args.actor.now) (g.W.Actor.own c.hold.new.self) (g.W.Actor.house c.args.actor.now) (g.W.Actor.house c.hold.new.self) c.requires.running c.hold.result c.in-Ok.jobs c.in-Ok.is c.hold.ensures.held) c.pass_over.ensures.less)

pub returns-in-Ok-clause-running : goal.returns-in-Ok-clause-running
returns-in-Ok-clause-running g c =
    pass-running g.D.Shelf.told g.D.Shelf.faults g.W.Actor.between g.met.W.Actor.rows g.W.Actor.meanwhile (known (g.W.Actor.own c.hold.new.self) (g.W.Actor.house c.hold.new.self)) (known (g.W.Actor.own c.pass_over.new.actor) (g.W.Actor.house c.pass_over.new.actor)) c.deref.result.now c.pass_over.result c.pass_over.ensures.passes

pub returns-in-Err-clause-less : goal.returns-in-Err-clause-less
returns-in-Err-clause-less g c =
    pass-stop g.D.Shelf.told g.D.Shelf.faults g.W.Actor.between g.met.W.Actor.rows g.W.Actor.meanwhile (known (g.W.Actor.own c.args.actor.now) (g.W.Actor.house c.args.actor.now)) (known (g.W.Actor.own c.hold.new.self) (g.W.Actor.house c.hold.new.self)) c.stopped.result c.requires.running
    (asked-less g.D.Shelf.told g.D.Shelf.faults g.W.Actor.between g.W.Actor.meanwhile g.met.W.Actor.goes_on (λ (book : List Entry) (jobs : Vec JobId). jobs.items ≡ ready_in (state_of book))
    (g.W.Actor.own c.args.actor.now) (g.W.Actor.own c.hold.new.self) (g.W.Actor.house c.args.actor.now) (g.W.Actor.house c.hold.new.self) c.requires.running c.hold.result c.in-Err.why c.stopped.result c.in-Err.is c.stopped.ensures c.hold.ensures.held c.hold.ensures.went)

pub returns-in-Err-clause-later : goal.returns-in-Err-clause-later
returns-in-Err-clause-later g c =
    (asked-less g.D.Shelf.told g.D.Shelf.faults g.W.Actor.between g.W.Actor.meanwhile g.met.W.Actor.goes_on (λ (book : List Entry) (jobs : Vec JobId). jobs.items ≡ ready_in (state_of book))
    (g.W.Actor.own c.args.actor.now) (g.W.Actor.own c.hold.new.self) (g.W.Actor.house c.args.actor.now) (g.W.Actor.house c.hold.new.self) c.requires.running c.hold.result c.in-Err.why c.stopped.result c.in-Err.is c.stopped.ensures c.hold.ensures.held c.hold.ensures.went).adds.later
