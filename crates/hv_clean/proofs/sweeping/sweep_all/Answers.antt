use Rattle.hv_actor.specs.Acting.{known}
use Rattle.std.specs.Prelude.{Result}
use Rattle.hv_trail.specs.Steps.{HouseSeen}
use Rattle.hv_trail.specs.Trail.{book_of}
use Rattle.hv_job_acts.specs.Questions.{AnswersSo}
use Rattle.std.proofs.Common.{◌≡◌, Bool, List, ◌∙◌}
use Rattle.std.specs.Global.{Vec}
use Rattle.hv_history.specs.declared.entry.Entry.{Entry}
use Rattle.hv_history.specs.State.{state_of}
use Rattle.hv_job_acts.specs.hv_acts.specs.Told.{trail_in}
use Rattle.hv_job_acts.specs.Work.{live_in}
use Rattle.hv_clean.proofs.Holds.{asked-so, asked-less, asked-says}
use Rattle.hv_clean.proofs.Moved.{asks-sweeps, sweeps-ok, less-up, front-itself}
use Rattle.hv_clean.proofs.sweeping.sweep_all.Goals as goal

pub hold-requires-clause-few : goal.hold-requires-clause-few
hold-requires-clause-few g c = g.met.W.Actor.one

pub sweep_tables-requires : goal.sweep_tables-requires
sweep_tables-requires g c =
    let asks = asked-so g.D.Shelf.told g.D.Shelf.faults g.W.Actor.between g.W.Actor.meanwhile g.met.W.Actor.goes_on (λ (seen : HouseSeen g.row.D.Denot) (r : Result _ _). AnswersSo (λ (book : List Entry) (live : Vec Bool). live.items ≡ live_in (state_of book)) (book_of seen.trail) r)
    (g.W.Actor.own c.args.actor.now) (g.W.Actor.own c.hold.new.self) (g.W.Actor.house c.args.actor.now) (g.W.Actor.house c.hold.new.self) c.in-Ok.live c.hold.result c.in-Ok.is c.hold.ensures.held c.hold.ensures.went in
    record {
      keeps = c.hold.ensures.keeps;
      running = asks.running;
      tables = record {
        then_ = trail_in (g.W.Actor.house c.hold.new.self);
        front = front-itself (trail_in (g.W.Actor.house c.hold.new.self));
        is = c.deref.ensures.value
            ∙ asked-says g.D.Shelf.told g.D.Shelf.faults g.W.Actor.between g.W.Actor.meanwhile g.met.W.Actor.goes_on (λ (book : List Entry) (live : Vec Bool). live.items ≡ live_in (state_of book)) (g.W.Actor.own c.args.actor.now) (g.W.Actor.own c.hold.new.self) (g.W.Actor.house c.args.actor.now) (g.W.Actor.house c.hold.new.self) c.requires.running c.hold.result c.in-Ok.live c.in-Ok.is c.hold.ensures.held;
      };
    }

pub returns-in-Ok-clause-sweeps : goal.returns-in-Ok-clause-sweeps
returns-in-Ok-clause-sweeps g c =
    sweeps-ok g.D.Shelf.told g.D.Shelf.faults g.W.Actor.between g.met.W.Actor.rows g.W.Actor.meanwhile (known (g.W.Actor.own c.args.actor.now) (g.W.Actor.house c.args.actor.now)) (known (g.W.Actor.own c.hold.new.self) (g.W.Actor.house c.hold.new.self)) (known (g.W.Actor.own c.sweep_tables.new.actor) (g.W.Actor.house c.sweep_tables.new.actor)) c.args.swept.now c.args.swept.now c.sweep_tables.new.swept c.sweep_tables.result
    (asks-sweeps g.D.Shelf.told g.D.Shelf.faults g.W.Actor.between g.met.W.Actor.rows g.W.Actor.meanwhile (known (g.W.Actor.own c.args.actor.now) (g.W.Actor.house c.args.actor.now)) (known (g.W.Actor.own c.hold.new.self) (g.W.Actor.house c.hold.new.self)) c.args.swept.now (asked-so g.D.Shelf.told g.D.Shelf.faults g.W.Actor.between g.W.Actor.meanwhile g.met.W.Actor.goes_on (λ (seen : HouseSeen g.row.D.Denot) (r : Result _ _). AnswersSo (λ (book : List Entry) (live : Vec Bool). live.items ≡ live_in (state_of book)) (book_of seen.trail) r)
    (g.W.Actor.own c.args.actor.now) (g.W.Actor.own c.hold.new.self) (g.W.Actor.house c.args.actor.now) (g.W.Actor.house c.hold.new.self) c.in-Ok.live c.hold.result c.in-Ok.is c.hold.ensures.held c.hold.ensures.went)) c.sweep_tables.ensures.sweeps

pub returns-in-Ok-clause-less : goal.returns-in-Ok-clause-less
returns-in-Ok-clause-less g c =
    less-up g.D.Shelf.told g.D.Shelf.faults g.W.Actor.between g.met.W.Actor.rows g.W.Actor.meanwhile (known (g.W.Actor.own c.args.actor.now) (g.W.Actor.house c.args.actor.now)) (known (g.W.Actor.own c.hold.new.self) (g.W.Actor.house c.hold.new.self)) (known (g.W.Actor.own c.sweep_tables.new.actor) (g.W.Actor.house c.sweep_tables.new.actor)) c.args.swept.now c.args.swept.now c.sweep_tables.result (asks-sweeps g.D.Shelf.told g.D.Shelf.faults g.W.Actor.between g.met.W.Actor.rows g.W.Actor.meanwhile (known (g.W.Actor.own c.args.actor.now) (g.W.Actor.house c.args.actor.now)) (known (g.W.Actor.own c.hold.new.self) (g.W.Actor.house c.hold.new.self)) c.args.swept.now (asked-so g.D.Shelf.told g.D.Shelf.faults g.W.Actor.between g.W.Actor.meanwhile g.met.W.Actor.goes_on (λ (seen : HouseSeen g.row.D.Denot) (r : Result _ _). AnswersSo (λ (book : List Entry) (live : Vec Bool). live.items ≡ live_in (state_of book)) (book_of seen.trail) r)
    (g.W.Actor.own c.args.actor.now) (g.W.Actor.own c.hold.new.self) (g.W.Actor.house c.args.actor.now) (g.W.Actor.house c.hold.new.self) c.in-Ok.live c.hold.result c.in-Ok.is c.hold.ensures.held c.hold.ensures.went)) c.sweep_tables.ensures.less

pub returns-in-Err-clause-less : goal.returns-in-Err-clause-less
returns-in-Err-clause-less g c =
    asked-less g.D.Shelf.told g.D.Shelf.faults g.W.Actor.between g.W.Actor.meanwhile g.met.W.Actor.goes_on (λ (book : List Entry) (live : Vec Bool). live.items ≡ live_in (state_of book))
    (g.W.Actor.own c.args.actor.now) (g.W.Actor.own c.hold.new.self) (g.W.Actor.house c.args.actor.now) (g.W.Actor.house c.hold.new.self) c.requires.running c.hold.result c.in-Err.why c.stopped.result c.in-Err.is c.stopped.ensures c.hold.ensures.held c.hold.ensures.went
