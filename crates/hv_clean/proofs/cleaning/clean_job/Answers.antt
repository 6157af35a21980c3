use Rattle.hv_actor.specs.Acting.{known}
use Rattle.std.proofs.Common.{◌≡◌, Some, List}
use Rattle.std.specs.Global.{Vec}
use Rattle.hv_shelf.specs.declared.place.DirAt.{DirAt}
use Rattle.hv_history.specs.declared.entry.Entry.{Entry}
use Rattle.hv_history.specs.State.{Job, numbered, state_of}
use Rattle.hv_job_acts.specs.hv_acts.specs.Told.{trail_in}
use Rattle.hv_job_acts.specs.Covering.{AreNamesOf}
use Rattle.hv_job_acts.specs.Work.{AreCovered}
use Rattle.hv_clean.proofs.Holds.{asked-so, asked-less, asked-says}
use Rattle.hv_clean.proofs.Moved.{less-behind, less-up, asks-sweeps, sweeps-then, moves-asks, moves-front}
use Rattle.hv_clean.proofs.Lasts.{known-lasts}
use Rattle.hv_clean.proofs.Ended.{fits-in, may-go, turn-ok}
use Rattle.std.specs.Prelude.{Result}
use Rattle.hv_trail.specs.Steps.{HouseSeen}
use Rattle.hv_trail.specs.Trail.{book_of}
use Rattle.hv_job_acts.specs.Questions.{AnswersSo}
use Rattle.hv_clean.proofs.cleaning.clean_job.Goals as goal

pub hold-requires-clause-few : goal.hold-requires-clause-few
hold-requires-clause-few g c = g.met.W.Actor.one

pub returns-in-Err-clause-less : goal.returns-in-Err-clause-less
returns-in-Err-clause-less g c =
    asked-less g.D.Shelf.told g.D.Shelf.faults g.W.Actor.between g.W.Actor.meanwhile g.met.W.Actor.goes_on (λ (book : List Entry) (dirs : Vec DirAt). (j : Job) → numbered (state_of book).jobs c.args.job.0 ≡ Some j → AreNamesOf (state_of book) j
    → AreCovered (state_of book) j dirs.items)
    (g.W.Actor.own c.args.actor.now) (g.W.Actor.own c.hold.new.self) (g.W.Actor.house c.args.actor.now) (g.W.Actor.house c.hold.new.self) c.requires.running c.hold.result c.in-Err.why c.stopped.result c.in-Err.is c.stopped.ensures c.hold.ensures.held c.hold.ensures.went

pub remove_each-requires : goal.remove_each-requires
remove_each-requires g c =
    let asks = asked-so g.D.Shelf.told g.D.Shelf.faults g.W.Actor.between g.W.Actor.meanwhile g.met.W.Actor.goes_on (λ (seen : HouseSeen g.row.D.Denot) (r : Result _ _). AnswersSo (λ (book : List Entry) (dirs : Vec DirAt). (j : Job) → numbered (state_of book).jobs c.args.job.0 ≡ Some j → AreNamesOf (state_of book) j
    → AreCovered (state_of book) j dirs.items) (book_of seen.trail) r)
    (g.W.Actor.own c.args.actor.now) (g.W.Actor.own c.hold.new.self) (g.W.Actor.house c.args.actor.now) (g.W.Actor.house c.hold.new.self) c.in-Ok.dirs c.hold.result c.in-Ok.is c.hold.ensures.held c.hold.ensures.went in
    record {
      keeps = c.hold.ensures.keeps;
      running = asks.running;
      covered = may-go g.D.Shelf.told g.D.Shelf.faults g.W.Actor.between g.met.W.Actor.rows g.W.Actor.meanwhile g.met.W.Actor.goes_on c.args.job (g.W.Actor.house c.hold.new.self) c.in-Ok.dirs.items
          (fits-in g.D.Shelf.told (g.W.Actor.house c.hold.new.self) (g.met.W.Actor.kept c.hold.new.self c.hold.ensures.keeps) asks.running)
          (known-lasts (trail_in (g.W.Actor.house c.args.actor.now)) (trail_in (g.W.Actor.house c.hold.new.self))
          (moves-front g.D.Shelf.told g.D.Shelf.faults g.W.Actor.between g.met.W.Actor.rows g.W.Actor.meanwhile (known (g.W.Actor.own c.args.actor.now) (g.W.Actor.house c.args.actor.now)) (known (g.W.Actor.own c.hold.new.self) (g.W.Actor.house c.hold.new.self)) (moves-asks g.D.Shelf.told g.D.Shelf.faults g.W.Actor.between g.met.W.Actor.rows g.W.Actor.meanwhile (known (g.W.Actor.own c.args.actor.now) (g.W.Actor.house c.args.actor.now)) (known (g.W.Actor.own c.hold.new.self) (g.W.Actor.house c.hold.new.self)) asks)) c.args.job c.requires.there)
          (asked-says g.D.Shelf.told g.D.Shelf.faults g.W.Actor.between g.W.Actor.meanwhile g.met.W.Actor.goes_on (λ (book : List Entry) (dirs : Vec DirAt). (j : Job) → numbered (state_of book).jobs c.args.job.0 ≡ Some j → AreNamesOf (state_of book) j
          → AreCovered (state_of book) j dirs.items) (g.W.Actor.own c.args.actor.now) (g.W.Actor.own c.hold.new.self) (g.W.Actor.house c.args.actor.now) (g.W.Actor.house c.hold.new.self) c.requires.running c.hold.result c.in-Ok.dirs c.in-Ok.is c.hold.ensures.held);
    }

pub returns-in-Ok-remove_each-clause-cleans : goal.returns-in-Ok-remove_each-clause-cleans
returns-in-Ok-remove_each-clause-cleans g c =
    turn-ok g.D.Shelf.told g.D.Shelf.faults g.W.Actor.between g.met.W.Actor.rows g.W.Actor.meanwhile g.met.W.Actor.goes_on c.args.job (known (g.W.Actor.own c.args.actor.now) (g.W.Actor.house c.args.actor.now)) (known (g.W.Actor.own c.hold.new.self) (g.W.Actor.house c.hold.new.self)) (known (g.W.Actor.own c.remove_each.new.actor) (g.W.Actor.house c.remove_each.new.actor)) (known (g.W.Actor.own c.end_turn.new.actor) (g.W.Actor.house c.end_turn.new.actor))
    c.in-Ok.dirs.items c.args.swept.now c.remove_each.new.swept c.end_turn.new.swept
    (asked-so g.D.Shelf.told g.D.Shelf.faults g.W.Actor.between g.W.Actor.meanwhile g.met.W.Actor.goes_on (λ (seen : HouseSeen g.row.D.Denot) (r : Result _ _). AnswersSo (λ (book : List Entry) (dirs : Vec DirAt). (j : Job) → numbered (state_of book).jobs c.args.job.0 ≡ Some j → AreNamesOf (state_of book) j
    → AreCovered (state_of book) j dirs.items) (book_of seen.trail) r)
    (g.W.Actor.own c.args.actor.now) (g.W.Actor.own c.hold.new.self) (g.W.Actor.house c.args.actor.now) (g.W.Actor.house c.hold.new.self) c.in-Ok.dirs c.hold.result c.in-Ok.is c.hold.ensures.held c.hold.ensures.went)
    c.in-Ok-remove_each.ensures.sweeps (g.met.W.Actor.kept c.hold.new.self c.hold.ensures.keeps) (g.met.W.Actor.kept c.remove_each.new.actor c.remove_each.ensures.keeps)
    (asked-says g.D.Shelf.told g.D.Shelf.faults g.W.Actor.between g.W.Actor.meanwhile g.met.W.Actor.goes_on (λ (book : List Entry) (dirs : Vec DirAt). (j : Job) → numbered (state_of book).jobs c.args.job.0 ≡ Some j → AreNamesOf (state_of book) j
    → AreCovered (state_of book) j dirs.items) (g.W.Actor.own c.args.actor.now) (g.W.Actor.own c.hold.new.self) (g.W.Actor.house c.args.actor.now) (g.W.Actor.house c.hold.new.self) c.requires.running c.hold.result c.in-Ok.dirs c.in-Ok.is c.hold.ensures.held)
    c.in-Ok-remove_each.removal c.end_turn.result c.in-Ok-remove_each.ensures.went c.in-Ok-remove_each.ensures.says c.end_turn.ensures.ends

pub returns-in-Ok-remove_each-clause-less : goal.returns-in-Ok-remove_each-clause-less
returns-in-Ok-remove_each-clause-less g c =
    less-up g.D.Shelf.told g.D.Shelf.faults g.W.Actor.between g.met.W.Actor.rows g.W.Actor.meanwhile (known (g.W.Actor.own c.args.actor.now) (g.W.Actor.house c.args.actor.now)) (known (g.W.Actor.own c.remove_each.new.actor) (g.W.Actor.house c.remove_each.new.actor)) (known (g.W.Actor.own c.end_turn.new.actor) (g.W.Actor.house c.end_turn.new.actor)) c.args.swept.now c.remove_each.new.swept c.end_turn.result (sweeps-then g.D.Shelf.told g.D.Shelf.faults g.W.Actor.between g.met.W.Actor.rows g.W.Actor.meanwhile (known (g.W.Actor.own c.args.actor.now) (g.W.Actor.house c.args.actor.now)) (known (g.W.Actor.own c.hold.new.self) (g.W.Actor.house c.hold.new.self)) (known (g.W.Actor.own c.remove_each.new.actor) (g.W.Actor.house c.remove_each.new.actor)) c.args.swept.now c.args.swept.now c.remove_each.new.swept (asks-sweeps g.D.Shelf.told g.D.Shelf.faults g.W.Actor.between g.met.W.Actor.rows g.W.Actor.meanwhile (known (g.W.Actor.own c.args.actor.now) (g.W.Actor.house c.args.actor.now)) (known (g.W.Actor.own c.hold.new.self) (g.W.Actor.house c.hold.new.self)) c.args.swept.now (asked-so g.D.Shelf.told g.D.Shelf.faults g.W.Actor.between g.W.Actor.meanwhile g.met.W.Actor.goes_on (λ (seen : HouseSeen g.row.D.Denot) (r : Result _ _). AnswersSo (λ (book : List Entry) (dirs : Vec DirAt). (j : Job) → numbered (state_of book).jobs c.args.job.0 ≡ Some j → AreNamesOf (state_of book) j
    → AreCovered (state_of book) j dirs.items) (book_of seen.trail) r)
    (g.W.Actor.own c.args.actor.now) (g.W.Actor.own c.hold.new.self) (g.W.Actor.house c.args.actor.now) (g.W.Actor.house c.hold.new.self) c.in-Ok.dirs c.hold.result c.in-Ok.is c.hold.ensures.held c.hold.ensures.went)) c.in-Ok-remove_each.ensures.sweeps) c.end_turn.ensures.less

pub returns-in-Err-remove_each-clause-less : goal.returns-in-Err-remove_each-clause-less
returns-in-Err-remove_each-clause-less g c =
    less-behind g.D.Shelf.told g.D.Shelf.faults g.W.Actor.between g.met.W.Actor.rows g.W.Actor.meanwhile (known (g.W.Actor.own c.args.actor.now) (g.W.Actor.house c.args.actor.now)) (known (g.W.Actor.own c.hold.new.self) (g.W.Actor.house c.hold.new.self)) (known (g.W.Actor.own c.remove_each.new.actor) (g.W.Actor.house c.remove_each.new.actor)) c.args.swept.now c.args.swept.now c.in-Err-remove_each.why (asks-sweeps g.D.Shelf.told g.D.Shelf.faults g.W.Actor.between g.met.W.Actor.rows g.W.Actor.meanwhile (known (g.W.Actor.own c.args.actor.now) (g.W.Actor.house c.args.actor.now)) (known (g.W.Actor.own c.hold.new.self) (g.W.Actor.house c.hold.new.self)) c.args.swept.now (asked-so g.D.Shelf.told g.D.Shelf.faults g.W.Actor.between g.W.Actor.meanwhile g.met.W.Actor.goes_on (λ (seen : HouseSeen g.row.D.Denot) (r : Result _ _). AnswersSo (λ (book : List Entry) (dirs : Vec DirAt). (j : Job) → numbered (state_of book).jobs c.args.job.0 ≡ Some j → AreNamesOf (state_of book) j
    → AreCovered (state_of book) j dirs.items) (book_of seen.trail) r)
    (g.W.Actor.own c.args.actor.now) (g.W.Actor.own c.hold.new.self) (g.W.Actor.house c.args.actor.now) (g.W.Actor.house c.hold.new.self) c.in-Ok.dirs c.hold.result c.in-Ok.is c.hold.ensures.held c.hold.ensures.went)) c.in-Err-remove_each.ensures.less
