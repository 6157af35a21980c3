use Rattle.std.proofs.Common.{List, [], refl, sym, subst}
use Rattle.hv_history.specs.declared.entry.Entry.{Entry}
use Rattle.hv_history.specs.declared.entry.Entry.TheVariants as entry
use Rattle.hv_history.specs.declared.entry.JobCause.{JobCause}
use Rattle.hv_history.specs.State.{state_of}
use Rattle.hv_history.specs.JobsFit.{OfJob, FailedFits}
use Rattle.hv_trail.specs.Trail.{state_at}
use Rattle.hv_actor.specs.Acting.{among, known}
use Rattle.hv_job_acts.specs.hv_acts.specs.Told.{trail_in}
use Rattle.hv_job_acts.specs.Doing.{GivesUpSo}
use Rattle.hv_compact.specs.declared.compacting.Done.TheVariants as done
use Rattle.hv_compact.specs.Compacting.{IsMarkOf}
use Rattle.hv_compact.specs.Ending.{EndsGiven}
use Rattle.hv_compact.proofs.Held.{reached-front}
use Rattle.hv_compact.proofs.Ends.{mark-later, given-behind, less-behind}
use Rattle.hv_compact.proofs.Endings.{note-ends, unnoted-adds, unnoted-left}
use Rattle.hv_compact.proofs.compacting.give_up.Goals as goal

pub hold-requires-clause-few : goal.hold-requires-clause-few
hold-requires-clause-few g c = g.met.W.Actor.one

pub hold-requires-clause-can : goal.hold-requires-clause-can
hold-requires-clause-can g c = λ now kept reached. (
  c.requires.can.may.small,
  mark-later (trail_in (g.W.Actor.house c.args.actor.now)) (trail_in now) c.args.job c.args.causes.noted
      (reached-front g.D.Shelf.told g.D.Shelf.faults g.W.Actor.between g.W.Actor.meanwhile g.met.W.Actor.goes_on (g.W.Actor.house c.args.actor.now) now reached) c.requires.can.may.marked,
)

pub returns-in-Ok-clause-ends : goal.returns-in-Ok-clause-ends
returns-in-Ok-clause-ends g c =
    let a = (known (g.W.Actor.own c.args.actor.now) (g.W.Actor.house c.args.actor.now)) in
    let b = (known (g.W.Actor.own c.hold.new.self) (g.W.Actor.house c.hold.new.self)) in
    subst (λ (why : JobCause). EndsGiven (among g.D.Shelf.told g.D.Shelf.faults g.W.Actor.between g.W.Actor.meanwhile) c.args.job a b (done.GivenUp c.args.job why)) (sym c.requires.can.told) (
      refl,
      note-ends g.D.Shelf.told g.D.Shelf.faults g.W.Actor.between g.W.Actor.meanwhile g.met.W.Actor.goes_on g.met.W.Actor.rows a b c.requires.running (entry.Failed c.args.job c.args.causes.noted)
          (λ h n r. GivesUpSo (state_at h.trail) c.args.job c.args.causes.noted r) c.hold.result c.hold.ensures.held c.hold.ensures.went IsMarkOf c.args.job tt
          (λ (book : List Entry). OfJob (state_of book) c.args.job.0 (FailedFits (state_of book) c.args.causes.noted)) c.in-Ok.is (λ h n so. so.fits),
    )

pub give_up_else-requires-clause-left : goal.give_up_else-requires-clause-left
give_up_else-requires-clause-left g c =
    unnoted-left g.D.Shelf.told g.D.Shelf.faults g.W.Actor.between g.W.Actor.meanwhile g.met.W.Actor.goes_on g.met.W.Actor.rows (known (g.W.Actor.own c.args.actor.now) (g.W.Actor.house c.args.actor.now)) (known (g.W.Actor.own c.hold.new.self) (g.W.Actor.house c.hold.new.self)) c.requires.running
    (entry.Failed c.args.job c.args.causes.noted) (λ h n r. GivesUpSo (state_at h.trail) c.args.job c.args.causes.noted r) c.hold.result c.hold.ensures.held
    c.hold.ensures.went c.args.job refl c.in-Err.why c.in-Err.is

pub returns-in-Err-clause-ends : goal.returns-in-Err-clause-ends
returns-in-Err-clause-ends g c =
    let a = (known (g.W.Actor.own c.args.actor.now) (g.W.Actor.house c.args.actor.now)) in
    let b = (known (g.W.Actor.own c.hold.new.self) (g.W.Actor.house c.hold.new.self)) in
    let e = known (g.W.Actor.own c.give_up_else.new.actor) (g.W.Actor.house c.give_up_else.new.actor) in
    given-behind g.D.Shelf.told g.D.Shelf.faults g.W.Actor.between g.W.Actor.meanwhile g.met.W.Actor.rows c.args.job a b e [] c.give_up_else.result
    (unnoted-adds g.D.Shelf.told g.D.Shelf.faults g.W.Actor.between g.W.Actor.meanwhile g.met.W.Actor.goes_on g.met.W.Actor.rows a b c.requires.running (entry.Failed c.args.job c.args.causes.noted)
    (λ h n r. GivesUpSo (state_at h.trail) c.args.job c.args.causes.noted r) c.hold.result c.hold.ensures.held c.hold.ensures.went c.in-Err.why c.in-Err.is) tt
    c.give_up_else.ensures.ends

pub returns-in-Err-clause-less : goal.returns-in-Err-clause-less
returns-in-Err-clause-less g c =
    let a = (known (g.W.Actor.own c.args.actor.now) (g.W.Actor.house c.args.actor.now)) in
    let b = (known (g.W.Actor.own c.hold.new.self) (g.W.Actor.house c.hold.new.self)) in
    let e = known (g.W.Actor.own c.give_up_else.new.actor) (g.W.Actor.house c.give_up_else.new.actor) in
    less-behind g.D.Shelf.told g.D.Shelf.faults g.W.Actor.between g.W.Actor.meanwhile g.met.W.Actor.rows c.args.job a b e [] c.give_up_else.result
    (unnoted-adds g.D.Shelf.told g.D.Shelf.faults g.W.Actor.between g.W.Actor.meanwhile g.met.W.Actor.goes_on g.met.W.Actor.rows a b c.requires.running (entry.Failed c.args.job c.args.causes.noted)
    (λ h n r. GivesUpSo (state_at h.trail) c.args.job c.args.causes.noted r) c.hold.result c.hold.ensures.held c.hold.ensures.went c.in-Err.why c.in-Err.is) tt
    c.give_up_else.ensures.less
