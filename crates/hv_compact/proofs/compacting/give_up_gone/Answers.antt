use Rattle.std.proofs.Common.{List, refl, sym, subst}
use Rattle.hv_history.specs.declared.entry.Entry.{Entry}
use Rattle.hv_history.specs.declared.entry.Entry.TheVariants as entry
use Rattle.hv_history.specs.declared.entry.JobCause.TheVariants as cause
use Rattle.hv_history.specs.State.{state_of}
use Rattle.hv_history.specs.JobsFit.{OfJob, FailedFits}
use Rattle.hv_trail.specs.Trail.{state_at}
use Rattle.hv_actor.specs.Acting.{among, known}
use Rattle.hv_job_acts.specs.Doing.{GivesUpSo}
use Rattle.hv_compact.specs.declared.fault.RunFault.{RunFault}
use Rattle.hv_compact.specs.Stopping.{act_run}
use Rattle.hv_compact.specs.Compacting.{IsMarkOf}
use Rattle.hv_compact.specs.Ending.{EndsLess}
use Rattle.hv_compact.proofs.Short.{short_gone}
use Rattle.hv_compact.proofs.Ends.{less-now}
use Rattle.hv_compact.proofs.Endings.{note-ends, unnoted-adds, unnoted-runs}
use Rattle.hv_compact.proofs.compacting.give_up_gone.Goals as goal

pub hold-requires-clause-few : goal.hold-requires-clause-few
hold-requires-clause-few g c = g.met.W.Actor.one

pub hold-requires-clause-can : goal.hold-requires-clause-can
hold-requires-clause-can g c = λ now kept reached. (short_gone c.args.job, tt)

pub returns-in-Ok-clause-ends : goal.returns-in-Ok-clause-ends
returns-in-Ok-clause-ends g c = (
  refl,
  note-ends g.D.Shelf.told g.D.Shelf.faults g.W.Actor.between g.W.Actor.meanwhile g.met.W.Actor.goes_on g.met.W.Actor.rows (known (g.W.Actor.own c.args.actor.now) (g.W.Actor.house c.args.actor.now))
      (known (g.W.Actor.own c.hold.new.self) (g.W.Actor.house c.hold.new.self)) c.requires.running (entry.Failed c.args.job cause.Gone)
      (λ h n r. GivesUpSo (state_at h.trail) c.args.job cause.Gone r) c.hold.result c.hold.ensures.held c.hold.ensures.went IsMarkOf c.args.job tt
      (λ (book : List Entry). OfJob (state_of book) c.args.job.0 (FailedFits (state_of book) cause.Gone)) c.in-Ok.is (λ h n so. so.fits),
)

pub returns-in-Err-clause-less : goal.returns-in-Err-clause-less
returns-in-Err-clause-less g c =
    let a = (known (g.W.Actor.own c.args.actor.now) (g.W.Actor.house c.args.actor.now)) in
    let b = (known (g.W.Actor.own c.hold.new.self) (g.W.Actor.house c.hold.new.self)) in
    subst (λ (why : RunFault). EndsLess (among g.D.Shelf.told g.D.Shelf.faults g.W.Actor.between g.W.Actor.meanwhile) c.args.job a b why) (sym c.act_run.ensures)
    (less-now g.D.Shelf.told g.D.Shelf.faults g.W.Actor.between g.W.Actor.meanwhile g.met.W.Actor.rows c.args.job a b (act_run c.in-Err.why)
    (unnoted-adds g.D.Shelf.told g.D.Shelf.faults g.W.Actor.between g.W.Actor.meanwhile g.met.W.Actor.goes_on g.met.W.Actor.rows a b c.requires.running (entry.Failed c.args.job cause.Gone)
    (λ h n r. GivesUpSo (state_at h.trail) c.args.job cause.Gone r) c.hold.result c.hold.ensures.held c.hold.ensures.went c.in-Err.why c.in-Err.is)
    (unnoted-runs g.D.Shelf.told g.D.Shelf.faults g.W.Actor.between g.W.Actor.meanwhile g.met.W.Actor.goes_on g.met.W.Actor.rows a b c.requires.running (entry.Failed c.args.job cause.Gone)
    (λ h n r. GivesUpSo (state_at h.trail) c.args.job cause.Gone r) c.hold.result c.hold.ensures.held c.hold.ensures.went c.args.job refl c.in-Err.why c.in-Err.is))
