use Rattle.std.proofs.Common.{List, [], refl, sym, subst}
use Rattle.hv_history.specs.declared.entry.Entry.{Entry}
use Rattle.hv_history.specs.declared.entry.Entry.TheVariants as entry
use Rattle.hv_history.specs.State.{state_of}
use Rattle.hv_history.specs.JobsFit.{OfJob, EmptyFits}
use Rattle.hv_trail.specs.Trail.{state_at}
use Rattle.hv_actor.specs.Acting.{among, known}
use Rattle.hv_job_acts.specs.hv_job_calls.specs.Tests.{IsGoneOrHouse}
use Rattle.hv_job_acts.specs.Doing.{EmptySo, IfCallOrUnfit}
use Rattle.hv_compact.specs.Stopping.{StopsSo}
use Rattle.hv_compact.specs.Compacting.{IsMarkOf}
use Rattle.hv_compact.proofs.Ends.{given-ends, less-behind}
use Rattle.hv_compact.proofs.Endings.{note-ends, unnoted-adds, unnoted-stops}
use Rattle.hv_compact.proofs.compacting.end_empty.Goals as goal

pub hold-requires-clause-few : goal.hold-requires-clause-few
hold-requires-clause-few g c = g.met.W.Actor.one

pub returns-in-Ok-clause-ends : goal.returns-in-Ok-clause-ends
returns-in-Ok-clause-ends g c =
    note-ends g.D.Shelf.told g.D.Shelf.faults g.W.Actor.between g.W.Actor.meanwhile g.met.W.Actor.goes_on g.met.W.Actor.rows (known (g.W.Actor.own c.args.actor.now) (g.W.Actor.house c.args.actor.now)) (known (g.W.Actor.own c.hold.new.self) (g.W.Actor.house c.hold.new.self)) c.requires.running (entry.Empty c.args.job)
    (λ h n r. EmptySo (state_at h.trail) c.args.job r) c.hold.result c.hold.ensures.held c.hold.ensures.went IsMarkOf c.args.job tt
    (λ (book : List Entry). OfJob (state_of book) c.args.job.0 (EmptyFits (state_of book))) c.in-Ok.is (λ h n so. so.fits)

pub end_by-requires-clause-stops : goal.end_by-requires-clause-stops
end_by-requires-clause-stops g c =
    subst (StopsSo (among g.D.Shelf.told g.D.Shelf.faults g.W.Actor.between g.W.Actor.meanwhile) c.args.job (g.W.Actor.house c.hold.new.self)) (sym c.act_stop.ensures)
    (unnoted-stops g.D.Shelf.told g.D.Shelf.faults g.W.Actor.between g.W.Actor.meanwhile g.met.W.Actor.goes_on g.met.W.Actor.rows (known (g.W.Actor.own c.args.actor.now) (g.W.Actor.house c.args.actor.now)) (known (g.W.Actor.own c.hold.new.self) (g.W.Actor.house c.hold.new.self)) c.requires.running (entry.Empty c.args.job)
    (λ h n r. EmptySo (state_at h.trail) c.args.job r) c.hold.result c.hold.ensures.held c.hold.ensures.went c.args.job (IfCallOrUnfit IsGoneOrHouse) refl
    (λ h n w so. so.others) (λ broke count never. never) c.in-Err.why c.in-Err.is)

pub returns-in-Err-clause-ends : goal.returns-in-Err-clause-ends
returns-in-Err-clause-ends g c =
    given-ends g.D.Shelf.told g.D.Shelf.faults g.W.Actor.between g.W.Actor.meanwhile g.met.W.Actor.rows c.args.job (known (g.W.Actor.own c.args.actor.now) (g.W.Actor.house c.args.actor.now)) (known (g.W.Actor.own c.hold.new.self) (g.W.Actor.house c.hold.new.self)) (known (g.W.Actor.own c.end_by.new.actor) (g.W.Actor.house c.end_by.new.actor)) [] c.end_by.result
    (unnoted-adds g.D.Shelf.told g.D.Shelf.faults g.W.Actor.between g.W.Actor.meanwhile g.met.W.Actor.goes_on g.met.W.Actor.rows (known (g.W.Actor.own c.args.actor.now) (g.W.Actor.house c.args.actor.now)) (known (g.W.Actor.own c.hold.new.self) (g.W.Actor.house c.hold.new.self)) c.requires.running (entry.Empty c.args.job)
    (λ h n r. EmptySo (state_at h.trail) c.args.job r) c.hold.result c.hold.ensures.held c.hold.ensures.went c.in-Err.why c.in-Err.is) tt c.end_by.ensures.ends

pub returns-in-Err-clause-less : goal.returns-in-Err-clause-less
returns-in-Err-clause-less g c =
    less-behind g.D.Shelf.told g.D.Shelf.faults g.W.Actor.between g.W.Actor.meanwhile g.met.W.Actor.rows c.args.job (known (g.W.Actor.own c.args.actor.now) (g.W.Actor.house c.args.actor.now)) (known (g.W.Actor.own c.hold.new.self) (g.W.Actor.house c.hold.new.self)) (known (g.W.Actor.own c.end_by.new.actor) (g.W.Actor.house c.end_by.new.actor)) [] c.end_by.result
    (unnoted-adds g.D.Shelf.told g.D.Shelf.faults g.W.Actor.between g.W.Actor.meanwhile g.met.W.Actor.goes_on g.met.W.Actor.rows (known (g.W.Actor.own c.args.actor.now) (g.W.Actor.house c.args.actor.now)) (known (g.W.Actor.own c.hold.new.self) (g.W.Actor.house c.hold.new.self)) c.requires.running (entry.Empty c.args.job)
    (λ h n r. EmptySo (state_at h.trail) c.args.job r) c.hold.result c.hold.ensures.held c.hold.ensures.went c.in-Err.why c.in-Err.is) tt c.end_by.ensures.less
