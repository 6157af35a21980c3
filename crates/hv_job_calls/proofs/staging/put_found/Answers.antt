use Rattle.std.proofs.Common.{Option, sym, subst}
use Rattle.std.specs.Prelude.{IfSome}
use Rattle.hv_shelf.specs.declared.place.Place.{Place}
use Rattle.hv_history.specs.State.{state_of}
use Rattle.hv_telling.specs.hv_law_work.specs.Work.{IsStagedFile}
use Rattle.hv_trail.specs.declared.trail.Reader.TheVariants as reader
use Rattle.hv_trail.specs.Steps.{Put}
use Rattle.hv_telling.specs.hv_house.specs.House.{entries_of}
use Rattle.hv_job_calls.specs.Steps.{JobStep, job_call}
use Rattle.hv_job_calls.proofs.staging.put_found.Goals as goal

pub put_at-requires-clause-truly : goal.put_at-requires-clause-truly
put_at-requires-clause-truly g c = λ told.
    subst (λ (o : Option Place). IfSome o (λ (at : Place). IsStagedFile (state_of (entries_of c.args.house.now)) c.args.job.0 at c.args.bytes.now)) c.in-Some.is
    (c.requires.truly told)

pub returns-clause-step : goal.returns-clause-step
returns-clause-step g c =
    subst (λ (o : Option Place). IfSome o (λ (at : Place). JobStep g.D.Shelf.told g.D.Shelf.faults
    (job_call (Put (reader.Job c.args.job) at c.args.bytes.now) c.put_at.result) c.args.house.now c.put_at.new.house c.put_at.result)) (sym c.in-Some.is)
    c.put_at.ensures.step
