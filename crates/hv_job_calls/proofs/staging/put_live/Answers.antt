use Rattle.std.proofs.Common.{◌≡◌, Option, Some, refl, sym, subst}
use Rattle.std.specs.Prelude.{IsSome, IfSome}
use Rattle.hv_shelf.specs.declared.place.Place.{Place}
use Rattle.hv_history.specs.State.{state_of}
use Rattle.hv_telling.specs.hv_law_work.specs.Work.{IsStagedFile}
use Rattle.hv_trail.specs.declared.trail.Reader.TheVariants as reader
use Rattle.hv_trail.specs.Steps.{Put}
use Rattle.hv_telling.specs.hv_house.proofs.Hards.{still_step}
use Rattle.hv_telling.specs.hv_house.specs.House.{entries_of}
use Rattle.hv_job_calls.specs.Staging.{staged_in}
use Rattle.hv_job_calls.specs.Steps.{JobStep, job_call}
use Rattle.hv_job_calls.proofs.Stages.{final-stageable, place-there, found-place, staged-there}
use Rattle.hv_job_calls.proofs.Steps.{lacked-put}
use Rattle.hv_job_calls.proofs.staging.put_live.Goals as goal

pub staged_place-requires : goal.staged_place-requires
staged_place-requires g c = record {
  named =
      final-stageable (entries_of c.args.house.now) c.requires.whole.ready.fit c.args.job.0 c.args.name.now c.requires.works c.requires.live c.requires.among;
}

pub put_found-requires-clause-found : goal.put_found-requires-clause-found
put_found-requires-clause-found g c =
    let state = state_of (entries_of c.args.house.now) in
    let found : c.in-Ok.place ≡ Some (staged_in state c.args.job.0 c.args.name.now c.args.bucket) =
    found-place state c.args.job.0 c.in-Ok.place c.args.name.now c.args.bucket c.requires.works
    (place-there c.book.result.now.entries (entries_of c.args.house.now) c.args.job.0 c.in-Ok.place c.args.name.now c.args.bucket c.book.ensures.entries
    c.in-Ok.ensures.place) in
    subst (λ (o : Option Place). IsSome o) (sym found) refl

pub put_found-requires-clause-truly : goal.put_found-requires-clause-truly
put_found-requires-clause-truly g c = λ told.
    let state = state_of (entries_of c.args.house.now) in
    let found : c.in-Ok.place ≡ Some (staged_in state c.args.job.0 c.args.name.now c.args.bucket) =
    found-place state c.args.job.0 c.in-Ok.place c.args.name.now c.args.bucket c.requires.works
    (place-there c.book.result.now.entries (entries_of c.args.house.now) c.args.job.0 c.in-Ok.place c.args.name.now c.args.bucket c.book.ensures.entries
    c.in-Ok.ensures.place) in
    subst (λ (o : Option Place). IfSome o (λ (at : Place). IsStagedFile state c.args.job.0 at c.args.bytes.now)) (sym found)
    (staged-there state c.args.job.0 c.args.name.now c.args.bucket c.args.bytes.now (c.requires.truly told))

pub returns-in-Ok-clause-step : goal.returns-in-Ok-clause-step
returns-in-Ok-clause-step g c =
    let state = state_of (entries_of c.args.house.now) in
    let found : c.in-Ok.place ≡ Some (staged_in state c.args.job.0 c.args.name.now c.args.bucket) =
    found-place state c.args.job.0 c.in-Ok.place c.args.name.now c.args.bucket c.requires.works
    (place-there c.book.result.now.entries (entries_of c.args.house.now) c.args.job.0 c.in-Ok.place c.args.name.now c.args.bucket c.book.ensures.entries
    c.in-Ok.ensures.place) in
    subst (λ (o : Option Place). IfSome o (λ (at : Place). JobStep g.D.Shelf.told g.D.Shelf.faults
    (job_call (Put (reader.Job c.args.job) at c.args.bytes.now) c.put_found.result) c.args.house.now c.put_found.new.house c.put_found.result)) found
    c.put_found.ensures.step

pub returns-in-Err-clause-step : goal.returns-in-Err-clause-step
returns-in-Err-clause-step g c =
    lacked-put g.D.Shelf.told g.D.Shelf.faults c.args.house.now (reader.Job c.args.job)
    (staged_in (state_of (entries_of c.args.house.now)) c.args.job.0 c.args.name.now c.args.bucket) c.args.bytes.now c.requires.whole

pub returns-in-Err-clause-hard : goal.returns-in-Err-clause-hard
returns-in-Err-clause-hard g c = still_step (g.D.Shelf.hard c.args.house.now.shelf) c.args.house.now.trail.closed
