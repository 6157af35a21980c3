-- The act that lists the files of a job.
use Rattle.std.proofs.Common.{◌≡◌, ℕ, false, Option, Some, List, [], Result, Ok, Err, refl, sym, subst}
use Rattle.hv_base.specs.declared.ids.JobId.{JobId}
use Rattle.hv_shelf.specs.Disk.{Store}
use Rattle.hv_history.specs.declared.entry.JobKind.{JobKind}
use Rattle.hv_trail.specs.declared.trail.Reader.TheVariants as reader
use Rattle.hv_trail.specs.declared.trail.TrailItem.{TrailItem}
use Rattle.hv_trail.specs.Steps.{HouseSeen, Call, Read}
use Rattle.hv_actor.specs.Acting.{IsLater, Went, Moment, among}
use Rattle.hv_job_acts.specs.hv_acts.specs.declared.told.ToldHouse.{ToldHouse}
use Rattle.hv_job_acts.specs.hv_acts.specs.Told.{seen_in, trail_in}
use Rattle.hv_job_acts.specs.hv_acts.specs.Going.{IsOpenHouse}
use Rattle.hv_job_acts.specs.hv_acts.specs.hv_telling.specs.Telling.{IsTold, IsToldHouse}
use Rattle.hv_job_acts.specs.hv_acts.specs.hv_telling.specs.hv_house.specs.declared.listing.Listing.{Listing}
use Rattle.hv_job_acts.specs.hv_job_calls.specs.Tests.{IsGoneOrHouse}
use Rattle.hv_job_acts.specs.declared.fault.JobActFault.{JobActFault}
use Rattle.hv_job_acts.specs.Answers.{answer_call, adds_by, WhyLeaves}
use Rattle.hv_job_acts.specs.Doing.{ListsSo, IfCallOrUnfit}
use Rattle.hv_compact.specs.declared.task.Task.{Task}
use Rattle.hv_compact.specs.Stopping.{act_stop}
use Rattle.hv_compact.specs.Compacting.{Works}
use Rattle.hv_compact.specs.Ending.{IsPicked}
use Rattle.hv_compact.specs.Gathering.{ListsJob}
use Rattle.hv_compact.proofs.Adds.{front-more, front-added}
use Rattle.hv_compact.proofs.Held.{HeldOf, read-marks, reached-front, held-as, adds-of, found-open, done-open, done-answers, refused-stops, works-ok, works-err}
use Rattle.hv_compact.proofs.Lists.{lists-later}
use Rattle.hv_compact.proofs.Shown.{listing-of}
use Rattle.hv_compact.proofs.Listed.{lists-job}

module _ {D : Type 0} (told : D → Option Store) (faults : D → ℕ) (between : List TrailItem → Type 0)
    (meanwhile : ToldHouse D → ToldHouse D → Type 0)
    (goes_on : (before now : ToldHouse D) → meanwhile before now → IsLater faults (seen_in before) (seen_in now))
    (a b : Moment (ToldHouse D)) (was : IsOpenHouse a.house) (job : JobId) where
  abbrev ListOf : HouseSeen D → Result Listing JobActFault → Call
  ListOf seen r = answer_call (Read (Some (reader.Job job))) r

  abbrev ListedOf : HouseSeen D → HouseSeen D → Result Listing JobActFault → Type 0
  ListedOf x y r = ListsSo told x job r

  module _ (result : Result Listing JobActFault) (held : HeldOf told faults meanwhile a b ListOf ListedOf result)
      (went : Went between (adds_by (Read (Some (reader.Job job))) result) a.own b.own (trail_in a.house) (trail_in b.house)) where
    pub listed-works : (listing : Listing) → result ≡ Ok listing → Works (among told faults between meanwhile) job a b (Ok listing)
    listed-works listing is =
        works-ok told faults between meanwhile job a b listing []
        (adds-of told faults between meanwhile goes_on a b ListOf ListedOf (adds_by (Read (Some (reader.Job job)))) result held went (Ok listing) is) tt tt
        (done-open told faults between meanwhile goes_on a b ListOf ListedOf listing
        (held-as told faults between meanwhile goes_on a b ListOf ListedOf (adds_by (Read (Some (reader.Job job)))) result held went (Ok listing) is))

    pub unlisted-works : {T : Type 0} (why : JobActFault) → result ≡ Err why
        → Works {T = T} (among told faults between meanwhile) job a b (Err (act_stop false why))
    unlisted-works why is =
        let now = held-as told faults between meanwhile goes_on a b ListOf ListedOf (adds_by (Read (Some (reader.Job job)))) result held went (Err why) is in
        works-err told faults between meanwhile job a b (act_stop false why) (adds_by {T = Listing} (Read (Some (reader.Job job))) (Err why))
        (adds-of told faults between meanwhile goes_on a b ListOf ListedOf (adds_by (Read (Some (reader.Job job)))) result held went (Err why) is)
        (read-marks job why)
        (refused-stops told faults between meanwhile goes_on a b ListOf ListedOf was (λ seen. Read (Some (reader.Job job))) (λ seen w. refl) why now job false
        refl (λ count may. refl)
        (λ broke count same.
        absurd (subst (IfCallOrUnfit IsGoneOrHouse) same
        (now.does_it.answers (subst (WhyLeaves faults (seen_in now.house) (seen_in b.house)) same now.does_it.leaves)).others)))

    -- in a told house it is as it has to be, for a job that was picked
    pub listed-job : (kind : JobKind) (low high : ℕ) (listing : Listing) → result ≡ Ok listing → IsToldHouse told a.house.house
        → IsPicked (trail_in a.house) (record { job = job; kind = kind; low = low; high = high })
        → ListsJob (trail_in b.house) (record { job = job; kind = kind; low = low; high = high }) listing
    listed-job kind low high listing is was_told picked =
        let now = held-as told faults between meanwhile goes_on a b ListOf ListedOf (adds_by (Read (Some (reader.Job job)))) result held went (Ok listing) is in
        let task : Task = record { job = job; kind = kind; low = low; high = high } in
        let there : IsToldHouse told now.house.house = subst (IsTold told) (sym (goes_on a.house now.house now.reached).rest.start) was_told in
        let found = listing-of told now.house now.kept (found-open told faults between meanwhile goes_on a b ListOf ListedOf listing now) there job listing
        (done-answers told faults between meanwhile goes_on a b ListOf ListedOf listing now) in
        let front = front-more picked.then_ (trail_in a.house) (trail_in now.house) picked.front
        (reached-front told faults between meanwhile goes_on a.house now.house now.reached) in
        let still : IsPicked (trail_in now.house) task = record {
          then_ = picked.then_;
          front = front;
          job = picked.job;
          is = picked.is;
          taken = picked.taken;
          kind = picked.kind;
          low = picked.low;
          high = picked.high;
        } in
        lists-later (trail_in now.house) (trail_in b.house) task listing (front-added (trail_in now.house) (trail_in b.house) [] now.step.trail)
        (lists-job (trail_in now.house) task still found.0 listing found.1)
