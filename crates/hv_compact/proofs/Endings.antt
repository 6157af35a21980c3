-- The acts with which a job ends, and with which it was taken up.
use Rattle.std.proofs.Common.{◌≡◌, ◌+◌, ℕ, zero, suc, Bool, true, false, if◌then◌else◌, Option, Some, None, List, [], ◌∷◌, Result, Ok, Err, refl, sym, ap, ◌∙◌, subst, append-nil, arith}
use Rattle.std.specs.Prelude.{IfOk, IfErr, IsSome, IsSomeAnd, ◌&&◌}
use Rattle.std.specs.List.{slice_get}
use Rattle.hv_base.specs.declared.ids.JobId.{JobId}
use Rattle.hv_base.specs.declared.ids.WriteId.{WriteId}
use Rattle.hv_shelf.specs.Disk.{Store}
use Rattle.hv_history.specs.declared.entry.Entry.{Entry}
use Rattle.hv_history.specs.declared.entry.Entry.TheVariants as entry
use Rattle.hv_history.specs.State.{State, Job, numbered, changed, changed_at, after, picked, first_of, state_of, acted}
use Rattle.hv_history.specs.Jobs.{Pieces, is_initiated}
use Rattle.hv_history.specs.JobsFit.{is_live_job, first_initiated}
use Rattle.hv_history.specs.Lasting.{IsFront}
use Rattle.hv_history.specs.Legal.{profile}
use Rattle.hv_trail.specs.declared.trail.TrailItem.{TrailItem}
use Rattle.hv_trail.specs.declared.trail.TrailItem.TheVariants.{Noted}
use Rattle.hv_trail.specs.Trail.{book_of, state_at}
use Rattle.hv_trail.specs.Steps.{HouseSeen, Call, Note, Publish, Refused}
use Rattle.hv_trail.proofs.LastingLaws.{state-append}
use Rattle.hv_actor.specs.Acting.{IsLater, Went, Moment, AreRows, among}
use Rattle.hv_job_acts.specs.hv_acts.specs.declared.told.ToldHouse.{ToldHouse}
use Rattle.hv_job_acts.specs.hv_acts.specs.Told.{IsWholeOrClosed, seen_in, trail_in}
use Rattle.hv_job_acts.specs.hv_acts.specs.hv_telling.specs.hv_house.specs.Calls.{LacksRoom}
use Rattle.hv_job_acts.specs.hv_acts.specs.Going.{IsOpenHouse}
use Rattle.hv_job_acts.specs.hv_acts.specs.hv_telling.specs.Telling.{IsTold}
use Rattle.hv_job_acts.specs.hv_acts.specs.hv_telling.specs.hv_house.specs.declared.fault.HouseFault.TheVariants as house_fault
use Rattle.hv_job_acts.specs.hv_job_calls.specs.declared.fault.JobFault.TheVariants as fault
use Rattle.hv_job_acts.specs.hv_job_calls.specs.Refusals.{to_pick, picking, publishing_of, published_by}
use Rattle.hv_job_acts.specs.hv_job_calls.specs.Staging.{renamings_of}
use Rattle.hv_job_acts.specs.declared.fault.JobActFault.{JobActFault}
use Rattle.hv_job_acts.specs.declared.fault.JobActFault.TheVariants as act
use Rattle.hv_job_acts.specs.declared.noting.PickedJob.{PickedJob}
use Rattle.hv_job_acts.specs.declared.staging.Publication.{Publication}
use Rattle.hv_job_acts.specs.Answers.{answer_call, adds_by, WhyLeaves}
use Rattle.hv_job_acts.specs.Asking.{picked_entry, call_to_pick, adds_found, PicksSo}
use Rattle.hv_job_acts.specs.Doing.{PublishesSo, IfPublishing, IsStagedDue, published_entry, call_to_publish, adds_published}
use Rattle.hv_job_acts.specs.Going.{AddsItems}
use Rattle.hv_compact.specs.declared.task.Task.{Task}
use Rattle.hv_compact.specs.declared.fault.RunFault.{RunFault}
use Rattle.hv_compact.specs.declared.compacting.Done.{Done as Finished}
use Rattle.hv_compact.specs.declared.compacting.Done.TheVariants as done
use Rattle.hv_compact.specs.Stopping.{act_stop, act_run, IsOfJob, IsPicking, IsFullFor, RunsOut, StopsSo}
use Rattle.hv_compact.specs.Compacting.{IsWroteOf, NotesOne, CompactsSo, StopsWith, IsIdle, HasStaged}
use Rattle.hv_compact.specs.Ending.{IsPicked, IfPicked, IsThere, EndsWith, EndsIn, EndsFound, LessFound, IsIdleDone, IsLeftBy}
use Rattle.hv_compact.proofs.Adds.{front-more, front-itself, front-added, adds-as}
use Rattle.hv_compact.proofs.Stops.{open-behind}
use Rattle.hv_compact.proofs.Held.{HeldOf, note-none, reached-front, held-as, adds-of, done-open, done-answers, refused-runs, refused-stops}
use Rattle.hv_compact.proofs.Later.{told-fitting, found-later}
use Rattle.hv_compact.proofs.Ends.{broken-mark, noted-one, ends-now, compacts-picked, picked-running, picked-later, picked-stops}

-- ---- a job that was there, and one that is taken up

pub there-later : (before now : List TrailItem) (job : JobId) → IsFront before now → IsThere before job → IsThere now job
there-later before now job front there = by (numbered (state_at before).jobs job.0) refl there
  where
    with-one : (o : Option Job) (k : Job) → o ≡ Some k → IsSomeAnd o (λ (j : Job). Unit {0})
    with-one None k is = cc
    with-one (Some j) k is = tt

    by : (o : Option Job) → numbered (state_at before).jobs job.0 ≡ o → IsSomeAnd o (λ (j : Job). Unit {0}) → IsThere now job
    by None at is = absurd is
    by (Some j) at is =
        let later = found-later before now front job.0 j at in with-one (numbered (state_at now).jobs job.0) later.0 later.1

-- one that was picked is there
pub picked-there : (before now : List TrailItem) (task : Task) → IsFront before now → IsPicked before task → IsThere now task.job
picked-there before now task front was =
    there-later was.then_ now task.job (front-more was.then_ before now was.front front)
    (subst (λ (o : Option Job). IsSomeAnd o (λ (j : Job). Unit {0})) (sym was.is) tt)

first-there : (state : State) (k : ℕ) (jobs : List Job) (n : ℕ) → first_initiated state k jobs ≡ Some n
    → (i : ℕ) × (n ≡ k + i) × ((j : Job) × (slice_get jobs i ≡ Some j))
first-there state k [] n is = cc
first-there state k (j ∷ jobs) n is = by (first-there state (k + 1) jobs n) (is_initiated j && is_live_job state j) is
  where
    by : (first_initiated state (k + 1) jobs ≡ Some n → (i : ℕ) × (n ≡ k + 1 + i) × ((x : Job) × (slice_get jobs i ≡ Some x)))
        → (b : Bool) → (if b then Some k else first_initiated state (k + 1) jobs) ≡ Some n
        → (i : ℕ) × (n ≡ k + i) × ((x : Job) × (slice_get (j ∷ jobs) i ≡ Some x))
    by rest true e =
        let some : Some k ≡ Some n = e in
        let same : k ≡ n = cc in
        (0, omega (arith, same), (j, refl))
    by rest false e =
        let there = rest e in
        let at = there.1 in
        (suc there.0, omega (arith, at), (there.2.0, there.2.1))

changed-there : (f : Job → Job) (jobs : List Job) (i : ℕ) (j : Job) → slice_get jobs i ≡ Some j → slice_get (changed_at f jobs i) i ≡ Some (f j)
changed-there f [] i j at = cc
changed-there f (x ∷ jobs) zero j at = let same : x ≡ j = cc in ap (λ (y : Job). Some (f y)) same
changed-there f (x ∷ jobs) (suc i) j at = changed-there f jobs i j at

first-some : (o : Option ℕ) (n : ℕ) → IsSome (first_of o n)
first-some None n = refl
first-some (Some m) n = refl

taken-there : (state : State) (n : ℕ) (mark : WriteId) → to_pick state ≡ Some n
    → (j : Job) × (numbered (after state (entry.Picked (record { 0 = n }) mark)).jobs n ≡ Some j) × IsSome j.watermark
unfolding acted
taken-there state n mark is =
    let there = first-there state 1 state.jobs n is in
    let at = there.1 in
    let next : n ≡ suc there.0 = omega (arith, at) in (
      picked mark.0 there.2.0,
      subst (λ (k : ℕ). numbered (changed (picked mark.0) state.jobs k) k ≡ Some (picked mark.0 there.2.0)) (sym next)
          (changed-there (picked mark.0) state.jobs there.0 there.2.0 there.2.1),
      first-some there.2.0.watermark mark.0,
    )

module _ {D : Type 0} (told : D → Option Store) (faults : D → ℕ) (between : List TrailItem → Type 0)
    (meanwhile : ToldHouse D → ToldHouse D → Type 0)
    (goes_on : (before now : ToldHouse D) → meanwhile before now → IsLater faults (seen_in before) (seen_in now))
    (rows : AreRows between) (a b : Moment (ToldHouse D)) (was : IsOpenHouse a.house) where
  -- ---- an act that notes one entry

  module _ {X : Type 0} (event : Entry) (Answers : HouseSeen D → HouseSeen D → Result X JobActFault → Type 0) (result : Result X JobActFault)
      (held : HeldOf told faults meanwhile a b (λ seen r. answer_call (Note event) r) Answers result)
      (went : Went between (adds_by (Note event) result) a.own b.own (trail_in a.house) (trail_in b.house)) where
    abbrev Noting : HouseSeen D → Result X JobActFault → Call
    Noting seen r = answer_call (Note event) r

    pub note-ends : (Marks : JobId → TrailItem → Type 0) (job : JobId) (x : X) (Is : List Entry → Type 0) → result ≡ Ok x
        → ((h n : HouseSeen D) → Answers h n (Ok x) → Is (book_of h.trail))
        → EndsWith (among told faults between meanwhile) a b Marks job event Is
    note-ends Marks job x Is is says =
        let now = held-as told faults between meanwhile goes_on a b Noting Answers (adds_by (Note event)) result held went (Ok x) is in
        ends-now told faults between meanwhile rows Marks job a b event Is
        (noted-one told faults between meanwhile rows a b (trail_in now.house) event Is
        (reached-front told faults between meanwhile goes_on a.house now.house now.reached) now.step.trail
        (adds-of told faults between meanwhile goes_on a b Noting Answers (adds_by (Note event)) result held went (Ok x) is)
        (says (seen_in now.house) (seen_in b.house) (done-answers told faults between meanwhile goes_on a b Noting Answers x now)))
        (done-open told faults between meanwhile goes_on a b Noting Answers x now)

    pub unnoted-adds : (why : JobActFault) → result ≡ Err why → AddsItems faults between a b []
    unnoted-adds why is =
        adds-as faults between a b (adds_by {T = X} (Note event) (Err why)) [] (note-none event why)
        (adds-of told faults between meanwhile goes_on a b Noting Answers (adds_by (Note event)) result held went (Err why) is)

    pub unnoted-runs : (job : JobId) → IsOfJob job (Note event) → (why : JobActFault) → result ≡ Err why
        → RunsOut (among told faults between meanwhile) (IsOfJob job) b.house (act_run why)
    unnoted-runs job of_it why is =
        let now = held-as told faults between meanwhile goes_on a b Noting Answers (adds_by (Note event)) result held went (Err why) is in
        refused-runs told faults between meanwhile goes_on a b Noting Answers was (λ seen. Note event) (λ seen w. refl) why now (IsOfJob job)
        (λ store running. of_it)

    pub unnoted-stops : (job : JobId) (P : JobActFault → Type 0) → IsOfJob job (Note event)
        → ((h n : HouseSeen D) (w : JobActFault) → Answers h n (Err w) → P w) → ((broke : Bool) (count : ℕ) → P (act.Broken broke count) → ⊥)
        → (why : JobActFault) → result ≡ Err why → StopsSo (among told faults between meanwhile) job b.house (act_stop false why)
    unnoted-stops job P of_it others never why is =
        let now = held-as told faults between meanwhile goes_on a b Noting Answers (adds_by (Note event)) result held went (Err why) is in
        refused-stops told faults between meanwhile goes_on a b Noting Answers was (λ seen. Note event) (λ seen w. refl) why now job false of_it
        (λ count may. absurd may)
        (λ broke count same.
        absurd (never broke count (subst P same
        (others (seen_in now.house) (seen_in b.house) why
        (now.does_it.answers (subst (WhyLeaves faults (seen_in now.house) (seen_in b.house)) same now.does_it.leaves))))))

    -- what is left where it didn't fit, or was refused
    pub unnoted-left : (job : JobId) → IsOfJob job (Note event) → (why : JobActFault) → result ≡ Err why
        → IsLeftBy (among told faults between meanwhile) job b.house why
    unnoted-left job of_it act.Unfit is =
        let now = held-as told faults between meanwhile goes_on a b Noting Answers (adds_by (Note event)) result held went (Err act.Unfit) is in
        open-behind Refused now.house.house.trail.closed b.house.house.trail.closed now.step.closed now.does_it.leaves refl
    unnoted-left job of_it (act.Broken put count) is =
        let now = held-as told faults between meanwhile goes_on a b Noting Answers (adds_by (Note event)) result held went (Err (act.Broken put count)) is in
        open-behind Refused now.house.house.trail.closed b.house.house.trail.closed now.step.closed now.does_it.leaves refl
    unnoted-left job of_it (act.Call why) is = unnoted-runs job of_it (act.Call why) is

  -- ---- a publication

  module _ (job : JobId) (result : Result Publication JobActFault)
      (held : HeldOf told faults meanwhile a b (λ seen r. call_to_publish (book_of seen.trail) job r) (λ h n r. PublishesSo h.trail job r) result)
      (went : Went between (adds_published job result) a.own b.own (trail_in a.house) (trail_in b.house)) where
    abbrev PublishOf : HouseSeen D → Result Publication JobActFault → Call
    PublishOf seen r = call_to_publish (book_of seen.trail) job r

    abbrev PublishedSo : HouseSeen D → HouseSeen D → Result Publication JobActFault → Type 0
    PublishedSo h n r = PublishesSo h.trail job r

    pub publish-ends : (found : Publication) → result ≡ Ok found
        → EndsIn (among told faults between meanwhile) job a b (done.Published job found.mark)
    publish-ends found is =
        let now = held-as told faults between meanwhile goes_on a b PublishOf PublishedSo (adds_published job) result held went (Ok found) is in
        let answers = done-answers told faults between meanwhile goes_on a b PublishOf PublishedSo found now in (
          refl,
          record {
            low = found.low;
            high = found.high;
            ends =
                ends-now told faults between meanwhile rows IsWroteOf job a b (published_entry job found)
                (λ book. publishing_of book job ≡ published_entry job found)
                (noted-one told faults between meanwhile rows a b (trail_in now.house) (published_entry job found)
                (λ book. publishing_of book job ≡ published_entry job found)
                (reached-front told faults between meanwhile goes_on a.house now.house now.reached) now.step.trail
                (adds-of told faults between meanwhile goes_on a b PublishOf PublishedSo (adds_published job) result held went (Ok found) is)
                (sym answers.entry_is)) (done-open told faults between meanwhile goes_on a b PublishOf PublishedSo found now);
          },
        )

    pub unpublished-adds : (why : JobActFault) → result ≡ Err why → AddsItems faults between a b []
    unpublished-adds why is = adds-of told faults between meanwhile goes_on a b PublishOf PublishedSo (adds_published job) result held went (Err why) is

    -- it is of the job, which is there
    of-there : (state : State) (o : Option Job) → IsSomeAnd o (λ (j : Job). Unit {0})
        → IsOfJob job (Publish (renamings_of state job.0) (published_by state job o))
    of-there state None there = absurd there
    of-there state (Some j) there = refl

    pub unpublished-stops : IsThere (trail_in a.house) job → (why : JobActFault) → result ≡ Err why
        → StopsSo (among told faults between meanwhile) job b.house (act_stop false why)
    unpublished-stops there why is =
        let now = held-as told faults between meanwhile goes_on a b PublishOf PublishedSo (adds_published job) result held went (Err why) is in
        let still = there-later (trail_in a.house) (trail_in now.house) job (reached-front told faults between meanwhile goes_on a.house now.house now.reached) there in
        refused-stops told faults between meanwhile goes_on a b PublishOf PublishedSo was
        (λ seen. Publish (renamings_of (state_of (book_of seen.trail)) job.0) (publishing_of (book_of seen.trail) job)) (λ seen w. refl) why now job false
        (of-there (state_at (trail_in now.house)) (numbered (state_at (trail_in now.house)).jobs job.0) still) (λ count may. absurd may)
        (λ broke count same.
        broken-mark job broke count (trail_in now.house)
        (subst (IfPublishing job (trail_in now.house)) same
        (now.does_it.answers (subst (WhyLeaves faults (seen_in now.house) (seen_in b.house)) same now.does_it.leaves)).others))

  -- it may be published, whatever others do first
  pub can-publish : (before : ToldHouse D) (job : JobId) → HasStaged told job before → (now : ToldHouse D) → IsWholeOrClosed told now.house
      → meanwhile before now → IsTold told (seen_in now).start → IsStagedDue (trail_in now) job
  can-publish before job staged now kept reached is =
      staged (subst (IsTold told) (goes_on before now reached).rest.start is) (trail_in now)
      (reached-front told faults between meanwhile goes_on before now reached) (told-fitting told now kept is)

  -- ---- a job that is taken up

  module _ (result : Result (Option PickedJob) JobActFault)
      (held : HeldOf told faults meanwhile a b (λ seen r. call_to_pick (book_of seen.trail) r) (λ h n r. PicksSo (book_of h.trail) (book_of n.trail) r) result)
      (went : Went between (adds_found picked_entry result) a.own b.own (trail_in a.house) (trail_in b.house)) where
    abbrev PickOf : HouseSeen D → Result (Option PickedJob) JobActFault → Call
    PickOf seen r = call_to_pick (book_of seen.trail) r

    abbrev PicksOf : HouseSeen D → HouseSeen D → Result (Option PickedJob) JobActFault → Type 0
    PicksOf h n r = PicksSo (book_of h.trail) (book_of n.trail) r

    pub picked-open : (found : Option PickedJob) → result ≡ Ok found → IsOpenHouse b.house
    picked-open found is =
        done-open told faults between meanwhile goes_on a b PickOf PicksOf found
        (held-as told faults between meanwhile goes_on a b PickOf PicksOf (adds_found picked_entry) result held went (Ok found) is)

    pub picks-one : (found : PickedJob) → result ≡ Ok (Some found)
        → NotesOne (among told faults between meanwhile) a b (entry.Picked found.job found.watermark)
        (λ book. picking book ≡ entry.Picked found.job found.watermark)
    picks-one found is =
        let now = held-as told faults between meanwhile goes_on a b PickOf PicksOf (adds_found picked_entry) result held went (Ok (Some found)) is in
        let answers = done-answers told faults between meanwhile goes_on a b PickOf PicksOf (Some found) now in
        noted-one told faults between meanwhile rows a b (trail_in now.house) (entry.Picked found.job found.watermark)
        (λ book. picking book ≡ entry.Picked found.job found.watermark)
        (reached-front told faults between meanwhile goes_on a.house now.house now.reached) now.step.trail
        (adds-of told faults between meanwhile goes_on a b PickOf PicksOf (adds_found picked_entry) result held went (Ok (Some found)) is)
        (sym answers.1)

    pub if-picked : (found : Option PickedJob) → result ≡ Ok found → IfPicked (trail_in b.house) found
    if-picked None is = tt
    if-picked (Some found) is =
        let now = held-as told faults between meanwhile goes_on a b PickOf PicksOf (adds_found picked_entry) result held went (Ok (Some found)) is in
        let answers = done-answers told faults between meanwhile goes_on a b PickOf PicksOf (Some found) now in
        let there = taken-there (state_at (trail_in now.house)) found.job.0 found.watermark answers.0 in
        let same : state_at (trail_in b.house) ≡ after (state_at (trail_in now.house)) (entry.Picked found.job found.watermark) =
        ap state_at now.step.trail ∙ state-append (trail_in now.house) (Noted (entry.Picked found.job found.watermark) ∷ []) in
        let here : numbered (state_at (trail_in b.house)).jobs found.job.0 ≡ Some there.0 = ap (λ (s : State). numbered s.jobs found.job.0) same ∙ there.1 in
        let pieces = answers.2.pieces there.0 here in
        record {
          then_ = trail_in b.house;
          front = front-itself (trail_in b.house);
          job = there.0;
          is = here;
          taken = there.2;
          kind = answers.2.kind there.0 here;
          low = ap (λ (p : Pieces). p.low) pieces;
          high = ap (λ (p : Pieces). p.high) pieces;
        }

    pub picks-none : result ≡ Ok None → IsIdle (among told faults between meanwhile) a b
    picks-none is =
        let now = held-as told faults between meanwhile goes_on a b PickOf PicksOf (adds_found picked_entry) result held went (Ok None) is in
        record {
          adds = adds-of told faults between meanwhile goes_on a b PickOf PicksOf (adds_found picked_entry) result held went (Ok None) is;
          idle = record {
            then_ = trail_in now.house;
            later = reached-front told faults between meanwhile goes_on a.house now.house now.reached;
            front = front-added (trail_in now.house) (trail_in b.house) [] now.step.trail;
            was = done-answers told faults between meanwhile goes_on a b PickOf PicksOf None now;
          };
          running = done-open told faults between meanwhile goes_on a b PickOf PicksOf None now;
        }

    pub unpicked-adds : (why : JobActFault) → result ≡ Err why → AddsItems faults between a b []
    unpicked-adds why is = adds-of told faults between meanwhile goes_on a b PickOf PicksOf (adds_found picked_entry) result held went (Err why) is

    pub unpicked-stops : (why : JobActFault) → result ≡ Err why → StopsWith (among told faults between meanwhile) a b (act_run why)
    unpicked-stops why is =
        let now = held-as told faults between meanwhile goes_on a b PickOf PicksOf (adds_found picked_entry) result held went (Err why) is in
        record {
          items = [];
          adds = unpicked-adds why is;
          picked = tt;
          stops =
              refused-runs told faults between meanwhile goes_on a b PickOf PicksOf was (λ seen. Note (picking (book_of seen.trail))) (λ seen w. refl) why now
              IsPicking (λ store running. tt);
          full = full-by why now;
        }
      where
        full-by : (w : JobActFault) (at : HeldOf told faults meanwhile a b PickOf PicksOf (Err w)) → IsFullFor 2 (book_of (trail_in b.house)) (act_run w)
        full-by act.Unfit at = tt
        full-by (act.Broken put count) at = tt
        full-by (act.Call fault.Gone) at = tt
        full-by (act.Call (fault.Full entries)) at =
            subst (λ (trail : List TrailItem). LacksRoom profile (book_of trail) 2 entries) (sym (at.step.trail ∙ append-nil (trail_in at.house)))
            (at.does_it.answers at.does_it.leaves).1
        full-by (act.Call fault.NotFound) at = tt
        full-by (act.Call (fault.Needed txn)) at = tt
        full-by (act.Call (fault.StillListed dir)) at = tt
        full-by (act.Call (fault.Working job)) at = tt
        full-by (act.Call fault.Starved) at = tt
        full-by (act.Call (fault.House house_fault.Store)) at = tt
        full-by (act.Call (fault.House house_fault.NoMemory)) at = tt
        full-by (act.Call (fault.House (house_fault.Failed count))) at = tt

    -- ---- all of a compaction

    pub all-compacts : (c : Moment (ToldHouse D)) (found : Option PickedJob) (answer : Result Finished RunFault) → result ≡ Ok found
        → IfOk answer (EndsFound (among told faults between meanwhile) found b c) → IfOk answer (CompactsSo (among told faults between meanwhile) a c)
    all-compacts c found (Err why) is ends = tt
    all-compacts c (Some found) (Ok answer) is ends =
        compacts-picked told faults between meanwhile rows a b c found (picks-one found is) answer ends
    all-compacts c None (Ok answer) is ends = idle answer ends.0
      where
        same : c ≡ b
        same = ends.1

        idle : (x : Finished) → IsIdleDone x → CompactsSo (among told faults between meanwhile) a c x
        idle done.Idle none = subst (IsIdle (among told faults between meanwhile) a) (sym same) (picks-none is)
        idle done.Nothing none = absurd none
        idle (done.Published job mark) none = absurd none
        idle (done.GivenUp job why) none = absurd none

    pub all-running : (c : Moment (ToldHouse D)) (found : Option PickedJob) (answer : Result Finished RunFault) → result ≡ Ok found
        → IfOk answer (EndsFound (among told faults between meanwhile) found b c) → IfOk answer (λ x. IsOpenHouse c.house)
    all-running c found (Err why) is ends = tt
    all-running c (Some found) (Ok answer) is ends =
        picked-running told faults between meanwhile rows a b c found (picks-one found is) answer ends
    all-running c None (Ok answer) is ends = subst (λ (m : Moment (ToldHouse D)). IsOpenHouse m.house) (sym ends.1) (picked-open None is)

    pub all-stops : (c : Moment (ToldHouse D)) (found : Option PickedJob) (answer : Result Finished RunFault) → result ≡ Ok found
        → IfErr answer (LessFound (among told faults between meanwhile) found b c) → IfErr answer (StopsWith (among told faults between meanwhile) a c)
    all-stops c found (Ok answer) is less = tt
    all-stops c (Some found) (Err why) is less =
        picked-stops told faults between meanwhile rows a b c found (picks-one found is) why less.0 less.1
    all-stops c None (Err why) is less = absurd less

    pub all-later : (c : Moment (ToldHouse D)) (found : Option PickedJob) (answer : Result Finished RunFault) → result ≡ Ok found
        → IfOk answer (EndsFound (among told faults between meanwhile) found b c) → IfErr answer (LessFound (among told faults between meanwhile) found b c)
        → IsLater faults (seen_in a.house) (seen_in c.house)
    all-later c (Some found) (Ok answer) is ends less =
        picked-later told faults between meanwhile rows a b c found (picks-one found is) answer ends
    all-later c (Some found) (Err why) is ends less =
        (picked-stops told faults between meanwhile rows a b c found (picks-one found is) why less.0 less.1).adds.later
    all-later c None (Ok answer) is ends less =
        subst (λ (m : Moment (ToldHouse D)). IsLater faults (seen_in a.house) (seen_in m.house)) (sym ends.1) (picks-none is).adds.later
    all-later c None (Err why) is ends less = absurd less
