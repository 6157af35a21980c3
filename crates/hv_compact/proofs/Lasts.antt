-- What stands at a place that no published job covers stands as long as a job of its partition works: no other one publishes there.
use Rattle.std.proofs.Common.{◌≡◌, ◌⊎◌, inl, inr, ◌<◌, ◌+◌, ◌==◌, ◌&&◌, nat_eq, ℕ, Bool, true, false, true≢false, is_some, IsSome, Option, Some, None, List, [], ◌∷◌, length, fold, refl, sym, ap, ◌∙◌, subst, arith, eqb-true}
use Rattle.std.specs.Prelude.{not, is_none}
use Rattle.std.specs.Cmp.Lexicographic.{pointwise}
use Rattle.std.proofs.lemmas.Bool.{and_parts, and_from, false_from_ne_true}
use Rattle.hv_base.specs.declared.ids.JobId.{JobId}
use Rattle.hv_shelf.specs.declared.place.Place.{Place}
use Rattle.hv_rowfile.specs.declared.record.Rec.{Rec}
use Rattle.hv_dirs.specs.declared.names.DirName.{DirName}
use Rattle.hv_dirs.specs.Names.{IsName, text_of, write_end}
use Rattle.hv_history.specs.declared.entry.Entry.{Entry}
use Rattle.hv_history.specs.declared.entry.Entry.TheVariants as entry
use Rattle.hv_history.specs.declared.state.Table.{Table}
use Rattle.hv_history.specs.State.{State, Job, numbered, changed, asked_job, picked, published_at, empty_at, failed_at, cleaned, acted, after}
use Rattle.hv_history.specs.Legal.{profile, is_working, Fits, AllFit}
use Rattle.hv_history.specs.Jobs.{is_job_of, is_past, is_live_one}
use Rattle.hv_history.specs.JobsFit.{is_live_job, PublishedFits}
use Rattle.hv_stands.proofs.Numbers.{either, found, same_one, none_is, changed-here}
use Rattle.hv_jobs.specs.Covers.{covers_by, covers, frees}
use Rattle.hv_law_jobs.specs.Lasting.{JobLater}
use Rattle.hv_law_jobs.proofs.LastLemmas.{jobs-last}
use Rattle.hv_law_jobs.proofs.OrderLemmas.{numbered-all, job-of-is, job-of-from}
use Rattle.hv_law_made.specs.Made.{made_recs, is_spare, jobs_at}
use Rattle.hv_law_made.specs.Named.{HasNames}
use Rattle.hv_law_made.specs.Laws.{AsksAt, ChangesAt}
use Rattle.hv_law_made.specs.Standing.{is_live_table}
use Rattle.hv_law_made.specs.Entries.{IsSoundBook}
use Rattle.hv_law_made.proofs.BookLemmas.{books-go-on}
use Rattle.hv_law_made.proofs.EntryChanges.{entries-change}
use Rattle.hv_law_made.proofs.GrowLemmas.{recs-nowhere}
use Rattle.hv_law_made.proofs.NameBounds.{all-named}
use Rattle.hv_law_made.proofs.NamedLemmas.{spare-by}
use Rattle.hv_law_made.proofs.RecoverStands.{two-partitions}
use Rattle.hv_law_made.proofs.StepLemmas.{numbered-in, from-changed, IsSameJob}
use Rattle.hv_law_made.proofs.UnmadeLemmas.{names-here}
use Rattle.hv_law_visible.specs.Members.{IsIn}
use Rattle.hv_law_visible.proofs.MemberLemmas.{in-either, in-filter, from-filter, in-any}
use Rattle.hv_law_work.specs.Marks.{WasPicked}
use Rattle.hv_law_work.proofs.Lasting.{picked-stays}
use Rattle.hv_trail.specs.declared.trail.TrailItem.{TrailItem}
use Rattle.hv_trail.specs.Trail.{book_of, state_at}
use Rattle.hv_job_acts.specs.hv_job_calls.specs.Refusals.{IsStandingAt}
use Rattle.hv_compact.specs.Gathering.{StandsWhile}
use Rattle.hv_compact.proofs.Later.{found-later}
use Rattle.hv_compact.proofs.Wants.{state-is, parts, few-more, was-sound}

-- ---- what an entry publishes

-- a published job was there before as it is, but for what isn't said here
record WasThere (s : State) (job : Job) : Type 0 where
  was : Job
  at : IsIn was s.jobs
  same : IsSameJob job was

-- or it was at work before
record WasWorking (s now : State) (job : Job) : Type 0 where
  number : ℕ
  was : Job
  is : numbered s.jobs number ≡ Some was
  working : is_working was ≡ true
  table : job.table ≡ was.table
  partition : job.partition ≡ was.partition
  at : numbered now.jobs number ≡ Some job

itself : (s : State) (job : Job) → IsIn job s.jobs → WasThere s job
itself s job at = record { was = job; at = at; same = record { table = refl; partition = refl; kind = refl; published = refl } }

stepped : (s : State) (f : Job → Job) (n : ℕ) → ((j : Job) → IsSameJob (f j) j) → (job : Job) → IsIn job (changed f s.jobs n) → WasThere s job
stepped s f n same job at = elim (from-changed f s.jobs n job at) [
  | inl still ↦ itself s job still
  | inr new ↦ record {
    was = new.0;
    at = numbered-in s.jobs n new.0 new.1;
    same = subst (λ (j : Job). IsSameJob j new.0) new.2 (same new.0);
  }
]

publishes : (s : State) (event : Entry) → Fits profile s event → (job : Job) → IsIn job (after s event).jobs → (job.published ≡ None → ⊥)
    → WasThere s job ⊎ WasWorking s (after s event) job
unfolding acted
publishes s (entry.Boot run) fits job at some = inl (itself s job at)
publishes s (entry.Opened txn session n text) fits job at some = inl (itself s job at)
publishes s (entry.Start txn statement) fits job at some = inl (itself s job at)
publishes s (entry.Given txn table write) fits job at some = inl (itself s job at)
publishes s (entry.Commit txn wrote) fits job at some = inl (itself s job at)
publishes s (entry.Abort txn cause) fits job at some = inl (itself s job at)
publishes s (entry.Create txn table) fits job at some = inl (itself s job at)
publishes s (entry.Drop txn table) fits job at some = inl (itself s job at)
publishes s (entry.Asked new table partition kind by_) fits job at some =
    let last = asked_job s.entries table.0 partition kind by_ in
    elim (in-either job s.jobs (last ∷ []) at) [
      | inl there ↦ inl (itself s job there)
      | inr (inl e) ↦ absurd (some (ap (λ (j : Job). j.published) (sym e)))
      | inr (inr never) ↦ absurd never
    ]
publishes s (entry.Picked which mark) fits job at some =
    inl (stepped s (picked mark.0) which.0 (λ j. record { table = refl; partition = refl; kind = refl; published = refl }) job at)
publishes s (entry.Published which low high mark) fits job at some =
    let f = published_at s.entries (low.0, high.0, mark.0) in
    let it = found (PublishedFits s low.0 high.0 mark.0) (numbered s.jobs which.0) fits in
    elim (from-changed f s.jobs which.0 job at) [
      | inl still ↦ inl (itself s job still)
      | inr new ↦ inr (record {
        number = which.0;
        was = it.0;
        is = it.1;
        working = it.2.working;
        table = ap (λ (j : Job). j.table) (sym new.2) ∙ ap (λ (j : Job). j.table) (same_one (numbered s.jobs which.0) new.0 it.0 new.1 it.1);
        partition = ap (λ (j : Job). j.partition) (sym new.2)
            ∙ ap (λ (j : Job). j.partition) (same_one (numbered s.jobs which.0) new.0 it.0 new.1 it.1);
        at = changed-here f s.jobs which.0 new.0 new.1 ∙ ap Some new.2;
      })
    ]
publishes s (entry.Empty which) fits job at some =
    inl (stepped s (empty_at s.entries) which.0 (λ j. record { table = refl; partition = refl; kind = refl; published = refl }) job at)
publishes s (entry.Cleaned which) fits job at some =
    inl (stepped s cleaned which.0 (λ j. record { table = refl; partition = refl; kind = refl; published = refl }) job at)
publishes s (entry.Failed which why) fits job at some =
    inl (stepped s (failed_at s.entries why) which.0 (λ j. record { table = refl; partition = refl; kind = refl; published = refl }) job at)
publishes s (entry.Forgot table write) fits job at some = inl (itself s job at)
publishes s (entry.Next txn statement n text) fits job at some = absurd fits
publishes s (entry.Did txn statement wrote) fits job at some = absurd fits
publishes s (entry.Alter txn table) fits job at some = absurd fits

-- ---- a job at work in a partition

none-before : {A : Type 0} (o p : Option A) → ((x : A) → o ≡ Some x → p ≡ Some x) → is_none p ≡ true → is_none o ≡ true
none-before None p later none = refl
none-before {A = A} (Some x) p later none = absurd (true≢false (sym none ∙ ap (λ (q : Option A). is_none q) (later x refl)))

not-before : (a b : Bool) → (a ≡ true → b ≡ true) → not b ≡ true → not a ≡ true
not-before false b later e = refl
not-before true b later e = absurd (true≢false (sym e ∙ ap not (later refl)))

none-by : {A : Type 0} (o : Option A) → is_none o ≡ true → o ≡ None
none-by None e = refl
none-by (Some x) e = absurd (true≢false (sym e))

working-before : (was last : Job) → IsSome was.watermark → JobLater was last → is_working last ≡ true → is_working was ≡ true
working-before was last picked_ later works =
    let first = and_parts (is_some last.watermark) (is_none last.published && (not last.is_empty && is_none last.failure)) works in
    let second = and_parts (is_none last.published) (not last.is_empty && is_none last.failure) first.1 in
    let third = and_parts (not last.is_empty) (is_none last.failure) second.1 in
    and_from (is_some was.watermark) (is_none was.published && (not was.is_empty && is_none was.failure)) picked_
    (and_from (is_none was.published) (not was.is_empty && is_none was.failure) (none-before was.published last.published later.published second.0)
    (and_from (not was.is_empty) (is_none was.failure) (not-before was.is_empty last.is_empty later.is_empty third.0)
    (none-before was.failure last.failure later.failure third.1)))

unpublished : (job : Job) → is_working job ≡ true → job.published ≡ None
unpublished job works =
    none-by job.published
    (and_parts (is_none job.published) (not job.is_empty && is_none job.failure)
    (and_parts (is_some job.watermark) (is_none job.published && (not job.is_empty && is_none job.failure)) works).1).0

record WorksIn (s : State) (n : ℕ) (place : Place) : Type 0 where
  job : Job
  is : numbered s.jobs n ≡ Some job
  working : is_working job ≡ true
  here : is_job_of place.table.0 place.partition job ≡ true

-- it was at work before, since it was picked
worked : (more : List Entry) (s : State) (n : ℕ) (place : Place) → WasPicked s n → WorksIn (fold after s more) n place → WorksIn s n place
worked more s n place was last =
    let lasts = found (JobLater was.job) (numbered (fold after s more).jobs n) (jobs-last s more n was.job was.is) in
    by (subst (JobLater was.job) (same_one (numbered (fold after s more).jobs n) lasts.0 last.job lasts.1 last.is) lasts.2)
  where
    by : JobLater was.job last.job → WorksIn s n place
    by later = record {
      job = was.job;
      is = was.is;
      working = working-before was.job last.job was.picked later last.working;
      here = sym (λ i. (later.table i == place.table.0) && pointwise nat_eq (later.partition i) place.partition) ∙ last.here;
    }

-- ---- a place that no published job covers

pub record IsUncovered (s : State) (place : Place) (deletes : Bool) (recs : List Rec) : Type 0 where
  pub made : made_recs s place ≡ Some (deletes, recs)
  pub free : (name : DirName) → IsName name → place.dir ≡ text_of name → (job : Job) → IsIn job (jobs_at s place) → covers job name ≡ false

uncovers : (job : Job) (name : DirName) → covers job name ≡ true → job.published ≡ None → ⊥
uncovers job name covered none = true≢false (sym covered ∙ ap (λ (o : Option (ℕ × ℕ × ℕ)). covers_by job.kind o name) none)

-- so nobody may take it
pub unspare : (s : State) (place : Place) (deletes : Bool) (recs : List Rec) → s.entries < write_end → IsSoundBook s → IsUncovered s place deletes recs
    → is_spare s place ≡ false
unspare s place deletes recs few sound it = false_from_ne_true (is_spare s place) (by (numbered s.tables place.table.0) refl)
  where
    by : (o : Option Table) → numbered s.tables place.table.0 ≡ o → is_spare s place ≡ true → ⊥
    by None none e = none_is (made_recs s place) (deletes, recs) (recs-nowhere s place none) it.made
    by (Some table) is e =
        let has = numbered-all (HasNames s) s.tables place.table.0 table (all-named s few sound).tables is in
        let spare = spare-by s place table is e in
        let freeing = in-any (frees s spare.name) (jobs_at s place) spare.freed in
        let both = and_parts (is_past s freeing.0) (covers freeing.0 spare.name) freeing.2 in
        true≢false
        (sym both.1 ∙ it.free spare.name (names-here s place table is has spare.name spare.among) spare.dir_is freeing.0 freeing.1)

module _ (s : State) (event : Entry) (fits : Fits profile s event) (few : s.entries + 1 < write_end) (sound : IsSoundBook s) (n : ℕ) (place : Place)
    (before : WorksIn s n place) (behind : WorksIn (after s event) n place) (deletes : Bool) (recs : List Rec) (it : IsUncovered s place deletes recs) where
  still-free : (name : DirName) → IsName name → place.dir ≡ text_of name → (job : Job) → IsIn job (jobs_at (after s event) place) → covers job name ≡ true → ⊥
  still-free name is_name dir_is job among covered =
      let kept = from-filter (is_job_of place.table.0 place.partition) job (after s event).jobs among in
      by kept.1 (publishes s event fits job kept.0 (uncovers job name covered))
    where
      by : is_job_of place.table.0 place.partition job ≡ true → WasThere s job ⊎ WasWorking s (after s event) job → ⊥
      by mine (inl old) =
          let same = old.same in
          let there : is_job_of place.table.0 place.partition old.was ≡ true =
          sym (λ i. (same.table i == place.table.0) && pointwise nat_eq (same.partition i) place.partition) ∙ mine in
          let so : covers old.was name ≡ true = sym (λ i. covers_by (same.kind i) (same.published i) name) ∙ covered in
          true≢false
          (sym so ∙ it.free name is_name dir_is old.was (in-filter (is_job_of place.table.0 place.partition) old.was s.jobs old.at there))
      by mine (inr new) = elim (either (n == new.number)) [
        | inl e ↦
            let number : n ≡ new.number = eqb-true n new.number e in
            let one : behind.job ≡ job =
            same_one (numbered (after s event).jobs n) behind.job job behind.is (ap (numbered (after s event).jobs) number ∙ new.at) in
            uncovers job name covered (ap (λ (j : Job). j.published) (sym one) ∙ unpublished behind.job behind.working)
        | inr other ↦
            let its = job-of-is place.table.0 place.partition job mine in
            let ours = job-of-is place.table.0 place.partition before.job before.here in
            two-partitions s sound n new.number before.job new.was before.is before.working new.is new.working other
            (job-of-from before.job.table before.job.partition new.was (sym new.table ∙ its.0 ∙ sym ours.0) (sym new.partition ∙ its.1 ∙ sym ours.1))
      ]

  still-made : made_recs (after s event) place ≡ Some (deletes, recs)
  still-made =
      let changes : ChangesAt s (after s event) (AsksAt event s) = entries-change profile s event fits few sound in
      changes.stays place (deletes, recs) it.made

  still-uncovered : IsUncovered (after s event) place deletes recs
  still-uncovered = record {
    made = still-made;
    free = λ name is_name dir_is job among.
        false_from_ne_true (covers job name) (still-free name is_name dir_is job among);
  }

record StaysSo (s : State) (place : Place) (deletes : Bool) (recs : List Rec) : Type 0 where
  uncovered : IsUncovered s place deletes recs
  sound : IsSoundBook s
  few : s.entries < write_end

uncovered-go : (more : List Entry) (s : State) (n : ℕ) (place : Place) (deletes : Bool) (recs : List Rec) → AllFit profile s more
    → s.entries + length more < write_end → IsSoundBook s → WasPicked s n → WorksIn (fold after s more) n place → IsUncovered s place deletes recs
    → StaysSo (fold after s more) place deletes recs
uncovered-go [] s n place deletes recs fit few sound was last it = record { uncovered = it; sound = sound; few = omega (arith, few) }
uncovered-go (event ∷ more) s n place deletes recs fit few sound was last it =
    let all : s.entries + length (event ∷ more) < write_end = few in
    let then_ = picked-stays s event n was in
    uncovered-go more (after s event) n place deletes recs fit.1 (omega (arith, all)) (books-go-on profile s event fit.0 sound) then_ last
    (still-uncovered s event fit.0 (omega (arith, all)) sound n place (worked (event ∷ more) s n place was last)
    (worked more (after s event) n place then_ last) deletes recs it)

-- ---- behind a longer trail

live-then : (o : Option Table) → is_live_one o ≡ true → is_live_table o ≡ true
live-then None e = absurd (true≢false (sym e))
live-then (Some table) e = e

pub stands-while : (trail : List TrailItem) (job : JobId) (place : Place) (deletes : Bool) (recs : List Rec) (was : WasPicked (state_at trail) job.0)
    → is_job_of place.table.0 place.partition was.job ≡ true → IsUncovered (state_at trail) place deletes recs → StandsWhile trail job place deletes recs
stands-while trail job place deletes recs was mine it now front book works live = by
  where
    later : (k : Job) × (numbered (state_at now).jobs job.0 ≡ Some k) × JobLater was.job k
    later = found-later trail now front job.0 was.job was.is

    working : is_working later.0 ≡ true
    working =
        let at = found (λ (j : Job). is_working j ≡ true) (numbered (state_at now).jobs job.0) works in
        subst (λ (j : Job). is_working j ≡ true) (same_one (numbered (state_at now).jobs job.0) at.0 later.0 at.1 later.1) at.2

    alive : is_live_job (state_at now) later.0 ≡ true
    alive =
        let at = found (λ (j : Job). is_live_job (state_at now) j ≡ true) (numbered (state_at now).jobs job.0) live in
        subst (λ (j : Job). is_live_job (state_at now) j ≡ true) (same_one (numbered (state_at now).jobs job.0) at.0 later.0 at.1 later.1) at.2

    here : is_job_of place.table.0 place.partition later.0 ≡ true
    here =
        let same = later.2 in
        (λ i. (same.table i == place.table.0) && pointwise nat_eq (same.partition i) place.partition) ∙ mine

    works_in : WorksIn (state_at now) job.0 place
    works_in = record { job = later.0; is = later.1; working = working; here = here }

    state_is : state_at now ≡ fold after (state_at trail) (book_of front.more)
    state_is = state-is trail now front book job.0 was

    goes : StaysSo (state_at now) place deletes recs
    goes =
        subst (λ (s : State). StaysSo s place deletes recs) (sym state_is)
        (uncovered-go (book_of front.more) (state_at trail) job.0 place deletes recs (parts trail now front book job.0 was).1
        (few-more trail now front book job.0 was) (was-sound trail now front book job.0 was) was
        (subst (λ (s : State). WorksIn s job.0 place) state_is works_in) it)

    by : IsStandingAt (state_at now) place deletes recs
    by = record {
      live = ap (λ (t : ℕ). is_live_table (numbered (state_at now).tables t)) (sym (job-of-is place.table.0 place.partition later.0 here).0)
          ∙ live-then (numbered (state_at now).tables later.0.table) alive;
      kept = unspare (state_at now) place deletes recs goes.few goes.sound goes.uncovered;
      made = goes.uncovered.made;
    }
