-- What a published job covers of what was made stays the same: write ids of its range have ended, and later jobs of its partition reach
-- beyond it. So where all of that went, it is so in every longer book that fits.
use Rattle.std.proofs.Common.{◌≡◌, ◌⊎◌, inl, inr, ℕ, zero, suc, ◌+◌, ◌-◌, ◌<◌, ◌≤◌, ◌==◌, Bool, true, false, true≢false, cond, Option, Some, None, List, [], ◌∷◌, ◌++◌, filter, fold, length, refl, sym, ap, ◌∙◌, subst, arith, le_trans, leb-true, ltb-true, le-leb}
use Rattle.std.specs.Prelude.{if◌then◌else◌, ◌&&◌, not, nat_le, nat_lt}
use Rattle.std.specs.List.{flat_map, AllByRecursion}
use Rattle.std.proofs.lemmas.Bool.{and_parts, and_from, false_from_ne_true}
use Rattle.std.proofs.lemmas.List.Elements.{Contains-append_left}
use Rattle.hv_base.specs.declared.ids.Limits.{Limits}
use Rattle.hv_dirs.specs.declared.names.DirName.{DirName}
use Rattle.hv_dirs.specs.Names.{text_of}
use Rattle.hv_history.specs.declared.entry.Entry.{Entry}
use Rattle.hv_history.specs.declared.entry.Entry.TheVariants as entry
use Rattle.hv_history.specs.declared.entry.JobKind.{JobKind}
use Rattle.hv_history.specs.declared.entry.JobKind.TheVariants as kind
use Rattle.hv_history.specs.State.{State, Job, numbered, changed, asked_job, picked, published_at, empty_at, failed_at, cleaned, first_of, acted, after, nothing_yet}
use Rattle.hv_history.specs.Legal.{profile, Fits, AllFit}
use Rattle.hv_history.specs.Jobs.{Events, inserts, deletes, is_between, is_up_to, is_kind, is_job_of, jobs_in, events_in}
use Rattle.hv_history.specs.JobsFit.{PickedFits, PublishedFits, EmptyFits, FailedFits, CleanedFits}
use Rattle.hv_history.specs.Lasting.{IsFront}
use Rattle.hv_history.proofs.LastingLaws.{goes-on as state-goes}
use Rattle.hv_stands.proofs.Numbers.{numbered-changed, numbered-or-last, same_one}
use Rattle.hv_jobs.specs.Covers.{covers, covers_by, covers_range, cleans, is_cleaned_away}
use Rattle.hv_jobs.specs.Covered.{own, wide, base, changes, has_within, covered_if, own_covered, range_covered, published_covered, made_covered, covered_names}
use Rattle.hv_law_jobs.specs.Sound.{IsSoundRange, HasSoundRange, IsSoundJob, ReachesFurther, AreSoundJobs}
use Rattle.hv_law_jobs.specs.Lasting.{JobLater}
use Rattle.hv_law_jobs.proofs.LastLemmas.{jobs-last}
use Rattle.hv_law_jobs.proofs.OrderLemmas.{numbered-all, job-of-is, job-of-from}
use Rattle.hv_law_jobs.proofs.PublishLemmas.{unpublished, reaches-further}
use Rattle.hv_law_made.specs.Entries.{IsSoundBook, dir_of}
use Rattle.hv_law_made.proofs.BookLemmas.{books-go-on, books-are-sound}
use Rattle.hv_law_visible.specs.Members.{IsIn}
use Rattle.hv_law_visible.proofs.MemberLemmas.{in-left, in-right, in-either, in-flat, from-flat, in-filter, from-filter, any-in, in-any}
use Rattle.hv_law_work.specs.Work.{HasGoneIf, AreGone}
use Rattle.hv_law_work.proofs.Events.{events-stay}
use Rattle.hv_shelf.specs.declared.place.DirAt.{DirAt}
use Rattle.hv_trail.specs.declared.trail.TrailItem.{TrailItem}
use Rattle.hv_trail.specs.declared.trail.TrailItem.TheVariants.{Marked}
use Rattle.hv_trail.specs.declared.trail.Mark.TheVariants.{Went}
use Rattle.hv_trail.specs.Trail.{book_of, state_at, HasGone}
use Rattle.hv_trail.proofs.LastingLaws.{book-append}
use Rattle.hv_clean.proofs.Lasts.{found, covers-later, state-behind}

-- ---- the job of a number

slice-in : {A : Type 0} (xs : List A) (x : A) → IsIn x xs → (n : ℕ) × (numbered xs (suc n) ≡ Some x)
slice-in [] x is = absurd is
slice-in (y ∷ xs) x (inl same) = (0, ap (λ z. Some z) same)
slice-in (y ∷ xs) x (inr is) = let at = slice-in xs x is in (suc at.0, at.1)

numbered-in : {A : Type 0} (xs : List A) (n : ℕ) (x : A) → numbered xs n ≡ Some x → IsIn x xs
numbered-in xs zero x is = cc
numbered-in [] (suc n) x is = cc
numbered-in (y ∷ xs) (suc zero) x is = let same : y ≡ x = cc in inl same
numbered-in (y ∷ xs) (suc (suc n)) x is = inr (numbered-in xs (suc n) x is)

-- ---- what was published, before an entry

-- it was published so before
pub record WasPublished (state : State) (job : Job) (range : ℕ × ℕ × ℕ) : Type 0 where
  pub was : Job
  pub number : ℕ
  pub is : numbered state.jobs number ≡ Some was
  pub table : was.table ≡ job.table
  pub partition : was.partition ≡ job.partition
  pub kind : was.kind ≡ job.kind
  pub published : was.published ≡ Some range

-- or its range goes further than those that were published in its partition
abbrev pub GoesFurther : State → Job → ℕ × ℕ × ℕ → Type 0
GoesFurther state job range =
    (number : ℕ) (other : Job) (last : ℕ × ℕ × ℕ) → numbered state.jobs number ≡ Some other → is_job_of job.table job.partition other ≡ true
    → other.published ≡ Some last → ReachesFurther other.kind job.kind last range

some-one : {A : Type 0} (x y : A) → Some x ≡ Some y → x ≡ y
some-one x y e = cc

module _ (limits : Limits) (state : State) (sound : AreSoundJobs state) where
  same-was : (n : ℕ) (job : Job) (range : ℕ × ℕ × ℕ) → numbered state.jobs n ≡ Some job → job.published ≡ Some range → WasPublished state job range
  same-was n job range is done = record { was = job; number = n; is = is; table = refl; partition = refl; kind = refl; published = done }

  -- a step that publishes nothing
  step-was : (f : Job → Job) → ((x : Job) → (f x).published ≡ x.published) → ((x : Job) → (f x).table ≡ x.table)
      → ((x : Job) → (f x).partition ≡ x.partition) → ((x : Job) → (f x).kind ≡ x.kind) → (k : ℕ) (x : Job) → numbered state.jobs k ≡ Some x
      → (n : ℕ) (job : Job) (range : ℕ × ℕ × ℕ) → numbered (changed f state.jobs k) n ≡ Some job → job.published ≡ Some range
      → WasPublished state job range
  step-was f published table partition same_kind k x at n job range is done =
      by (n == k) (sym (numbered-changed f state.jobs k n x at) ∙ is)
    where
      by : (b : Bool) → cond b (Some (f x)) (numbered state.jobs n) ≡ Some job → WasPublished state job range
      by false e = same-was n job range e done
      by true e =
          let one : f x ≡ job = some-one (f x) job e in
          record {
            was = x;
            number = k;
            is = at;
            table = sym (table x) ∙ ap (λ (j : Job). j.table) one;
            partition = sym (partition x) ∙ ap (λ (j : Job). j.partition) one;
            kind = sym (same_kind x) ∙ ap (λ (j : Job). j.kind) one;
            published = sym (published x) ∙ ap (λ (j : Job). j.published) one ∙ done;
          }

  new-was : (k low high mark : ℕ) (x : Job) → numbered state.jobs k ≡ Some x → PublishedFits state low high mark x → (n : ℕ) (job : Job) (range : ℕ × ℕ × ℕ)
      → numbered (changed (published_at state.entries (low, high, mark)) state.jobs k) n ≡ Some job → job.published ≡ Some range
      → WasPublished state job range ⊎ GoesFurther state job range
  new-was k low high mark x at fits n job range is done =
      by (n == k) (sym (numbered-changed (published_at state.entries (low, high, mark)) state.jobs k n x at) ∙ is)
    where
      step : Job → Job
      step j = published_at state.entries (low, high, mark) j

      by : (b : Bool) → cond b (Some (step x)) (numbered state.jobs n) ≡ Some job → WasPublished state job range ⊎ GoesFurther state job range
      by false e = inl (same-was n job range e done)
      by true e =
          let one : step x ≡ job = some-one (step x) job e in
          let none : x.published ≡ None = unpublished state k low high mark x sound at fits in
          let ranges : (low, high, mark) ≡ range =
          some-one (low, high, mark) range
          (sym (ap (λ (o : Option (ℕ × ℕ × ℕ)). first_of o (low, high, mark)) none) ∙ ap (λ (j : Job). j.published) one ∙ done) in
          inr (λ m other last there here finished.
          subst (λ (r : ℕ × ℕ × ℕ). ReachesFurther other.kind job.kind last r) ranges
          (subst (λ (j : Job). ReachesFurther other.kind j.kind last (low, high, mark)) one
          (reaches-further state k low high mark x sound at fits m other last there
          (subst (λ (j : Job). is_job_of j.table j.partition other ≡ true) (sym one) here) finished)))

  was-published : (event : Entry) → Fits limits state event → (n : ℕ) (job : Job) (range : ℕ × ℕ × ℕ) → numbered (after state event).jobs n ≡ Some job
      → job.published ≡ Some range → WasPublished state job range ⊎ GoesFurther state job range
  unfolding acted
  was-published (entry.Boot run) fits n job range is done = inl (same-was n job range is done)
  was-published (entry.Opened txn session number text) fits n job range is done = inl (same-was n job range is done)
  was-published (entry.Start txn statement) fits n job range is done = inl (same-was n job range is done)
  was-published (entry.Given txn table write) fits n job range is done = inl (same-was n job range is done)
  was-published (entry.Commit txn wrote) fits n job range is done = inl (same-was n job range is done)
  was-published (entry.Abort txn cause) fits n job range is done = inl (same-was n job range is done)
  was-published (entry.Create txn table) fits n job range is done = inl (same-was n job range is done)
  was-published (entry.Drop txn table) fits n job range is done = inl (same-was n job range is done)
  was-published (entry.Asked new table partition k by_) fits n job range is done =
      by (numbered-or-last state.jobs (asked_job state.entries table.0 partition k by_) n job is)
    where
      by : (numbered state.jobs n ≡ Some job) ⊎ ((n ≡ length state.jobs + 1) × (job ≡ asked_job state.entries table.0 partition k by_))
          → WasPublished state job range ⊎ GoesFurther state job range
      by (inl there) = inl (same-was n job range there done)
      by (inr last) = let none : None ≡ Some range = sym (ap (λ (j : Job). j.published) last.1) ∙ done in cc
  was-published (entry.Picked which watermark_) fits n job range is done =
      let it = found (PickedFits limits state which.0 watermark_.0) (numbered state.jobs which.0) fits in
      inl (step-was (picked watermark_.0) (λ x. refl) (λ x. refl) (λ x. refl) (λ x. refl) which.0 it.0 it.1 n job range is done)
  was-published (entry.Published which low high mark) fits n job range is done =
      let it = found (PublishedFits state low.0 high.0 mark.0) (numbered state.jobs which.0) fits in
      new-was which.0 low.0 high.0 mark.0 it.0 it.1 it.2 n job range is done
  was-published (entry.Empty which) fits n job range is done =
      let it = found (EmptyFits state) (numbered state.jobs which.0) fits in
      inl (step-was (empty_at state.entries) (λ x. refl) (λ x. refl) (λ x. refl) (λ x. refl) which.0 it.0 it.1 n job range is done)
  was-published (entry.Cleaned which) fits n job range is done =
      let it = found (CleanedFits limits state) (numbered state.jobs which.0) fits in
      inl (step-was cleaned (λ x. refl) (λ x. refl) (λ x. refl) (λ x. refl) which.0 it.0 it.1 n job range is done)
  was-published (entry.Failed which why) fits n job range is done =
      let it = found (FailedFits state why) (numbered state.jobs which.0) fits in
      inl (step-was (failed_at state.entries why) (λ x. refl) (λ x. refl) (λ x. refl) (λ x. refl) which.0 it.0 it.1 n job range is done)
  was-published (entry.Forgot table write) fits n job range is done = inl (same-was n job range is done)
  was-published (entry.Next txn statement number text) fits n job range is done = absurd fits
  was-published (entry.Did txn statement wrote) fits n job range is done = absurd fits
  was-published (entry.Alter txn table) fits n job range is done = absurd fits

  -- ---- one published job, before and behind an entry that fits

  module _ (event : Entry) (fits : Fits limits state event) (number : ℕ) (j k : Job) (at : numbered state.jobs number ≡ Some j) (later : JobLater j k)
      (range : ℕ × ℕ × ℕ) (done : j.published ≡ Some range) where
    its-range : IsSoundRange state j.table j.partition range.0 range.1 range.2
    its-range =
        subst (λ (o : Option (ℕ × ℕ × ℕ)). HasSoundRange state j o) done
        (numbered-all (IsSoundJob state) state.jobs number j sound.each at).range

    covers-as : (name : DirName) → covers k name ≡ covers_range j.kind range.0 range.1 name
    covers-as name = λ i. covers_by (later.kind i) (later.published range done i) name

    covers-was : (name : DirName) → covers j name ≡ covers_range j.kind range.0 range.1 name
    covers-was name = ap (λ (o : Option (ℕ × ℕ × ℕ)). covers_by j.kind o name) done

    -- what is covered ends at its range's end, and a base isn't covered by what is minor
    own-within : (q : JobKind) (deleted : Bool) (write : ℕ) → covers_range q range.0 range.1 (own deleted write) ≡ true → write ≤ range.1
    own-within kind.Minor deleted write is = leb-true write range.1 (and_parts (nat_le range.0 write) (nat_le write range.1) is).1
    own-within kind.Major deleted write is = leb-true write range.1 is

    wide-within : (q : JobKind) (deleted : Bool) (low high : ℕ) → covers_range q range.0 range.1 (wide deleted low high) ≡ true → high ≤ range.1
    wide-within kind.Minor deleted low high is =
        leb-true high range.1 (and_parts (nat_le high range.1) (not ((low == range.0) && (high == range.1)))
        (and_parts (nat_le range.0 low) (nat_le high range.1 && not ((low == range.0) && (high == range.1))) is).1).0
    wide-within kind.Major deleted low high is = leb-true high range.1 is

    base-within : (q : JobKind) (high : ℕ) → covers_range q range.0 range.1 (base high) ≡ true → (is_kind q kind.Major ≡ true) × (high < range.1)
    base-within kind.Minor high is = absurd (true≢false (sym is))
    base-within kind.Major high is = (refl, ltb-true high range.1 is)

    -- what commits say up to there
    abbrev IdsNow : List Events
    IdsNow = events_in (after state event) j.table j.partition

    abbrev IdsWere : List Events
    IdsWere = events_in state j.table j.partition

    ids-same : (mark : ℕ) → mark ≤ range.1 → filter (is_up_to mark) IdsNow ≡ filter (is_up_to mark) IdsWere
    ids-same mark low =
        events-stay state (after state event) (state-goes state event) sound.owned j.table j.partition mark (le_trans low its-range.ended)

    id-was : (events : Events) (mark : ℕ) → mark ≤ range.1 → events.write ≤ mark → IsIn events IdsNow → IsIn events IdsWere
    id-was events mark low up is =
        (from-filter (is_up_to mark) events IdsWere
        (subst (IsIn events) (ids-same mark low) (in-filter (is_up_to mark) events IdsNow is (le-leb events.write mark up)))).0

    within-was : (deleted : Bool) (low high : ℕ) → high ≤ range.1 → has_within deleted low high IdsNow ≡ true → has_within deleted low high IdsWere ≡ true
    within-was deleted low high le is =
        let one = in-any (λ (events : Events). is_between (low - 1) high events && changes deleted events) IdsNow is in
        let both = and_parts (is_between (low - 1) high one.0) (changes deleted one.0) one.2 in
        let up = leb-true one.0.write high (and_parts (nat_lt (low - 1) one.0.write) (nat_le one.0.write high) both.0).1 in
        any-in (λ (events : Events). is_between (low - 1) high events && changes deleted events) one.0 IdsWere (id-was one.0 high le up one.1) one.2

    -- ---- names

    if-was : (made : Bool) (name other : DirName) → IsIn other (covered_if k made name)
        → (made ≡ true) × (covers_range j.kind range.0 range.1 name ≡ true) × (name ≡ other)
    if-was made name other is = by (made && covers k name) refl is
      where
        by : (b : Bool) → (made && covers k name) ≡ b → IsIn other (if b then name ∷ [] else [])
            → (made ≡ true) × (covers_range j.kind range.0 range.1 name ≡ true) × (name ≡ other)
        by true e (inl same) = let both = and_parts made (covers k name) e in (both.0, sym (covers-as name) ∙ both.1, same)
        by true e (inr none) = absurd none
        by false e none = absurd none

    if-is : (made : Bool) (name : DirName) → made ≡ true → covers_range j.kind range.0 range.1 name ≡ true → IsIn name (covered_if j made name)
    if-is made name so covered =
        subst (λ (b : Bool). IsIn name (if b then name ∷ [] else [])) (sym (and_from made (covers j name) so (covers-was name ∙ covered))) (inl refl)

    own-was : (events : Events) (name : DirName) → IsIn events IdsNow → IsIn name (own_covered k events)
        → IsIn name (flat_map (own_covered j) IdsWere)
    own-was events name there is = by (in-either name (covered_if k (inserts events) (own false events.write)) (covered_if k (deletes events) (own true events.write)) is)
      where
        by : IsIn name (covered_if k (inserts events) (own false events.write)) ⊎ IsIn name (covered_if k (deletes events) (own true events.write))
            → IsIn name (flat_map (own_covered j) IdsWere)
        by (inl h) =
            let one = if-was (inserts events) (own false events.write) name h in
            in-flat (own_covered j) events name IdsWere (id-was events range.1 (omega arith) (own-within j.kind false events.write one.1) there)
            (in-left name (covered_if j (inserts events) (own false events.write)) (covered_if j (deletes events) (own true events.write))
            (subst (λ (n : DirName). IsIn n (covered_if j (inserts events) (own false events.write))) one.2
            (if-is (inserts events) (own false events.write) one.0 one.1)))
        by (inr h) =
            let one = if-was (deletes events) (own true events.write) name h in
            in-flat (own_covered j) events name IdsWere (id-was events range.1 (omega arith) (own-within j.kind true events.write one.1) there)
            (in-right name (covered_if j (inserts events) (own false events.write)) (covered_if j (deletes events) (own true events.write))
            (subst (λ (n : DirName). IsIn n (covered_if j (deletes events) (own true events.write))) one.2
            (if-is (deletes events) (own true events.write) one.0 one.1)))

    -- a job whose range goes further makes nothing that is covered
    minor-further : (low high mark : ℕ) (q : JobKind) (deleted : Bool) → low ≤ high → ReachesFurther q kind.Minor range (low, high, mark)
        → covers_range q range.0 range.1 (wide deleted low high) ≡ true → ⊥
    minor-further low high mark kind.Minor deleted order further is =
        let beyond = further.beyond refl in
        let up = wide-within kind.Minor deleted low high is in
        omega (arith, beyond, up)
    minor-further low high mark kind.Major deleted order further is =
        let above = further.above in
        let up = wide-within kind.Major deleted low high is in
        omega (arith, above, order, up)

    major-further : (low high mark : ℕ) → ReachesFurther j.kind kind.Major range (low, high, mark)
        → covers_range j.kind range.0 range.1 (base high) ≡ true → ⊥
    major-further low high mark further is =
        let below = base-within j.kind high is in
        let beyond = further.beyond below.0 in
        let last = below.1 in
        omega (arith, beyond, last)

    -- names of the range of a job of a kind
    range-was : (q : JobKind) (low high : ℕ) (name : DirName) → IsIn name (range_covered IdsNow k q low high) → IsIn name (range_covered IdsWere j q low high)
    range-was kind.Minor low high name is =
        by (in-either name (covered_if k (has_within false low high IdsNow) (wide false low high)) (covered_if k (has_within true low high IdsNow) (wide true low high)) is)
      where
        by : IsIn name (covered_if k (has_within false low high IdsNow) (wide false low high)) ⊎ IsIn name (covered_if k (has_within true low high IdsNow) (wide true low high))
            → IsIn name (range_covered IdsWere j kind.Minor low high)
        by (inl h) =
            let one = if-was (has_within false low high IdsNow) (wide false low high) name h in
            in-left name (covered_if j (has_within false low high IdsWere) (wide false low high)) (covered_if j (has_within true low high IdsWere) (wide true low high))
            (subst (λ (n : DirName). IsIn n (covered_if j (has_within false low high IdsWere) (wide false low high))) one.2
            (if-is (has_within false low high IdsWere) (wide false low high) (within-was false low high (wide-within j.kind false low high one.1) one.0) one.1))
        by (inr h) =
            let one = if-was (has_within true low high IdsNow) (wide true low high) name h in
            in-right name (covered_if j (has_within false low high IdsWere) (wide false low high)) (covered_if j (has_within true low high IdsWere) (wide true low high))
            (subst (λ (n : DirName). IsIn n (covered_if j (has_within true low high IdsWere) (wide true low high))) one.2
            (if-is (has_within true low high IdsWere) (wide true low high) (within-was true low high (wide-within j.kind true low high one.1) one.0) one.1))
    range-was kind.Major low high name is =
        let one = if-was true (base high) name is in
        subst (λ (n : DirName). IsIn n (covered_if j true (base high))) one.2 (if-is true (base high) refl one.1)

    -- and where it goes further, none
    further-none : (q : JobKind) (low high mark : ℕ) (name : DirName) → low ≤ high → ReachesFurther j.kind q range (low, high, mark)
        → IsIn name (range_covered IdsNow k q low high) → ⊥
    further-none kind.Minor low high mark name order further is =
        by (in-either name (covered_if k (has_within false low high IdsNow) (wide false low high)) (covered_if k (has_within true low high IdsNow) (wide true low high)) is)
      where
        by : IsIn name (covered_if k (has_within false low high IdsNow) (wide false low high)) ⊎ IsIn name (covered_if k (has_within true low high IdsNow) (wide true low high)) → ⊥
        by (inl h) = minor-further low high mark j.kind false order further (if-was (has_within false low high IdsNow) (wide false low high) name h).1
        by (inr h) = minor-further low high mark j.kind true order further (if-was (has_within true low high IdsNow) (wide true low high) name h).1
    further-none kind.Major low high mark name order further is = major-further low high mark further (if-was true (base high) name is).1

    module _ (sound_now : AreSoundJobs (after state event)) where
      other-was : (other : Job) (n : ℕ) → numbered (after state event).jobs n ≡ Some other → is_job_of j.table j.partition other ≡ true
          → (o : Option (ℕ × ℕ × ℕ)) → other.published ≡ o → (name : DirName) → IsIn name (published_covered IdsNow k other.kind o)
          → IsIn name (flat_map (made_covered IdsWere j) (jobs_in state j.table j.partition))
      other-was other n is here None ended name among = absurd among
      other-was other n is here (Some last) ended name among = by (was-published event fits n other last is ended)
        where
          its : (other.table ≡ j.table) × (other.partition ≡ j.partition)
          its = job-of-is j.table j.partition other here

          order : last.0 ≤ last.1
          order =
              (subst (λ (o : Option (ℕ × ℕ × ℕ)). HasSoundRange (after state event) other o) ended
              (numbered-all (IsSoundJob (after state event)) (after state event).jobs n other sound_now.each is).range).order

          by : WasPublished state other last ⊎ GoesFurther state other last → IsIn name (flat_map (made_covered IdsWere j) (jobs_in state j.table j.partition))
          by (inl was) =
              in-flat (made_covered IdsWere j) was.was name (jobs_in state j.table j.partition)
              (in-filter (is_job_of j.table j.partition) was.was state.jobs (numbered-in state.jobs was.number was.was was.is)
              (job-of-from j.table j.partition was.was (was.table ∙ its.0) (was.partition ∙ its.1)))
              (subst (λ (o : Option (ℕ × ℕ × ℕ)). IsIn name (published_covered IdsWere j was.was.kind o)) (sym was.published)
              (subst (λ (q : JobKind). IsIn name (range_covered IdsWere j q last.0 last.1)) (sym was.kind)
              (range-was other.kind last.0 last.1 name among)))
          by (inr further) =
              absurd
              (further-none other.kind last.0 last.1 last.2 name order
              (further number j range at (job-of-from other.table other.partition j (sym its.0) (sym its.1)) done) among)

      pub names-were : (name : DirName) → IsIn name (covered_names (after state event) k) → IsIn name (covered_names state j)
      names-were name is =
          by (in-either name (flat_map (own_covered k) IdsNow) (flat_map (made_covered IdsNow k) (jobs_in (after state event) j.table j.partition))
          (subst (λ (t : ℕ). IsIn name (flat_map (own_covered k) (events_in (after state event) t j.partition)
          ++ flat_map (made_covered (events_in (after state event) t j.partition) k) (jobs_in (after state event) t j.partition))) later.table
          (subst (λ (p : List ℕ). IsIn name (flat_map (own_covered k) (events_in (after state event) k.table p)
          ++ flat_map (made_covered (events_in (after state event) k.table p) k) (jobs_in (after state event) k.table p))) later.partition is)))
        where
          owns : List DirName
          owns = flat_map (own_covered j) IdsWere

          mades : List DirName
          mades = flat_map (made_covered IdsWere j) (jobs_in state j.table j.partition)

          by : IsIn name (flat_map (own_covered k) IdsNow) ⊎ IsIn name (flat_map (made_covered IdsNow k) (jobs_in (after state event) j.table j.partition))
              → IsIn name (covered_names state j)
          by (inl h) =
              let one = from-flat (own_covered k) name IdsNow h in
              in-left name owns mades (own-was one.0 name one.1 one.2)
          by (inr h) =
              let one = from-flat (made_covered IdsNow k) name (jobs_in (after state event) j.table j.partition) h in
              let there = from-filter (is_job_of j.table j.partition) one.0 (after state event).jobs one.1 in
              let at_number = slice-in (after state event).jobs one.0 there.0 in
              in-right name owns mades (other-was one.0 (suc at_number.0) at_number.1 there.1 one.0.published refl name one.2)

-- ---- what a cleaned job covers stays so

away-stays : (state : State) (event : Entry) (table : ℕ) (partition : List ℕ) (name : DirName)
    → is_cleaned_away (jobs_in (after state event) table partition) name ≡ false → is_cleaned_away (jobs_in state table partition) name ≡ false
away-stays state event table partition name none =
    false_from_ne_true (is_cleaned_away (jobs_in state table partition) name)
    (λ away.
    let one = in-any (cleans name) (jobs_in state table partition) away in
    let there = from-filter (is_job_of table partition) one.0 state.jobs one.1 in
    let at = slice-in state.jobs one.0 there.0 in
    let now = found (JobLater one.0) (numbered (after state event).jobs (suc at.0)) (jobs-last state (event ∷ []) (suc at.0) one.0 at.1) in
    let its = job-of-is table partition one.0 there.1 in
    let both = and_parts one.0.is_cleaned (covers one.0 name) one.2 in
    true≢false
    (sym (any-in (cleans name) now.0 (jobs_in (after state event) table partition)
    (in-filter (is_job_of table partition) now.0 (after state event).jobs (numbered-in (after state event).jobs (suc at.0) now.0 now.1)
    (job-of-from table partition now.0 (now.2.table ∙ its.0) (now.2.partition ∙ its.1)))
    (and_from now.0.is_cleaned (covers now.0 name) (now.2.is_cleaned both.0) (covers-later one.0 now.0 now.2 name both.1)))
    ∙ none))

all-from : (P : DirName → Type 0) (names : List DirName) → ((name : DirName) → IsIn name names → P name) → AllByRecursion P names
all-from P [] each = tt
all-from P (name ∷ names) each = (each name (inl refl), all-from P names (λ other is. each other (inr is)))

all-at : (P : DirName → Type 0) (names : List DirName) → AllByRecursion P names → (name : DirName) → IsIn name names → P name
all-at P [] all name is = absurd is
all-at P (other ∷ names) all name (inl same) = subst P same all.0
all-at P (other ∷ names) all name (inr is) = all-at P names all.1 name is

-- each name went, as one asks of it by members
pub gone-from : (trail : List TrailItem) (state : State) (job : Job) → ((name : DirName) → IsIn name (covered_names state job) → HasGoneIf trail state job name)
    → AreGone trail state job
gone-from trail state job each = all-from (HasGoneIf trail state job) (covered_names state job) each

-- behind one entry that fits
gone-stays : (limits : Limits) (trail : List TrailItem) (state : State) (event : Entry) → IsSoundBook state → Fits limits state event
    → (number : ℕ) (j k : Job) → numbered state.jobs number ≡ Some j → JobLater j k → (range : ℕ × ℕ × ℕ) → j.published ≡ Some range
    → AreGone trail state j → AreGone trail (after state event) k
gone-stays limits trail state event sound fits number j k at later range done gone =
    all-from (HasGoneIf trail (after state event) k) (covered_names (after state event) k)
    (λ name is left.
    let was = names-were limits state sound.jobs event fits number j k at later range done (books-go-on limits state event fits sound).jobs name is in
    let left_here : is_cleaned_away (jobs_in (after state event) j.table j.partition) name ≡ false =
    ap (λ (t : ℕ). is_cleaned_away (jobs_in (after state event) t j.partition) name) (sym later.table)
    ∙ ap (λ (p : List ℕ). is_cleaned_away (jobs_in (after state event) k.table p) name) (sym later.partition) ∙ left in
    subst (λ (d : DirAt). HasGone trail d)
    (λ i. record { table = record { 0 = sym later.table i }; partition = sym later.partition i; dir = text_of name })
    (all-at (HasGoneIf trail state j) (covered_names state j) gone name was (away-stays state event j.table j.partition name left_here)))

-- and behind any that fit
all-gone-stay : (limits : Limits) (trail : List TrailItem) (state : State) (more : List Entry) → IsSoundBook state → AllFit limits state more
    → (number : ℕ) (j k : Job) → numbered state.jobs number ≡ Some j → numbered (fold after state more).jobs number ≡ Some k → (range : ℕ × ℕ × ℕ)
    → j.published ≡ Some range → AreGone trail state j → AreGone trail (fold after state more) k
all-gone-stay limits trail state [] sound fit number j k at now range done gone =
    subst (AreGone trail state) (same_one (numbered state.jobs number) j k at now) gone
all-gone-stay limits trail state (event ∷ more) sound fit number j k at now range done gone =
    let next = found (JobLater j) (numbered (after state event).jobs number) (jobs-last state (event ∷ []) number j at) in
    all-gone-stay limits trail (after state event) more (books-go-on limits state event fit.0 sound) fit.1 number next.0 k next.1 now range
    (next.2.published range done) (gone-stays limits trail state event sound fit.0 number j next.0 at next.2 range done gone)

pub fit-split : (limits : Limits) (state : State) (xs ys : List Entry) → AllFit limits state (xs ++ ys)
    → AllFit limits state xs × AllFit limits (fold after state xs) ys
fit-split limits state [] ys fit = (tt, fit)
fit-split limits state (x ∷ xs) ys fit = let rest = fit-split limits (after state x) xs ys fit.1 in ((fit.0, rest.0), rest.1)

-- more marks leave it so
more-marks : (trail more : List TrailItem) (state : State) (job : Job) → AreGone trail state job → AreGone (trail ++ more) state job
more-marks trail more state job gone =
    all-from (HasGoneIf (trail ++ more) state job) (covered_names state job)
    (λ name is left. Contains-append_left trail more (Marked (Went (dir_of job (text_of name)))) (all-at (HasGoneIf trail state job) (covered_names state job) gone name is left))

-- what went stays gone in a longer trail whose book fits
pub gone-lasts : (marks before now : List TrailItem) → IsFront before now → IsFront marks now → AllFit profile nothing_yet (book_of now)
    → (number : ℕ) (j k : Job) → numbered (state_at before).jobs number ≡ Some j → numbered (state_at now).jobs number ≡ Some k
    → (range : ℕ × ℕ × ℕ) → j.published ≡ Some range → AreGone marks (state_at before) j → AreGone now (state_at now) k
gone-lasts marks before now front behind fit number j k at there range done gone =
    let parts = fit-split profile nothing_yet (book_of before) (book_of front.more)
    (subst (λ (book : List Entry). AllFit profile nothing_yet book) (ap book_of front.is ∙ book-append before front.more) fit) in
    let state_is = state-behind before now front in
    let later : AreGone marks (state_at now) k =
    subst (λ (s : State). AreGone marks s k) (sym state_is)
    (all-gone-stay profile marks (state_at before) (book_of front.more) (books-are-sound profile (book_of before) parts.0) parts.1 number j k at
    (subst (λ (s : State). numbered s.jobs number ≡ Some k) state_is there) range done gone) in
    subst (λ (t : List TrailItem). AreGone t (state_at now) k) (sym behind.is) (more-marks marks behind.more (state_at now) k later)
