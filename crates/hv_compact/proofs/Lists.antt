-- What a listing says stays true while the job works; and once its buckets are staged, all that it is to stage is.
use Rattle.std.proofs.Common.{◌≡◌, ◌⊎◌, inl, inr, ◌≤◌, ◌<◌, ◌+◌, ℕ, suc, Bool, true, false, true≢false, Option, Some, None, List, [], ◌∷◌, map, length, Result, Ok, Err, refl, sym, ap, ◌∙◌, subst, arith}
use Rattle.std.specs.Prelude.{IfOk, IsSomeAnd, ◌==◌, ◌||◌, not, nat_lt}
use Rattle.std.proofs.lemmas.Bool.{eqb-true, eq-eqb}
use Rattle.std.proofs.lemmas.Bool.Decides.{nat_tests}
use Rattle.hv_base.specs.declared.ids.JobId.{JobId}
use Rattle.hv_rowfile.specs.declared.record.Rec.{Rec}
use Rattle.hv_dirs.specs.declared.names.DirName.{DirName}
use Rattle.hv_choosing.specs.declared.listing.DirFile.{DirFile}
use Rattle.hv_history.specs.declared.entry.JobKind.TheVariants as kind
use Rattle.hv_history.specs.declared.state.Table.{Table}
use Rattle.hv_history.specs.Lasting.{IsFront}
use Rattle.hv_history.specs.State.{State, Job}
use Rattle.hv_law_made.specs.Entries.{finals, IsAtWork}
use Rattle.hv_law_visible.specs.Members.{IsIn}
use Rattle.hv_law_work.specs.Work.{by_job, staged_at, wanted}
use Rattle.hv_merge.specs.Gathering.{gathered}
use Rattle.hv_merge.specs.Merging.{merged}
use Rattle.hv_trail.specs.declared.trail.TrailItem.{TrailItem}
use Rattle.hv_trail.specs.Trail.{state_at, HasWritten}
use Rattle.hv_job_acts.specs.hv_acts.specs.Reading.{HasFittingBook}
use Rattle.hv_job_acts.specs.hv_acts.specs.hv_telling.specs.hv_house.specs.declared.listing.Listing.{Listing}
use Rattle.hv_job_acts.specs.Doing.{IsStagedDue}
use Rattle.hv_compact.specs.declared.task.Task.{Task}
use Rattle.hv_compact.specs.declared.fault.Stop.{Stop}
use Rattle.hv_compact.specs.Gathering.{taken_in, buckets_of, inserted, wide_of, base_of, files_in, minor_recs, major_recs, Whenever, IsToHave, HasNoFile, AreDue, ListsJob}
use Rattle.hv_compact.specs.Writing.{IfSome, gathered_of, IsStagedIn, HasMinorStaged, HasKindStaged, HasNone, HasBucketStaged, HasMajorStaged, HasBaseStaged, HasStagedAll, HasWrittenBase}
use Rattle.hv_compact.specs.Reading.{ReadsEach}
use Rattle.hv_compact.proofs.Adds.{front-more, front-itself}
use Rattle.hv_compact.proofs.Gets.{stands-later}
use Rattle.hv_compact.proofs.Later.{staged-later}
use Rattle.hv_compact.proofs.Buckets.{taken-above, gathered-none, merged-none}

-- ---- later

pub whenever-later : (before now : List TrailItem) (job : JobId) (P : State → Job → Table → Type 0) → IsFront before now → Whenever before job P
    → Whenever now job P
whenever-later before now job P front when = λ then_ more book j work. when then_ (front-more before now then_ front more) book j work

abbrev pub lists-later : (before now : List TrailItem) (task : Task) (listing : Listing) → IsFront before now → ListsJob before task listing
    → ListsJob now task listing
lists-later before now task listing front lists = record {
  recs_of = lists.recs_of;
  inserts = λ file among. stands-later before now task.job file.place false (lists.recs_of file) front (lists.inserts file among);
  deletes = λ file among. stands-later before now task.job file.place true (lists.recs_of file) front (lists.deletes file among);
  minor = λ is. let was = lists.minor is in record {
    some = λ deletes bucket r rest e. whenever-later before now task.job (IsToHave (wide_of task deletes) deletes bucket (r ∷ rest)) front
        (was.some deletes bucket r rest e);
    none = λ deletes bucket e. whenever-later before now task.job (HasNoFile (wide_of task deletes) bucket) front (was.none deletes bucket e);
    only = λ then_ more book j work. was.only then_ (front-more before now then_ front more) book j work;
  };
  major = λ is. let was = lists.major is in record {
    some = λ bucket r rest e. whenever-later before now task.job (IsToHave (base_of task) false bucket (r ∷ rest)) front (was.some bucket r rest e);
    none = λ bucket other e some. whenever-later before now task.job (HasNoFile (base_of task) bucket) front (was.none bucket other e some);
    bare = λ all. whenever-later before now task.job (IsToHave (base_of task) false 0 []) front (was.bare all);
    rest = λ all bucket other. whenever-later before now task.job (HasNoFile (base_of task) bucket) front (was.rest all bucket other);
    only = λ then_ more book j work. was.only then_ (front-more before now then_ front more) book j work;
  };
}

-- its files are read with their records
pub each-listed : (trail : List TrailItem) (task : Task) (listing : Listing) (lists : ListsJob trail task listing) (deletes : Bool)
    → ReadsEach trail task.job deletes lists.recs_of (files_in deletes listing)
each-listed trail task listing lists false = lists.inserts
each-listed trail task listing lists true = lists.deletes

-- ---- where there are some

some-none : (r : Rec) (recs : List Rec) → r ∷ recs ≡ [] → ⊥
some-none r recs e = cc

pub some-if : (recs : List Rec) (P : Type 0) → P → IfSome recs P
some-if [] P holds = tt
some-if (r ∷ recs) P holds = holds

pub if-some : (recs : List Rec) (P : Type 0) → (recs ≡ [] → ⊥) → IfSome recs P → P
if-some [] P some holds = absurd (some refl)
if-some (r ∷ recs) P some holds = holds

pub if-none : (recs : List Rec) (P : Type 0) → recs ≡ [] → IfSome recs P
if-none [] P none = tt
if-none (r ∷ recs) P none = cc

pub if-later : (recs : List Rec) (P Q : Type 0) → (P → Q) → IfSome recs P → IfSome recs Q
if-later [] P Q step holds = tt
if-later (r ∷ recs) P Q step holds = step holds

pub empty-so : (recs : List Rec) (b : Bool) → b ≡ (length recs == 0) → b ≡ true → recs ≡ []
empty-so [] b is so = refl
empty-so (r ∷ recs) b is so =
    let none : suc (length recs) ≡ 0 = eqb-true (suc (length recs)) 0 (sym is ∙ so) in
    absurd (omega (arith, none))

pub empty-not : (recs : List Rec) (b : Bool) → b ≡ (length recs == 0) → b ≡ false → recs ≡ [] → ⊥
empty-not [] b is so none = true≢false (sym is ∙ so)
empty-not (r ∷ recs) b is so none = some-none r recs none

pub not-false : (b : Bool) → not b ≡ false → b ≡ true
not-false true e = refl
not-false false e = absurd (true≢false e)

pub not-true : (b : Bool) → not b ≡ true → b ≡ false
not-true true e = absurd (true≢false (sym e))
not-true false e = refl

-- ---- of a minor job

-- what is gathered in a bucket is due there
pub minor-due : (trail : List TrailItem) (task : Task) (listing : Listing) (lists : ListsJob trail task listing) → task.kind ≡ kind.Minor
    → (deletes : Bool) (bucket : ℕ) (recs : List Rec) → recs ≡ minor_recs lists.recs_of task deletes bucket listing
    → IfSome recs (AreDue trail task.job (wide_of task deletes) deletes bucket recs)
minor-due trail task listing lists is deletes bucket [] same = tt
minor-due trail task listing lists is deletes bucket (r ∷ rest) same = (lists.minor is).some deletes bucket r rest (sym same)

-- it takes what its kind says
pub gathered-minor : (recs_of : DirFile → List Rec) (task : Task) (deletes : Bool) (bucket : ℕ) (listing : Listing) → task.kind ≡ kind.Minor
    → gathered_of recs_of task bucket (files_in deletes listing) ≡ minor_recs recs_of task deletes bucket listing
gathered-minor recs_of task deletes bucket listing is =
    ap (λ k. gathered task.low task.high (map recs_of (taken_in k bucket (files_in deletes listing)))) is

-- what was gathered of its files is that
pub minor-same : (trail : List TrailItem) (task : Task) (listing : Listing) (lists : ListsJob trail task listing) → task.kind ≡ kind.Minor
    → (deletes : Bool) (bucket : ℕ) (files : List DirFile) (recs now : List Rec) → files ≡ files_in deletes listing → now ≡ recs
    → (ReadsEach trail task.job deletes lists.recs_of files → recs ≡ gathered_of lists.recs_of task bucket files)
    → now ≡ minor_recs lists.recs_of task deletes bucket listing
minor-same trail task listing lists is deletes bucket files recs now are same gathers =
    same ∙ gathers (subst (ReadsEach trail task.job deletes lists.recs_of) (sym are) (each-listed trail task listing lists deletes))
    ∙ ap (gathered_of lists.recs_of task bucket) are ∙ gathered-minor lists.recs_of task deletes bucket listing is

minor-above : (recs_of : DirFile → List Rec) (task : Task) (deletes : Bool) (bucket : ℕ) (listing : Listing)
    → buckets_of (files_in deletes listing) ≤ bucket → minor_recs recs_of task deletes bucket listing ≡ []
minor-above recs_of task deletes bucket listing above =
    ap (λ (fs : List DirFile). gathered task.low task.high (map recs_of fs)) (taken-above kind.Minor bucket (files_in deletes listing) above)
    ∙ gathered-none task.low task.high

low-or-high : (a b : ℕ) → (a < b) ⊎ (b ≤ a)
low-or-high a b = by (nat_lt a b) refl
  where
    by : (t : Bool) → nat_lt a b ≡ t → (a < b) ⊎ (b ≤ a)
    by true e = inl (grind (arith, nat_tests, e))
    by false e = inr (grind (arith, nat_tests, e))

one-of : (b : Bool) → (b ≡ true) ⊎ (b ≡ false)
one-of true = inl refl
one-of false = inr refl

none-some : {A : Type 0} (o : Option A) (x : A) → o ≡ Some x → o ≡ None → ⊥
none-some o x is none = let same : Some x ≡ None = sym is ∙ none in cc

-- all that it is to stage is staged, once both kinds are
pub minor-staged : (trail : List TrailItem) (task : Task) (listing : Listing) (lists : ListsJob trail task listing) → task.kind ≡ kind.Minor
    → HasFittingBook trail
    → HasKindStaged trail task lists.recs_of false (buckets_of listing.inserts.items) listing
    → HasKindStaged trail task lists.recs_of true (buckets_of listing.deletes.items) listing → IsStagedDue trail task.job
minor-staged trail task listing lists is book inserts deletes = λ j work name bucket file among wants.
    by j work name bucket file among wants ((lists.minor is).only trail (front-itself trail) book j work name among)
  where
    kind-staged : (d : Bool) (bucket : ℕ) → bucket < buckets_of (files_in d listing) → HasMinorStaged trail task lists.recs_of d bucket listing
    kind-staged false bucket low = inserts bucket low
    kind-staged true bucket low = deletes bucket low

    nonempty : (d : Bool) (bucket : ℕ) (recs : List Rec) → minor_recs lists.recs_of task d bucket listing ≡ recs → (recs ≡ [] → ⊥)
        → (bucket < buckets_of (files_in d listing)) ⊎ (buckets_of (files_in d listing) ≤ bucket) → IsStagedIn trail task.job (wide_of task d) bucket
    nonempty d bucket recs same some (inl low) =
        if-some (minor_recs lists.recs_of task d bucket listing) (IsStagedIn trail task.job (wide_of task d) bucket) (λ none. some (sym same ∙ none))
        (kind-staged d bucket low)
    nonempty d bucket recs same some (inr high) = absurd (some (sym same ∙ minor-above lists.recs_of task d bucket listing high))

    at-bucket : (j : Job) (work : IsAtWork (state_at trail) task.job.0 j) (d : Bool) (bucket : ℕ) (file : Bool × List Rec)
        → IsIn (wide_of task d) (finals (state_at trail) j work.table.writes) → wanted j work.table (wide_of task d) bucket ≡ Some file
        → (recs : List Rec) → minor_recs lists.recs_of task d bucket listing ≡ recs → IsStagedIn trail task.job (wide_of task d) bucket
    at-bucket j work d bucket file among wants [] same =
        absurd (none-some (wanted j work.table (wide_of task d) bucket) file wants
        ((lists.minor is).none d bucket same trail (front-itself trail) book j work among))
    at-bucket j work d bucket file among wants (r ∷ rest) same =
        nonempty d bucket (r ∷ rest) same (some-none r rest) (low-or-high bucket (buckets_of (files_in d listing)))

    by : (j : Job) (work : IsAtWork (state_at trail) task.job.0 j) (name : DirName) (bucket : ℕ) (file : Bool × List Rec)
        → IsIn name (finals (state_at trail) j work.table.writes) → wanted j work.table name bucket ≡ Some file
        → (d : Bool) × (name ≡ wide_of task d) → HasWritten trail (by_job task.job.0) (staged_at task.job.0 j name bucket)
    by j work name bucket file among wants only =
        let d = only.0 in
        subst (λ (n : DirName). HasWritten trail (by_job task.job.0) (staged_at task.job.0 j n bucket)) (sym only.1)
        (subst (λ (o : Option Job). IsSomeAnd o (λ (k : Job). HasWritten trail (by_job task.job.0) (staged_at task.job.0 k (wide_of task d) bucket))) work.is
        (at-bucket j work d bucket file (subst (λ (n : DirName). IsIn n (finals (state_at trail) j work.table.writes)) only.1 among)
        (subst (λ (n : DirName). wanted j work.table n bucket ≡ Some file) only.1 wants) (minor_recs lists.recs_of task d bucket listing) refl))

-- ---- of a major job

pub major-due : (trail : List TrailItem) (task : Task) (listing : Listing) (lists : ListsJob trail task listing) → task.kind ≡ kind.Major
    → (bucket : ℕ) (recs : List Rec) → recs ≡ major_recs lists.recs_of bucket listing
    → IfSome recs (AreDue trail task.job (base_of task) false bucket recs)
major-due trail task listing lists is bucket [] same = tt
major-due trail task listing lists is bucket (r ∷ rest) same = (lists.major is).some bucket r rest (sym same)

major-above : (recs_of : DirFile → List Rec) (bucket : ℕ) (listing : Listing) → buckets_of listing.inserts.items ≤ bucket
    → major_recs recs_of bucket listing ≡ []
major-above recs_of bucket listing above =
    ap (λ (fs : List DirFile). map inserted (merged listing.list (map recs_of fs) (map recs_of (taken_in kind.Major bucket listing.deletes.items))))
    (taken-above kind.Major bucket listing.inserts.items above)
    ∙ ap (map inserted) (merged-none listing.list (map recs_of (taken_in kind.Major bucket listing.deletes.items)))

-- where none of its buckets has rows, no bucket has
all-none : (recs_of : DirFile → List Rec) (listing : Listing)
    → ((bucket : ℕ) → bucket < buckets_of listing.inserts.items → HasNone recs_of bucket listing) → (bucket : ℕ) → HasNone recs_of bucket listing
all-none recs_of listing none bucket = by (low-or-high bucket (buckets_of listing.inserts.items))
  where
    by : (bucket < buckets_of listing.inserts.items) ⊎ (buckets_of listing.inserts.items ≤ bucket) → HasNone recs_of bucket listing
    by (inl low) = none bucket low
    by (inr high) = major-above recs_of bucket listing high

-- then its first one is due
pub bare-due : (trail : List TrailItem) (task : Task) (listing : Listing) (some : Bool) → task.kind ≡ kind.Major → some ≡ false
    → HasWrittenBase trail task listing some → AreDue trail task.job (base_of task) false 0 []
bare-due trail task listing some is none written =
    (written.lists.major is).bare (all-none written.lists.recs_of listing (written.staged.none none))

module _ (trail : List TrailItem) (task : Task) (listing : Listing) (lists : ListsJob trail task listing) (is : task.kind ≡ kind.Major)
    (book : HasFittingBook trail) where
  at-base : ((j : Job) (work : IsAtWork (state_at trail) task.job.0 j) (bucket : ℕ) (file : Bool × List Rec)
      → IsIn (base_of task) (finals (state_at trail) j work.table.writes) → wanted j work.table (base_of task) bucket ≡ Some file
      → IsStagedIn trail task.job (base_of task) bucket) → IsStagedDue trail task.job
  at-base staged = λ j work name bucket file among wants.
      let named : name ≡ base_of task = (lists.major is).only trail (front-itself trail) book j work name among in
      subst (λ (n : DirName). HasWritten trail (by_job task.job.0) (staged_at task.job.0 j n bucket)) (sym named)
      (subst (λ (o : Option Job). IsSomeAnd o (λ (k : Job). HasWritten trail (by_job task.job.0) (staged_at task.job.0 k (base_of task) bucket))) work.is
      (staged j work bucket file (subst (λ (n : DirName). IsIn n (finals (state_at trail) j work.table.writes)) named among)
      (subst (λ (n : DirName). wanted j work.table n bucket ≡ Some file) named wants)))

  -- with rows
  pub base-staged : HasBaseStaged trail task lists.recs_of (buckets_of listing.inserts.items) listing true → IsStagedDue trail task.job
  base-staged base = at-base (λ j work bucket file among wants. by j work bucket file among wants (major_recs lists.recs_of bucket listing) refl)
    where
      row-bucket : (bucket : ℕ) → (major_recs lists.recs_of bucket listing ≡ [] → ⊥)
          → (bucket < buckets_of listing.inserts.items) ⊎ (buckets_of listing.inserts.items ≤ bucket) → IsStagedIn trail task.job (base_of task) bucket
      row-bucket bucket some (inl low) =
          if-some (major_recs lists.recs_of bucket listing) (IsStagedIn trail task.job (base_of task) bucket) some (base.staged bucket low)
      row-bucket bucket some (inr high) = absurd (some (major-above lists.recs_of bucket listing high))

      -- a bucket without rows has no file, as another one has rows
      empty-bucket : (j : Job) (work : IsAtWork (state_at trail) task.job.0 j) (bucket : ℕ) (file : Bool × List Rec)
          → IsIn (base_of task) (finals (state_at trail) j work.table.writes) → wanted j work.table (base_of task) bucket ≡ Some file
          → major_recs lists.recs_of bucket listing ≡ [] → ⊥
      empty-bucket j work bucket file among wants none =
          base.rows refl
          (λ other. each j work bucket file among wants none other (major_recs lists.recs_of other listing) refl)
        where
          each : (j : Job) (work : IsAtWork (state_at trail) task.job.0 j) (bucket : ℕ) (file : Bool × List Rec)
              → IsIn (base_of task) (finals (state_at trail) j work.table.writes) → wanted j work.table (base_of task) bucket ≡ Some file
              → major_recs lists.recs_of bucket listing ≡ [] → (other : ℕ) (recs : List Rec) → major_recs lists.recs_of other listing ≡ recs
              → HasNone lists.recs_of other listing
          each j work bucket file among wants none other [] same = same
          each j work bucket file among wants none other (r ∷ rest) same =
              absurd (none-some (wanted j work.table (base_of task) bucket) file wants
              ((lists.major is).none bucket other none (λ e. some-none r rest (sym same ∙ e)) trail (front-itself trail) book j work among))

      by : (j : Job) (work : IsAtWork (state_at trail) task.job.0 j) (bucket : ℕ) (file : Bool × List Rec)
          → IsIn (base_of task) (finals (state_at trail) j work.table.writes) → wanted j work.table (base_of task) bucket ≡ Some file
          → (recs : List Rec) → major_recs lists.recs_of bucket listing ≡ recs → IsStagedIn trail task.job (base_of task) bucket
      by j work bucket file among wants [] same = absurd (empty-bucket j work bucket file among wants same)
      by j work bucket file among wants (r ∷ rest) same =
          row-bucket bucket (λ e. some-none r rest (sym same ∙ e)) (low-or-high bucket (buckets_of listing.inserts.items))

  -- without rows, its first bucket
  pub bare-staged : HasBaseStaged trail task lists.recs_of (buckets_of listing.inserts.items) listing false
      → IsStagedIn trail task.job (base_of task) 0 → IsStagedDue trail task.job
  bare-staged base staged = at-base (λ j work bucket file among wants. by j work bucket file among wants (one-of (bucket == 0)))
    where
      by : (j : Job) (work : IsAtWork (state_at trail) task.job.0 j) (bucket : ℕ) (file : Bool × List Rec)
          → IsIn (base_of task) (finals (state_at trail) j work.table.writes) → wanted j work.table (base_of task) bucket ≡ Some file
          → (bucket == 0 ≡ true) ⊎ (bucket == 0 ≡ false) → IsStagedIn trail task.job (base_of task) bucket
      by j work bucket file among wants (inl first) =
          subst (IsStagedIn trail task.job (base_of task)) (sym (eqb-true bucket 0 first)) staged
      by j work bucket file among wants (inr other) =
          absurd (none-some (wanted j work.table (base_of task) bucket) file wants
          ((lists.major is).rest (all-none lists.recs_of listing (base.none refl)) bucket
          (λ e. true≢false (sym (eq-eqb bucket 0 e) ∙ other)) trail (front-itself trail) book j work among))

-- ---- bucket by bucket

or-parts : (a b : Bool) → a || b ≡ false → (a ≡ false) × (b ≡ false)
or-parts true b e = absurd (true≢false e)
or-parts false b e = (refl, e)

or-either : (a b : Bool) → a || b ≡ true → (a ≡ true) ⊎ (b ≡ true)
or-either true b e = inl refl
or-either false b e = inr e

one-more : (bucket i : ℕ) → bucket < i + 1 → (bucket < i) ⊎ (bucket ≡ i)
one-more bucket i low = by (low-or-high bucket i)
  where
    by : (bucket < i) ⊎ (i ≤ bucket) → (bucket < i) ⊎ (bucket ≡ i)
    by (inl less) = inl less
    by (inr high) = inr (omega (arith, low, high))

pub kind-none : (trail : List TrailItem) (task : Task) (recs_of : DirFile → List Rec) (deletes : Bool) (listing : Listing)
    → HasKindStaged trail task recs_of deletes 0 listing
kind-none trail task recs_of deletes listing = λ bucket low. absurd (omega (arith, low))

pub kind-later : (before now : List TrailItem) (task : Task) (recs_of : DirFile → List Rec) (deletes : Bool) (buckets : ℕ) (listing : Listing)
    → IsFront before now → HasKindStaged before task recs_of deletes buckets listing → HasKindStaged now task recs_of deletes buckets listing
kind-later before now task recs_of deletes buckets listing front staged = λ bucket low.
    if-later (minor_recs recs_of task deletes bucket listing) (IsStagedIn before task.job (wide_of task deletes) bucket)
    (IsStagedIn now task.job (wide_of task deletes) bucket) (staged-later before now task.job (wide_of task deletes) bucket front) (staged bucket low)

pub kind-more : (before now : List TrailItem) (task : Task) (recs_of : DirFile → List Rec) (deletes : Bool) (i at : ℕ) (listing : Listing)
    → IsFront before now → at ≡ i → HasKindStaged before task recs_of deletes i listing → HasMinorStaged now task recs_of deletes at listing
    → HasKindStaged now task recs_of deletes (i + 1) listing
kind-more before now task recs_of deletes i at listing front is staged one = λ bucket low. by bucket (one-more bucket i low)
  where
    by : (bucket : ℕ) → (bucket < i) ⊎ (bucket ≡ i) → HasMinorStaged now task recs_of deletes bucket listing
    by bucket (inl less) = kind-later before now task recs_of deletes i listing front staged bucket less
    by bucket (inr same) = subst (λ (b : ℕ). HasMinorStaged now task recs_of deletes b listing) (is ∙ sym same) one

pub base-none : (trail : List TrailItem) (task : Task) (recs_of : DirFile → List Rec) (listing : Listing)
    → HasBaseStaged trail task recs_of 0 listing false
base-none trail task recs_of listing = record {
  staged = λ bucket low. absurd (omega (arith, low));
  none = λ is bucket low. absurd (omega (arith, low));
  rows = λ is none. absurd (true≢false (sym is));
}

pub base-more : (before now : List TrailItem) (task : Task) (recs_of : DirFile → List Rec) (i at : ℕ) (listing : Listing) (some more : Bool)
    → IsFront before now → at ≡ i → HasBaseStaged before task recs_of i listing some → HasMajorStaged now task recs_of at listing more
    → HasBaseStaged now task recs_of (i + 1) listing (some || more)
base-more before now task recs_of i at listing some more front is base one = record {
  staged = λ bucket low. by bucket (one-more bucket i low);
  none = λ e bucket low. none (or-parts some more e) bucket (one-more bucket i low);
  rows = λ e all. rows (or-either some more e) all;
}
  where
    by : (bucket : ℕ) → (bucket < i) ⊎ (bucket ≡ i) → HasBucketStaged now task recs_of bucket listing
    by bucket (inl less) =
        if-later (major_recs recs_of bucket listing) (IsStagedIn before task.job (base_of task) bucket) (IsStagedIn now task.job (base_of task) bucket)
        (staged-later before now task.job (base_of task) bucket front) (base.staged bucket less)
    by bucket (inr same) = subst (λ (b : ℕ). HasBucketStaged now task recs_of b listing) (is ∙ sym same) one.staged

    none : (some ≡ false) × (more ≡ false) → (bucket : ℕ) → (bucket < i) ⊎ (bucket ≡ i) → HasNone recs_of bucket listing
    none e bucket (inl less) = base.none e.0 bucket less
    none e bucket (inr same) = subst (λ (b : ℕ). HasNone recs_of b listing) (is ∙ sym same) (one.none e.1)

    rows : (some ≡ true) ⊎ (more ≡ true) → ((bucket : ℕ) → HasNone recs_of bucket listing) → ⊥
    rows (inl e) all = base.rows e all
    rows (inr e) all = one.rows e (all at)

pub base-later : (before now : List TrailItem) (task : Task) (recs_of : DirFile → List Rec) (buckets : ℕ) (listing : Listing) (some : Bool)
    → IsFront before now → HasBaseStaged before task recs_of buckets listing some → HasBaseStaged now task recs_of buckets listing some
base-later before now task recs_of buckets listing some front base = record {
  staged = λ bucket low.
      if-later (major_recs recs_of bucket listing) (IsStagedIn before task.job (base_of task) bucket) (IsStagedIn now task.job (base_of task) bucket)
      (staged-later before now task.job (base_of task) bucket front) (base.staged bucket low);
  none = base.none;
  rows = base.rows;
}

-- one bucket of a base
pub major-so : (trail : List TrailItem) (task : Task) (recs_of : DirFile → List Rec) (bucket : ℕ) (listing : Listing) (recs : List Rec)
    (result : Result Bool Stop) → recs ≡ major_recs recs_of bucket listing
    → IfOk result (λ some. IfSome recs (IsStagedIn trail task.job (base_of task) bucket)) → IfOk result (λ some. some ≡ false → recs ≡ [])
    → IfOk result (λ some. some ≡ true → recs ≡ [] → ⊥) → IfOk result (HasMajorStaged trail task recs_of bucket listing)
major-so trail task recs_of bucket listing recs (Ok some) same staged none rows = record {
  staged = subst (λ (rs : List Rec). IfSome rs (IsStagedIn trail task.job (base_of task) bucket)) same staged;
  none = λ e. sym same ∙ none e;
  rows = λ e empty. rows e (same ∙ empty);
}
major-so trail task recs_of bucket listing recs (Err why) same staged none rows = tt

-- ---- all of a base

pub all-by-some : (trail : List TrailItem) (task : Task) (listing : Listing) (some : Bool) → task.kind ≡ kind.Major → some ≡ true
    → HasWrittenBase trail task listing some → HasStagedAll trail task.job
all-by-some trail task listing some is so written = λ now front book.
    base-staged now task listing (lists-later trail now task listing front written.lists) is book
    (base-later trail now task written.lists.recs_of (buckets_of listing.inserts.items) listing true front
    (subst (HasBaseStaged trail task written.lists.recs_of (buckets_of listing.inserts.items) listing) so written.staged))

pub all-by-bare : (before mid : List TrailItem) (task : Task) (listing : Listing) (some : Bool) → task.kind ≡ kind.Major → some ≡ false
    → IsFront before mid → HasWrittenBase before task listing some → IsStagedIn mid task.job (base_of task) 0 → HasStagedAll mid task.job
all-by-bare before mid task listing some is so front written staged = λ now later book.
    let whole = front-more before mid now front later in
    bare-staged now task listing (lists-later before now task listing whole written.lists) is book
    (base-later before now task written.lists.recs_of (buckets_of listing.inserts.items) listing false whole
    (subst (HasBaseStaged before task written.lists.recs_of (buckets_of listing.inserts.items) listing) so written.staged))
    (staged-later mid now task.job (base_of task) 0 later staged)

pub written-base : (before now : List TrailItem) (task : Task) (listing : Listing) (some : Bool) (files : List DirFile) (buckets : ℕ)
    → IsFront before now → files ≡ listing.inserts.items → buckets ≡ buckets_of files → (lists : ListsJob before task listing)
    → HasBaseStaged now task lists.recs_of buckets listing some → HasWrittenBase now task listing some
written-base before now task listing some files buckets front are count lists base = record {
  lists = lists-later before now task listing front lists;
  staged =
      subst (λ (n : ℕ). HasBaseStaged now task lists.recs_of n listing some) (count ∙ ap buckets_of are) base;
}

pub all-by-kinds : (before mid then_ : List TrailItem) (task : Task) (listing : Listing) (rows gone : ℕ) (inserts deletes : List DirFile)
    → task.kind ≡ kind.Minor → IsFront before mid → IsFront mid then_ → inserts ≡ listing.inserts.items
    → deletes ≡ listing.deletes.items → rows ≡ buckets_of inserts → gone ≡ buckets_of deletes → (lists : ListsJob before task listing)
    → HasKindStaged mid task lists.recs_of false rows listing → HasKindStaged then_ task lists.recs_of true gone listing
    → HasStagedAll then_ task.job
all-by-kinds before mid then_ task listing rows gone inserts deletes is front more ins del count counted lists first next = λ now later book.
    minor-staged now task listing (lists-later before now task listing (front-more before then_ now (front-more before mid then_ front more) later) lists)
    is book
    (kind-later mid now task lists.recs_of false (buckets_of listing.inserts.items) listing (front-more mid then_ now more later)
    (subst (λ (n : ℕ). HasKindStaged mid task lists.recs_of false n listing) (count ∙ ap buckets_of ins) first))
    (kind-later then_ now task lists.recs_of true (buckets_of listing.deletes.items) listing later
    (subst (λ (n : ℕ). HasKindStaged then_ task lists.recs_of true n listing) (counted ∙ ap buckets_of del) next))

pub ok-under : {T E : Type 0} (r : Result T E) (A P : Type 0) → (A → IfOk r (λ x. P)) → IfOk r (λ x. A → P)
ok-under (Ok x) A P holds = holds
ok-under (Err why) A P holds = tt
