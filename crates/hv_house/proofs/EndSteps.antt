-- The steps by which an opening ends a job: what is noted, what goes before that, and what stands where a step stops.
use Rattle.std.proofs.Common.{◌≡◌, ◌⊎◌, inl, inr, ℕ, ◌+◌, ◌<◌, ◌≤◌, Bool, true, false, true≢false, Option, Some, None, Result, Ok, Err, IsErr, IsErrOf, is_err, List, [], ◌∷◌, ◌++◌, length, refl, sym, ap, ◌∙◌, subst, arith, append-nil}
use Rattle.std.specs.Prelude.{◌&&◌, OnOk, OnErr}
use Rattle.hv_base.specs.Told.{Tells, Moves}
use Rattle.hv_base.specs.Faults.{Rose}
use Rattle.hv_base.specs.declared.failure.Failed.{Failed}
use Rattle.hv_base.proofs.ToldLemmas.{Moves-then, Moves-weaken, Moves-same}
use Rattle.hv_shelf.specs.declared.place.DirAt.{DirAt}
use Rattle.hv_shelf.specs.Disk.{Store, Tree}
use Rattle.hv_history.specs.declared.entry.Entry.{Entry}
use Rattle.hv_history.specs.Journal.{place_of, Reads, IsJournal}
use Rattle.hv_history.specs.State.{State, Job, numbered, nothing_yet, state_of}
use Rattle.hv_history.specs.Legal.{AllFit}
use Rattle.hv_history.specs.JobsFit.{is_live_job}
use Rattle.hv_history.specs.Spelling.{entry_spelling}
use Rattle.hv_history.specs.Book.{tree_of_entry}
use Rattle.hv_journal.specs.Appending.{Holds, ReadsMore, KeepsTree}
use Rattle.hv_finals.specs.hv_law_made.specs.Opening.{is_to_publish, failing_dirs, SomeGo, AllGo, EitherBy, JobsGo}
use Rattle.hv_finals.specs.hv_law_made.proofs.GoingStands.{all-some}
use Rattle.hv_book.specs.declared.jobs.JobRange.{JobRange}
use Rattle.hv_finals.specs.declared.ending.JobEnd.{JobEnd}
use Rattle.hv_finals.specs.declared.ending.JobEnd.TheVariants as its_end
use Rattle.hv_finals.specs.Finals.{CanName, works_at, DirsGo, SomeDirsGo, CallsCause, entry_of, entries_of_end, end_entries, is_publication}
use Rattle.hv_finals.proofs.CallLemmas.{calls-none, calls-as}
use Rattle.hv_finals.proofs.EndLemmas.{EndsAs}
use Rattle.hv_house.specs.declared.boot.BootFault.{BootFault}
use Rattle.hv_house.specs.declared.boot.BootFault.TheVariants as fault
use Rattle.hv_house.specs.declared.fault.HouseFault.{HouseFault}
use Rattle.hv_house.specs.declared.fault.HouseFault.TheVariants as house
use Rattle.hv_house.specs.declared.house.House.{House}
use Rattle.hv_house.specs.Faults.{HasRisen, HardStep, EndsRun}
use Rattle.hv_house.specs.House.{entries_of, IsKept, IsNoted, IsHalted, Leaves, IsBeside}
use Rattle.hv_house.specs.Steps.{KeepsMarks, ClosesBy}
use Rattle.hv_house.specs.Booting.{boot_fault}
use Rattle.hv_house.specs.Ending.{IsSame, JobGoes, SomeJobGoes, JobDirsGo, SomeJobDirsGo, GoesAs, BeginsAs, IsGivingUp, EndGoes, EndBegins, StopsAt, EndsBoot, gauged, ends_by, EndStep}
use Rattle.hv_house.proofs.Lengths.{short_gone, short_left, short_published}
use Rattle.hv_house.proofs.Boots.{reads-journal}

-- ---- what is told, and results

pub moves-tells : {A : Type 0} (P : A → A → Type 0) (Q : A → Type 0) (a b : Option A) → Moves P a b → Tells b Q → Moves (λ s t. P s t × Q t) a b
moves-tells P Q None None p q = tt
moves-tells P Q None (Some t) p q = absurd p
moves-tells P Q (Some s) None p q = absurd p
moves-tells P Q (Some s) (Some t) p q = (p, q)

pub tells-moves : {A : Type 0} (P : A → A → Type 0) (Q : A → Type 0) (a b : Option A) → Tells a Q → Moves P a b → Moves (λ s t. Q s × P s t) a b
tells-moves P Q None None q p = tt
tells-moves P Q None (Some t) q p = absurd p
tells-moves P Q (Some s) None q p = absurd p
tells-moves P Q (Some s) (Some t) q p = (q, p)

-- what is told behind a move
pub tells-behind : {A : Type 0} (P : A → A → Type 0) (Q R : A → Type 0) → ((s t : A) → Q s → P s t → R t) → (a b : Option A) → Tells a Q → Moves P a b → Tells b R
tells-behind P Q R then None None q p = tt
tells-behind P Q R then None (Some t) q p = absurd p
tells-behind P Q R then (Some s) None q p = tt
tells-behind P Q R then (Some s) (Some t) q p = then s t q p

pub tells-also : {A : Type 0} (Q R : A → Type 0) → ((s : A) → Q s → R s) → (a : Option A) → Tells a Q → Tells a R
tells-also Q R also None q = tt
tells-also Q R also (Some s) q = also s q

pub ok-also : {T E : Type 0} (r : Result T E) (P Q : Type 0) → (P → Q) → OnOk r P → OnOk r Q
ok-also (Ok x) P Q also p = also p
ok-also (Err e) P Q also p = tt

pub err-also : {T E : Type 0} (r : Result T E) (P Q : Type 0) → (P → Q) → OnErr r P → OnErr r Q
err-also (Ok x) P Q also p = tt
err-also (Err e) P Q also p = also p

pub same-marks : {D : Type 0} (h : House D) → KeepsMarks h h
same-marks h = record { start = refl; marks = refl; left = refl; limits = refl; starved = refl }

pub marks-then : {D : Type 0} (a b c : House D) → KeepsMarks a b → KeepsMarks b c → KeepsMarks a c
marks-then a b c first next = record {
  start = next.start ∙ first.start;
  marks = next.marks ∙ first.marks;
  left = next.left ∙ first.left;
  limits = next.limits ∙ first.limits;
  starved = next.starved ∙ first.starved;
}

-- ---- one that is noted

not-failed : {T : Type 0} (x : T) → IsErrOf {E = BootFault} (Ok x) fault.Store → ⊥
not-failed x is = cc

store-is : {T : Type 0} (why : BootFault) → IsErrOf {T = T} (Err why) fault.Store → why ≡ fault.Store
store-is why is = cc

pub ends-boot : (why : HouseFault) → EndsBoot (boot_fault why)
ends-boot house.Store = tt
ends-boot (house.Failed count) = tt
ends-boot house.NoMemory = tt

pub faults-rise : (why : HouseFault) (count count' : ℕ) → EndsRun why → HasRisen count count' why → boot_fault why ≡ fault.Store → Rose count count'
faults-rise house.Store count count' ends risen is = risen
faults-rise house.NoMemory count count' ends risen is = let never : ⊥ = cc in absurd never
faults-rise (house.Failed n) count count' ends risen is = absurd ends

pub hard-rises : (why : HouseFault) (hard hard' : ℕ) (was now : Bool) → EndsRun why → ClosesBy why was now → HardStep hard hard' was now → was ≡ false
    → boot_fault why ≡ fault.Store → Rose hard hard'
hard-rises house.Store hard hard' was now ends closes step running is = step.shuts running closes
hard-rises house.NoMemory hard hard' was now ends closes step running is = let never : ⊥ = cc in absurd never
hard-rises (house.Failed n) hard hard' was now ends closes step running is = absurd ends

module _ (book : List Entry) (e : Entry) where
  read-stops : (s t : Store) → KeepsTree s t → ReadsMore book (e ∷ []) t.journal → StopsAt IsSame IsSame book (e ∷ []) s t
  read-stops s t same (inl reads) = inl (same, reads-journal book t.journal reads)
  read-stops s t same (inr reads) = inr (same, reads-journal (book ++ e ∷ []) t.journal reads)

  halted-stops : (why : HouseFault) (a b : Option Store) → Moves KeepsTree a b → Leaves why (e ∷ []) b book → Moves (StopsAt IsSame IsSame book (e ∷ [])) a b
  halted-stops house.NoMemory a b same leaves =
      Moves-weaken (λ s t. KeepsTree s t × Reads book t.journal) (StopsAt IsSame IsSame book (e ∷ []))
      (λ s t both. inl (both.0, reads-journal book t.journal both.1)) a b (moves-tells KeepsTree (λ t. Reads book t.journal) a b same leaves)
  halted-stops house.Store a b same leaves =
      Moves-weaken (λ s t. KeepsTree s t × ReadsMore book (e ∷ []) t.journal) (StopsAt IsSame IsSame book (e ∷ []))
      (λ s t both. read-stops s t both.0 both.1) a b (moves-tells KeepsTree (λ t. ReadsMore book (e ∷ []) t.journal) a b same leaves)
  halted-stops (house.Failed count) a b same leaves = absurd leaves

module _ {D : Type 0} (told : D → Option Store) (faults hard : D → ℕ) (e : Entry) (before now : House D) where
  pub noted-step : IsNoted told e before now → KeepsMarks before now → faults before.shelf ≤ faults now.shelf → hard before.shelf ≤ hard now.shelf
      → EndStep (gauged told faults hard) (ends_by IsSame IsSame (e ∷ [])) before now (Ok tt)
  noted-step noted marks later hard_later = record {
    kept = noted.kept;
    entries = noted.entries;
    went =
        Moves-weaken KeepsTree (λ s t. IsSame s.tree t.tree) (λ s t same. same) (told before.shelf) (told now.shelf) noted.tree;
    stops = tt;
    one = tt;
    ends = tt;
    marks = marks;
    cause = record {
      later = later;
      hard_later = hard_later;
      failed = λ is. absurd (not-failed tt is);
      failed_hard = λ is. absurd (not-failed tt is);
    };
  }

  pub halted-step : (why : HouseFault) → IsHalted told e why before now → KeepsMarks before now → ClosesBy why before.trail.closed now.trail.closed → EndsRun why
      → faults before.shelf ≤ faults now.shelf → HasRisen (faults before.shelf) (faults now.shelf) why
      → HardStep (hard before.shelf) (hard now.shelf) before.trail.closed now.trail.closed → before.trail.closed ≡ false
      → EndStep (gauged told faults hard) (ends_by IsSame IsSame (e ∷ [])) before now (Err (boot_fault why))
  halted-step why halted marks closes ends later risen step running = record {
    kept = tt;
    entries = tt;
    went = tt;
    stops = halted-stops (entries_of before) e why (told before.shelf) (told now.shelf) halted.tree halted.leaves;
    one = (e, refl);
    ends = ends-boot why;
    marks = marks;
    cause = record {
      later = later;
      hard_later = step.later;
      failed = λ is. faults-rise why (faults before.shelf) (faults now.shelf) ends risen (store-is {T = Unit {0}} (boot_fault why) is);
      failed_hard = λ is.
          inl (hard-rises why (hard before.shelf) (hard now.shelf) before.trail.closed now.trail.closed ends closes step running
          (store-is {T = Unit {0}} (boot_fault why) is));
    };
  }

-- an error that `?` passes on, by what it is called there
pub raised-step : {D : Type 0} (told : D → Option Store) (faults hard : D → ℕ) (begins goes : Tree → Tree → Type 0) (more : List Entry) (before now : House D)
    (why left : BootFault) (result : Result (Unit {0}) BootFault) → result ≡ Err left → left ≡ why
    → EndStep (gauged told faults hard) (ends_by begins goes more) before now (Err why)
    → EndStep (gauged told faults hard) (ends_by begins goes more) before now result
raised-step told faults hard begins goes more before now why left result is same step =
    subst (EndStep (gauged told faults hard) (ends_by begins goes more) before now) (sym (is ∙ ap (λ (f : BootFault). Err f) same)) step

-- by other words for how files go, and for what is noted
pub step-as : {D : Type 0} (told : D → Option Store) (faults hard : D → ℕ) (begins goes begins' goes' : Tree → Tree → Type 0) (more more' : List Entry)
    (before now : House D) (result : Result (Unit {0}) BootFault) → ((a b : Tree) → begins a b → begins' a b) → ((a b : Tree) → goes a b → goes' a b)
    → more ≡ more' → EndStep (gauged told faults hard) (ends_by begins goes more) before now result
    → EndStep (gauged told faults hard) (ends_by begins' goes' more') before now result
step-as told faults hard begins goes begins' goes' more more' before now result begin go same step =
    subst (λ (es : List Entry). EndStep (gauged told faults hard) (ends_by begins' goes' es) before now result) same (record {
      kept = step.kept;
      entries = step.entries;
      went =
          ok-also result (Moves (λ s t. goes s.tree t.tree) (told before.shelf) (told now.shelf))
          (Moves (λ s t. goes' s.tree t.tree) (told before.shelf) (told now.shelf))
          (Moves-weaken (λ s t. goes s.tree t.tree) (λ s t. goes' s.tree t.tree) (λ s t went. go s.tree t.tree went) (told before.shelf) (told now.shelf))
          step.went;
      stops =
          err-also result (Moves (StopsAt begins goes (entries_of before) more) (told before.shelf) (told now.shelf))
          (Moves (StopsAt begins' goes' (entries_of before) more) (told before.shelf) (told now.shelf))
          (Moves-weaken (StopsAt begins goes (entries_of before) more) (StopsAt begins' goes' (entries_of before) more) stops-as (told before.shelf)
          (told now.shelf))
          step.stops;
      one = step.one;
      ends = step.ends;
      marks = step.marks;
      cause = step.cause;
    })
  where
    stops-as : (s t : Store) → StopsAt begins goes (entries_of before) more s t → StopsAt begins' goes' (entries_of before) more s t
    stops-as s t (inl reaches) = inl (begin s.tree t.tree reaches.0, reaches.1)
    stops-as s t (inr reaches) = inr (go s.tree t.tree reaches.0, reaches.1)

-- ---- what goes before one has failed

-- directories of a job that go are those that go of it
pub job-goes : (book : List Entry) (n : ℕ) (dirs : List DirAt) (a b : Option Store)
    → ((job : Job) → numbered (state_of book).jobs n ≡ Some job → dirs ≡ failing_dirs (state_of book) n job)
    → Moves (DirsGo dirs) a b → Moves (JobDirsGo book n) a b
job-goes book n dirs a b are moves =
    Moves-weaken (DirsGo dirs) (JobDirsGo book n)
    (λ s t went. record { gone = λ job at. subst (λ (ds : List DirAt). AllGo ds s.tree t.tree) (are job at) went.gone; journal_is = went.journal_is }) a b moves

pub some-job-goes : (book : List Entry) (n : ℕ) (dirs : List DirAt) (a b : Option Store)
    → ((job : Job) → numbered (state_of book).jobs n ≡ Some job → dirs ≡ failing_dirs (state_of book) n job)
    → Moves (SomeDirsGo dirs) a b → Moves (SomeJobDirsGo book n) a b
some-job-goes book n dirs a b are moves =
    Moves-weaken (SomeDirsGo dirs) (SomeJobDirsGo book n)
    (λ s t went. record { gone = λ job at. subst (λ (ds : List DirAt). SomeGo ds s.tree t.tree) (are job at) went.gone; journal_is = went.journal_is }) a b moves

none-goes : (dirs : List DirAt) (files : Tree) → SomeGo dirs files files
none-goes dirs files = record { less = λ place bytes there. there; same = λ place without. refl }

pub no-job-goes : (book : List Entry) (n : ℕ) (a : Option Store) → Moves (SomeJobDirsGo book n) a a
no-job-goes book n a =
    Moves-same (SomeJobDirsGo book n) (λ s. record { gone = λ job at. none-goes (failing_dirs (state_of book) n job) s.tree; journal_is = refl }) a

-- a job's entries have no tree, and are short
pub failed-bare : (n : ℕ) (gone : Bool) (e : Entry) → e ≡ entry_of n (its_end.Failed gone) → tree_of_entry e ≡ None
failed-bare n true e is = ap tree_of_entry is
failed-bare n false e is = ap tree_of_entry is

pub failed-short : (n : ℕ) (gone : Bool) (e : Entry) → e ≡ entry_of n (its_end.Failed gone) → length (entry_spelling e) ≤ 65536
failed-short n true e is = subst (λ (x : Entry). length (entry_spelling x) ≤ 65536) (sym is) (short_gone (record { 0 = n }))
failed-short n false e is = subst (λ (x : Entry). length (entry_spelling x) ≤ 65536) (sym is) (short_left (record { 0 = n }))

pub published-bare : (n : ℕ) (range : JobRange) (e : Entry) → e ≡ entry_of n (its_end.Published range) → tree_of_entry e ≡ None
published-bare n range e is = ap tree_of_entry is

pub published-short : (n : ℕ) (range : JobRange) (e : Entry) → e ≡ entry_of n (its_end.Published range) → length (entry_spelling e) ≤ 65536
published-short n range e is =
    subst (λ (x : Entry). length (entry_spelling x) ≤ 65536) (sym is)
    (short_published (record { 0 = n }) (record { 0 = range.low }) (record { 0 = range.high }) (record { 0 = range.mark }))

journal-left : (book : List Entry) (n : ℕ) (s t : Store) → Reads book s.journal → SomeJobDirsGo book n s t → IsJournal book t.journal
journal-left book n s t reads went = subst (IsJournal book) (sym went.journal_is) (reads-journal book s.journal reads)

module _ {D : Type 0} (told : D → Option Store) (faults hard : D → ℕ) (n : ℕ) where
  -- it stopped while they went
  pub cleared-stops : (e : Entry) (before now : House D) (why : BootFault) → IsKept told before
      → Moves (SomeJobDirsGo (entries_of before) n) (told before.shelf) (told now.shelf) → KeepsMarks before now
      → CallsCause (IsErrOf {T = Unit {0}} (Err why) fault.Store) (faults before.shelf) (faults now.shelf) (hard before.shelf) (hard now.shelf) → EndsBoot why
      → EndStep (gauged told faults hard) (ends_by (SomeJobGoes (entries_of before) n) (JobGoes (entries_of before) n) (e ∷ [])) before now (Err why)
  cleared-stops e before now why kept moves marks cause ends = record {
    kept = tt;
    entries = tt;
    went = tt;
    stops =
        Moves-weaken (λ s t. Reads (entries_of before) s.journal × SomeJobDirsGo (entries_of before) n s t)
        (StopsAt (SomeJobGoes (entries_of before) n) (JobGoes (entries_of before) n) (entries_of before) (e ∷ []))
        (λ s t both. inl (both.1.gone, journal-left (entries_of before) n s t both.0 both.1)) (told before.shelf) (told now.shelf)
        (tells-moves (SomeJobDirsGo (entries_of before) n) (λ s. Reads (entries_of before) s.journal) (told before.shelf) (told now.shelf) kept.reads moves);
    one = (e, refl);
    ends = ends;
    marks = marks;
    cause = record {
      later = cause.later;
      hard_later = cause.hard_later;
      failed = cause.failed;
      failed_hard = λ is.
          inr (tells-behind (SomeJobDirsGo (entries_of before) n) (λ s. Reads (entries_of before) s.journal) (λ t. IsJournal (entries_of before) t.journal)
          (journal-left (entries_of before) n) (told before.shelf) (told now.shelf) kept.reads moves);
    };
  }

  -- they went, and then something was to be noted
  module _ (more : List Entry) (before mid now : House D) (result : Result (Unit {0}) BootFault) (beside : IsBeside before mid)
      (went : Moves (JobDirsGo (entries_of before) n) (told before.shelf) (told mid.shelf)) where
    abbrev first : List Entry
    first = entries_of before

    same-book : entries_of mid ≡ first
    same-book = ap (λ b. b.entries) beside.book

    noted-then : (s m t : Store) → JobDirsGo first n s m → StopsAt IsSame IsSame (entries_of mid) more m t
        → StopsAt (SomeJobGoes first n) (JobGoes first n) first more s t
    noted-then s m t gone (inl reaches) =
        inl (
          λ job at.
              all-some (failing_dirs (state_of first) n job) s.tree t.tree
              (subst (λ (files : Tree). AllGo (failing_dirs (state_of first) n job) s.tree files) (sym reaches.0) (gone.gone job at)),
          subst (λ (b : List Entry). IsJournal b t.journal) same-book reaches.1,
        )
    noted-then s m t gone (inr reaches) =
        inr (
          λ job at. subst (λ (files : Tree). AllGo (failing_dirs (state_of first) n job) s.tree files) (sym reaches.0) (gone.gone job at),
          subst (λ (b : List Entry). IsJournal (b ++ more) t.journal) same-book reaches.1,
        )

    pub gone-then : KeepsMarks before mid
        → CallsCause (IsErrOf {T = Unit {0}} {E = BootFault} (Ok tt) fault.Store) (faults before.shelf) (faults mid.shelf) (hard before.shelf) (hard mid.shelf)
        → EndStep (gauged told faults hard) (ends_by IsSame IsSame more) mid now result
        → EndStep (gauged told faults hard) (ends_by (SomeJobGoes first n) (JobGoes first n) more) before now result
    gone-then marks cause step = record {
      kept = step.kept;
      entries =
          ok-also result (entries_of now ≡ entries_of mid ++ more) (entries_of now ≡ first ++ more)
          (λ is. is ∙ ap (λ (b : List Entry). b ++ more) same-book) step.entries;
      went =
          ok-also result (Moves (λ s t. IsSame s.tree t.tree) (told mid.shelf) (told now.shelf))
          (Moves (λ s t. JobGoes first n s.tree t.tree) (told before.shelf) (told now.shelf))
          (Moves-then (JobDirsGo first n) (λ s t. IsSame s.tree t.tree) (λ s t. JobGoes first n s.tree t.tree)
          (λ s m t gone same job at. subst (λ (files : Tree). AllGo (failing_dirs (state_of first) n job) s.tree files) (sym same) (gone.gone job at))
          (told before.shelf) (told mid.shelf) (told now.shelf) went)
          step.went;
      stops =
          err-also result (Moves (StopsAt IsSame IsSame (entries_of mid) more) (told mid.shelf) (told now.shelf))
          (Moves (StopsAt (SomeJobGoes first n) (JobGoes first n) first more) (told before.shelf) (told now.shelf))
          (Moves-then (JobDirsGo first n) (StopsAt IsSame IsSame (entries_of mid) more) (StopsAt (SomeJobGoes first n) (JobGoes first n) first more)
          noted-then (told before.shelf) (told mid.shelf) (told now.shelf) went)
          step.stops;
      one = step.one;
      ends = step.ends;
      marks = marks-then before mid now marks step.marks;
      cause = record {
        later = (let low = cause.later in let high = step.cause.later in omega (arith, low, high));
        hard_later = (let low = cause.hard_later in let high = step.cause.hard_later in omega (arith, low, high));
        failed = λ is.
            let low = cause.later in
            let risen : Rose (faults mid.shelf) (faults now.shelf) = step.cause.failed is in
            omega (arith, low, risen);
        failed_hard = λ is. hard-then (step.cause.failed_hard is) cause.hard_later;
      };
    }
      where
        hard-then : Rose (hard mid.shelf) (hard now.shelf) ⊎ Tells (told now.shelf) (λ t. IsJournal (entries_of mid) t.journal) → hard before.shelf ≤ hard mid.shelf
            → Rose (hard before.shelf) (hard now.shelf) ⊎ Tells (told now.shelf) (λ t. IsJournal first t.journal)
        hard-then (inl risen) low = inl (omega (arith, low, risen))
        hard-then (inr journal) low = inr (subst (λ (b : List Entry). Tells (told now.shelf) (λ t. IsJournal b t.journal)) same-book journal)

-- ---- what is asked of each call

-- counts of calls that didn't fail, of one that failed, and where memory lacked
pub fine-calls : (F : Type 0) (faults faults' hard hard' : ℕ) → CallsCause F faults faults' hard hard'
    → CallsCause (IsErrOf {T = Unit {0}} {E = BootFault} (Ok tt) fault.Store) faults faults' hard hard'
fine-calls F faults faults' hard hard' cause =
    calls-as F (IsErrOf {T = Unit {0}} {E = BootFault} (Ok tt) fault.Store) faults faults' hard hard' (λ is. absurd (not-failed tt is)) cause

pub failed-calls : (r : Result (Unit {0}) Failed) (x : Failed) (faults faults' hard hard' : ℕ) → r ≡ Err x → CallsCause (IsErr r) faults faults' hard hard'
    → CallsCause (IsErrOf {T = Unit {0}} (Err fault.Store) fault.Store) faults faults' hard hard'
failed-calls r x faults faults' hard hard' at cause =
    calls-as (IsErr r) (IsErrOf {T = Unit {0}} (Err fault.Store) fault.Store) faults faults' hard hard' (λ is. ap is_err at) cause

no-memory : IsErrOf {T = Unit {0}} (Err fault.NoMemory) fault.Store → ⊥
no-memory is = cc

pub lacking-calls : (faults hard : ℕ) → CallsCause (IsErrOf {T = Unit {0}} (Err fault.NoMemory) fault.Store) faults faults hard hard
lacking-calls faults hard = calls-none (IsErrOf {T = Unit {0}} (Err fault.NoMemory) fault.Store) faults hard (λ is. no-memory is)

-- what is said of the directories of a job, of the same book by another word
pub dirs-of : (book other : List Entry) (n : ℕ) (dirs given : List DirAt) → other ≡ book → given ≡ dirs
    → ((job : Job) → numbered (state_of other).jobs n ≡ Some job → dirs ≡ failing_dirs (state_of other) n job)
    → (job : Job) → numbered (state_of book).jobs n ≡ Some job → given ≡ failing_dirs (state_of book) n job
dirs-of book other n dirs given same is are =
    subst (λ (b : List Entry). (job : Job) → numbered (state_of b).jobs n ≡ Some job → given ≡ failing_dirs (state_of b) n job) same
    (λ job at. is ∙ are job at)

pub end-is : (book other : List Entry) (whole : List ℕ) (n : ℕ) (result found : Option JobEnd) → other ≡ book → result ≡ found
    → entries_of_end n result ≡ end_entries whole (state_of other) n (numbered (state_of other).jobs n)
    → entries_of_end n found ≡ end_entries whole (state_of book) n (numbered (state_of book).jobs n)
end-is book other whole n result found same is end =
    sym (ap (entries_of_end n) is) ∙ end ∙ ap (λ (b : List Entry). end_entries whole (state_of b) n (numbered (state_of b).jobs n)) same

pub can-name : {D : Type 0} (told : D → Option Store) (h : House D) → IsKept told h → AllFit h.limits nothing_yet (entries_of h) → CanName (entries_of h)
can-name told h kept fit = record { limits = h.limits; fit = fit; few = (let few = kept.few in omega (arith, few)) }

-- the house is kept when they went
pub kept-beside : {D : Type 0} (told : D → Option Store) (n : ℕ) (before mid : House D) → IsBeside before mid
    → Moves (JobDirsGo (entries_of before) n) (told before.shelf) (told mid.shelf) → IsKept told before → IsKept told mid
kept-beside told n before mid beside went kept =
    let same : entries_of mid ≡ entries_of before = ap (λ b. b.entries) beside.book in
    record {
      place = beside.place ∙ kept.place ∙ ap place_of (sym same);
      near = (let near = kept.near in omega (arith, near, beside.place, ap length same));
      few = (let few = kept.few in omega (arith, few, ap length same));
      reads =
          subst (λ (b : List Entry). Holds (told mid.shelf) b) (sym same)
          (tells-behind (JobDirsGo (entries_of before) n) (λ s. Reads (entries_of before) s.journal) (λ t. Reads (entries_of before) t.journal)
          (λ s t reads gone. subst (Reads (entries_of before)) (sym gone.journal_is) reads) (told before.shelf) (told mid.shelf) kept.reads went);
      running = ap (λ b. b.closed) beside.book ∙ kept.running;
      fed = ap (λ b. b.starved) beside.book ∙ kept.fed;
    }

-- ---- how it ends

module _ {D : Type 0} (told : D → Option Store) (faults hard : D → ℕ) (n : ℕ) (end : JobEnd) (before now : House D) (result : Result (Unit {0}) BootFault) where
  abbrev AsEnd : JobEnd → Type 0
  AsEnd it =
      EndStep (gauged told faults hard)
      (ends_by (BeginsAs (entries_of before) n (is_publication it)) (GoesAs (entries_of before) n (is_publication it)) (entry_of n it ∷ [])) before now result

  pub as-published : (range : JobRange) (e : Entry) → end ≡ its_end.Published range → e ≡ entry_of n (its_end.Published range)
      → EndStep (gauged told faults hard) (ends_by IsSame IsSame (e ∷ [])) before now result → AsEnd end
  as-published range e is same step =
      subst AsEnd (sym is) (subst (λ (x : Entry). EndStep (gauged told faults hard) (ends_by IsSame IsSame (x ∷ [])) before now result) same step)

  pub as-failed : (gone : Bool) → end ≡ its_end.Failed gone
      → EndStep (gauged told faults hard)
      (ends_by (SomeJobGoes (entries_of before) n) (JobGoes (entries_of before) n) (entry_of n (its_end.Failed gone) ∷ [])) before now result → AsEnd end
  as-failed gone is step = subst AsEnd (sym is) step

-- of its number
module _ (book : List Entry) (whole : List ℕ) (n : ℕ) where
  abbrev state : State
  state = state_of book

  abbrev found : Option Job
  found = numbered state.jobs n

  module _ (it : JobEnd) (how : EndsAs whole state n it) (a b : Tree) where
    abbrev Goes : Type 0
    Goes = (middle : Tree) × AllGo (failing_dirs state n how.job) a middle × (b ≡ middle)

    begins-as : BeginsAs book n (is_publication it) a b → EndBegins whole state n found a b
    begins-as begins = subst (λ (o : Option Job). EndBegins whole state n o a b) (sym how.is) (by (is_publication it) refl begins)
      where
        by : (k : Bool) → is_publication it ≡ k → BeginsAs book n k a b → IsSame a b ⊎ IsGivingUp whole state n how.job a b
        by true e same = inl same
        by false e some = inr (record { working = how.working; unpublished = sym how.publishes ∙ e; some = some how.job how.is })

    one-goes : (k : Bool) → is_publication it ≡ k → EitherBy k (b ≡ a) Goes → JobsGo whole state n (how.job ∷ []) a b
    one-goes k e goes =
        subst (λ w. EitherBy w (EitherBy (is_live_job state how.job && is_to_publish whole state n how.job) (b ≡ a) Goes) (b ≡ a)) (sym how.working)
        (subst (λ p. EitherBy p (b ≡ a) Goes) (sym e ∙ how.publishes) goes)

    goes-as : GoesAs book n (is_publication it) a b → EndGoes whole state n found a b
    goes-as goes = subst (λ (o : Option Job). EndGoes whole state n o a b) (sym how.is) (by (is_publication it) refl goes)
      where
        by : (k : Bool) → is_publication it ≡ k → GoesAs book n k a b → JobsGo whole state n (how.job ∷ []) a b
        by true e same = one-goes true e same
        by false e all = one-goes false e (b, all how.job how.is, refl)

  idle-goes : (o : Option Job) → works_at o ≡ false → (a : Tree) → EndGoes whole state n o a a
  idle-goes None idle a = refl
  idle-goes (Some j) idle a =
      subst (λ w. EitherBy w
      (EitherBy (is_live_job state j && is_to_publish whole state n j) (a ≡ a) ((middle : Tree) × AllGo (failing_dirs state n j) a middle × (a ≡ middle))) (a ≡ a))
      (sym idle) refl

  pub room-one : (it : JobEnd) (limit : ℕ) → entries_of_end n (Some it) ≡ end_entries whole state n found
      → length book + length (end_entries whole state n found) ≤ limit → length book < limit
  room-one it limit is room =
      let one : 1 ≡ length (end_entries whole state n found) = ap length is in
      omega (arith, one, room)

module _ {D : Type 0} (told : D → Option Store) (faults hard : D → ℕ) (whole : List ℕ) (n : ℕ) (before : House D) where
  abbrev its : State
  its = state_of (entries_of before)

  -- it ends so
  pub ended-step : (it : JobEnd) (now : House D) (result : Result (Unit {0}) BootFault) → EndsAs whole its n it
      → entries_of_end n (Some it) ≡ end_entries whole its n (numbered its.jobs n) → AsEnd told faults hard n it before now result it
      → EndStep (gauged told faults hard) (ends_by (EndBegins whole its n (numbered its.jobs n)) (EndGoes whole its n (numbered its.jobs n))
      (end_entries whole its n (numbered its.jobs n))) before now result
  ended-step it now result how is step =
      step-as told faults hard (BeginsAs (entries_of before) n (is_publication it)) (GoesAs (entries_of before) n (is_publication it))
      (EndBegins whole its n (numbered its.jobs n)) (EndGoes whole its n (numbered its.jobs n)) (entry_of n it ∷ []) (end_entries whole its n (numbered its.jobs n))
      before now result (begins-as (entries_of before) whole n it how) (goes-as (entries_of before) whole n it how) is step

  -- it isn't at work
  pub idle-step : IsKept told before → works_at (numbered its.jobs n) ≡ false → entries_of_end n None ≡ end_entries whole its n (numbered its.jobs n)
      → EndStep (gauged told faults hard) (ends_by (EndBegins whole its n (numbered its.jobs n)) (EndGoes whole its n (numbered its.jobs n))
      (end_entries whole its n (numbered its.jobs n))) before before (Ok tt)
  idle-step kept idle none = record {
    kept = kept;
    entries = sym (append-nil (entries_of before)) ∙ ap (λ (es : List Entry). entries_of before ++ es) none;
    went =
        Moves-same (λ s t. EndGoes whole its n (numbered its.jobs n) s.tree t.tree)
        (λ s. idle-goes (entries_of before) whole n (numbered its.jobs n) idle s.tree) (told before.shelf);
    stops = tt;
    one = tt;
    ends = tt;
    marks = same-marks before;
    cause = record {
      later = omega arith;
      hard_later = omega arith;
      failed = λ is. absurd (not-failed tt is);
      failed_hard = λ is. absurd (not-failed tt is);
    };
  }
