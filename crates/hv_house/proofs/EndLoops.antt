-- The loop over the jobs: so many have ended.
use Rattle.std.proofs.Common.{◌≡◌, ◌⊎◌, inl, inr, ℕ, suc, ◌+◌, ◌<◌, ◌≤◌, Bool, true, false, Option, Some, Result, Ok, Err, IsErrOf, List, [], ◌∷◌, ◌++◌, length, take, drop, refl, sym, ap, ◌∙◌, subst, arith, append_assoc, append-nil, take-append-drop, length-append}
use Rattle.std.specs.Prelude.{if◌then◌else◌, sum_by}
use Rattle.std.specs.List.{slice_get}
use Rattle.std.proofs.lemmas.List.Sums.{fold-append}
use Rattle.hv_base.specs.declared.ids.Limits.{Limits}
use Rattle.hv_base.specs.Told.{Tells, Moves}
use Rattle.hv_base.specs.Faults.{Rose}
use Rattle.hv_base.proofs.ToldLemmas.{Moves-then, Moves-weaken, Moves-same}
use Rattle.hv_shelf.specs.Disk.{Store, Tree}
use Rattle.hv_history.specs.declared.entry.Entry.{Entry}
use Rattle.hv_history.specs.Journal.{IsJournal}
use Rattle.hv_history.specs.State.{State, Job, numbered, nothing_yet, after, state_of}
use Rattle.hv_history.specs.Legal.{is_working, working_one, AllFit}
use Rattle.hv_recovery.proofs.Books.{fit_more}
use Rattle.hv_finals.specs.hv_law_made.specs.Opening.{job_end, job_ends, JobsGo}
use Rattle.hv_finals.specs.Finals.{end_entries}
use Rattle.hv_house.specs.declared.boot.BootFault.{BootFault}
use Rattle.hv_house.specs.declared.boot.BootFault.TheVariants as fault
use Rattle.hv_house.specs.declared.house.House.{House}
use Rattle.hv_house.specs.House.{entries_of, book_limit, IsKept}
use Rattle.hv_house.specs.Steps.{KeepsMarks}
use Rattle.hv_house.specs.Ending.{IsSame, IsGivingUp, EndGoes, EndBegins, StopsAt, Gauge, gauged, ends_by, EndStep, ends_of, EndsGo, state_behind, IsGivingNext, EndsStop, IsCutBefore, AllEnd}
use Rattle.hv_house.proofs.JobEnds.{jobs-beyond, end-fits, ends-many, ends-append, goes-append, job-at, take-job, split-job, take-long, take-fewer, take-past}
use Rattle.hv_house.proofs.EndSteps.{tells-also, same-marks, marks-then}

-- so many of them have ended
pub record IsEnding {D : Type 0} (told : D → Option Store) (faults hard : D → ℕ) (whole : List ℕ) (first now : House D) (i : ℕ) : Type 0 where
  pub kept : IsKept told now
  pub entries : entries_of now
      ≡ entries_of first ++ job_ends whole (state_of (entries_of first)) 1 (take i (state_of (entries_of first)).jobs)
  pub went : Moves (λ s t. JobsGo whole (state_of (entries_of first)) 1 (take i (state_of (entries_of first)).jobs) s.tree t.tree)
      (told first.shelf) (told now.shelf)
  pub fit : AllFit now.limits nothing_yet (entries_of now)
  pub marks : KeepsMarks first now
  pub later : faults first.shelf ≤ faults now.shelf
  pub hard_later : hard first.shelf ≤ hard now.shelf

pub ending-init : {D : Type 0} (told : D → Option Store) (faults hard : D → ℕ) (whole : List ℕ) (first : House D) → IsKept told first
    → AllFit first.limits nothing_yet (entries_of first) → IsEnding told faults hard whole first first 0
ending-init told faults hard whole first kept fit = record {
  kept = kept;
  entries = sym (append-nil (entries_of first));
  went = Moves-same (λ s t. JobsGo whole (state_of (entries_of first)) 1 [] s.tree t.tree) (λ s. refl) (told first.shelf);
  fit = fit;
  marks = same-marks first;
  later = omega arith;
  hard_later = omega arith;
}

-- ---- the next one, in its book

-- a book and the ends of the first ones behind it
module _ (whole : List ℕ) (book now : List Entry) (i : ℕ) (at_now : now ≡ book ++ job_ends whole (state_of book) 1 (take i (state_of book).jobs))
    (low : i < length (state_of book).jobs) where
  abbrev jobs : List Job
  jobs = (state_of book).jobs

  abbrev front : List Job
  front = take i jobs

  abbrev behind : State
  behind = state_behind whole (state_of book) front

  abbrev next : Job
  next = (job-at jobs i low).0

  there : slice_get jobs i ≡ Some next
  there = (job-at jobs i low).1

  long : length front ≡ i
  long = take-long jobs i (omega (arith, low))

  taken : take (i + 1) jobs ≡ front ++ next ∷ []
  taken =
      let one : i + 1 ≡ suc i = omega arith in
      ap (λ k. take k jobs) one ∙ take-job jobs i next there

  split : jobs ≡ front ++ next ∷ drop (suc i) jobs
  split = split-job jobs i next there

  now-is : state_of now ≡ behind
  now-is = ap state_of at_now ∙ fold-append after nothing_yet book (job_ends whole (state_of book) 1 front)

  behind-found : numbered behind.jobs (i + 1) ≡ Some next
  behind-found =
      let one : i + 1 ≡ suc i = omega arith in
      jobs-beyond whole front (state_of book) 1 (i + 1) (omega (arith, long)) ∙ ap (numbered jobs) one ∙ there

  now-found : numbered (state_of now).jobs (i + 1) ≡ Some next
  now-found = ap (λ (s : State). numbered s.jobs (i + 1)) now-is ∙ behind-found

  abbrev more : List Entry
  more = end_entries whole (state_of now) (i + 1) (numbered (state_of now).jobs (i + 1))

  -- what it notes is its end, which comes next
  more-is : more ≡ job_ends whole behind (i + 1) (next ∷ [])
  more-is =
      ap (λ (s : State). end_entries whole s (i + 1) (numbered s.jobs (i + 1))) now-is ∙ ap (end_entries whole behind (i + 1)) behind-found

  all-taken : job_ends whole (state_of book) 1 (take (i + 1) jobs) ≡ job_ends whole (state_of book) 1 front ++ more
  all-taken =
      ap (job_ends whole (state_of book) 1) taken
      ∙ ends-append whole front (next ∷ []) (state_of book) 1 (i + 1) (omega (arith, long))
      ∙ ap (λ (es : List Entry). job_ends whole (state_of book) 1 front ++ es) (sym more-is)

  next-book : now ++ more ≡ book ++ job_ends whole (state_of book) 1 (take (i + 1) jobs)
  next-book =
      ap (λ (b : List Entry). b ++ more) at_now
      ∙ append_assoc book (job_ends whole (state_of book) 1 front) more
      ∙ ap (λ (es : List Entry). book ++ es) (sym all-taken)

  goes-is : (a b : Tree) → EndGoes whole (state_of now) (i + 1) (numbered (state_of now).jobs (i + 1)) a b → JobsGo whole behind (i + 1) (next ∷ []) a b
  goes-is a b goes =
      subst (λ (o : Option Job). EndGoes whole behind (i + 1) o a b) behind-found
      (subst (λ (s : State). EndGoes whole s (i + 1) (numbered s.jobs (i + 1)) a b) now-is goes)

  begins-is : (a b : Tree) → EndBegins whole (state_of now) (i + 1) (numbered (state_of now).jobs (i + 1)) a b
      → IsSame a b ⊎ IsGivingUp whole behind (i + 1) next a b
  begins-is a b begins =
      subst (λ (o : Option Job). EndBegins whole behind (i + 1) o a b) behind-found
      (subst (λ (s : State). EndBegins whole s (i + 1) (numbered s.jobs (i + 1)) a b) now-is begins)

  goes-on : (a b c : Tree) → JobsGo whole (state_of book) 1 front a b
      → EndGoes whole (state_of now) (i + 1) (numbered (state_of now).jobs (i + 1)) b c → JobsGo whole (state_of book) 1 (take (i + 1) jobs) a c
  goes-on a b c goes end =
      subst (λ (js : List Job). JobsGo whole (state_of book) 1 js a c) (sym taken)
      (goes-append whole front (next ∷ []) (state_of book) 1 (i + 1) a b c (omega (arith, long)) goes (goes-is b c end))

  -- it stopped at this one
  stops-at : (r s t : Store) → JobsGo whole (state_of book) 1 front r.tree s.tree
      → StopsAt (EndBegins whole (state_of now) (i + 1) (numbered (state_of now).jobs (i + 1)))
      (EndGoes whole (state_of now) (i + 1) (numbered (state_of now).jobs (i + 1))) now more s t
      → EndsStop whole book r t
  stops-at r s t goes (inl reaches) = record {
    front = front;
    rest = next ∷ drop (suc i) jobs;
    parts = split;
    journal = subst (λ (b : List Entry). IsJournal b t.journal) at_now reaches.1;
    files = by (begins-is s.tree t.tree reaches.0);
  }
    where
      by : IsSame s.tree t.tree ⊎ IsGivingUp whole behind (i + 1) next s.tree t.tree
          → JobsGo whole (state_of book) 1 front r.tree t.tree ⊎ IsGivingNext whole (state_of book) front (next ∷ drop (suc i) jobs) r.tree t.tree
      by (inl same) = inl (subst (λ (files : Tree). JobsGo whole (state_of book) 1 front r.tree files) (sym same) goes)
      by (inr up) =
          inr (record {
            job = next;
            more = drop (suc i) jobs;
            rest_is = refl;
            middle = s.tree;
            goes = goes;
            up = subst (λ n. IsGivingUp whole behind (n + 1) next s.tree t.tree) (sym long) up;
          })
  stops-at r s t goes (inr reaches) = record {
    front = take (i + 1) jobs;
    rest = drop (i + 1) jobs;
    parts = sym (take-append-drop (i + 1) jobs);
    journal = subst (λ (b : List Entry). IsJournal b t.journal) next-book reaches.1;
    files = inl (goes-on r.tree s.tree t.tree goes reaches.0);
  }

  -- where there is one to note, it comes next in the opening
  cut-before : (e : Entry) → more ≡ e ∷ [] → (bytes : List ℕ) → IsJournal now bytes → IsCutBefore book (ends_of whole book) bytes
  cut-before e one bytes journal = record {
    front = job_ends whole (state_of book) 1 front;
    next = e;
    more = job_ends whole (state_behind whole (state_of book) (take (i + 1) jobs)) (i + 2) (drop (i + 1) jobs);
    parts =
        ap (job_ends whole (state_of book) 1) (sym (take-append-drop (i + 1) jobs))
        ∙ ends-append whole (take (i + 1) jobs) (drop (i + 1) jobs) (state_of book) 1 (i + 2)
        (omega (arith, take-long jobs (i + 1) (omega (arith, low))))
        ∙ ap (λ (es : List Entry). es ++ job_ends whole (state_behind whole (state_of book) (take (i + 1) jobs)) (i + 2) (drop (i + 1) jobs))
        (all-taken ∙ ap (λ (es : List Entry). job_ends whole (state_of book) 1 front ++ es) one)
        ∙ append_assoc (job_ends whole (state_of book) 1 front) (e ∷ [])
        (job_ends whole (state_behind whole (state_of book) (take (i + 1) jobs)) (i + 2) (drop (i + 1) jobs));
    journal = subst (λ (b : List Entry). IsJournal b bytes) at_now journal;
  }

  -- there is room for it
  room-next : length book + sum_by working_one jobs ≤ book_limit → length now + length more ≤ book_limit
  room-next room =
      let all = ap length next-book in
      let many = ends-many whole (take (i + 1) jobs) (state_of book) 1 in
      let fewer = take-fewer jobs (i + 1) in
      omega (arith, room, all, many, fewer, length-append now more, length-append book (job_ends whole (state_of book) 1 (take (i + 1) jobs)))

  more-by : (b : Bool) → is_working next ≡ b → more ≡ (if b then job_end whole (state_of now) (i + 1) next ∷ [] else [])
  more-by b works =
      ap (end_entries whole (state_of now) (i + 1)) now-found ∙ ap (λ k. if k then job_end whole (state_of now) (i + 1) next ∷ [] else []) works

  -- and it fits
  fits-on : (limits : Limits) → AllFit limits nothing_yet now → AllFit limits nothing_yet (now ++ more)
  fits-on limits fit = by (is_working next) refl
    where
      by : (b : Bool) → is_working next ≡ b → AllFit limits nothing_yet (now ++ more)
      by true works =
          subst (λ (es : List Entry). AllFit limits nothing_yet (now ++ es)) (sym (more-by true works))
          (fit_more limits nothing_yet now (job_end whole (state_of now) (i + 1) next) fit (end-fits limits whole (state_of now) (i + 1) next now-found works))
      by false works =
          subst (λ (es : List Entry). AllFit limits nothing_yet (now ++ es)) (sym (more-by false works))
          (subst (AllFit limits nothing_yet) (sym (append-nil now)) fit)

-- ---- over a store that tells

-- the step by which the next one ends
abbrev EndsNext : {D : Type 0} → Gauge D → List ℕ → House D → House D → ℕ → Result (Unit {0}) BootFault → Type 0
EndsNext gauge whole now next i result =
    EndStep gauge
    (ends_by (EndBegins whole (state_of (entries_of now)) (i + 1) (numbered (state_of (entries_of now)).jobs (i + 1)))
    (EndGoes whole (state_of (entries_of now)) (i + 1) (numbered (state_of (entries_of now)).jobs (i + 1)))
    (end_entries whole (state_of (entries_of now)) (i + 1) (numbered (state_of (entries_of now)).jobs (i + 1))))
    now next result

-- the first ones went so, over a store
abbrev FrontGoes : List ℕ → List Entry → ℕ → Store → Store → Type 0
FrontGoes whole book i s t = JobsGo whole (state_of book) 1 (take i (state_of book).jobs) s.tree t.tree

module _ {D : Type 0} (told : D → Option Store) (faults hard : D → ℕ) (whole : List ℕ) (first now : House D) (i : ℕ)
    (low : i < length (state_of (entries_of first)).jobs) (so_far : IsEnding told faults hard whole first now i) where
  pub ending-room : length (entries_of first) + sum_by working_one (state_of (entries_of first)).jobs ≤ book_limit
      → length (entries_of now) + length (end_entries whole (state_of (entries_of now)) (i + 1) (numbered (state_of (entries_of now)).jobs (i + 1))) ≤ book_limit
  ending-room room = room-next whole (entries_of first) (entries_of now) i so_far.entries low room

  pub ending-next : (next : House D) → EndsNext (gauged told faults hard) whole now next i (Ok tt) → IsEnding told faults hard whole first next (i + 1)
  ending-next next step = record {
    kept = step.kept;
    entries = step.entries ∙ next-book whole (entries_of first) (entries_of now) i so_far.entries low;
    went =
        Moves-then (FrontGoes whole (entries_of first) i)
        (λ s t. EndGoes whole (state_of (entries_of now)) (i + 1) (numbered (state_of (entries_of now)).jobs (i + 1)) s.tree t.tree)
        (FrontGoes whole (entries_of first) (i + 1))
        (λ r s t goes end. goes-on whole (entries_of first) (entries_of now) i so_far.entries low r.tree s.tree t.tree goes end) (told first.shelf)
        (told now.shelf) (told next.shelf) so_far.went step.went;
    fit =
        subst (λ (l : Limits). AllFit l nothing_yet (entries_of next)) (sym step.marks.limits)
        (subst (AllFit now.limits nothing_yet) (sym step.entries)
        (fits-on whole (entries_of first) (entries_of now) i so_far.entries low now.limits so_far.fit));
    marks = marks-then first now next so_far.marks step.marks;
    later = (let a = so_far.later in let b = step.cause.later in omega (arith, a, b));
    hard_later = (let a = so_far.hard_later in let b = step.cause.hard_later in omega (arith, a, b));
  }

  module _ (next : House D) (why : BootFault) (step : EndsNext (gauged told faults hard) whole now next i (Err why)) where
    hard-over : Rose (hard now.shelf) (hard next.shelf) ⊎ Tells (told next.shelf) (λ t. IsJournal (entries_of now) t.journal)
        → Rose (hard first.shelf) (hard next.shelf)
        ⊎ Tells (told next.shelf) (λ t. IsCutBefore (entries_of first) (ends_of whole (entries_of first)) t.journal)
    hard-over (inl risen) = let a = so_far.hard_later in inl (omega (arith, a, risen))
    hard-over (inr journal) =
        inr (tells-also (λ t. IsJournal (entries_of now) t.journal) (λ t. IsCutBefore (entries_of first) (ends_of whole (entries_of first)) t.journal)
        (λ t reads. cut-before whole (entries_of first) (entries_of now) i so_far.entries low step.one.0 step.one.1 t.journal reads) (told next.shelf) journal)

    stopped : AllEnd (gauged told faults hard) whole first next (Err why)
    stopped = record {
      kept = tt;
      entries = tt;
      went = tt;
      stops =
          Moves-then (FrontGoes whole (entries_of first) i)
          (StopsAt (EndBegins whole (state_of (entries_of now)) (i + 1) (numbered (state_of (entries_of now)).jobs (i + 1)))
          (EndGoes whole (state_of (entries_of now)) (i + 1) (numbered (state_of (entries_of now)).jobs (i + 1))) (entries_of now)
          (end_entries whole (state_of (entries_of now)) (i + 1) (numbered (state_of (entries_of now)).jobs (i + 1))))
          (EndsStop whole (entries_of first))
          (λ r s t goes stops. stops-at whole (entries_of first) (entries_of now) i so_far.entries low r s t goes stops) (told first.shelf) (told now.shelf)
          (told next.shelf) so_far.went step.stops;
      ends = step.ends;
      marks = marks-then first now next so_far.marks step.marks;
      cause = record {
        later = (let a = so_far.later in let b = step.cause.later in omega (arith, a, b));
        hard_later = (let a = so_far.hard_later in let b = step.cause.hard_later in omega (arith, a, b));
        failed = λ is.
            let a = so_far.later in
            let risen : Rose (faults now.shelf) (faults next.shelf) = step.cause.failed is in
            omega (arith, a, risen);
        failed_hard = λ is. hard-over (step.cause.failed_hard is);
      };
    }

    -- by what `?` passes on
    pub ending-stops : (left : BootFault) (result : Result (Unit {0}) BootFault) → result ≡ Err left → left ≡ why
        → AllEnd (gauged told faults hard) whole first next result
    ending-stops left result is same = subst (AllEnd (gauged told faults hard) whole first next) (sym (is ∙ ap (λ (f : BootFault). Err f) same)) stopped

never-failed : IsErrOf {T = Unit {0}} {E = BootFault} (Ok tt) fault.Store → ⊥
never-failed is = cc

-- all of them have
pub ending-done : {D : Type 0} (told : D → Option Store) (faults hard : D → ℕ) (whole : List ℕ) (first now : House D) (i : ℕ)
    → length (state_of (entries_of first)).jobs ≤ i → IsEnding told faults hard whole first now i
    → AllEnd (gauged told faults hard) whole first now (Ok tt)
ending-done told faults hard whole first now i past so_far =
    let all : take i (state_of (entries_of first)).jobs ≡ (state_of (entries_of first)).jobs = take-past (state_of (entries_of first)).jobs i past in
    record {
      kept = so_far.kept;
      entries =
          so_far.entries ∙ ap (λ (js : List Job). entries_of first ++ job_ends whole (state_of (entries_of first)) 1 js) all;
      went =
          Moves-weaken (FrontGoes whole (entries_of first) i) (EndsGo whole (entries_of first))
          (λ s t goes. subst (λ (js : List Job). JobsGo whole (state_of (entries_of first)) 1 js s.tree t.tree) all goes) (told first.shelf) (told now.shelf)
          so_far.went;
      stops = tt;
      ends = tt;
      marks = so_far.marks;
      cause = record {
        later = so_far.later;
        hard_later = so_far.hard_later;
        failed = λ is. absurd (never-failed is);
        failed_hard = λ is. absurd (never-failed is);
      };
    }
