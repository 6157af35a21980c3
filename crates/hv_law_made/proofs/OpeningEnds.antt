-- An opening ends the jobs that were at work, one after another. Behind each of these entries it finds what it may find, and each job that is
-- left stands whole or has a bare directory, as it was found; behind the last one all stands.
use Rattle.std.proofs.Common.{refl, ◌≡◌, ◌⊎◌, inl, inr, ℕ, zero, suc, ◌+◌, ◌-◌, ◌<◌, ◌≤◌, ◌==◌, Bool, true, false, Option, Some, None, List, [], ◌∷◌, ◌++◌, fold, length, sym, ap, ◌∙◌, subst, arith, append-nil, eq-eqb, eqb-true, ltb-true, ltb-false, true≢false}
use Rattle.std.specs.Prelude.{if◌then◌else◌, ◌&&◌, not, nat_lt, sum_by, IsSomeAnd}
use Rattle.std.specs.List.{slice_get}
use Rattle.std.proofs.lemmas.Bool.{and_parts, and_cases, false_from_ne_true}
use Rattle.std.proofs.lemmas.List.Sums.{sum_by-cons}
use Rattle.hv_shelf.specs.Disk.{Tree}
use Rattle.hv_dirs.specs.Names.{write_end}
use Rattle.hv_stands.specs.hv_history.specs.declared.entry.Entry.{Entry}
use Rattle.hv_stands.specs.hv_history.specs.declared.entry.Entry.TheVariants as entry
use Rattle.hv_stands.specs.hv_history.specs.declared.entry.JobCause.{JobCause}
use Rattle.hv_stands.specs.hv_history.specs.declared.entry.JobCause.TheVariants as job_cause
use Rattle.hv_stands.specs.hv_history.specs.declared.state.Table.{Table}
use Rattle.hv_stands.specs.hv_history.specs.State.{State, Job, Openings, numbered, openings_behind, published_at, failed_at, acted, after}
use Rattle.hv_stands.specs.hv_history.specs.Legal.{profile, is_working, one_if, working_one, Fits}
use Rattle.hv_stands.specs.hv_history.specs.Jobs.{is_job_of, is_live_one, pieces_for, is_empty_of}
use Rattle.hv_stands.specs.hv_history.specs.JobsFit.{FailedFits, is_live_job}
use Rattle.hv_stands.proofs.Numbers.{none_is, same_one, either}
use Rattle.hv_law_jobs.proofs.OrderLemmas.{number-there}
use Rattle.hv_law_made.specs.Standing.{Standing}
use Rattle.hv_law_made.specs.Laws.{IsFiledFor}
use Rattle.hv_law_made.specs.Entries.{IsSoundBook, publishing, IsAtWork, Recovers}
use Rattle.hv_law_made.specs.Opening.{whole_jobs, is_among, fails_as_lost, fails_as_gone, is_to_publish, job_end, job_ends, failing_dirs, AllGo, EitherBy, JobsGo, FinalsAgree, IsWholeOrBare, IsGivenUp, OpeningStands}
use Rattle.hv_law_made.proofs.BookLemmas.{books-go-on}
use Rattle.hv_law_made.proofs.RenameStands.{fitting}
use Rattle.hv_law_made.proofs.OtherJobs.{stepped, other-than, number-same, was-work, still-whole}
use Rattle.hv_law_made.proofs.OpeningStands.{recovered-go-on, published-over}
use Rattle.hv_law_made.proofs.GoingStands.{other-stays, all-some, failed-over, given-up-go-on}
use Rattle.hv_law_made.proofs.ListedJobs.{listed-are-whole, none-works-stands, among-whole}

-- ---- what holds while it goes through the jobs

-- Those of lower numbers are at work no more, and these are the others. Each of them that is at work stands whole where its number is among
-- those that were found so, and else one of its directories is bare.
pub record IsThrough (whole : List ℕ) (state : State) (files : Tree) (number : ℕ) (rest : List Job) : Type 0 where
  pub few : state.entries + sum_by working_one rest < write_end
  pub sound : IsSoundBook state
  pub recovers : Recovers state files
  pub rest_are : (k : ℕ) → numbered state.jobs (number + k) ≡ slice_get rest k
  pub over : (n : ℕ) (job : Job) → numbered state.jobs n ≡ Some job → is_working job ≡ true → number ≤ n
  pub holds : (n : ℕ) (job : Job) (work : IsAtWork state n job) → number ≤ n → IsWholeOrBare (is_among whole n) state n job work.table.writes files

next-apart : (number k : ℕ) → (number == number + 1 + k) ≡ false
next-apart number k =
    false_from_ne_true (number == number + 1 + k)
    (λ e. let same : number ≡ number + 1 + k = eqb-true number (number + 1 + k) e in omega (arith, same))

above : (number n : ℕ) → number ≤ n → (number == n) ≡ false → number + 1 ≤ n
above number n low other = by (either (nat_lt number n))
  where
    by : (nat_lt number n ≡ true) ⊎ (nat_lt number n ≡ false) → number + 1 ≤ n
    by (inl less) = let more = ltb-true number n less in omega (arith, more)
    by (inr most) =
        let high = ltb-false number n most in
        let same : number ≡ n = omega (arith, low, high) in
        absurd (true≢false (sym (eq-eqb number n same) ∙ other))

live-table : (o : Option Table) → is_live_one o ≡ true → (table : Table) × (o ≡ Some table) × (table.is_live ≡ true)
live-table None e = absurd (true≢false (sym e))
live-table (Some table) e = (table, refl, e)

-- the one that comes next, and those behind it
module _ (whole : List ℕ) (state : State) (before : Tree) (number : ℕ) (job : Job) (rest : List Job) (through : IsThrough whole state before number (job ∷ rest)) where
  pub it-is : numbered state.jobs number ≡ Some job
  it-is =
      let same : number + 0 ≡ number = omega arith in
      ap (numbered state.jobs) (sym same) ∙ through.rest_are 0

  rest-behind : (k : ℕ) → numbered state.jobs (number + 1 + k) ≡ slice_get rest k
  rest-behind k =
      let same : number + 1 + k ≡ number + suc k = omega arith in
      ap (numbered state.jobs) same ∙ through.rest_are (suc k)

  few-all : state.entries + (working_one job + sum_by working_one rest) < write_end
  few-all = let few = through.few in let parts = sum_by-cons working_one job rest in omega (arith, few, parts)

  -- ---- it isn't at work

  not-it : (n : ℕ) (j : Job) → is_working job ≡ false → numbered state.jobs n ≡ Some j → is_working j ≡ true → (number == n) ≡ false
  not-it n j idle at_n works =
      false_from_ne_true (number == n)
      (λ e.
      let same : number ≡ n = eqb-true number n e in
      let one : job ≡ j = same_one (numbered state.jobs number) job j it-is (ap (numbered state.jobs) same ∙ at_n) in
      true≢false (sym works ∙ ap (λ (x : Job). is_working x) (sym one) ∙ idle))

  pub next-passed : is_working job ≡ false → IsThrough whole state before (number + 1) rest
  next-passed idle = record {
    few = let few = few-all in omega (arith, few);
    sound = through.sound;
    recovers = through.recovers;
    rest_are = rest-behind;
    over = λ n j at_n works. above number n (through.over n j at_n works) (not-it n j idle at_n works);
    holds = λ n j w low. through.holds n j w (omega (arith, low));
  }

  -- ---- it is, and its end comes

  module _ (working : is_working job ≡ true) where
    few-two : state.entries + 1 + sum_by working_one rest < write_end
    few-two =
        let few = few-all in
        let one : working_one job ≡ 1 = ap one_if working in
        omega (arith, few, one)

    pub few-one : state.entries + 1 < write_end
    few-one = let few = few-two in omega (arith, few)

    module _ (step : Job → Job) (opens : Openings) (over : is_working (step job) ≡ false)
        (stays : (table : ℕ) (partition : List ℕ) → is_job_of table partition (step job) ≡ is_job_of table partition job) where
      abbrev told : State
      told = stepped state number job it-is working through.sound step opens over stays

      told-over : (n : ℕ) (j : Job) → numbered told.jobs n ≡ Some j → is_working j ≡ true → number + 1 ≤ n
      told-over n j at_n works =
          let other = other-than state number job it-is working through.sound step opens over stays n j at_n works in
          let was : numbered state.jobs n ≡ Some j = sym (number-same state number job it-is working through.sound step opens over stays n other) ∙ at_n in
          above number n (through.over n j was works) other

      next-told : (now : Tree) → IsSoundBook told → Recovers told now
          → ((n : ℕ) (j : Job) (w : IsAtWork state n j) → (number == n) ≡ false
          → IsWholeOrBare (is_among whole n) state n j w.table.writes before → IsWholeOrBare (is_among whole n) state n j w.table.writes now)
          → IsThrough whole told now (number + 1) rest
      next-told now sound recovers moves = record {
        few = few-two;
        sound = sound;
        recovers = recovers;
        rest_are = λ k. number-same state number job it-is working through.sound step opens over stays (number + 1 + k) (next-apart number k) ∙ rest-behind k;
        over = told-over;
        holds = λ n j w low.
            let other = other-than state number job it-is working through.sound step opens over stays n j w.is w.working in
            let was : numbered state.jobs n ≡ Some j = sym (number-same state number job it-is working through.sound step opens over stays n other) ∙ w.is in
            let old : IsAtWork state n j = was-work state number job it-is working through.sound step opens over stays n j was w.working other w in
            still-whole state number job it-is working through.sound step opens over stays n j was w.working other now (is_among whole n) w
            (moves n j old other (through.holds n j old (omega (arith, low))));
      }

    -- ---- it is published

    module _ (live : is_live_job state job ≡ true) (publish : is_to_publish whole state number job ≡ true) where
      its-parts : (is_among whole number ≡ true) × (not (is_empty_of job.kind (pieces_for state job)) ≡ true)
      its-parts = and_parts (is_among whole number) (not (is_empty_of job.kind (pieces_for state job))) publish

      its-work : IsAtWork state number job
      its-work =
          let table = live-table (numbered state.tables job.table) live in
          record {
            is = it-is;
            working = working;
            table = table.0;
            table_is = table.1;
            live = table.2;
            some = false_from_ne_true (is_empty_of job.kind (pieces_for state job)) (λ e. true≢false (sym its-parts.1 ∙ ap not e));
          }

      pub its-filed : IsFiledFor (publishing state number job) state before
      its-filed =
          subst (λ b. IsWholeOrBare b state number job its-work.table.writes before) its-parts.0 (through.holds number job its-work (omega arith))

      abbrev publishes : Job → Job
      publishes = published_at state.entries ((pieces_for state job).low, (pieces_for state job).high, length state.transactions + 1)

      published-is-over : is_working (publishes job) ≡ false
      published-is-over = published-over state.entries ((pieces_for state job).low, (pieces_for state job).high, length state.transactions + 1) job

      published-stays : (table : ℕ) (partition : List ℕ) → is_job_of table partition (publishes job) ≡ is_job_of table partition job
      published-stays table partition = refl

      abbrev published : State
      published =
          told publishes (openings_behind state.entries (publishing state number job) state.openings) published-is-over published-stays

      published-is : after state (publishing state number job) ≡ published
      unfolding acted
      published-is = refl

      pub next-published : IsThrough whole (after state (publishing state number job)) before (number + 1) rest
      next-published =
          subst (λ (s : State). IsThrough whole s before (number + 1) rest) (sym published-is)
          (next-told publishes (openings_behind state.entries (publishing state number job) state.openings) published-is-over published-stays before
          (subst IsSoundBook published-is
          (books-go-on profile state (publishing state number job) (fitting state number job its-work few-one through.sound) through.sound))
          (subst (λ (s : State). Recovers s before) published-is
          (recovered-go-on state number job before its-work its-filed through.recovers few-one through.sound))
          (λ n j w other stood. stood))

    -- ---- it has failed

    module _ (why : JobCause) (fits : Fits profile state (entry.Failed (record { 0 = number }) why)) (bare : (work : IsAtWork state number job) → is_among whole number ≡ false)
        (now : Tree) (all : AllGo (failing_dirs state number job) before now) where
      abbrev failing : Entry
      failing = entry.Failed (record { 0 = number }) why

      abbrev fails : Job → Job
      fails = failed_at state.entries why

      pub its-given : IsGivenUp state number job before
      its-given = record {
        is = it-is;
        working = working;
        bare = λ work. subst (λ b. IsWholeOrBare b state number job work.table.writes before) (bare work) (through.holds number job work (omega arith));
      }

      failed-is-over : is_working (fails job) ≡ false
      failed-is-over = failed-over state.entries why job

      failed-stays : (table : ℕ) (partition : List ℕ) → is_job_of table partition (fails job) ≡ is_job_of table partition job
      failed-stays table partition = refl

      abbrev failed : State
      failed = told fails (openings_behind state.entries failing state.openings) failed-is-over failed-stays

      failed-is : after state failing ≡ failed
      unfolding acted
      failed-is = refl

      pub next-failed : IsThrough whole (after state failing) now (number + 1) rest
      next-failed =
          subst (λ (s : State). IsThrough whole s now (number + 1) rest) (sym failed-is)
          (next-told fails (openings_behind state.entries failing state.openings) failed-is-over failed-stays now
          (subst IsSoundBook failed-is (books-go-on profile state failing fits through.sound))
          (subst (λ (s : State). Recovers s now) failed-is
          (given-up-go-on state number job why before now few-one through.sound its-given all through.recovers))
          (λ n j w other stood.
          other-stays state number job before now few-one through.sound it-is working (all-some (failing_dirs state number job) before now all)
          n j w other (is_among whole n) stood))

-- ---- what each end is

module _ (whole : List ℕ) (state : State) (number : ℕ) (job : Job) where
  end-as : (c d : Bool) → is_live_job state job ≡ c → is_to_publish whole state number job ≡ d
      → job_end whole state number job ≡ (if c then (if d then publishing state number job else fails_as_lost number) else fails_as_gone number)
  end-as c d live publish = λ i. if live i then (if publish i then publishing state number job else fails_as_lost number) else fails_as_gone number

  -- it may fail as lost where its table is live, and as gone where it isn't
  lost-fits : numbered state.jobs number ≡ Some job → is_working job ≡ true → is_live_job state job ≡ true → Fits profile state (fails_as_lost number)
  lost-fits at working live =
      subst (λ (o : Option Job). IsSomeAnd o (FailedFits state job_cause.Lost)) (sym at) (record {
        working = working;
        gone = ((λ e. absurd (true≢false (sym e))), (λ e. absurd (true≢false (sym live ∙ e))));
        cause_fits = tt;
      })

  gone-fits : numbered state.jobs number ≡ Some job → is_working job ≡ true → is_live_job state job ≡ false → Fits profile state (fails_as_gone number)
  gone-fits at working dead =
      subst (λ (o : Option Job). IsSomeAnd o (FailedFits state job_cause.Gone)) (sym at) (record {
        working = working;
        gone = ((λ e. dead), (λ e. refl));
        cause_fits = tt;
      })

  -- one that isn't published isn't among those that were found whole, or has nothing to merge, or its table isn't live
  pub lost-bare : is_to_publish whole state number job ≡ false → (work : IsAtWork state number job) → is_among whole number ≡ false
  lost-bare lost work = elim (and_cases (is_among whole number) (not (is_empty_of job.kind (pieces_for state job))) lost) [
    | inl among ↦ among
    | inr empty ↦ absurd (true≢false (sym (ap not work.some) ∙ empty))
  ]

  pub gone-bare : is_live_job state job ≡ false → (work : IsAtWork state number job) → is_among whole number ≡ false
  gone-bare dead work = absurd (true≢false (sym work.live ∙ sym (ap is_live_one work.table_is) ∙ dead))

-- ---- a front of them

-- what those behind it lead to, where the first of them end too
abbrev Others : List ℕ → ℕ → List Job → List Job → Tree → (State → Type 0) → Type 0
Others whole number front rest now P =
    (state : State) (before : Tree) → IsThrough whole state before (number + 1) (front ++ rest) → JobsGo whole state (number + 1) front before now
    → P (fold after state (job_ends whole state (number + 1) front))

module _ (whole : List ℕ) (state : State) (before now : Tree) (number : ℕ) (job : Job) (front rest : List Job)
    (through : IsThrough whole state before number (job ∷ (front ++ rest))) (P : State → Type 0) (others : Others whole number front rest now P) where
  abbrev end : Entry
  end = job_end whole state number job

  abbrev Goes : Type 0
  Goes = (middle : Tree) × AllGo (failing_dirs state number job) before middle × JobsGo whole (after state end) (number + 1) front middle now

  ended-by : is_working job ≡ true → (c : Bool) → is_live_job state job ≡ c → (d : Bool) → is_to_publish whole state number job ≡ d
      → EitherBy (c && d) (JobsGo whole (after state end) (number + 1) front before now) Goes
      → P (fold after (after state end) (job_ends whole (after state end) (number + 1) front))
  ended-by working true live true publish goes =
      others (after state end) before
      (subst (λ (x : Entry). IsThrough whole (after state x) before (number + 1) (front ++ rest)) (sym (end-as whole state number job true true live publish))
      (next-published whole state before number job (front ++ rest) through working live publish)) goes
  ended-by working true live false lost goes =
      others (after state end) goes.0
      (subst (λ (x : Entry). IsThrough whole (after state x) goes.0 (number + 1) (front ++ rest)) (sym (end-as whole state number job true false live lost))
      (next-failed whole state before number job (front ++ rest) through working job_cause.Lost
      (lost-fits whole state number job (it-is whole state before number job (front ++ rest) through) working live) (lost-bare whole state number job lost)
      goes.0 goes.1)) goes.2
  ended-by working false dead d publish goes =
      others (after state end) goes.0
      (subst (λ (x : Entry). IsThrough whole (after state x) goes.0 (number + 1) (front ++ rest)) (sym (end-as whole state number job false d dead publish))
      (next-failed whole state before number job (front ++ rest) through working job_cause.Gone
      (gone-fits whole state number job (it-is whole state before number job (front ++ rest) through) working dead) (gone-bare whole state number job dead)
      goes.0 goes.1)) goes.2

  step-by : (b : Bool) → is_working job ≡ b
      → EitherBy b (EitherBy (is_live_job state job && is_to_publish whole state number job) (JobsGo whole (after state end) (number + 1) front before now) Goes)
      (JobsGo whole state (number + 1) front before now)
      → P (fold after state (if b then (end ∷ job_ends whole (after state end) (number + 1) front) else job_ends whole state (number + 1) front))
  step-by true working goes = ended-by working (is_live_job state job) refl (is_to_publish whole state number job) refl goes
  step-by false idle goes = others state before (next-passed whole state before number job (front ++ rest) through idle) goes

pub through-front : (whole : List ℕ) (front rest : List Job) (state : State) (number last : ℕ) (before now : Tree) → last ≡ number + length front
    → IsThrough whole state before number (front ++ rest) → JobsGo whole state number front before now
    → IsThrough whole (fold after state (job_ends whole state number front)) now last rest
through-front whole [] rest state number last before now at through goes =
    let same : number ≡ last = omega (arith, at) in
    subst (λ (files : Tree). IsThrough whole state files last rest) (sym goes) (subst (λ n. IsThrough whole state before n rest) same through)
through-front whole (job ∷ front) rest state number last before now at through goes =
    step-by whole state before now number job front rest through (λ s. IsThrough whole s now last rest)
    (λ s files th g. through-front whole front rest s (number + 1) last files now (omega (arith, at)) th g) (is_working job) refl goes

-- ---- behind the last one none is at work

none-left : (whole : List ℕ) (state : State) (files : Tree) (number : ℕ) → IsThrough whole state files number [] → (n : ℕ) (job : Job) → IsAtWork state n job → ⊥
none-left whole state files number through n job work =
    let low = through.over n job work.is work.working in
    let same : n ≡ number + (n - number) = omega (arith, low) in
    none_is (numbered state.jobs n) job (ap (numbered state.jobs) same ∙ through.rest_are (n - number)) work.is

pub through-ends : (whole : List ℕ) (state : State) (files : Tree) (number : ℕ) → IsThrough whole state files number [] → Standing state files
through-ends whole state files number through = none-works-stands state files (none-left whole state files number through) through.recovers

-- ---- the first one

one-works : (jobs : List Job) (k : ℕ) (job : Job) → slice_get jobs k ≡ Some job → is_working job ≡ true → 1 ≤ sum_by working_one jobs
one-works [] k job at works = cc
one-works (x ∷ jobs) zero job at works =
    let same : x ≡ job = cc in
    let one : working_one x ≡ 1 = ap working_one same ∙ ap one_if works in
    omega (arith, one, sum_by-cons working_one x jobs)
one-works (x ∷ jobs) (suc k) job at works =
    let more = one-works jobs k job at works in
    omega (arith, more, sum_by-cons working_one x jobs)

number-works : (jobs : List Job) (n : ℕ) (job : Job) → numbered jobs n ≡ Some job → is_working job ≡ true → 1 ≤ sum_by working_one jobs
number-works jobs zero job at works = cc
number-works jobs (suc k) job at works = one-works jobs k job at works

-- an opening finds what it may find, and goes by which directories are listed
pub through-begins : (state : State) (files : Tree) → state.entries + sum_by working_one state.jobs < write_end → IsSoundBook state → FinalsAgree state
    → Recovers state files → IsThrough (whole_jobs state files) state files 1 state.jobs
through-begins state files few sound agree recovers = record {
  few = few;
  sound = sound;
  recovers = recovers;
  rest_are = λ k. let same : 1 + k ≡ suc k = omega arith in ap (numbered state.jobs) same;
  over = λ n job at works. (number-there state.jobs n job at).0;
  holds = λ n job work low.
      let some = number-works state.jobs n job work.is work.working in
      subst (λ b. IsWholeOrBare b state n job work.table.writes files) (sym (among-whole state files n job work.is work.working))
      (listed-are-whole state n job files work (omega (arith, few, some)) sound agree recovers);
}

pub opening-stands : OpeningStands
opening-stands state before now few sound agree goes recovers =
    let whole = whole_jobs state before in
    through-ends whole (fold after state (job_ends whole state 1 state.jobs)) now (1 + length state.jobs)
    (through-front whole state.jobs [] state 1 (1 + length state.jobs) before now refl
    (subst (IsThrough whole state before 1) (sym (append-nil state.jobs)) (through-begins state before few sound agree recovers)) goes)
