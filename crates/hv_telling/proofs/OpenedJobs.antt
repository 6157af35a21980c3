-- Behind an opening no job is at work: it ends each of them.
use Rattle.std.proofs.Common.{◌≡◌, ◌⊎◌, inl, inr, ℕ, suc, ◌+◌, ◌-◌, ◌≤◌, ◌==◌, Bool, true, false, true≢false, Some, List, [], ◌∷◌, length, fold, refl, sym, ap, ◌∙◌, subst, arith, eqb-true, eq-eqb, ltb-true, ltb-false}
use Rattle.std.specs.Prelude.{if◌then◌else◌, nat_lt}
use Rattle.std.specs.List.{slice_get}
use Rattle.std.proofs.lemmas.List.Sums.{fold-append}
use Rattle.hv_history.specs.declared.entry.Entry.{Entry}
use Rattle.hv_history.specs.declared.entry.Entry.TheVariants as entry
use Rattle.hv_history.specs.declared.entry.JobCause.{JobCause}
use Rattle.hv_history.specs.declared.entry.JobCause.TheVariants as job_cause
use Rattle.hv_history.specs.State.{State, Job, numbered, published_at, failed_at, acted, nothing_yet, after, state_of}
use Rattle.hv_history.specs.Legal.{is_working}
use Rattle.hv_history.specs.Jobs.{pieces_for}
use Rattle.hv_history.specs.JobsFit.{is_live_job}
use Rattle.hv_stands.proofs.Numbers.{none_is, same_one, either, changed-here}
use Rattle.hv_law_jobs.proofs.OrderLemmas.{number-there}
use Rattle.hv_house.specs.hv_finals.specs.hv_law_made.specs.Entries.{publishing}
use Rattle.hv_house.specs.hv_finals.specs.hv_law_made.specs.Opening.{fails_as_lost, fails_as_gone, is_to_publish, job_end, job_ends}
use Rattle.hv_house.specs.hv_finals.specs.hv_law_made.proofs.OpeningStands.{published-over}
use Rattle.hv_house.specs.hv_finals.specs.hv_law_made.proofs.GoingStands.{failed-over}
use Rattle.hv_house.specs.Booting.{lost_entries, opening_entries, opening_with}
use Rattle.hv_house.proofs.JobEnds.{end-jobs}
use Rattle.hv_house.proofs.Openings.{lost-jobs}

-- ---- one that has ended is at work no more

module _ (s : State) (n : ℕ) (j : Job) (is : numbered s.jobs n ≡ Some j) where
  published-here : (low high mark : ℕ)
      → numbered (after s (entry.Published (record { 0 = n }) (record { 0 = low }) (record { 0 = high }) (record { 0 = mark }))).jobs n
      ≡ Some (published_at s.entries (low, high, mark) j)
  unfolding acted
  published-here low high mark = changed-here (published_at s.entries (low, high, mark)) s.jobs n j is

  failed-here : (why : JobCause) → numbered (after s (entry.Failed (record { 0 = n }) why)).jobs n ≡ Some (failed_at s.entries why j)
  unfolding acted
  failed-here why = changed-here (failed_at s.entries why) s.jobs n j is

  -- what stands under its number then is at work no more
  abbrev IsOver : State → Type 0
  IsOver now = (x : Job) → numbered now.jobs n ≡ Some x → is_working x ≡ true → ⊥

  published-ends : (low high mark : ℕ) → IsOver (after s (entry.Published (record { 0 = n }) (record { 0 = low }) (record { 0 = high }) (record { 0 = mark })))
  published-ends low high mark x here works =
      let event : Entry = entry.Published (record { 0 = n }) (record { 0 = low }) (record { 0 = high }) (record { 0 = mark }) in
      let one : x ≡ published_at s.entries (low, high, mark) j =
      same_one (numbered (after s event).jobs n) x (published_at s.entries (low, high, mark) j) here (published-here low high mark) in
      true≢false (sym works ∙ ap is_working one ∙ published-over s.entries (low, high, mark) j)

  failed-ends : (why : JobCause) → IsOver (after s (entry.Failed (record { 0 = n }) why))
  failed-ends why x here works =
      let one : x ≡ failed_at s.entries why j =
      same_one (numbered (after s (entry.Failed (record { 0 = n }) why)).jobs n) x (failed_at s.entries why j) here (failed-here why) in
      true≢false (sym works ∙ ap is_working one ∙ failed-over s.entries why j)

  end-over : (whole : List ℕ) → IsOver (after s (job_end whole s n j))
  end-over whole = by (is_live_job s j) (is_to_publish whole s n j)
    where
      by : (c d : Bool) → IsOver (after s (if c then (if d then publishing s n j else fails_as_lost n) else fails_as_gone n))
      by true true = published-ends (pieces_for s j).low (pieces_for s j).high (length s.transactions + 1)
      by true false = failed-ends job_cause.Lost
      by false d = failed-ends job_cause.Gone

-- ---- one after another

-- those of lower numbers are at work no more, and these are the others
pub record IsUpTo (s : State) (n : ℕ) (rest : List Job) : Type 0 where
  pub rest_are : (k : ℕ) → numbered s.jobs (n + k) ≡ slice_get rest k
  pub over : (m : ℕ) (j : Job) → numbered s.jobs m ≡ Some j → is_working j ≡ true → n ≤ m

module _ (whole : List ℕ) (s : State) (n : ℕ) (j : Job) (rest : List Job) (up : IsUpTo s n (j ∷ rest)) where
  it-is : numbered s.jobs n ≡ Some j
  it-is =
      let same : n ≡ n + 0 = omega arith in
      ap (numbered s.jobs) same ∙ up.rest_are 0

  behind-it : (k : ℕ) → numbered s.jobs (n + 1 + k) ≡ slice_get rest k
  behind-it k =
      let same : n + 1 + k ≡ n + suc k = omega arith in
      ap (numbered s.jobs) same ∙ up.rest_are (suc k)

  above : (m : ℕ) → n ≤ m → (m ≡ n → ⊥) → n + 1 ≤ m
  above m low apart = by (either (nat_lt n m))
    where
      by : (nat_lt n m ≡ true) ⊎ (nat_lt n m ≡ false) → n + 1 ≤ m
      by (inl less) = let more = ltb-true n m less in omega (arith, more)
      by (inr most) =
          let high = ltb-false n m most in
          let same : m ≡ n = omega (arith, low, high) in
          absurd (apart same)

  passed : is_working j ≡ false → IsUpTo s (n + 1) rest
  passed idle = record {
    rest_are = behind-it;
    over = λ m x here works.
        above m (up.over m x here works)
        (λ same.
        let one : x ≡ j = same_one (numbered s.jobs n) x j (ap (numbered s.jobs) (sym same) ∙ here) it-is in
        true≢false (sym works ∙ ap is_working one ∙ idle));
  }

  ended : IsUpTo (after s (job_end whole s n j)) (n + 1) rest
  ended = record {
    rest_are = λ k. end-jobs whole s n j (n + 1 + k) (λ same. omega (arith, same)) ∙ behind-it k;
    over = λ m x here works. by m x here works (either (m == n));
  }
    where
      by : (m : ℕ) (x : Job) → numbered (after s (job_end whole s n j)).jobs m ≡ Some x → is_working x ≡ true → (m == n ≡ true) ⊎ (m == n ≡ false) → n + 1 ≤ m
      by m x here works (inl e) =
          let same : m ≡ n = eqb-true m n e in
          absurd (end-over s n j it-is whole x (ap (numbered (after s (job_end whole s n j)).jobs) (sym same) ∙ here) works)
      by m x here works (inr e) =
          let apart : m ≡ n → ⊥ = λ same. true≢false (sym (eq-eqb m n same) ∙ e) in
          above m (up.over m x (sym (end-jobs whole s n j m apart) ∙ here) works) apart

up-to-all : (whole : List ℕ) (rest : List Job) (s : State) (n : ℕ) → IsUpTo s n rest → (m : ℕ) (j : Job)
    → numbered (fold after s (job_ends whole s n rest)).jobs m ≡ Some j → is_working j ≡ true → ⊥
up-to-all whole [] s n up m j here works =
    let low = up.over m j here works in
    let same : m ≡ n + (m - n) = omega (arith, low) in
    none_is (numbered s.jobs m) j (ap (numbered s.jobs) same ∙ up.rest_are (m - n)) here
up-to-all whole (first ∷ rest) s n up m j here works =
    by (is_working first) refl
    (λ at. up-to-all whole rest (after s (job_end whole s n first)) (n + 1) (ended whole s n first rest up) m j at works)
    (λ idle at. up-to-all whole rest s (n + 1) (passed whole s n first rest up idle) m j at works)
    here
  where
    by : (b : Bool) → is_working first ≡ b
        → (numbered (fold after (after s (job_end whole s n first)) (job_ends whole (after s (job_end whole s n first)) (n + 1) rest)).jobs m ≡ Some j → ⊥)
        → (is_working first ≡ false → numbered (fold after s (job_ends whole s (n + 1) rest)).jobs m ≡ Some j → ⊥)
        → numbered (fold after s
        (if b then (job_end whole s n first ∷ job_ends whole (after s (job_end whole s n first)) (n + 1) rest) else job_ends whole s (n + 1) rest)).jobs m ≡ Some j
        → ⊥
    by true working over passes at = over at
    by false idle over passes at = passes idle at

-- ---- an opening

none-zero : (jobs : List Job) (m : ℕ) (j : Job) → numbered jobs m ≡ Some j → 1 ≤ m
none-zero jobs m j here = (number-there jobs m j here).0

-- the aborts that come first change no job
pub none-works : (whole : List ℕ) (book : List Entry) (m : ℕ) (j : Job)
    → numbered (state_of (opening_with whole book)).jobs m ≡ Some j → is_working j ≡ true → ⊥
none-works whole book m j here works =
    let s : State = state_of book in
    let same : (fold after s (lost_entries s)).jobs ≡ s.jobs = lost-jobs s in
    let behind : State = fold after s (lost_entries s) in
    up-to-all whole s.jobs behind 1
    (record {
      rest_are = λ k. let next : 1 + k ≡ suc k = omega arith in ap (λ (js : List Job). numbered js (1 + k)) same ∙ ap (numbered s.jobs) next;
      over = λ n x at w. none-zero behind.jobs n x at;
    })
    m j
    (subst (λ (state : State). numbered state.jobs m ≡ Some j)
    (fold-append after nothing_yet book (opening_entries whole s) ∙ fold-append after s (lost_entries s) (job_ends whole behind 1 s.jobs)) here)
    works
