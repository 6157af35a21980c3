-- The ends of jobs one after another: what each changes of a book, and how those of the first ones and those of the others make all of them.
use Rattle.std.proofs.Common.{◌≡◌, ℕ, zero, suc, ◌+◌, ◌<◌, ◌≤◌, Bool, true, false, true≢false, Option, Some, None, List, [], ◌∷◌, ◌++◌, length, take, drop, fold, refl, sym, ap, ◌∙◌, subst, arith}
use Rattle.std.specs.Prelude.{if◌then◌else◌, ◌&&◌, not, sum_by, IsSomeAnd}
use Rattle.std.specs.List.{slice_get}
use Rattle.std.proofs.lemmas.Bool.{and_parts}
use Rattle.std.proofs.lemmas.List.Sums.{sum_by-cons, sum_by-take-le}
use Rattle.hv_base.specs.declared.ids.Limits.{Limits}
use Rattle.hv_shelf.specs.Disk.{Tree}
use Rattle.hv_history.specs.declared.entry.Entry.TheVariants as entry
use Rattle.hv_history.specs.declared.entry.JobCause.{JobCause}
use Rattle.hv_history.specs.declared.entry.JobCause.TheVariants as job_cause
use Rattle.hv_history.specs.State.{State, Job, numbered, published_at, failed_at, acted, after}
use Rattle.hv_history.specs.Legal.{is_working, one_if, working_one, Fits}
use Rattle.hv_history.specs.Jobs.{pieces_for, is_empty_of}
use Rattle.hv_history.specs.JobsFit.{PublishedFits, FailedFits, is_live_job}
use Rattle.hv_book.proofs.HeldLaws.{numbered-other}
use Rattle.hv_finals.specs.hv_law_made.specs.Entries.{publishing}
use Rattle.hv_finals.specs.hv_law_made.specs.Opening.{is_among, is_to_publish, fails_as_lost, fails_as_gone, job_end, job_ends, failing_dirs, AllGo, EitherBy, JobsGo}

-- ---- what one changes of the jobs: itself alone

published-jobs : (s : State) (n low high mark k : ℕ) → (k ≡ n → ⊥)
    → numbered (after s (entry.Published (record { 0 = n }) (record { 0 = low }) (record { 0 = high }) (record { 0 = mark }))).jobs k ≡ numbered s.jobs k
unfolding acted
published-jobs s n low high mark k apart = numbered-other (published_at s.entries (low, high, mark)) s.jobs n k apart

failed-jobs : (s : State) (n : ℕ) (why : JobCause) (k : ℕ) → (k ≡ n → ⊥)
    → numbered (after s (entry.Failed (record { 0 = n }) why)).jobs k ≡ numbered s.jobs k
unfolding acted
failed-jobs s n why k apart = numbered-other (failed_at s.entries why) s.jobs n k apart

module _ (whole : List ℕ) (s : State) (n : ℕ) (j : Job) where
  pub end-jobs : (k : ℕ) → (k ≡ n → ⊥) → numbered (after s (job_end whole s n j)).jobs k ≡ numbered s.jobs k
  end-jobs k apart = by (is_live_job s j) (is_to_publish whole s n j)
    where
      by : (c d : Bool)
          → numbered (after s (if c then (if d then publishing s n j else fails_as_lost n) else fails_as_gone n)).jobs k ≡ numbered s.jobs k
      by true true = published-jobs s n (pieces_for s j).low (pieces_for s j).high (length s.transactions + 1) k apart
      by true false = failed-jobs s n job_cause.Lost k apart
      by false d = failed-jobs s n job_cause.Gone k apart

-- those behind the first ones are as they were
pub jobs-beyond : (whole : List ℕ) (front : List Job) (s : State) (n k : ℕ) → n + length front ≤ k
    → numbered (fold after s (job_ends whole s n front)).jobs k ≡ numbered s.jobs k
jobs-beyond whole [] s n k past = refl
jobs-beyond whole (j ∷ front) s n k past =
    by (is_working j) (jobs-beyond whole front (after s (job_end whole s n j)) (n + 1) k (omega (arith, past)))
    (jobs-beyond whole front s (n + 1) k (omega (arith, past)))
  where
    by : (b : Bool)
        → numbered (fold after (after s (job_end whole s n j)) (job_ends whole (after s (job_end whole s n j)) (n + 1) front)).jobs k
        ≡ numbered (after s (job_end whole s n j)).jobs k
        → numbered (fold after s (job_ends whole s (n + 1) front)).jobs k ≡ numbered s.jobs k
        → numbered (fold after s
        (if b then (job_end whole s n j ∷ job_ends whole (after s (job_end whole s n j)) (n + 1) front) else job_ends whole s (n + 1) front)).jobs k
        ≡ numbered s.jobs k
    by true ended idle = ended ∙ end-jobs whole s n j k (λ same. omega (arith, past, same))
    by false ended idle = idle

-- ---- it changes no transaction

published-transactions : (s : State) (n low high mark : ℕ)
    → (after s (entry.Published (record { 0 = n }) (record { 0 = low }) (record { 0 = high }) (record { 0 = mark }))).transactions ≡ s.transactions
unfolding acted
published-transactions s n low high mark = refl

failed-transactions : (s : State) (n : ℕ) (why : JobCause) → (after s (entry.Failed (record { 0 = n }) why)).transactions ≡ s.transactions
unfolding acted
failed-transactions s n why = refl

end-transactions : (whole : List ℕ) (s : State) (n : ℕ) (j : Job) → (after s (job_end whole s n j)).transactions ≡ s.transactions
end-transactions whole s n j = by (is_live_job s j) (is_to_publish whole s n j)
  where
    by : (c d : Bool)
        → (after s (if c then (if d then publishing s n j else fails_as_lost n) else fails_as_gone n)).transactions ≡ s.transactions
    by true true = published-transactions s n (pieces_for s j).low (pieces_for s j).high (length s.transactions + 1)
    by true false = failed-transactions s n job_cause.Lost
    by false d = failed-transactions s n job_cause.Gone

pub ends-transactions : (whole : List ℕ) (jobs : List Job) (s : State) (n : ℕ) → (fold after s (job_ends whole s n jobs)).transactions ≡ s.transactions
ends-transactions whole [] s n = refl
ends-transactions whole (j ∷ jobs) s n =
    by (is_working j) (ends-transactions whole jobs (after s (job_end whole s n j)) (n + 1)) (ends-transactions whole jobs s (n + 1))
  where
    by : (b : Bool)
        → (fold after (after s (job_end whole s n j)) (job_ends whole (after s (job_end whole s n j)) (n + 1) jobs)).transactions
        ≡ (after s (job_end whole s n j)).transactions
        → (fold after s (job_ends whole s (n + 1) jobs)).transactions ≡ s.transactions
        → (fold after s
        (if b then (job_end whole s n j ∷ job_ends whole (after s (job_end whole s n j)) (n + 1) jobs) else job_ends whole s (n + 1) jobs)).transactions
        ≡ s.transactions
    by true ended idle = ended ∙ end-transactions whole s n j
    by false ended idle = idle

-- ---- it fits, within any limits

not-true : (b : Bool) → not b ≡ true → b ≡ false
not-true true e = absurd (true≢false (sym e))
not-true false e = refl

module _ (limits : Limits) (whole : List ℕ) (s : State) (n : ℕ) (j : Job) (at : numbered s.jobs n ≡ Some j) (working : is_working j ≡ true) where
  published-fits : is_live_job s j ≡ true → is_to_publish whole s n j ≡ true → Fits limits s (publishing s n j)
  published-fits live publish =
      let parts = and_parts (is_among whole n) (not (is_empty_of j.kind (pieces_for s j))) publish in
      subst (λ (o : Option Job). IsSomeAnd o (PublishedFits s (pieces_for s j).low (pieces_for s j).high (length s.transactions + 1))) (sym at) (record {
        working = working;
        live = live;
        some = not-true (is_empty_of j.kind (pieces_for s j)) parts.1;
        low_is = refl;
        high_is = refl;
        mark_is = refl;
      })

  lost-fits : is_live_job s j ≡ true → Fits limits s (fails_as_lost n)
  lost-fits live =
      subst (λ (o : Option Job). IsSomeAnd o (FailedFits s job_cause.Lost)) (sym at) (record {
        working = working;
        gone = ((λ e. absurd (true≢false (sym e))), (λ e. absurd (true≢false (sym live ∙ e))));
        cause_fits = tt;
      })

  gone-fits : is_live_job s j ≡ false → Fits limits s (fails_as_gone n)
  gone-fits dead =
      subst (λ (o : Option Job). IsSomeAnd o (FailedFits s job_cause.Gone)) (sym at) (record {
        working = working;
        gone = ((λ e. dead), (λ e. refl));
        cause_fits = tt;
      })

  pub end-fits : Fits limits s (job_end whole s n j)
  end-fits = by (is_live_job s j) refl (is_to_publish whole s n j) refl
    where
      by : (c : Bool) → is_live_job s j ≡ c → (d : Bool) → is_to_publish whole s n j ≡ d
          → Fits limits s (if c then (if d then publishing s n j else fails_as_lost n) else fails_as_gone n)
      by true live true publish = published-fits live publish
      by true live false lost = lost-fits live
      by false dead d publish = gone-fits dead

-- ---- how many there are

pub ends-many : (whole : List ℕ) (front : List Job) (s : State) (n : ℕ) → length (job_ends whole s n front) ≡ sum_by working_one front
ends-many whole [] s n = refl
ends-many whole (j ∷ front) s n =
    by (is_working j) refl (ends-many whole front (after s (job_end whole s n j)) (n + 1)) (ends-many whole front s (n + 1))
  where
    by : (b : Bool) → is_working j ≡ b
        → length (job_ends whole (after s (job_end whole s n j)) (n + 1) front) ≡ sum_by working_one front
        → length (job_ends whole s (n + 1) front) ≡ sum_by working_one front
        → length (if b then (job_end whole s n j ∷ job_ends whole (after s (job_end whole s n j)) (n + 1) front) else job_ends whole s (n + 1) front)
        ≡ sum_by working_one (j ∷ front)
    by true is rest idle =
        let one : working_one j ≡ 1 = ap one_if is in
        omega (arith, one, rest, sum_by-cons working_one j front)
    by false is ended rest =
        let none : working_one j ≡ 0 = ap one_if is in
        omega (arith, none, rest, sum_by-cons working_one j front)

-- ---- the first ones, and then the others

pub ends-append : (whole : List ℕ) (front rest : List Job) (s : State) (n last : ℕ) → last ≡ n + length front
    → job_ends whole s n (front ++ rest) ≡ job_ends whole s n front ++ job_ends whole (fold after s (job_ends whole s n front)) last rest
ends-append whole [] rest s n last at =
    let same : n ≡ last = omega (arith, at) in
    ap (λ m. job_ends whole s m rest) same
ends-append whole (j ∷ front) rest s n last at =
    by (is_working j) (ends-append whole front rest (after s (job_end whole s n j)) (n + 1) last (omega (arith, at)))
    (ends-append whole front rest s (n + 1) last (omega (arith, at)))
  where
    by : (b : Bool)
        → job_ends whole (after s (job_end whole s n j)) (n + 1) (front ++ rest)
        ≡ job_ends whole (after s (job_end whole s n j)) (n + 1) front
        ++ job_ends whole (fold after (after s (job_end whole s n j)) (job_ends whole (after s (job_end whole s n j)) (n + 1) front)) last rest
        → job_ends whole s (n + 1) (front ++ rest)
        ≡ job_ends whole s (n + 1) front ++ job_ends whole (fold after s (job_ends whole s (n + 1) front)) last rest
        → (if b then (job_end whole s n j ∷ job_ends whole (after s (job_end whole s n j)) (n + 1) (front ++ rest)) else job_ends whole s (n + 1) (front ++ rest))
        ≡ (if b then (job_end whole s n j ∷ job_ends whole (after s (job_end whole s n j)) (n + 1) front) else job_ends whole s (n + 1) front)
        ++ job_ends whole (fold after s
        (if b then (job_end whole s n j ∷ job_ends whole (after s (job_end whole s n j)) (n + 1) front) else job_ends whole s (n + 1) front)) last rest
    by true ended idle = ap (λ es. job_end whole s n j ∷ es) ended
    by false ended idle = idle

abbrev pub state_after : List ℕ → State → ℕ → Job → State
state_after whole s n j = after s (job_end whole s n j)

-- how a job goes, and these others
abbrev pub JobsGoBy : List ℕ → State → ℕ → Job → Bool → Bool → List Job → Tree → Tree → Type 0
JobsGoBy whole s n j w p others before now =
    EitherBy w
    (EitherBy p (JobsGo whole (state_after whole s n j) (n + 1) others before now)
    ((middle : Tree) × AllGo (failing_dirs s n j) before middle × JobsGo whole (state_after whole s n j) (n + 1) others middle now))
    (JobsGo whole s (n + 1) others before now)

pub goes-append : (whole : List ℕ) (front rest : List Job) (s : State) (n last : ℕ) (a b c : Tree) → last ≡ n + length front
    → JobsGo whole s n front a b → JobsGo whole (fold after s (job_ends whole s n front)) last rest b c → JobsGo whole s n (front ++ rest) a c
goes-append whole [] rest s n last a b c at goes more =
    let same : last ≡ n = omega (arith, at) in
    subst (λ (t : Tree). JobsGo whole s n rest t c) goes (subst (λ m. JobsGo whole s m rest b c) same more)
goes-append whole (j ∷ front) rest s n last a b c at goes more =
    let behind : last ≡ n + 1 + length front = omega (arith, at) in
    by (is_working j) (is_live_job s j && is_to_publish whole s n j)
    (λ m first next. goes-append whole front rest (state_after whole s n j) (n + 1) last m b c behind first next)
    (λ first next. goes-append whole front rest s (n + 1) last a b c behind first next)
    goes more
  where
    by : (w p : Bool)
        → ((m : Tree) → JobsGo whole (state_after whole s n j) (n + 1) front m b
        → JobsGo whole (fold after (state_after whole s n j) (job_ends whole (state_after whole s n j) (n + 1) front)) last rest b c
        → JobsGo whole (state_after whole s n j) (n + 1) (front ++ rest) m c)
        → (JobsGo whole s (n + 1) front a b → JobsGo whole (fold after s (job_ends whole s (n + 1) front)) last rest b c
        → JobsGo whole s (n + 1) (front ++ rest) a c)
        → JobsGoBy whole s n j w p front a b
        → JobsGo whole
        (fold after s (if w then (job_end whole s n j ∷ job_ends whole (state_after whole s n j) (n + 1) front) else job_ends whole s (n + 1) front)) last rest b c
        → JobsGoBy whole s n j w p (front ++ rest) a c
    by true true ended idle goes more = ended a goes more
    by true false ended idle goes more = (goes.0, goes.1, ended goes.0 goes.2 more)
    by false p ended idle goes more = idle goes more

-- ---- the job at a place

pub job-at : (jobs : List Job) (i : ℕ) → i < length jobs → (j : Job) × (slice_get jobs i ≡ Some j)
job-at [] i low = absurd (omega (arith, low))
job-at (j ∷ jobs) zero low = (j, refl)
job-at (j ∷ jobs) (suc i) low = job-at jobs i (omega (arith, low))

pub take-job : (jobs : List Job) (i : ℕ) (j : Job) → slice_get jobs i ≡ Some j → take (suc i) jobs ≡ take i jobs ++ j ∷ []
take-job [] i j at = let never : None ≡ Some j = at in cc
take-job (x ∷ jobs) zero j at = let same : x ≡ j = cc in ap (λ (y : Job). y ∷ []) same
take-job (x ∷ jobs) (suc i) j at = ap (λ js. x ∷ js) (take-job jobs i j at)

pub split-job : (jobs : List Job) (i : ℕ) (j : Job) → slice_get jobs i ≡ Some j → jobs ≡ take i jobs ++ j ∷ drop (suc i) jobs
split-job [] i j at = let never : None ≡ Some j = at in cc
split-job (x ∷ jobs) zero j at = let same : x ≡ j = cc in ap (λ (y : Job). y ∷ jobs) same
split-job (x ∷ jobs) (suc i) j at = ap (λ js. x ∷ js) (split-job jobs i j at)

pub take-long : (jobs : List Job) (i : ℕ) → i ≤ length jobs → length (take i jobs) ≡ i
take-long jobs zero low = refl
take-long [] (suc i) low = absurd (omega (arith, low))
take-long (j ∷ jobs) (suc i) low = ap suc (take-long jobs i (omega (arith, low)))

-- of those at work no more are among the first ones
pub take-fewer : (jobs : List Job) (i : ℕ) → sum_by working_one (take i jobs) ≤ sum_by working_one jobs
take-fewer jobs i = sum_by-take-le working_one jobs i

pub take-past : (jobs : List Job) (i : ℕ) → length jobs ≤ i → take i jobs ≡ jobs
take-past [] zero past = refl
take-past [] (suc i) past = refl
take-past (j ∷ jobs) zero past = absurd (omega (arith, past))
take-past (j ∷ jobs) (suc i) past = ap (λ js. j ∷ js) (take-past jobs i (omega (arith, past)))
