-- What is kept beside a book of its jobs and its open transactions says what the book says.
use Rattle.std.proofs.Common.{◌≡◌, ℕ, zero, suc, ◌+◌, ◌<◌, ◌≤◌, Bool, true, false, true≢false, Option, Some, None, List, [], ◌∷◌, map, length, refl, sym, ap, ◌∙◌, arith, ltb-true, ltb-false}
use Rattle.std.specs.Prelude.{if◌then◌else◌, ◌&&◌, is_none, nat_lt, slice_get, option_map}
use Rattle.hv_history.specs.declared.state.Transaction.{Transaction}
use Rattle.hv_history.specs.State.{State, Job, numbered}
use Rattle.hv_history.specs.Legal.{is_open}
use Rattle.hv_history.specs.Jobs.{is_live_one, if_below, first_open}
use Rattle.hv_history.specs.JobsFit.{is_live_job, first_initiated}
use Rattle.hv_stands.proofs.Numbers.{numbered-map}
use Rattle.hv_book.specs.declared.jobs.JobNote.{JobNote}
use Rattle.hv_book.specs.Briefs.{brief, brief_job, brief_range, end_of, open_from, open_next}
use Rattle.hv_job_calls.specs.Refusals.{holder_by, to_pick}
use Rattle.hv_finals.specs.Finals.{works_at}
use Rattle.hv_job_calls.specs.Tests.{holder_note, live_in, is_initiated_note, waits_in, works_live}

-- ---- a job by its note

note-in : (note : JobNote) (o : Option Job) → Some note ≡ option_map brief_job o → (j : Job) × (o ≡ Some j) × (note ≡ brief_job j)
note-in note None e = cc
note-in note (Some j) e = let same : note ≡ brief_job j = cc in (j, refl, same)

pub note-of : (jobs : List Job) (n : ℕ) (note : JobNote) → Some note ≡ numbered (map brief_job jobs) n
    → (j : Job) × (numbered jobs n ≡ Some j) × (note ≡ brief_job j)
note-of jobs n note e = note-in note (numbered jobs n) (e ∙ numbered-map brief_job jobs n)

none-in : (o : Option Job) → None ≡ option_map brief_job o → o ≡ None
none-in None e = refl
none-in (Some j) e = cc

pub no-note : (jobs : List Job) (n : ℕ) → None ≡ numbered (map brief_job jobs) n → numbered jobs n ≡ None
no-note jobs n e = none-in (numbered jobs n) (e ∙ numbered-map brief_job jobs n)

-- the same job
pub one-job : (o : Option Job) (a b : Job) → o ≡ Some a → o ≡ Some b → a ≡ b
one-job None a b at_a at_b = cc
one-job (Some j) a b at_a at_b = cc

-- what holds by its note holds of it
pub by-note : {A : Type 0} (jobs : List Job) (n : ℕ) (note : JobNote) → Some note ≡ numbered (map brief_job jobs) n → (f : JobNote → A) (j : Job)
    → numbered jobs n ≡ Some j → f note ≡ f (brief_job j)
by-note jobs n note e f j at =
    let there = note-of jobs n note e in
    ap f there.2 ∙ ap (λ (x : Job). f (brief_job x)) (one-job (numbered jobs n) there.0 j there.1 at)

pub none-job : {A : Type 0} (jobs : List Job) (n : ℕ) → None ≡ numbered (map brief_job jobs) n → (j : Job) → numbered jobs n ≡ Some j → A
none-job jobs n e j at = let never : None ≡ Some j = sym (no-note jobs n e) ∙ at in cc

-- ---- the lowest open transaction

none-mapped : {A B : Type 0} (f : A → B) (o : Option A) → is_none (option_map f o) ≡ is_none o
none-mapped f None = refl
none-mapped f (Some x) = refl

first-kept : (k : ℕ) (ts : List Transaction) → slice_get (open_from k (map brief ts)) 0 ≡ first_open k ts
first-kept k [] = refl
first-kept k (t ∷ ts) =
    ap (λ c. slice_get (open_next c k (open_from (k + 1) (map brief ts))) 0) (none-mapped end_of t.ending) ∙ by (is_open t) (first-kept (k + 1) ts)
  where
    by : (c : Bool) → slice_get (open_from (k + 1) (map brief ts)) 0 ≡ first_open (k + 1) ts
        → slice_get (open_next c k (open_from (k + 1) (map brief ts))) 0 ≡ (if c then Some k else first_open (k + 1) ts)
    by true rest = refl
    by false rest = rest

range-held : (state : State) (o : Option (ℕ × ℕ × ℕ)) → holder_note state (option_map brief_range o) ≡ holder_by state o
range-held state None = refl
range-held state (Some range) = ap (if_below range.2) (first-kept 1 state.transactions)

pub held-same : (state : State) (n : ℕ) (note : JobNote) → Some note ≡ numbered (map brief_job state.jobs) n → (j : Job) → numbered state.jobs n ≡ Some j
    → holder_note state note.published ≡ holder_by state j.published
held-same state n note e j at =
    by-note state.jobs n note e (λ (x : JobNote). holder_note state x.published) j at ∙ range-held state j.published

-- ---- who waits

waits-same : (state : State) (note : JobNote) (o : Option Job) → Some note ≡ option_map brief_job o
    → (is_initiated_note note && is_live_one (numbered state.tables note.table)) ≡ waits_in state o
waits-same state note None e = cc
waits-same state note (Some j) e =
    let same : note ≡ brief_job j = cc in
    ap (λ (x : JobNote). is_initiated_note x && is_live_one (numbered state.tables x.table)) same

pub waits-by : (state : State) (n : ℕ) (note : JobNote) → Some note ≡ numbered (map brief_job state.jobs) n
    → (is_initiated_note note && is_live_one (numbered state.tables note.table)) ≡ waits_in state (numbered state.jobs n)
waits-by state n note e = waits-same state note (numbered state.jobs n) (e ∙ numbered-map brief_job state.jobs n)

pub waits-none : (state : State) (n : ℕ) → None ≡ numbered (map brief_job state.jobs) n → false ≡ waits_in state (numbered state.jobs n)
waits-none state n e = sym (ap (waits_in state) (no-note state.jobs n e))

-- ---- the lowest that waits

-- none of the first ones does
pub record NoneWaits (state : State) (i : ℕ) : Type 0 where
  pub none : (k : ℕ) → k < i → waits_in state (slice_get state.jobs k) ≡ false

pub waits-init : (state : State) → NoneWaits state 0
waits-init state = record { none = λ k low. absurd (omega (arith, low)) }

pub waits-next : (state : State) (i : ℕ) → NoneWaits state i → waits_in state (numbered state.jobs (i + 1)) ≡ false → NoneWaits state (i + 1)
waits-next state i so_far here = record { none = λ k low. by k low (nat_lt k i) refl }
  where
    at : waits_in state (slice_get state.jobs i) ≡ false
    at = let next : suc i ≡ i + 1 = omega arith in ap (λ n. waits_in state (numbered state.jobs n)) next ∙ here

    by : (k : ℕ) → k < i + 1 → (b : Bool) → nat_lt k i ≡ b → waits_in state (slice_get state.jobs k) ≡ false
    by k low true less = so_far.none k (ltb-true k i less)
    by k low false most =
        let high = ltb-false k i most in
        let same : k ≡ i = omega (arith, high, low) in
        ap (λ n. waits_in state (slice_get state.jobs n)) same ∙ at

-- the first one that does
first-found : (state : State) (jobs : List Job) (k i : ℕ) → ((n : ℕ) → n < i → waits_in state (slice_get jobs n) ≡ false)
    → waits_in state (slice_get jobs i) ≡ true → first_initiated state k jobs ≡ Some (k + i)
first-found state [] k i none here = absurd (true≢false (sym here))
first-found state (j ∷ jobs) k zero none here =
    let same : k ≡ k + 0 = omega arith in
    ap (λ (b : Bool). if b then Some k else first_initiated state (k + 1) jobs) here ∙ ap (λ n. Some n) same
first-found state (j ∷ jobs) k (suc i) none here =
    let later : k + 1 + i ≡ k + suc i = omega arith in
    ap (λ (b : Bool). if b then Some k else first_initiated state (k + 1) jobs) (none 0 (omega arith))
    ∙ first-found state jobs (k + 1) i (λ n low. none (suc n) (omega (arith, low))) here
    ∙ ap (λ n. Some n) later

pub waits-found : (state : State) (i number : ℕ) → NoneWaits state i → number ≡ i + 1 → waits_in state (numbered state.jobs number) ≡ true
    → Some number ≡ to_pick state
waits-found state i number so_far at here =
    let next : number ≡ suc i = omega (arith, at) in
    let first : number ≡ 1 + i = omega (arith, at) in
    ap (λ n. Some n) first
    ∙ sym (first-found state state.jobs 1 i so_far.none (ap (λ n. waits_in state (numbered state.jobs n)) (sym next) ∙ here))

-- none does
none-found : (state : State) (jobs : List Job) (k : ℕ) → ((n : ℕ) → waits_in state (slice_get jobs n) ≡ false) → first_initiated state k jobs ≡ None
none-found state [] k none = refl
none-found state (j ∷ jobs) k none =
    ap (λ (b : Bool). if b then Some k else first_initiated state (k + 1) jobs) (none 0) ∙ none-found state jobs (k + 1) (λ n. none (suc n))

past-end : (jobs : List Job) (n : ℕ) → length jobs ≤ n → slice_get jobs n ≡ None
past-end [] n high = refl
past-end (j ∷ jobs) zero high = absurd (omega (arith, high))
past-end (j ∷ jobs) (suc n) high = past-end jobs n (omega (arith, high))

pub waits-never : (state : State) (i : ℕ) → NoneWaits state i → length state.jobs ≤ i → None ≡ to_pick state
waits-never state i so_far all = sym (none-found state state.jobs 1 each)
  where
    each : (n : ℕ) → waits_in state (slice_get state.jobs n) ≡ false
    each n = by (nat_lt n i) refl
      where
        by : (b : Bool) → nat_lt n i ≡ b → waits_in state (slice_get state.jobs n) ≡ false
        by true less = so_far.none n (ltb-true n i less)
        by false most =
            let high = ltb-false n i most in
            ap (waits_in state) (past-end state.jobs n (omega (arith, high, all)))

-- ---- who is at work

pub works-by : (state : State) (o : Option Job) (r a b : Bool) → r ≡ a && b → a ≡ works_at o → b ≡ live_in state o → r ≡ works_live state o
works-by state None r a b is at_work live = is ∙ ap (λ (x : Bool). x && b) at_work
works-by state (Some j) r a b is at_work live = is ∙ (λ i. at_work i && live i)
