-- A book whose entries fit: it is sound, its fronts fit, and its load is never past the limit.
use Rattle.std.proofs.Common.{◌≡◌, ℕ, zero, suc, ◌+◌, ◌<◌, ◌≤◌, Bool, true, false, is_none, Option, Some, None, List, [], ◌∷◌, ◌++◌, length, take, fold, refl, ap, ◌∙◌, arith}
use Rattle.std.specs.Prelude.{◌&&◌, IsTrue, is_some, not, sum_by}
use Rattle.std.specs.List.{slice_get}
use Rattle.std.proofs.lemmas.List.Sums.{sum_by-append, sum_by-cons}
use Rattle.hv_base.specs.declared.ids.Limits.{Limits}
use Rattle.hv_history.specs.declared.entry.Entry.{Entry}
use Rattle.hv_history.specs.declared.entry.Entry.TheVariants as entry
use Rattle.hv_history.specs.declared.entry.Cause.{Cause}
use Rattle.hv_history.specs.declared.entry.Cause.TheVariants as cause
use Rattle.hv_history.specs.declared.entry.JobCause.{JobCause}
use Rattle.hv_history.specs.declared.state.Ending.{Ending}
use Rattle.hv_history.specs.declared.state.Ending.TheVariants.{Aborted, Made, Dropped}
use Rattle.hv_history.specs.declared.state.Transaction.{Transaction}
use Rattle.hv_history.specs.State.{State, Job, nothing_yet, numbered, changed, changed_at, first_of, unless_ended, while_open, opened, started, given_id, committed, ended, asked_job, picked, published_at, empty_at, failed_at, cleaned, acted, after, state_of}
use Rattle.hv_history.specs.JobsFit.{PickedFits, PublishedFits, EmptyFits, FailedFits, CleanedFits, ForgotFits}
use Rattle.hv_history.specs.Legal.{is_open, is_working, one_if, open_one, working_one, load, HasRoom, StartFits, GivenFits, CommitFits, CreateFits, DropFits, CauseFits, Fits, AllFit, profile}
use Rattle.hv_stands.specs.Statements.{FittingIsSound, FrontsFit, OneMoreFits, FittingHasRoom}
use Rattle.hv_stands.proofs.Numbers.{one_value, found}
use Rattle.hv_stands.proofs.Keeping.{still-open, open-by, sound-all, nothing-sound}
use Rattle.hv_stands.proofs.Behind.{entries-are}

pub fitting-sound : FittingIsSound
fitting-sound book fit = sound-all profile nothing_yet book fit nothing-sound

-- ---- its fronts, and one entry more

pub front-fits : (limits : Limits) (book : List Entry) (s : State) (place : ℕ) → AllFit limits s book → AllFit limits s (take place book)
front-fits limits book s zero fit = tt
front-fits limits [] s (suc place) fit = tt
front-fits limits (event ∷ book) s (suc place) fit = (fit.0, front-fits limits book (after s event) place fit.1)

pub fronts-fit : FrontsFit
fronts-fit book place fit = front-fits profile book nothing_yet place fit

pub more-fits : (limits : Limits) (book : List Entry) (s : State) (event : Entry) → AllFit limits s book → Fits limits (fold after s book) event
    → AllFit limits s (book ++ event ∷ [])
more-fits limits [] s event fit fits = (fits, tt)
more-fits limits (first ∷ book) s event fit fits = (fit.0, more-fits limits book (after s first) event fit.1 fits)

pub one-more-fits : OneMoreFits
one-more-fits book event fit fits = more-fits profile book nothing_yet event fit fits

-- ---- how many are open

-- a change that leaves each as open as it was
module _ (f : Transaction → Transaction) (same : (t : Transaction) → (f t).ending ≡ t.ending) where
  as-open : (t : Transaction) → open_one (while_open f t) ≡ open_one t
  as-open t = ap (λ (o : Option Ending). one_if (is_none o)) (open-by (λ (x : Transaction). x.ending ≡ t.ending) t (f t) t.ending refl (same t))

  open-same_at : (xs : List Transaction) (n : ℕ) → sum_by open_one (changed_at (while_open f) xs n) ≡ sum_by open_one xs
  open-same_at [] n = refl
  open-same_at (x ∷ xs) zero =
      omega (arith, sum_by-cons open_one (while_open f x) xs, sum_by-cons open_one x xs, as-open x)
  open-same_at (x ∷ xs) (suc n) =
      omega (arith, sum_by-cons open_one x (changed_at (while_open f) xs n), sum_by-cons open_one x xs, open-same_at xs n)

  open-same : (xs : List Transaction) (n : ℕ) → sum_by open_one (changed (while_open f) xs n) ≡ sum_by open_one xs
  open-same xs zero = refl
  open-same xs (suc n) = open-same_at xs n

-- one that ends what is open
module _ (f : Transaction → Transaction) (ends : (t : Transaction) → is_open (f t) ≡ false) (t : Transaction) (unended : t.ending ≡ None) where
  one-ends : (x : Transaction) → x ≡ t → (open_one (while_open f x) ≡ 0) × (open_one x ≡ 1)
  one-ends x is =
      let none : x.ending ≡ None = ap (λ (y : Transaction). y.ending) is ∙ unended in (
        ap (λ (o : Option Ending). open_one (unless_ended o x (f x))) none ∙ ap one_if (ends x),
        ap (λ (o : Option Ending). one_if (is_none o)) none,
      )

  open-fewer_at : (xs : List Transaction) (n : ℕ) → slice_get xs n ≡ Some t → sum_by open_one (changed_at (while_open f) xs n) + 1 ≡ sum_by open_one xs
  open-fewer_at [] n at = cc
  open-fewer_at (x ∷ xs) zero at =
      let one = one-ends x (one_value x t at) in
      omega (arith, sum_by-cons open_one (while_open f x) xs, sum_by-cons open_one x xs, one.0, one.1)
  open-fewer_at (x ∷ xs) (suc n) at =
      omega (arith, sum_by-cons open_one x (changed_at (while_open f) xs n), sum_by-cons open_one x xs, open-fewer_at xs n at)

  open-fewer : (xs : List Transaction) (n : ℕ) → numbered xs n ≡ Some t → sum_by open_one (changed (while_open f) xs n) + 1 ≡ sum_by open_one xs
  open-fewer xs zero at = cc
  open-fewer xs (suc n) at = open-fewer_at xs n at

-- ---- how many jobs are at work

never-published : (w o rest : Bool) → o ≡ false → (w && (o && rest)) ≡ false
never-published true o rest e = ap (λ b. b && rest) e
never-published false o rest e = refl

never-empty : (w p rest : Bool) → (w && (p && (false && rest))) ≡ false
never-empty true true rest = refl
never-empty true false rest = refl
never-empty false p rest = refl

never-failed : (w p e o : Bool) → o ≡ false → (w && (p && (e && o))) ≡ false
never-failed true true true o is = is
never-failed true true false o is = refl
never-failed true false e o is = refl
never-failed false p e o is = refl

has-first : {A : Type 0} (o : Option A) (x : A) → is_none (first_of o x) ≡ false
has-first None x = refl
has-first (Some y) x = refl

-- a job that ended isn't at work
pub published-ends : (place : ℕ) (range : ℕ × ℕ × ℕ) (j : Job) → is_working (published_at place range j) ≡ false
published-ends place range j =
    never-published (is_some j.watermark) (is_none (first_of j.published range)) (not j.is_empty && is_none j.failure) (has-first j.published range)

pub empty-ends : (place : ℕ) (j : Job) → is_working (empty_at place j) ≡ false
empty-ends place j = never-empty (is_some j.watermark) (is_none j.published) (is_none j.failure)

pub failed-ends : (place : ℕ) (why : JobCause) (j : Job) → is_working (failed_at place why j) ≡ false
failed-ends place why j =
    never-failed (is_some j.watermark) (is_none j.published) (not j.is_empty) (is_none (first_of j.failure why)) (has-first j.failure why)

one-most : (b : Bool) → one_if b ≤ 1
one-most true = let is : one_if true ≡ 1 = refl in omega (arith, is)
one-most false = let is : one_if false ≡ 0 = refl in omega (arith, is)

module _ (f : Job → Job) where
  -- a change that leaves each as much at work as it was
  work-same_at : ((j : Job) → working_one (f j) ≡ working_one j) → (xs : List Job) (n : ℕ) → sum_by working_one (changed_at f xs n) ≡ sum_by working_one xs
  work-same_at same [] n = refl
  work-same_at same (x ∷ xs) zero =
      omega (arith, sum_by-cons working_one (f x) xs, sum_by-cons working_one x xs, same x)
  work-same_at same (x ∷ xs) (suc n) =
      omega (arith, sum_by-cons working_one x (changed_at f xs n), sum_by-cons working_one x xs, work-same_at same xs n)

  work-same : ((j : Job) → working_one (f j) ≡ working_one j) → (xs : List Job) (n : ℕ) → sum_by working_one (changed f xs n) ≡ sum_by working_one xs
  work-same same xs zero = refl
  work-same same xs (suc n) = work-same_at same xs n

  -- one more at most is at work
  work-more_at : (xs : List Job) (n : ℕ) → sum_by working_one (changed_at f xs n) ≤ sum_by working_one xs + 1
  work-more_at [] n = omega arith
  work-more_at (x ∷ xs) zero =
      omega (arith, sum_by-cons working_one (f x) xs, sum_by-cons working_one x xs, one-most (is_working (f x)))
  work-more_at (x ∷ xs) (suc n) =
      omega (arith, sum_by-cons working_one x (changed_at f xs n), sum_by-cons working_one x xs, work-more_at xs n)

  work-more : (xs : List Job) (n : ℕ) → sum_by working_one (changed f xs n) ≤ sum_by working_one xs + 1
  work-more xs zero = omega arith
  work-more xs (suc n) = work-more_at xs n

  -- one that ends what is at work
  module _ (ends : (j : Job) → is_working (f j) ≡ false) (j : Job) (works : is_working j ≡ true) where
    worked : (x : Job) → x ≡ j → working_one x ≡ 1
    worked x is = ap (λ (y : Job). one_if (is_working y)) is ∙ ap one_if works

    work-fewer_at : (xs : List Job) (n : ℕ) → slice_get xs n ≡ Some j → sum_by working_one (changed_at f xs n) + 1 ≡ sum_by working_one xs
    work-fewer_at [] n at = cc
    work-fewer_at (x ∷ xs) zero at =
        let none : working_one (f x) ≡ 0 = ap one_if (ends x) in
        omega (arith, sum_by-cons working_one (f x) xs, sum_by-cons working_one x xs, none, worked x (one_value x j at))
    work-fewer_at (x ∷ xs) (suc n) at =
        omega (arith, sum_by-cons working_one x (changed_at f xs n), sum_by-cons working_one x xs, work-fewer_at xs n at)

    work-fewer : (xs : List Job) (n : ℕ) → numbered xs n ≡ Some j → sum_by working_one (changed f xs n) + 1 ≡ sum_by working_one xs
    work-fewer xs zero at = cc
    work-fewer xs (suc n) at = work-fewer_at xs n at

-- ---- the load

-- there was room for the entry, and behind it the load is within the limit
record IsRoomy (limits : Limits) (s now : State) : Type 0 where
  room : s.entries < limits.entries
  within : load now ≤ limits.entries

-- where as many more are open as it asks room for, but for the one entry
roomy : (limits : Limits) (s now : State) (more : ℕ) → now.entries ≡ s.entries + 1 → now.jobs ≡ s.jobs
    → sum_by open_one now.transactions + 1 ≡ sum_by open_one s.transactions + more → HasRoom limits s more → IsRoomy limits s now
roomy limits s now more entries jobs counts room =
    let same : sum_by working_one now.jobs ≡ sum_by working_one s.jobs = ap (sum_by working_one) jobs in
    record { room = omega (arith, counts, room); within = omega (arith, entries, same, counts, room) }

-- the same where jobs change
job-roomy : (limits : Limits) (s now : State) (more : ℕ) → now.entries ≡ s.entries + 1 → now.transactions ≡ s.transactions
    → sum_by working_one now.jobs + 1 ≤ sum_by working_one s.jobs + more → HasRoom limits s more → IsRoomy limits s now
job-roomy limits s now more entries transactions counts room =
    let same : sum_by open_one now.transactions ≡ sum_by open_one s.transactions = ap (sum_by open_one) transactions in
    record { room = omega (arith, counts, room); within = omega (arith, entries, same, counts, room) }

-- what ends a job adds an entry, and takes one that is at work
job-ends-roomy : (limits : Limits) (s now : State) (number : ℕ) (job : Job) (f : Job → Job) → ((j : Job) → is_working (f j) ≡ false)
    → numbered s.jobs number ≡ Some job → is_working job ≡ true → load s ≤ limits.entries → now.entries ≡ s.entries + 1
    → now.transactions ≡ s.transactions → now.jobs ≡ changed f s.jobs number → IsRoomy limits s now
job-ends-roomy limits s now number job f ends at works within entries transactions are =
    let fewer : sum_by working_one (changed f s.jobs number) + 1 ≡ sum_by working_one s.jobs = work-fewer f ends job works s.jobs number at in
    let counts : sum_by working_one now.jobs ≡ sum_by working_one (changed f s.jobs number) = ap (sum_by working_one) are in
    job-roomy limits s now 0 entries transactions (omega (arith, fewer, counts)) (omega (arith, within))

-- every cause of an abort is one of an open transaction
pub cause-open : (limits : Limits) (s : State) (txn : ℕ) (why : Cause) (t : Transaction) → CauseFits limits s txn why t → IsTrue (is_open t)
cause-open limits s txn (cause.Refused number) t fits = fits.unended
cause-open limits s txn (cause.Conflict by_ table partition) t fits = fits.running.unended
cause-open limits s txn (cause.Request by_) t fits = fits.unended
cause-open limits s txn cause.Full t fits = fits.unended
cause-open limits s txn (cause.Twice partition row) t fits = fits.unended
cause-open limits s txn (cause.Blocked holder) t fits = fits.waiting.unended
cause-open limits s txn (cause.ReadFault count) t fits = fits.running.unended
cause-open limits s txn (cause.WriteFault count) t fits = fits.running.unended
cause-open limits s txn (cause.Damaged place) t fits = fits.unended
cause-open limits s txn cause.RowLimit t fits = fits.unended
cause-open limits s txn cause.PartitionLimit t fits = fits.unended
cause-open limits s txn cause.Memory t fits = fits
cause-open limits s txn cause.Lost t fits = fits.unended
cause-open limits s txn cause.Rollback t fits = absurd fits

-- what ends a transaction adds an entry, and takes one that is open
ends-roomy : (limits : Limits) (s now : State) (txn : ℕ) (t : Transaction) (f : Transaction → Transaction) → ((x : Transaction) → is_open (f x) ≡ false)
    → numbered s.transactions txn ≡ Some t → IsTrue (is_open t) → load s ≤ limits.entries → now.entries ≡ s.entries + 1 → now.jobs ≡ s.jobs
    → now.transactions ≡ changed (while_open f) s.transactions txn → IsRoomy limits s now
ends-roomy limits s now txn t f ends at unended within entries jobs are =
    let fewer : sum_by open_one (changed (while_open f) s.transactions txn) + 1 ≡ sum_by open_one s.transactions =
    open-fewer f ends t (still-open t unended) s.transactions txn at in
    let counts : sum_by open_one now.transactions ≡ sum_by open_one (changed (while_open f) s.transactions txn) = ap (sum_by open_one) are in
    roomy limits s now 0 entries jobs (omega (arith, fewer, counts)) (omega (arith, within))

fits-roomy : (limits : Limits) (s : State) (event : Entry) → Fits limits s event → load s ≤ limits.entries → IsRoomy limits s (after s event)
unfolding acted
fits-roomy limits s (entry.Boot run) fits within = roomy limits s (after s (entry.Boot run)) 1 refl refl refl fits.room
fits-roomy limits s (entry.Opened txn session number text) fits within =
    let t : Transaction = opened session number text in
    let all : sum_by open_one (s.transactions ++ t ∷ []) ≡ sum_by open_one s.transactions + sum_by open_one (t ∷ []) = sum_by-append open_one s.transactions (t ∷ []) in
    let last : sum_by open_one (t ∷ []) ≡ 1 + 0 = sum_by-cons open_one t [] in
    roomy limits s (after s (entry.Opened txn session number text)) 2 refl refl (omega (arith, all, last)) fits.room
fits-roomy limits s (entry.Start txn statement) fits within =
    let here = found (StartFits limits s statement) (numbered s.transactions txn.0) fits in
    roomy limits s (after s (entry.Start txn statement)) 1 refl refl
    (ap (λ (n : ℕ). n + 1) (open-same (started s statement) (λ t. refl) s.transactions txn.0)) here.2.room
fits-roomy limits s (entry.Given txn table write) fits within =
    let here = found (GivenFits limits s table.0 write.0) (numbered s.transactions txn.0) fits in
    roomy limits s (after s (entry.Given txn table write)) 1 refl refl
    (ap (λ (n : ℕ). n + 1) (open-same (given_id table.0 write.0) (λ t. refl) s.transactions txn.0)) here.2.room
fits-roomy limits s (entry.Commit txn wrote) fits within =
    let here = found (CommitFits s wrote) (numbered s.transactions txn.0) fits in
    ends-roomy limits s (after s (entry.Commit txn wrote)) txn.0 here.0 (committed s.entries wrote) (λ t. refl) here.1 here.2.running.unended within refl refl refl
fits-roomy limits s (entry.Abort txn why) fits within =
    let here = found (CauseFits limits s txn.0 why) (numbered s.transactions txn.0) fits in
    ends-roomy limits s (after s (entry.Abort txn why)) txn.0 here.0 (ended (Aborted s.entries why)) (λ t. refl) here.1 (cause-open limits s txn.0 why here.0 here.2) within refl refl refl
fits-roomy limits s (entry.Create txn table) fits within =
    let here = found (CreateFits s table.0) (numbered s.transactions txn.0) fits in
    ends-roomy limits s (after s (entry.Create txn table)) txn.0 here.0 (ended (Made s.entries table.0)) (λ t. refl) here.1 here.2.running.unended within refl refl refl
fits-roomy limits s (entry.Drop txn table) fits within =
    let here = found (DropFits s table.0) (numbered s.transactions txn.0) fits in
    ends-roomy limits s (after s (entry.Drop txn table)) txn.0 here.0 (ended (Dropped s.entries table.0)) (λ t. refl) here.1 here.2.running.unended within refl refl refl
fits-roomy limits s (entry.Asked job table partition kind by_) fits within =
    let new : Job = asked_job s.entries table.0 partition kind by_ in
    let all : sum_by working_one (s.jobs ++ new ∷ []) ≡ sum_by working_one s.jobs + sum_by working_one (new ∷ []) = sum_by-append working_one s.jobs (new ∷ []) in
    let last : sum_by working_one (new ∷ []) ≡ 0 + 0 = sum_by-cons working_one new [] in
    job-roomy limits s (after s (entry.Asked job table partition kind by_)) 1 refl refl (omega (arith, all, last)) fits.room
fits-roomy limits s (entry.Picked job mark) fits within =
    let here = found (PickedFits limits s job.0 mark.0) (numbered s.jobs job.0) fits in
    let more = work-more (picked mark.0) s.jobs job.0 in
    job-roomy limits s (after s (entry.Picked job mark)) 2 refl refl (omega (arith, more)) here.2.room
fits-roomy limits s (entry.Published job low high mark) fits within =
    let here = found (PublishedFits s low.0 high.0 mark.0) (numbered s.jobs job.0) fits in
    job-ends-roomy limits s (after s (entry.Published job low high mark)) job.0 here.0 (published_at s.entries (low.0, high.0, mark.0))
    (published-ends s.entries (low.0, high.0, mark.0)) here.1 here.2.working within refl refl refl
fits-roomy limits s (entry.Empty job) fits within =
    let here = found (EmptyFits s) (numbered s.jobs job.0) fits in
    job-ends-roomy limits s (after s (entry.Empty job)) job.0 here.0 (empty_at s.entries) (empty-ends s.entries) here.1 here.2.working within refl refl refl
fits-roomy limits s (entry.Failed job why) fits within =
    let here = found (FailedFits s why) (numbered s.jobs job.0) fits in
    job-ends-roomy limits s (after s (entry.Failed job why)) job.0 here.0 (failed_at s.entries why) (failed-ends s.entries why) here.1 here.2.working within refl refl refl
fits-roomy limits s (entry.Cleaned job) fits within =
    let here = found (CleanedFits limits s) (numbered s.jobs job.0) fits in
    let same = work-same cleaned (λ j. refl) s.jobs job.0 in
    job-roomy limits s (after s (entry.Cleaned job)) 1 refl refl (omega (arith, same)) here.2.room
fits-roomy limits s (entry.Forgot table write) fits within =
    let here = found (ForgotFits limits s write.0) (numbered s.tables table.0) fits in
    job-roomy limits s (after s (entry.Forgot table write)) 1 refl refl (omega arith) here.2.room
fits-roomy limits s event fits within = absurd fits

pub load-within : (limits : Limits) (book : List Entry) (s : State) → AllFit limits s book → load s ≤ limits.entries → load (fold after s book) ≤ limits.entries
load-within limits [] s fit within = within
load-within limits (event ∷ book) s fit within = load-within limits book (after s event) fit.1 (fits-roomy limits s event fit.0 within).within

pub room-within : (limits : Limits) (book : List Entry) (event : Entry) → AllFit limits nothing_yet book → Fits limits (state_of book) event
    → length book < limits.entries
room-within limits book event fit fits =
    let none : load nothing_yet ≤ limits.entries = omega arith in
    let here = fits-roomy limits (state_of book) event fits (load-within limits book nothing_yet fit none) in
    omega (arith, here.room, entries-are book)

pub fitting-room : FittingHasRoom
fitting-room book event fit fits = room-within profile book event fit fits
