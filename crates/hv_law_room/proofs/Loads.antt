-- What one entry does to the load: it adds one, and takes at most one that is open or at work.
use Rattle.std.proofs.Common.{◌≡◌, ℕ, zero, suc, ◌+◌, ◌≤◌, Bool, true, false, List, [], ◌∷◌, ◌++◌, fold, refl, ap, arith}
use Rattle.std.specs.Prelude.{sum_by}
use Rattle.std.specs.List.{AllByRecursion}
use Rattle.std.proofs.lemmas.List.Sums.{sum_by-append, sum_by-cons}
use Rattle.hv_base.specs.declared.ids.Limits.{Limits}
use Rattle.hv_history.specs.declared.entry.Entry.{Entry}
use Rattle.hv_history.specs.declared.entry.Entry.TheVariants as entry
use Rattle.hv_history.specs.declared.state.Ending.TheVariants.{Aborted, Made, Dropped}
use Rattle.hv_history.specs.declared.state.Transaction.{Transaction}
use Rattle.hv_history.specs.State.{State, Job, changed, changed_at, while_open, opened, started, given_id, committed, ended, asked_job, picked, published_at, empty_at, failed_at, cleaned, acted, after}
use Rattle.hv_history.specs.Legal.{is_open, is_working, one_if, open_one, working_one, load, HasRoom, Fits, AllFit}
use Rattle.hv_law_room.specs.Room.{LoadNeverFalls, OpensNothing, NoRoomOpensNone}

-- ---- counts

one-most : (b : Bool) → one_if b ≤ 1
one-most true = let is : one_if true ≡ 1 = refl in omega (arith, is)
one-most false = let is : one_if false ≡ 0 = refl in omega (arith, is)

module _ {A : Type 0} (f : A → ℕ) (few : (x : A) → f x ≤ 1) (g : A → A) where
  fewer_at : (xs : List A) (n : ℕ) → sum_by f xs ≤ sum_by f (changed_at g xs n) + 1
  fewer_at [] n = omega arith
  fewer_at (x ∷ xs) zero = omega (arith, sum_by-cons f (g x) xs, sum_by-cons f x xs, few x)
  fewer_at (x ∷ xs) (suc n) = omega (arith, sum_by-cons f x (changed_at g xs n), sum_by-cons f x xs, fewer_at xs n)

  -- one that is changed counts one less at most
  fewer : (xs : List A) (n : ℕ) → sum_by f xs ≤ sum_by f (changed g xs n) + 1
  fewer xs zero = omega arith
  fewer xs (suc n) = fewer_at xs n

more : {A : Type 0} (f : A → ℕ) (xs : List A) (x : A) → sum_by f xs ≤ sum_by f (xs ++ x ∷ [])
more f xs x = omega (arith, sum_by-append f xs (x ∷ []))

-- ---- what an entry leaves

-- jobs are as they were, and one transaction less is open at most
less-open : (s now : State) → now.entries ≡ s.entries + 1 → now.jobs ≡ s.jobs
    → sum_by open_one s.transactions ≤ sum_by open_one now.transactions + 1 → load s ≤ load now
less-open s now entries jobs counts =
    let same : sum_by working_one now.jobs ≡ sum_by working_one s.jobs = ap (sum_by working_one) jobs in
    omega (arith, entries, same, counts)

-- transactions are as they were, and one job less is at work at most
less-work : (s now : State) → now.entries ≡ s.entries + 1 → now.transactions ≡ s.transactions
    → sum_by working_one s.jobs ≤ sum_by working_one now.jobs + 1 → load s ≤ load now
less-work s now entries transactions counts =
    let same : sum_by open_one now.transactions ≡ sum_by open_one s.transactions = ap (sum_by open_one) transactions in
    omega (arith, entries, same, counts)

changed-open : (s now : State) (f : Transaction → Transaction) (txn : ℕ) → now.entries ≡ s.entries + 1 → now.jobs ≡ s.jobs
    → now.transactions ≡ changed (while_open f) s.transactions txn → load s ≤ load now
changed-open s now f txn entries jobs are =
    let counts : sum_by open_one now.transactions ≡ sum_by open_one (changed (while_open f) s.transactions txn) = ap (sum_by open_one) are in
    let one = fewer open_one (λ (t : Transaction). one-most (is_open t)) (while_open f) s.transactions txn in
    less-open s now entries jobs (omega (arith, counts, one))

changed-work : (s now : State) (f : Job → Job) (job : ℕ) → now.entries ≡ s.entries + 1 → now.transactions ≡ s.transactions
    → now.jobs ≡ changed f s.jobs job → load s ≤ load now
changed-work s now f job entries transactions are =
    let counts : sum_by working_one now.jobs ≡ sum_by working_one (changed f s.jobs job) = ap (sum_by working_one) are in
    let one = fewer working_one (λ (j : Job). one-most (is_working j)) f s.jobs job in
    less-work s now entries transactions (omega (arith, counts, one))

-- nothing is changed but what doesn't count
same-load : (s now : State) → now.entries ≡ s.entries + 1 → now.transactions ≡ s.transactions → now.jobs ≡ s.jobs → load s ≤ load now
same-load s now entries transactions jobs =
    let same : sum_by working_one now.jobs ≡ sum_by working_one s.jobs = ap (sum_by working_one) jobs in
    less-work s now entries transactions (omega (arith, same))

-- ---- one entry, and several

load-behind : (s : State) (event : Entry) → load s ≤ load (after s event)
unfolding acted
load-behind s (entry.Boot run) = same-load s (after s (entry.Boot run)) refl refl refl
load-behind s (entry.Opened txn session number text) =
    let one = more open_one s.transactions (opened session number text) in
    less-open s (after s (entry.Opened txn session number text)) refl refl (omega (arith, one))
load-behind s (entry.Start txn statement) =
    changed-open s (after s (entry.Start txn statement)) (started s statement) txn.0 refl refl refl
load-behind s (entry.Given txn table write) =
    changed-open s (after s (entry.Given txn table write)) (given_id table.0 write.0) txn.0 refl refl refl
load-behind s (entry.Commit txn wrote) =
    changed-open s (after s (entry.Commit txn wrote)) (committed s.entries wrote) txn.0 refl refl refl
load-behind s (entry.Abort txn why) =
    changed-open s (after s (entry.Abort txn why)) (ended (Aborted s.entries why)) txn.0 refl refl refl
load-behind s (entry.Create txn table) =
    changed-open s (after s (entry.Create txn table)) (ended (Made s.entries table.0)) txn.0 refl refl refl
load-behind s (entry.Drop txn table) =
    changed-open s (after s (entry.Drop txn table)) (ended (Dropped s.entries table.0)) txn.0 refl refl refl
load-behind s (entry.Asked job table partition kind by_) =
    let one = more working_one s.jobs (asked_job s.entries table.0 partition kind by_) in
    less-work s (after s (entry.Asked job table partition kind by_)) refl refl (omega (arith, one))
load-behind s (entry.Picked job watermark) =
    changed-work s (after s (entry.Picked job watermark)) (picked watermark.0) job.0 refl refl refl
load-behind s (entry.Published job low high mark) =
    changed-work s (after s (entry.Published job low high mark)) (published_at s.entries (low.0, high.0, mark.0)) job.0 refl refl refl
load-behind s (entry.Empty job) = changed-work s (after s (entry.Empty job)) (empty_at s.entries) job.0 refl refl refl
load-behind s (entry.Cleaned job) = changed-work s (after s (entry.Cleaned job)) cleaned job.0 refl refl refl
load-behind s (entry.Failed job why) = changed-work s (after s (entry.Failed job why)) (failed_at s.entries why) job.0 refl refl refl
load-behind s (entry.Forgot table write) = same-load s (after s (entry.Forgot table write)) refl refl refl
load-behind s (entry.Next txn statement number text) = same-load s (after s (entry.Next txn statement number text)) refl refl refl
load-behind s (entry.Did txn statement wrote) = same-load s (after s (entry.Did txn statement wrote)) refl refl refl
load-behind s (entry.Alter txn table) = same-load s (after s (entry.Alter txn table)) refl refl refl

pub never-falls : LoadNeverFalls
never-falls s [] = omega arith
never-falls s (event ∷ events) =
    let one = load-behind s event in
    let rest = never-falls (after s event) events in omega (arith, one, rest)

-- ---- no room

-- an entry that fits opens something only where there is room for two
unopened : (limits : Limits) (s : State) (event : Entry) → Fits limits s event → (HasRoom limits s 2 → ⊥) → OpensNothing event
unopened limits s (entry.Opened txn session number text) fits none = absurd (none fits.room)
unopened limits s (entry.Boot run) fits none = refl
unopened limits s (entry.Start txn statement) fits none = refl
unopened limits s (entry.Given txn table write) fits none = refl
unopened limits s (entry.Commit txn wrote) fits none = refl
unopened limits s (entry.Abort txn why) fits none = refl
unopened limits s (entry.Create txn table) fits none = refl
unopened limits s (entry.Drop txn table) fits none = refl
unopened limits s (entry.Asked job table partition kind by_) fits none = refl
unopened limits s (entry.Picked job watermark) fits none = refl
unopened limits s (entry.Published job low high mark) fits none = refl
unopened limits s (entry.Empty job) fits none = refl
unopened limits s (entry.Cleaned job) fits none = refl
unopened limits s (entry.Failed job why) fits none = refl
unopened limits s (entry.Forgot table write) fits none = refl
unopened limits s (entry.Next txn statement number text) fits none = refl
unopened limits s (entry.Did txn statement wrote) fits none = refl
unopened limits s (entry.Alter txn table) fits none = refl

pub no-room : NoRoomOpensNone
no-room limits s [] fit none = tt
no-room limits s (event ∷ events) fit none =
    let falls = load-behind s event in (
      unopened limits s event fit.0 none,
      no-room limits (after s event) events fit.1 (λ room. none (omega (arith, falls, room))),
    )
