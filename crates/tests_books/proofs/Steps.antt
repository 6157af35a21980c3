-- How a replay follows the state of a book, entry by entry.
use Rattle.std.proofs.Common.{◌≡◌, ℕ, zero, suc, ◌+◌, ◌<◌, List, [], ◌∷◌, length, get_or, take, fold, refl, sym, ap, ◌∙◌, arith}
use Rattle.std.proofs.lemmas.List.{length-take-le}
use Rattle.std.proofs.lemmas.List.Sums.{fold_more}
use Rattle.hv_base.specs.declared.ids.TxnId.{TxnId}
use Rattle.hv_history.specs.declared.entry.Entry.{Entry}
use Rattle.hv_history.specs.declared.entry.Entry.TheVariants as entry
use Rattle.hv_history.specs.declared.state.Statement.{Statement}
use Rattle.hv_history.specs.declared.state.Table.{Table}
use Rattle.hv_history.specs.declared.state.Transaction.{Transaction}
use Rattle.hv_history.specs.State.{State, Job, nothing_yet, changed, changed_at, while_open, first_of, first_known, picked, published_at, empty_at, failed_at, cleaned, acted, after, state_of, started}
use Rattle.tests_books.specs.Replay.{AsksNothing, state_at}
use Rattle.tests_books.proofs.Shows.{meaning-alone}

-- ---- what an entry does to transactions and tables rests on these, and on its place

started-alone : (state : State) → state.jobs ≡ [] → (number : ℕ) (transaction : Transaction)
    → started (state_at state.entries state.transactions state.tables) number transaction ≡ started state number transaction
started-alone state none number transaction =
    λ k. record transaction {
      statements = changed_at (λ (s : Statement). record s { meaning = first_known s.meaning (meaning-alone state state.entries none s.text k) }) transaction.statements number;
      snapshot = first_of transaction.snapshot (record { place = state.entries; tables = state.tables; opened = length state.transactions });
    }

transactions-alone : (state : State) → state.jobs ≡ [] → (event : Entry)
    → (acted (state_at state.entries state.transactions state.tables) event).transactions ≡ (acted state event).transactions
unfolding acted
transactions-alone state none (entry.Boot run) = refl
transactions-alone state none (entry.Opened txn session number text) = refl
transactions-alone state none (entry.Start txn statement) =
    λ k. changed (while_open (λ (t : Transaction). started-alone state none statement t k)) state.transactions txn.0
transactions-alone state none (entry.Given txn table write) = refl
transactions-alone state none (entry.Commit txn wrote) = refl
transactions-alone state none (entry.Abort txn cause) = refl
transactions-alone state none (entry.Create txn table) = refl
transactions-alone state none (entry.Drop txn table) = refl
transactions-alone state none (entry.Asked job table partition kind by) = refl
transactions-alone state none (entry.Picked job watermark) = refl
transactions-alone state none (entry.Published job low high mark) = refl
transactions-alone state none (entry.Empty job) = refl
transactions-alone state none (entry.Cleaned job) = refl
transactions-alone state none (entry.Failed job cause) = refl
transactions-alone state none (entry.Forgot table write) = refl
transactions-alone state none (entry.Next txn statement number text) = refl
transactions-alone state none (entry.Did txn statement wrote) = refl
transactions-alone state none (entry.Alter txn table) = refl

tables-alone : (state : State) (event : Entry)
    → (acted (state_at state.entries state.transactions state.tables) event).tables ≡ (acted state event).tables
unfolding acted
tables-alone state (entry.Boot run) = refl
tables-alone state (entry.Opened txn session number text) = refl
tables-alone state (entry.Start txn statement) = refl
tables-alone state (entry.Given txn table write) = refl
tables-alone state (entry.Commit txn wrote) = refl
tables-alone state (entry.Abort txn cause) = refl
tables-alone state (entry.Create txn table) = refl
tables-alone state (entry.Drop txn table) = refl
tables-alone state (entry.Asked job table partition kind by) = refl
tables-alone state (entry.Picked job watermark) = refl
tables-alone state (entry.Published job low high mark) = refl
tables-alone state (entry.Empty job) = refl
tables-alone state (entry.Cleaned job) = refl
tables-alone state (entry.Failed job cause) = refl
tables-alone state (entry.Forgot table write) = refl
tables-alone state (entry.Next txn statement number text) = refl
tables-alone state (entry.Did txn statement wrote) = refl
tables-alone state (entry.Alter txn table) = refl

-- no job comes where none is asked for
changed-none : (f : Job → Job) (n : ℕ) → changed f [] n ≡ []
changed-none f zero = refl
changed-none f (suc n) = refl

stays-none : (f : Job → Job) (jobs : List Job) (n : ℕ) → jobs ≡ [] → changed f jobs n ≡ []
stays-none f jobs n none = ap (λ (js : List Job). changed f js n) none ∙ changed-none f n

jobs-none : (state : State) (event : Entry) → AsksNothing event → state.jobs ≡ [] → (acted state event).jobs ≡ []
unfolding acted
jobs-none state (entry.Boot run) asks none = none
jobs-none state (entry.Opened txn session number text) asks none = none
jobs-none state (entry.Start txn statement) asks none = none
jobs-none state (entry.Given txn table write) asks none = none
jobs-none state (entry.Commit txn wrote) asks none = none
jobs-none state (entry.Abort txn cause) asks none = none
jobs-none state (entry.Create txn table) asks none = none
jobs-none state (entry.Drop txn table) asks none = none
jobs-none state (entry.Asked job table partition kind by) asks none = absurd asks
jobs-none state (entry.Picked job watermark) asks none = stays-none (picked watermark.0) state.jobs job.0 none
jobs-none state (entry.Published job low high mark) asks none =
    stays-none (published_at state.entries (low.0, high.0, mark.0)) state.jobs job.0 none
jobs-none state (entry.Empty job) asks none = stays-none (empty_at state.entries) state.jobs job.0 none
jobs-none state (entry.Cleaned job) asks none = stays-none cleaned state.jobs job.0 none
jobs-none state (entry.Failed job cause) asks none = stays-none (failed_at state.entries cause) state.jobs job.0 none
jobs-none state (entry.Forgot table write) asks none = none
jobs-none state (entry.Next txn statement number text) asks none = none
jobs-none state (entry.Did txn statement wrote) asks none = none
jobs-none state (entry.Alter txn table) asks none = none

-- a Start, over the tables that the replay has
pub start_acts : (place : ℕ) (transactions : List Transaction) (tables seen : List Table) (event : Entry) (txn : TxnId) (statement : ℕ)
    → event ≡ entry.Start txn statement → seen ≡ tables
    → changed (while_open (started (state_at place transactions seen) statement)) transactions txn.0
    ≡ (acted (state_at place transactions tables) event).transactions
unfolding acted
start_acts place transactions tables seen event txn statement is same =
    (λ k. changed (while_open (started (state_at place transactions (same k)) statement)) transactions txn.0)
    ∙ ap (λ (e : Entry). (acted (state_at place transactions tables) e).transactions) (sym is)

counted : (state : State) (book : List Entry) → (fold after state book).entries ≡ state.entries + length book
counted state [] = omega arith
counted state (event ∷ book) = let later = counted (after state event) book in omega (arith, later)

-- a place is the number of the entries before it
place-counted : (book : List Entry) (at : ℕ) → at < length book → (state_of (take at book)).entries ≡ at
place-counted book at p =
    let taken : length (take at book) ≡ at = length-take-le at book (omega arith) in
    let all = counted nothing_yet (take at book) in
    omega (arith, all, taken)

module _ (book : List Entry) (at : ℕ) (event : Entry) (transactions : List Transaction) (tables : List Table)
    (within : at < length book) (is : event ≡ get_or book at event)
    (same : transactions ≡ (state_of (take at book)).transactions) (same' : tables ≡ (state_of (take at book)).tables)
    (none : (state_of (take at book)).jobs ≡ []) where
  goes_on : state_of (take (at + 1) book) ≡ after (state_of (take at book)) event
  goes_on = fold_more after nothing_yet book at event within ∙ ap (after (state_of (take at book))) (sym is)

  at_state : state_at at transactions tables
      ≡ state_at (state_of (take at book)).entries (state_of (take at book)).transactions (state_of (take at book)).tables
  at_state = λ k. state_at (sym (place-counted book at within) k) (same k) (same' k)

  pub next_transactions : (acted (state_at at transactions tables) event).transactions ≡ (state_of (take (at + 1) book)).transactions
  next_transactions =
      ap (λ (s : State). (acted s event).transactions) at_state ∙ transactions-alone (state_of (take at book)) none event
      ∙ ap (λ (s : State). s.transactions) (sym goes_on)

  pub next_tables : (acted (state_at at transactions tables) event).tables ≡ (state_of (take (at + 1) book)).tables
  next_tables =
      ap (λ (s : State). (acted s event).tables) at_state ∙ tables-alone (state_of (take at book)) event
      ∙ ap (λ (s : State). s.tables) (sym goes_on)

  pub next_jobs : AsksNothing event → (state_of (take (at + 1) book)).jobs ≡ []
  next_jobs asks = ap (λ (s : State). s.jobs) goes_on ∙ jobs-none (state_of (take at book)) event asks none
