-- What runs, runs still behind entries that end nothing.
use Rattle.std.proofs.Common.{◌≡◌, ℕ, true, is_none, is_some, Bool, Option, Some, None, List, [], ◌∷◌, ◌++◌, fold, refl, sym, ap, ◌∙◌, subst}
use Rattle.std.specs.Prelude.{IsSomeAnd}
use Rattle.std.specs.List.{AllByRecursion}
use Rattle.hv_base.specs.declared.ids.TxnId.{TxnId}
use Rattle.hv_history.specs.declared.entry.Entry.{Entry}
use Rattle.hv_history.specs.declared.entry.Entry.TheVariants as entry
use Rattle.hv_history.specs.declared.entry.Cause.TheVariants as cause
use Rattle.hv_history.specs.declared.state.Ending.{Ending}
use Rattle.hv_history.specs.declared.state.Ending.TheVariants.{Aborted}
use Rattle.hv_history.specs.declared.state.Snapshot.{Snapshot}
use Rattle.hv_history.specs.declared.state.Transaction.{Transaction}
use Rattle.hv_history.specs.State.{State, numbered, changed, first_of, while_open, unless_ended, started, given_id, ended, opened, acted, after}
use Rattle.hv_history.specs.Legal.{Of, IsRunning, IsWaiting, is_started}
use Rattle.hv_history.proofs.LastingLaws.{kept-more, kept-changed, same-changed}
use Rattle.hv_meta.specs.States.{state_in, state_by, transaction_state}
use Rattle.hv_trail.specs.declared.trail.TrailItem.{TrailItem}
use Rattle.hv_trail.specs.Trail.{book_of, state_at}
use Rattle.hv_trail.proofs.LastingLaws.{state-append}
use Rattle.hv_acts.specs.Answers.{HasNotEnded}
use Rattle.hv_acts.specs.Meant.{IsNoEnd}

-- ---- one entry

same : (t : Transaction) → IsRunning t → IsRunning t
same t runs = runs

is-known : (o : Option Snapshot) (s : Snapshot) → is_some (first_of o s) ≡ true
is-known None s = refl
is-known (Some first) s = refl

while-open : (f : Transaction → Transaction) → ((t : Transaction) → IsRunning t → IsRunning (f t)) → (t : Transaction) → IsRunning t → IsRunning (while_open f t)
while-open f step t runs = by t.ending
  where
    by : (ending : Option Ending) → IsRunning (unless_ended ending t (f t))
    by None = step t runs
    by (Some ending) = runs

start-runs : (state : State) (number : ℕ) (t : Transaction) → IsRunning t → IsRunning (started state number t)
start-runs state number t runs = record { unended = runs.unended; started = is-known t.snapshot _ }

give-runs : (table write : ℕ) (t : Transaction) → IsRunning t → IsRunning (given_id table write t)
give-runs table write t runs = record { unended = runs.unended; started = runs.started }

there : (o : Option Transaction) (t : Transaction) → o ≡ Some t → IsRunning t → IsSomeAnd o IsRunning
there o t e runs = subst (λ (p : Option Transaction). IsSomeAnd p IsRunning) (sym e) runs

moved : (o : Option Transaction) (t : Transaction) → IsRunning t → IsSomeAnd o (λ u. IsRunning t → IsRunning u) → IsSomeAnd o IsRunning
moved None t runs keeps = absurd keeps
moved (Some u) t runs keeps = keeps runs

changed-runs : (f : Transaction → Transaction) → ((t : Transaction) → IsRunning t → IsRunning (f t)) → (xs : List Transaction) (k n : ℕ) (t : Transaction)
    → numbered xs n ≡ Some t → IsRunning t → IsSomeAnd (numbered (changed (while_open f) xs k) n) IsRunning
changed-runs f step xs k n t e runs =
    moved (numbered (changed (while_open f) xs k) n) t runs
    (kept-changed (λ t u. IsRunning t → IsRunning u) same (while_open f) (while-open f step) xs k n t e)

one-more : (state : State) (event : Entry) (n : ℕ) (t : Transaction) → IsNoEnd n event → numbered state.transactions n ≡ Some t → IsRunning t
    → IsSomeAnd (numbered (after state event).transactions n) IsRunning
unfolding acted
one-more state (entry.Opened txn session number text) n t stays e runs =
    moved (numbered (state.transactions ++ opened session number text ∷ []) n) t runs
    (kept-more (λ t u. IsRunning t → IsRunning u) same state.transactions (opened session number text ∷ []) n t e)
one-more state (entry.Start txn statement) n t stays e runs = changed-runs (started state statement) (start-runs state statement) state.transactions txn.0 n t e runs
one-more state (entry.Given txn table write) n t stays e runs = changed-runs (given_id table.0 write.0) (give-runs table.0 write.0) state.transactions txn.0 n t e runs
one-more state (entry.Commit txn wrote) n t stays e runs = absurd stays
one-more state (entry.Abort txn (cause.Request by)) n t stays e runs =
    there (numbered (changed (while_open (ended (Aborted state.entries (cause.Request by)))) state.transactions txn.0) n) t
    (same-changed (while_open (ended (Aborted state.entries (cause.Request by)))) state.transactions txn.0 n stays ∙ e) runs
one-more state (entry.Abort txn why) n t stays e runs = absurd stays
one-more state (entry.Create txn table) n t stays e runs = absurd stays
one-more state (entry.Drop txn table) n t stays e runs = absurd stays
one-more state (entry.Boot run) n t stays e runs = there (numbered state.transactions n) t e runs
one-more state (entry.Asked job table partition kind by) n t stays e runs = there (numbered state.transactions n) t e runs
one-more state (entry.Picked job watermark) n t stays e runs = there (numbered state.transactions n) t e runs
one-more state (entry.Published job low high mark) n t stays e runs = there (numbered state.transactions n) t e runs
one-more state (entry.Empty job) n t stays e runs = there (numbered state.transactions n) t e runs
one-more state (entry.Cleaned job) n t stays e runs = there (numbered state.transactions n) t e runs
one-more state (entry.Next txn statement number text) n t stays e runs = there (numbered state.transactions n) t e runs
one-more state (entry.Did txn statement wrote) n t stays e runs = there (numbered state.transactions n) t e runs
one-more state (entry.Alter txn table) n t stays e runs = there (numbered state.transactions n) t e runs
one-more state (entry.Failed job cause) n t stays e runs = there (numbered state.transactions n) t e runs
one-more state (entry.Forgot table write) n t stays e runs = there (numbered state.transactions n) t e runs

-- ---- any number of entries

here : (o : Option Transaction) (P : Type 0) → IsSomeAnd o IsRunning → ((t : Transaction) → o ≡ Some t → IsRunning t → P) → P
here None P runs go = absurd runs
here (Some t) P runs go = go t refl runs

all-more : (events : List Entry) (state : State) (n : ℕ) → AllByRecursion (IsNoEnd n) events → IsSomeAnd (numbered state.transactions n) IsRunning
    → IsSomeAnd (numbered (fold after state events).transactions n) IsRunning
all-more [] state n none runs = runs
all-more (event ∷ events) state n none runs =
    here (numbered state.transactions n) (IsSomeAnd (numbered (fold after (after state event) events).transactions n) IsRunning) runs
    (λ t e is. all-more events (after state event) n none.1 (one-more state event n t none.0 e is))

pub runs-on : (trail items : List TrailItem) (txn : TxnId) → Of (state_at trail) txn.0 IsRunning → AllByRecursion (IsNoEnd txn.0) (book_of items)
    → Of (state_at (trail ++ items)) txn.0 IsRunning
runs-on trail items txn runs none =
    subst (λ (s : State). IsSomeAnd (numbered s.transactions txn.0) IsRunning) (sym (state-append trail items))
    (all-more (book_of items) (state_at trail) txn.0 none runs)

-- ---- it has not ended

open-state : (ending : Option Ending) (started : Bool) → is_none ending ≡ true → HasNotEnded (state_by ending started)
open-state None started open_ = tt
open-state (Some ending) started open_ = cc

unended : (o : Option Transaction) (P : Transaction → Type 0) → ((t : Transaction) → P t → is_none t.ending ≡ true) → IsSomeAnd o P → HasNotEnded (transaction_state o)
unended None P open_ is = tt
unended (Some t) P open_ is = open-state t.ending (is_started t) (open_ t is)

pub runs-unended : (state : State) (txn : ℕ) → Of state txn IsRunning → HasNotEnded (state_in state txn)
runs-unended state txn runs = unended (numbered state.transactions txn) IsRunning (λ t is. is.unended) runs

-- nothing is noted
pub waits-unended : (trail items : List TrailItem) (txn : TxnId) → Of (state_at trail) txn.0 IsWaiting → book_of items ≡ []
    → HasNotEnded (state_in (state_at (trail ++ items)) txn.0)
waits-unended trail items txn waits none =
    subst (λ (s : State). HasNotEnded (state_in s txn.0))
    (ap (λ (book : List Entry). fold after (state_at trail) book) (sym none) ∙ sym (state-append trail items))
    (unended (numbered (state_at trail).transactions txn.0) IsWaiting (λ t is. is.unended) waits)
