-- Transactions are never fewer: the next one comes behind those that an earlier book had.
use Rattle.std.proofs.Common.{◌≡◌, ℕ, zero, suc, ◌<◌, ◌≤◌, List, [], ◌∷◌, ◌++◌, length, fold, refl, ap, arith}
use Rattle.std.proofs.lemmas.List.{length-append}
use Rattle.std.proofs.lemmas.List.Sums.{fold-append}
use Rattle.hv_history.specs.declared.entry.Entry.{Entry}
use Rattle.hv_history.specs.declared.entry.Entry.TheVariants as entry
use Rattle.hv_history.specs.declared.state.Ending.TheVariants.{Aborted, Made, Dropped}
use Rattle.hv_history.specs.State.{State, changed, changed_at, while_open, opened, started, given_id, committed, ended, acted, after, state_of, nothing_yet}
use Rattle.hv_stands.specs.Running.{next_number}

pub counted-at : {A : Type 0} (f : A → A) (xs : List A) (n : ℕ) → length (changed_at f xs n) ≡ length xs
counted-at f [] n = refl
counted-at f (x ∷ xs) zero = refl
counted-at f (x ∷ xs) (suc n) = let h = counted-at f xs n in omega (arith, h)

pub counted : {A : Type 0} (f : A → A) (xs : List A) (n : ℕ) → length (changed f xs n) ≡ length xs
counted f xs zero = refl
counted f xs (suc n) = counted-at f xs n

grows-one : (s : State) (event : Entry) → length s.transactions ≤ length (after s event).transactions
unfolding acted
grows-one s (entry.Boot run) = omega arith
grows-one s (entry.Opened txn session number text) = omega (arith, length-append s.transactions (opened session number text ∷ []))
grows-one s (entry.Start txn statement) = omega (arith, counted (while_open (started s statement)) s.transactions txn.0)
grows-one s (entry.Given txn table write) = omega (arith, counted (while_open (given_id table.0 write.0)) s.transactions txn.0)
grows-one s (entry.Commit txn wrote) = omega (arith, counted (while_open (committed s.entries wrote)) s.transactions txn.0)
grows-one s (entry.Abort txn cause) = omega (arith, counted (while_open (ended (Aborted s.entries cause))) s.transactions txn.0)
grows-one s (entry.Create txn table) = omega (arith, counted (while_open (ended (Made s.entries table.0))) s.transactions txn.0)
grows-one s (entry.Drop txn table) = omega (arith, counted (while_open (ended (Dropped s.entries table.0))) s.transactions txn.0)
grows-one s event = omega arith

grows-all : (s : State) (more : List Entry) → length s.transactions ≤ length (fold after s more).transactions
grows-all s [] = omega arith
grows-all s (event ∷ more) = let one = grows-one s event in let rest = grows-all (after s event) more in omega (arith, one, rest)

pub grown-transactions : (start before : List Entry) → (more : List Entry) → before ≡ start ++ more → length (state_of start).transactions < next_number before
grown-transactions start before more is =
    let all = grows-all (state_of start) more in
    omega (arith, all, ap (λ b. length (state_of b).transactions) is, ap (λ (s : State). length s.transactions) (fold-append after nothing_yet start more))
