-- Entries that follow a book: those of one statement that begin it, and books that fit and are legal.
use Rattle.std.proofs.Common.{◌≡◌, ℕ, ◌≤◌, List, [], ◌∷◌, ◌++◌, fold, arith}
use Rattle.std.specs.List.{AllByRecursion}
use Rattle.std.proofs.lemmas.List.Sums.{fold-append}
use Rattle.hv_history.specs.declared.entry.Entry.{Entry}
use Rattle.hv_history.specs.declared.entry.Entry.TheVariants as entry
use Rattle.hv_history.specs.declared.entry.Cause.TheVariants as cause
use Rattle.hv_history.specs.State.{State, after, state_of, nothing_yet}
use Rattle.hv_history.specs.Legal.{AllFit, AllTruthful, IsTruthful, IsLegalFrom, profile}
use Rattle.hv_stands.specs.Statements.{AllFitting}
use Rattle.hv_table_reader.specs.hv_acts.specs.hv_telling.specs.hv_house.proofs.Faithful.{truthful-from}
use Rattle.hv_steps.specs.Ending.{KeepsCount}
use Rattle.hv_table_reader.specs.hv_acts.specs.Meant.{IsNoEnd}

-- ---- facts of each entry

pub all-append : {A : Type 0} (P : A → Type 0) (xs ys : List A) → AllByRecursion P xs → AllByRecursion P ys → AllByRecursion P (xs ++ ys)
all-append P [] ys first then = then
all-append P (x ∷ xs) ys first then = (first.0, all-append P xs ys first.1 then)

pub all-map : {A : Type 0} (P Q : A → Type 0) → ((x : A) → P x → Q x) → (xs : List A) → AllByRecursion P xs → AllByRecursion Q xs
all-map P Q f [] all = tt
all-map P Q f (x ∷ xs) all = (f x all.0, all-map P Q f xs all.1)

-- ---- entries by which a statement begins

abbrev pub IsBegun : Entry → Type 0
IsBegun (entry.Opened txn session number text) = Unit {0}
IsBegun (entry.Start txn statement) = Unit {0}
IsBegun (entry.Given txn table write) = Unit {0}
IsBegun event = ⊥

pub begun-counts : (low high : ℕ) (event : Entry) → IsBegun event → KeepsCount low high event
begun-counts low high (entry.Opened txn session number text) begun = tt
begun-counts low high (entry.Start txn statement) begun = tt
begun-counts low high (entry.Given txn table write) begun = tt
begun-counts low high event begun = absurd begun

pub begun-unended : (txn : ℕ) (event : Entry) → IsBegun event → IsNoEnd txn event
begun-unended own (entry.Opened txn session number text) begun = tt
begun-unended own (entry.Start txn statement) begun = tt
begun-unended own (entry.Given txn table write) begun = tt
begun-unended own event begun = absurd begun

pub begun-true : (s : State) (event : Entry) → IsBegun event → IsTruthful s event
begun-true s (entry.Opened txn session number text) begun = tt
begun-true s (entry.Start txn statement) begun = tt
begun-true s (entry.Given txn table write) begun = tt
begun-true s event begun = absurd begun

pub begun-truthful : (s : State) (events : List Entry) → AllByRecursion IsBegun events → AllTruthful s events
begun-truthful s [] begun = tt
begun-truthful s (event ∷ events) begun = (begun-true s event begun.0, begun-truthful (after s event) events begun.1)

-- a count that was kept is above a lower one
pub counts-from : (low mid high : ℕ) → low ≤ mid → (event : Entry) → KeepsCount mid high event → KeepsCount low high event
counts-from low mid high below (entry.Abort txn (cause.ReadFault count)) keeps = (omega (arith, keeps.0, below), keeps.1)
counts-from low mid high below (entry.Abort txn (cause.WriteFault count)) keeps = (omega (arith, keeps.0, below), keeps.1)
counts-from low mid high below event keeps = cc

-- ---- books that fit, and legal ones

pub fit-behind : (s : State) (book more : List Entry) → AllFit profile s (book ++ more) → AllFit profile (fold after s book) more
fit-behind s [] more fit = fit
fit-behind s (event ∷ book) more fit = fit-behind (after s event) book more fit.1

pub fit-from : (s : State) (book more : List Entry) → AllFit profile s book → AllFit profile (fold after s book) more → AllFit profile s (book ++ more)
fit-from s [] more fit next = next
fit-from s (e ∷ book) more fit next = (fit.0, fit-from (after s e) book more fit.1 next)

pub legal-from : (s : State) (book more : List Entry) → IsLegalFrom profile s book → IsLegalFrom profile (fold after s book) more → IsLegalFrom profile s (book ++ more)
legal-from s book more legal next = record {
  fit = fit-from s book more legal.fit next.fit;
  truthful = truthful-from s book more legal.truthful next.truthful;
}

-- what begins a statement behind a book is legal, where it fits
pub begun-legal : (book more : List Entry) → AllFitting (book ++ more) → AllByRecursion IsBegun more → IsLegalFrom profile (state_of book) more
begun-legal book more fit begun = record { fit = fit-behind nothing_yet book more fit; truthful = begun-truthful (state_of book) more begun }

pub state-behind : (book more : List Entry) → state_of (book ++ more) ≡ fold after (state_of book) more
state-behind book more = fold-append after nothing_yet book more
