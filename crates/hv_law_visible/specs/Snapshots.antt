-- The write id list of a table at a place of the book, by what each id's transaction has come to there, and the list
-- that a compaction works under.
-- Source: Hive Transactions, snapshots and compactor.
use Rattle.std.specs.Prelude.{◌≡◌, ◌⊎◌, ℕ, zero, suc, ◌+◌, ◌≤◌, nat_le, min, Bool, true, false, not, ◌&&◌, Option, Some, None, List, [], ◌∷◌, length, filter, slice_get}
use Rattle.hv_wids.specs.declared.list.Exception.{Exception}
use Rattle.hv_wids.specs.WriteIds.{WriteIds}
use Rattle.hv_law_visible.specs.Members.{IsIn}
use Rattle.hv_law_visible.specs.History.{Write}

-- the write id w stands at place w - 1
pub data Fate : Type 0 where
  Open : Fate
  Committed : Fate
  Aborted : Fate
  Forgotten : Fate

abbrev pub fate_of : List Fate → ℕ → Option Fate
fate_of fates zero = None
fate_of fates (suc n) = slice_get fates n

abbrev pub is_open : Fate → Bool
is_open Open = true
is_open Committed = false
is_open Aborted = false
is_open Forgotten = false

-- the write counts: its transaction is committed, or aborted and forgotten
abbrev pub is_seen : Option Fate → Bool
is_seen None = false
is_seen (Some Open) = false
is_seen (Some Committed) = true
is_seen (Some Aborted) = false
is_seen (Some Forgotten) = true

-- all ids up to this one were given, and none of them is open
abbrev pub all_ended : ℕ → List Fate → Bool
all_ended zero fates = true
all_ended (suc n) [] = false
all_ended (suc n) (fate ∷ fates) = not (is_open fate) && all_ended n fates

-- the exceptions among the ids from n on: those that are open, and those that are aborted and not forgotten
abbrev pub exceptions_from : ℕ → List Fate → List Exception
exceptions_from n [] = []
exceptions_from n (Open ∷ fates) = record { write = record { 0 = n }; aborted = false } ∷ exceptions_from (n + 1) fates
exceptions_from n (Committed ∷ fates) = exceptions_from (n + 1) fates
exceptions_from n (Aborted ∷ fates) = record { write = record { 0 = n }; aborted = true } ∷ exceptions_from (n + 1) fates
exceptions_from n (Forgotten ∷ fates) = exceptions_from (n + 1) fates

abbrev pub list_at : List Fate → WriteIds
list_at fates = record { high = record { 0 = length fates }; exceptions = exceptions_from 1 fates }

-- a list that ends at a watermark
abbrev pub list_up_to : ℕ → WriteIds → WriteIds
list_up_to mark list = record {
  high = record { 0 = min mark list.high.0 };
  exceptions = filter (λ (exception : Exception). nat_le exception.write.0 mark) list.exceptions;
}

-- how an id's fate goes on
abbrev pub GoesTo : Option Fate → Option Fate → Type 0
GoesTo None now = Unit {0}
GoesTo (Some Open) now = Unit {0}
GoesTo (Some Committed) now = now ≡ Some Committed
GoesTo (Some Aborted) now = (now ≡ Some Aborted) ⊎ (now ≡ Some Forgotten)
GoesTo (Some Forgotten) now = now ≡ Some Forgotten

-- the ids that are open, or aborted and not forgotten
abbrev pub IsUndone : List Fate → ℕ → Type 0
IsUndone fates write = (fate_of fates write ≡ Some Open) ⊎ (fate_of fates write ≡ Some Aborted)

-- the ids up to here have ended
abbrev pub HaveEnded : List Fate → ℕ → Type 0
HaveEnded fates most = (write : ℕ) → 1 ≤ write → write ≤ most → (fate : Fate) × (fate_of fates write ≡ Some fate) × (is_open fate ≡ false)

-- a snapshot and the book now: what was committed before it, and since
pub record IsSince {Found : Type 0} (before now : List Fate) (writes since : List (Write Found)) : Type 0 where
  pub goes : (write : ℕ) → GoesTo (fate_of before write) (fate_of now write)
  pub were : (w : Write Found) → IsIn w writes → fate_of before w.write ≡ Some Committed
  pub are : (w : Write Found) → IsIn w since → fate_of now w.write ≡ Some Committed
  pub were_not : (w : Write Found) → IsIn w since → fate_of before w.write ≡ Some Committed → ⊥
