-- The first commit that a transaction's touches conflict with, and the first touch that both share.
-- Source: Hive Transactions (first committer wins).
use Rattle.std.specs.Prelude.{◌≡◌, ℕ, ◌+◌, Bool, true, false, nat_lt, IsFalse, Option, Some, None, List, [], ◌∷◌, take}
use Rattle.std.specs.Option.{option_map, option_or}
use Rattle.std.specs.List.{slice_get, list_any}
use Rattle.hv_base.specs.declared.ids.TxnId.{TxnId}
use Rattle.hv_base.specs.declared.ids.Touch.{Touch}
use Rattle.hv_history.specs.declared.entry.Entry.{Entry}
use Rattle.hv_history.specs.declared.entry.Entry.TheVariants as entry
use Rattle.hv_history.specs.declared.state.Transaction.{Transaction}
use Rattle.hv_history.specs.State.{State, numbered}
use Rattle.hv_history.specs.Legal.{IsFirstConflict, place_of_snapshot, touch_conflicts, touches_conflict}
use Rattle.hv_conflicts.specs.declared.meeting.Clash.{Clash}

-- The transaction is there, and the first commit behind its snapshot that conflicts with these touches is the clash's, and
-- so is the first touch that it conflicts with.
pub record IsClash (state : State) (txn : ℕ) (wrote : List Touch) (clash : Clash) : Type 0 where
  pub t : Transaction
  pub is : numbered state.transactions txn ≡ Some t
  pub touch : Touch
  pub found : slice_get wrote clash.at ≡ Some touch
  pub conflict : IsFirstConflict state (place_of_snapshot t.snapshot) wrote clash.by.0 touch.table.0 touch.partition
  pub earlier : IsFalse (touches_conflict (take clash.at wrote) conflict.those)

-- ---- the same as a walk over the places of the commits

-- the touch conflicts with one of those
abbrev pub shares : List Touch → Touch → Bool
shares those touch = list_any (touch_conflicts touch) those

abbrev pub here_or : Bool → ℕ → Option ℕ → Option ℕ
here_or true at later = Some at
here_or false at later = later

-- the place of the first of these touches that conflicts with one of those, where the first one's is given
abbrev pub shared_from : ℕ → List Touch → List Touch → Option ℕ
shared_from at [] those = None
shared_from at (touch ∷ wrote) those = here_or (shares those touch) at (shared_from (at + 1) wrote those)

abbrev pub clash_by : TxnId → ℕ → Clash
clash_by txn at = record { by = txn; at = at }

-- the clash with this entry, where it is a Commit that conflicts
abbrev pub clash_with : List Touch → Option Entry → Option Clash
clash_with wrote (Some (entry.Commit txn those)) = option_map (clash_by txn) (shared_from 0 wrote those)
clash_with wrote _ = None

abbrev pub only_if : Bool → Option Clash → Option Clash
only_if true clash = clash
only_if false clash = None

-- the clash with the entry at that place, where it stands behind the other
abbrev pub clash_behind : List Entry → ℕ → List Touch → ℕ → Option Clash
clash_behind entries place wrote at = only_if (nat_lt place at) (clash_with wrote (slice_get entries at))

-- the first that is found
abbrev pub first_some : {A B : Type 0} → (A → Option B) → List A → Option B
first_some f [] = None
first_some f (x ∷ xs) = option_or (f x) (first_some f xs)
