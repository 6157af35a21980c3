-- The room of a book: the load never falls, so where there was none there is none later.
-- Source: the room of a journal is this project's.
use Rattle.std.specs.Prelude.{◌≡◌, ◌≤◌, Bool, true, false, List, fold}
use Rattle.std.specs.List.{AllByRecursion}
use Rattle.hv_base.specs.declared.ids.Limits.{Limits}
use Rattle.hv_history.specs.declared.entry.Entry.{Entry}
use Rattle.hv_history.specs.declared.entry.Entry.TheVariants as entry
use Rattle.hv_history.specs.State.{State, after}
use Rattle.hv_history.specs.Legal.{load, HasRoom, AllFit}

-- whatever entries come
abbrev pub LoadNeverFalls : Type 0
LoadNeverFalls = (state : State) (more : List Entry) → load state ≤ load (fold after state more)

abbrev pub opens : Entry → Bool
opens (entry.Opened txn session number text) = true
opens event = false

abbrev pub OpensNothing : Entry → Type 0
OpensNothing event = opens event ≡ false

-- no entry that fits behind a state without room for two opens a transaction
abbrev pub NoRoomOpensNone : Type 0
NoRoomOpensNone =
    (limits : Limits) (state : State) (more : List Entry) → AllFit limits state more → (HasRoom limits state 2 → ⊥)
    → AllByRecursion OpensNothing more
