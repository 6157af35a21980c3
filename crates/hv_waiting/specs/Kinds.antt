-- Of which kinds the own entries are of a statement that waits for its locks.
use Rattle.std.specs.Prelude.{◌≡◌, ℕ, Bool, true, false, Option, List, [], ◌∷◌}
use Rattle.std.specs.List.{AllByRecursion}
use Rattle.hv_shelf.specs.Disk.{Store}
use Rattle.hv_history.specs.declared.entry.Entry.{Entry}
use Rattle.hv_history.specs.declared.entry.Entry.TheVariants as entry
use Rattle.hv_history.specs.declared.entry.Cause.TheVariants as cause
use Rattle.hv_stands.specs.Running.{Asking}
use Rattle.hv_session.specs.hv_beginning.specs.hv_steps.specs.hv_table_reader.specs.hv_acts.specs.hv_telling.specs.Telling.{IsToldHouse}
use Rattle.hv_session.specs.hv_beginning.specs.hv_steps.specs.hv_table_reader.specs.hv_acts.specs.declared.told.ToldHouse.{ToldHouse}
use Rattle.hv_session.specs.hv_beginning.specs.hv_steps.specs.hv_table_reader.specs.hv_acts.specs.Answers.{OpensNone}
use Rattle.hv_session.specs.hv_beginning.specs.hv_steps.specs.hv_table_reader.specs.hv_acts.specs.Meant.{IsNoEnd}
use Rattle.hv_session.specs.hv_beginning.specs.hv_steps.specs.declared.ready.Reply.{Reply}
use Rattle.hv_session.specs.hv_beginning.specs.hv_steps.specs.Ending.{IsUndamaged}
use Rattle.hv_session.specs.hv_beginning.specs.hv_steps.specs.Phases.{BegunBy}
use Rattle.hv_waiting.specs.Doing.{RepliesInTurn}

-- no abort of one that a lock is held against, and none of an opening
abbrev pub never_blocks : Entry → Bool
never_blocks (entry.Abort txn (cause.Blocked holder)) = false
never_blocks (entry.Abort txn cause.Lost) = false
never_blocks event = true

abbrev pub NeverBlocks : Entry → Type 0
NeverBlocks event = never_blocks event ≡ true

-- so, no Opened, and in a told house none that says that a file is damaged
pub record IsPlain {D : Type 0} (told : D → Option Store) (now : ToldHouse D) (event : Entry) : Type 0 where
  pub unopened : OpensNone event
  pub unblocked : NeverBlocks event
  pub undamaged : IsToldHouse told now.house → IsUndamaged event

-- the first one, where there is any, is its Opened, and all others are so
abbrev pub ArePlain : {D : Type 0} → (D → Option Store) → ToldHouse D → Asking → List Entry → Type 0
ArePlain told now asking [] = Unit {0}
ArePlain told now asking (event ∷ more) = BegunBy asking (event ∷ more) × AllByRecursion (IsPlain told now) more

-- so are those of a statement that has its reply
abbrev pub RepliesPlainly : {D : Type 0} → (D → Option Store) → Type 0
RepliesPlainly {D = D} told =
    (before now : ToldHouse D) (asking : Asking) (reply : Reply) (added : List Entry)
    → RepliesInTurn told before now asking reply added → ArePlain told now asking added

-- and those up to where the run stops are no such aborts
abbrev pub StopsPlainly : Type 0
StopsPlainly = (txn : ℕ) (added : List Entry) → AllByRecursion (IsNoEnd txn) added → AllByRecursion NeverBlocks added
