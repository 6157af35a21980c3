-- What the entries of a run's own say of its faults: each count of faults that one keeps is one by which the store's count rose in
-- this run; none says that a file is damaged, and none that a transaction was lost.
use Rattle.std.specs.Prelude.{◌≡◌, ℕ, List, ◌++◌}
use Rattle.std.specs.List.{AllByRecursion}
use Rattle.hv_history.specs.declared.entry.Entry.{Entry}
use Rattle.hv_history.specs.declared.entry.Entry.TheVariants as entry
use Rattle.hv_history.specs.declared.entry.Cause.TheVariants as cause
use Rattle.hv_session.specs.hv_beginning.specs.hv_steps.specs.Ending.{KeepsCount, IsUndamaged}

abbrev pub IsNotLost : Entry → Type 0
IsNotLost (entry.Abort txn cause.Lost) = ⊥
IsNotLost event = Unit {0}

pub record IsOfRun (low high : ℕ) (event : Entry) : Type 0 where
  pub counted : KeepsCount low high event
  pub undamaged : IsUndamaged event
  pub unlost : IsNotLost event

-- the book went on by such entries
pub record Grows (low high : ℕ) (before now : List Entry) : Type 0 where
  pub more : List Entry
  pub book_is : now ≡ before ++ more
  pub of_run : AllByRecursion (IsOfRun low high) more
