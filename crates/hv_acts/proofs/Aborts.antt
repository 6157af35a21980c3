-- An abort that an act notes in its hold.
use Rattle.std.proofs.Common.{◌≡◌, ℕ, ◌+◌, Bool, true, false, IsTrue, Option, Some, None, Ok, Err, List, length, lt-ltb, ltb-true, refl}
use Rattle.std.proofs.lemmas.Bool.{ltb-false}
use Rattle.std.specs.Prelude.{IsSomeAnd}
use Rattle.hv_base.specs.declared.ids.TxnId.{TxnId}
use Rattle.hv_shelf.specs.Disk.{Store}
use Rattle.hv_history.specs.declared.entry.Entry.TheVariants as entry
use Rattle.hv_history.specs.declared.entry.Cause.{Cause}
use Rattle.hv_history.specs.declared.entry.Cause.TheVariants as cause
use Rattle.hv_history.specs.declared.state.Transaction.{Transaction}
use Rattle.hv_history.specs.State.{State}
use Rattle.hv_history.specs.Legal.{is_open, load, FullFits, HasRoom, profile}
use Rattle.hv_stands.specs.Running.{IsOf, IsOwnCause}
use Rattle.hv_trail.specs.Trail.{book_of}
use Rattle.hv_trail.specs.Kept.{trail_of}
use Rattle.hv_trail.specs.Steps.{Note, Done, Step}
use Rattle.hv_telling.specs.hv_house.specs.declared.house.House.{House}
use Rattle.hv_telling.specs.hv_house.specs.declared.fault.HouseFault.{HouseFault}
use Rattle.hv_telling.specs.hv_house.specs.declared.fault.HouseFault.TheVariants as fault
use Rattle.hv_telling.specs.hv_house.specs.Faults.{HasRisen}
use Rattle.hv_telling.specs.hv_house.specs.House.{entries_of, IsHalted}
use Rattle.hv_telling.specs.hv_house.specs.Steps.{seen_of, fault_outcome, IsMarked}
use Rattle.hv_telling.specs.Telling.{IsToldHouse, IsWhole, StaysWhole, StillOpens, IsTrueNow}
use Rattle.hv_acts.specs.declared.aborted.Aborted.{Aborted}
use Rattle.hv_acts.specs.Answers.{EntryFits, HasItsMark}
use Rattle.hv_acts.specs.Aborting.{AbortStep, is_full, abort_of}
use Rattle.hv_acts.specs.Meant.{IsCauseTrue}
use Rattle.hv_acts.proofs.Steps.{lacked, whole-keeps, keeps-behind}
use Rattle.hv_acts.proofs.Leaves.{noted-leaves}
use Rattle.hv_acts.proofs.Truths.{true-house}

-- ---- what is asked of it

pub abort-marked : {D : Type 0} (house : House D) (txn : TxnId) (why : Cause) → HasItsMark (trail_of house.trail) txn why → IsMarked house (entry.Abort txn why)
abort-marked house txn (cause.Refused number) is = tt
abort-marked house txn (cause.Conflict by table partition) is = tt
abort-marked house txn (cause.Request by) is = tt
abort-marked house txn cause.Full is = tt
abort-marked house txn (cause.Twice partition row) is = tt
abort-marked house txn (cause.Blocked holder) is = tt
abort-marked house txn (cause.ReadFault count) is = is
abort-marked house txn (cause.WriteFault count) is = is
abort-marked house txn (cause.Damaged place) is = tt
abort-marked house txn cause.RowLimit is = tt
abort-marked house txn cause.PartitionLimit is = tt
abort-marked house txn cause.Memory is = tt
abort-marked house txn cause.Lost is = tt
abort-marked house txn cause.Rollback is = tt

pub abort-true : {D : Type 0} (house : House D) (txn : TxnId) (why : Cause) → IsCauseTrue (trail_of house.trail) txn why
    → IsTrueNow (entries_of house) (trail_of house.trail) (entry.Abort txn why)
abort-true house txn why is = true-house house (entry.Abort txn why) is

-- where it has no room, the book has none
pub is-full : (state : State) (o : Option Transaction) → IsSomeAnd o (FullFits profile state) → is_full state ≡ true
is-full state None full = absurd full
is-full state (Some t) full = lt-ltb _ _ full.full

-- one that is open and isn't without room has room for an entry
pub room-of : (state : State) (t : Transaction) → IsTrue (is_open t) → (FullFits profile state t → ⊥) → HasRoom profile state 1
room-of state t unended free = by (is_full state) refl
  where
    by : (b : Bool) → is_full state ≡ b → HasRoom profile state 1
    by true e = absurd (free (record { unended = unended; full = ltb-true _ _ e }))
    by false e = ltb-false profile.entries (load state + 1) e

-- it is its own transaction's
pub own-abort : (txn : TxnId) (why : Cause) → IsOwnCause why → IsOf txn.0 (entry.Abort txn why)
own-abort txn (cause.Refused number) own = refl
own-abort txn (cause.Conflict by table partition) own = refl
own-abort txn (cause.Request by) own = absurd own
own-abort txn cause.Full own = refl
own-abort txn (cause.Twice partition row) own = refl
own-abort txn (cause.Blocked holder) own = refl
own-abort txn (cause.ReadFault count) own = refl
own-abort txn (cause.WriteFault count) own = refl
own-abort txn (cause.Damaged place) own = refl
own-abort txn cause.RowLimit own = refl
own-abort txn cause.PartitionLimit own = refl
own-abort txn cause.Memory own = refl
own-abort txn cause.Lost own = refl
own-abort txn cause.Rollback own = refl

-- ---- its step

module _ {D : Type 0} (told : D → Option Store) (faults : D → ℕ) (txn : TxnId) (why : Cause) where
  pub abort-done : (aborted : Aborted) (before now : House D) → IsWhole told before → IsWhole told now → aborted.at ≡ length (book_of (trail_of before.trail))
      → aborted.cause ≡ why → Step told faults (Note (entry.Abort txn why)) Done (seen_of before) (seen_of now)
      → AbortStep told faults (abort_of txn why aborted.text) before now (Ok aborted)
  abort-done aborted before now was whole place same step = record {
    running = was.ready.kept.running;
    keeps = whole-keeps told now whole;
    step = step;
    tells = record { place = place; cause_is = same; line_is = refl };
    leaves = tt;
  }

  pub abort-failed : (line : List ℕ) (fault : HouseFault) (before now : House D) → IsOwnCause why → IsWhole told before → EntryFits (trail_of before.trail) (entry.Abort txn why)
      → StaysWhole told fault now → IsHalted told (entry.Abort txn why) fault before now → HasRisen (faults before.shelf) (faults now.shelf) fault
      → (IsToldHouse told before → StillOpens told now) → now.start ≡ before.start → Step told faults (Note (entry.Abort txn why)) (fault_outcome fault) (seen_of before) (seen_of now)
      → AbortStep told faults (abort_of txn why line) before now (Err fault)
  abort-failed line fault before now own was fits stays halted risen opens start step = record {
    running = was.ready.kept.running;
    keeps = keeps-behind told before now fault was stays opens start step.closed;
    step = step;
    tells = tt;
    leaves = noted-leaves told faults txn.0 (entry.Abort txn why) fault before now was.ready.kept.running (own-abort txn why own) tt fits halted risen;
  }

  -- memory lacked for its line
  pub abort-lacks : (line : List ℕ) (house : House D) → IsWhole told house → AbortStep told faults (abort_of txn why line) house house (Err fault.NoMemory)
  abort-lacks line house whole = record {
    running = whole.ready.kept.running;
    keeps = whole-keeps told house whole;
    step = lacked told faults (seen_of house) (entry.Abort txn why) whole.ready.kept.running;
    tells = tt;
    leaves = whole.ready.kept.running;
  }
