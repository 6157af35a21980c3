-- A statement that is begun by an act.
use Rattle.std.proofs.Common.{◌≡◌, false, ℕ, ◌+◌, Option, Some, None, Ok, Err, List, length, refl, sym, ap, ◌∙◌, subst}
use Rattle.hv_base.specs.declared.ids.TxnId.{TxnId}
use Rattle.hv_ast.specs.declared.statement.Stmt.{Stmt}
use Rattle.hv_shelf.specs.Disk.{Store}
use Rattle.hv_history.specs.declared.entry.Entry.{Entry}
use Rattle.hv_history.specs.Legal.{profile}
use Rattle.hv_stands.specs.Running.{Asking, next_number}
use Rattle.hv_trail.specs.Trail.{book_of}
use Rattle.hv_trail.specs.Kept.{trail_of}
use Rattle.hv_trail.specs.Steps.{Begin, Done, Step}
use Rattle.hv_telling.specs.hv_house.specs.declared.fault.HouseFault.{HouseFault}
use Rattle.hv_telling.specs.hv_house.specs.declared.house.House.{House}
use Rattle.hv_telling.specs.hv_house.specs.declared.fault.HouseFault.TheVariants as fault
use Rattle.hv_telling.specs.hv_house.specs.Faults.{HasRisen, EndsRun}
use Rattle.hv_telling.specs.hv_house.specs.House.{entries_of, Leaves, BeginFits, beginning_of, AreHalted}
use Rattle.hv_locks.specs.declared.table.LockState.{LockState}
use Rattle.hv_locks.specs.declared.table.LockState.TheVariants.{Granted, Waiting}
use Rattle.hv_telling.specs.hv_house.specs.Asking.{holder_against, lock_state, CanBegin}
use Rattle.hv_telling.specs.hv_house.specs.Steps.{seen_of, fault_outcome}
use Rattle.hv_telling.specs.Telling.{IsToldHouse, IsWhole, StaysWhole, StillOpens}
use Rattle.hv_acts.specs.declared.opening.Begun.{Begun}
use Rattle.hv_acts.specs.declared.fault.BeginFault.{BeginFault}
use Rattle.hv_acts.specs.declared.fault.BeginFault.TheVariants as hindered
use Rattle.hv_acts.specs.Beginning.{IsHindered, HasBegun, BeginLeaves, begin_of, BeginStep}
use Rattle.hv_acts.proofs.Steps.{book-is, asked, whole-keeps, keeps-behind}

-- ---- what stands in its way

held-of : (o : Option ℕ) (state : LockState) (by : TxnId) → state ≡ lock_state o → state ≡ Waiting by → o ≡ Some by.0
held-of None state by is waits = cc
held-of (Some n) state by is waits =
    let same : record { 0 = n } ≡ by = cc in
    ap (λ (txn : TxnId). Some txn.0) same

free-of : (o : Option ℕ) (state : LockState) → state ≡ lock_state o → state ≡ Granted → o ≡ None
free-of None state is free = refl
free-of (Some n) state is free = cc

pub held-by : {D : Type 0} (house : House D) (tree : Stmt) (state : LockState) (by : TxnId) → state ≡ lock_state (holder_against (entries_of house) tree) → state ≡ Waiting by
    → holder_against (book_of (trail_of house.trail)) tree ≡ Some by.0
held-by house tree state by is waits =
    ap (λ (book : List Entry). holder_against book tree) (book-is house) ∙ held-of (holder_against (entries_of house) tree) state by is waits

pub held-free : {D : Type 0} (house : House D) (tree : Stmt) (state : LockState) → state ≡ lock_state (holder_against (entries_of house) tree) → state ≡ Granted
    → holder_against (book_of (trail_of house.trail)) tree ≡ None
held-free house tree state is free =
    ap (λ (book : List Entry). holder_against book tree) (book-is house) ∙ free-of (holder_against (entries_of house) tree) state is free

module _ {D : Type 0} (told : D → Option Store) (faults : D → ℕ) (session : List ℕ) (number : ℕ) (text : List ℕ) (tree : Stmt) where
  pub begin-done : (start : Begun) (before now : House D) → IsWhole told before → IsWhole told now → CanBegin profile (entries_of before) tree
      → start.txn.0 ≡ next_number (entries_of before) → start.place ≡ length (entries_of before) + 1
      → Step told faults (Begin (record { 0 = next_number (entries_of before) }) session number text) Done (seen_of before) (seen_of now)
      → BeginStep told faults (begin_of (record { session = session; number = number; text = text }) tree) before now (Ok start)
  begin-done start before now was whole can txn place step = record {
    keeps = whole-keeps told now whole;
    step = subst (λ (book : List Entry). Step told faults (Begin (record { 0 = next_number book }) session number text) Done (seen_of before) (seen_of now))
        (sym (book-is before)) step;
    answers = subst (λ (book : List Entry). HasBegun book tree start) (sym (book-is before)) (record { fit = was.ready.fit; can = can; txn_is = txn; place_is = place });
    leaves = was.ready.kept.running;
  }

  abbrev asking : Asking
  asking = record { session = session; number = number; text = text }

  -- both entries were to be noted
  begin-leaves : (why : HouseFault) (before now : House D) → before.trail.closed ≡ false → BeginFits (entries_of before) asking
      → AreHalted told (beginning_of (entries_of before) asking) why before now → HasRisen (faults before.shelf) (faults now.shelf) why → EndsRun why
      → BeginLeaves told faults asking (seen_of before) (seen_of now) (Err (hindered.House why))
  begin-leaves fault.Store before now running fits halted risen ends = λ open_. (
    record {
      fits = subst (λ (book : List Entry). BeginFits book asking) (sym (book-is before)) fits;
      leaves = subst (λ (book : List Entry). Leaves fault.Store (beginning_of book asking) (told now.shelf) book) (sym (book-is before)) halted.leaves;
    },
    risen,
  )
  begin-leaves fault.NoMemory before now running fits halted risen ends = running
  begin-leaves (fault.Failed count) before now running fits halted risen ends = ends

  pub begin-failed : (why : HouseFault) (before now : House D) → IsWhole told before → BeginFits (entries_of before) asking
      → StaysWhole told why now → AreHalted told (beginning_of (entries_of before) asking) why before now → HasRisen (faults before.shelf) (faults now.shelf) why → EndsRun why
      → (IsToldHouse told before → StillOpens told now) → now.start ≡ before.start
      → Step told faults (Begin (record { 0 = next_number (entries_of before) }) session number text) (fault_outcome why) (seen_of before) (seen_of now)
      → BeginStep told faults (begin_of (record { session = session; number = number; text = text }) tree) before now (Err (hindered.House why))
  begin-failed why before now was fits stays halted risen ends opens start step = record {
    keeps = keeps-behind told before now why was stays opens start step.closed;
    step = subst (λ (book : List Entry). Step told faults (Begin (record { 0 = next_number book }) session number text) (fault_outcome why) (seen_of before) (seen_of now))
        (sym (book-is before)) step;
    answers = tt;
    leaves = begin-leaves why before now was.ready.kept.running fits halted risen ends;
  }

  pub begin-hindered : (why : BeginFault) (house : House D) → IsWhole told house → IsHindered (trail_of house.trail) tree why → (CanBegin profile (entries_of house) tree → ⊥)
      → BeginStep told faults (begin_of (record { session = session; number = number; text = text }) tree) house house (Err why)
  begin-hindered (hindered.Held by) house whole is not = record {
    keeps = whole-keeps told house whole;
    step = asked told faults (seen_of house);
    answers = is;
    leaves = whole.ready.kept.running;
  }
  begin-hindered (hindered.Full entries) house whole is not = record {
    keeps = whole-keeps told house whole;
    step = asked told faults (seen_of house);
    answers = (is.0, is.1, λ room. not (subst (λ (book : List Entry). CanBegin profile book tree) (book-is house) (room, is.1)));
    leaves = whole.ready.kept.running;
  }
  begin-hindered (hindered.House why) house whole is not = absurd is
