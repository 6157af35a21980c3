-- A statement that is begun.
use Rattle.std.specs.Prelude.{◌≡◌, false, ℕ, ◌+◌, Option, Some, None, List, [], length, map, Result, Ok, Err}
use Rattle.hv_base.specs.Faults.{Rose}
use Rattle.hv_ast.specs.declared.statement.Stmt.{Stmt}
use Rattle.hv_shelf.specs.Disk.{Store}
use Rattle.hv_history.specs.declared.entry.Entry.{Entry}
use Rattle.hv_history.specs.State.{state_of}
use Rattle.hv_history.specs.Legal.{HasRoom, profile}
use Rattle.hv_stands.specs.Running.{Asking, next_number}
use Rattle.hv_stands.specs.Statements.{AllFitting}
use Rattle.hv_trail.specs.declared.trail.TrailItem.{TrailItem}
use Rattle.hv_trail.specs.declared.trail.TrailItem.TheVariants.{Noted}
use Rattle.hv_trail.specs.Trail.{book_of}
use Rattle.hv_trail.specs.Kept.{trail_of}
use Rattle.hv_trail.specs.Steps.{HouseSeen, Call, Begin, Ask, Outcome, Done, Refused, Step, begun}
use Rattle.hv_telling.specs.hv_house.specs.declared.fault.HouseFault.TheVariants as fault
use Rattle.hv_telling.specs.hv_house.specs.declared.house.House.{House}
use Rattle.hv_telling.specs.hv_house.specs.House.{Leaves, BeginFits, beginning_of}
use Rattle.hv_telling.specs.hv_house.specs.Steps.{seen_of, fault_outcome}
use Rattle.hv_acts.specs.Told.{IsWholeOrClosed}
use Rattle.hv_telling.specs.hv_house.specs.Asking.{holder_against, CanBegin}
use Rattle.hv_acts.specs.declared.opening.Begun.{Begun}
use Rattle.hv_acts.specs.declared.fault.BeginFault.{BeginFault}
use Rattle.hv_acts.specs.declared.fault.BeginFault.TheVariants as hindered

abbrev pub begin_fault_outcome : BeginFault → Outcome
begin_fault_outcome (hindered.Held by) = Refused
begin_fault_outcome (hindered.Full entries) = Refused
begin_fault_outcome (hindered.House why) = fault_outcome why

abbrev pub begin_outcome : Result Begun BeginFault → Outcome
begin_outcome (Ok start) = Done
begin_outcome (Err why) = begin_fault_outcome why

abbrev pub call_to_begin : List TrailItem → List ℕ → ℕ → List ℕ → Call
call_to_begin trail session number text = Begin (record { 0 = next_number (book_of trail) }) session number text

-- the house was only asked where something stood in the way
abbrev pub begin_fault_call : Call → BeginFault → Call
begin_fault_call call (hindered.Held by) = Ask
begin_fault_call call (hindered.Full entries) = Ask
begin_fault_call call (hindered.House why) = call

abbrev pub begin_call : List TrailItem → List ℕ → ℕ → List ℕ → Result Begun BeginFault → Call
begin_call trail session number text (Ok start) = call_to_begin trail session number text
begin_call trail session number text (Err why) = begin_fault_call (call_to_begin trail session number text) why

abbrev pub adds_beginning : List ℕ → ℕ → List ℕ → Result Begun BeginFault → List TrailItem
adds_beginning session number text (Ok start) = map Noted (begun start.txn session number text)
adds_beginning session number text (Err why) = []

-- what stands in the way: the lowest open started transaction that holds a lock against it, or, where there is none, the lack of room
abbrev pub IsHindered : List TrailItem → Stmt → BeginFault → Type 0
IsHindered trail tree (hindered.Held by) = holder_against (book_of trail) tree ≡ Some by.0
IsHindered trail tree (hindered.Full entries) = (entries ≡ length (book_of trail))
    × (holder_against (book_of trail) tree ≡ None)
IsHindered trail tree (hindered.House why) = ⊥

-- it was begun: all that the book had fits, nothing stood in the way, and it has the next number and the next two places
pub record HasBegun (book : List Entry) (tree : Stmt) (start : Begun) : Type 0 where
  pub fit : AllFitting book
  pub can : CanBegin profile book tree
  pub txn_is : start.txn.0 ≡ next_number book
  pub place_is : start.place ≡ length book + 1

-- why it was not
abbrev pub IsBeginWhy : List Entry → Stmt → BeginFault → Type 0
IsBeginWhy book tree (hindered.Held by) = holder_against book tree ≡ Some by.0
IsBeginWhy book tree (hindered.Full entries) = (entries ≡ length book) × (holder_against book tree ≡ None)
    × (HasRoom profile (state_of book) 3 → ⊥)
IsBeginWhy book tree (hindered.House why) = Unit {0}

abbrev pub BeginAnswers : List TrailItem → Stmt → Result Begun BeginFault → Type 0
BeginAnswers trail tree (Ok start) = HasBegun (book_of trail) tree start
BeginAnswers trail tree (Err why) = IsBeginWhy (book_of trail) tree why

-- the journal of a house that was open reads to the book still, or to the book and both entries, which fit
pub record IsBeginningCut {D : Type 0} (told : D → Option Store) (asking : Asking)
    (before now : HouseSeen D) : Type 0 where
  pub fits : BeginFits (book_of before.trail) asking
  pub leaves : Leaves fault.Store (beginning_of (book_of before.trail) asking) (told now.shelf) (book_of before.trail)

abbrev pub BeginLeaves : {D : Type 0} → (D → Option Store) → (D → ℕ) → Asking → HouseSeen D → HouseSeen D
    → Result Begun BeginFault → Type 0
BeginLeaves told faults asking before now (Ok start) = before.closed ≡ false
BeginLeaves told faults asking before now (Err (hindered.Held by)) = before.closed ≡ false
BeginLeaves told faults asking before now (Err (hindered.Full entries)) = before.closed ≡ false
BeginLeaves told faults asking before now (Err (hindered.House fault.Store)) = before.closed ≡ false
    → IsBeginningCut told asking before now × Rose (faults before.shelf) (faults now.shelf)
BeginLeaves told faults asking before now (Err (hindered.House fault.NoMemory)) = before.closed ≡ false
BeginLeaves told faults asking before now (Err (hindered.House (fault.Failed count))) = ⊥

-- a statement that is to begin: who asks for it, and its tree
pub record BeginDue : Type 0 where
  pub asking : Asking
  pub tree : Stmt

abbrev pub begin_of : Asking → Stmt → BeginDue
begin_of asking tree = record { asking = asking; tree = tree }

-- all that is promised of a statement that was to begin
pub record BeginStep {D : Type 0} (told : D → Option Store) (faults : D → ℕ) (due : BeginDue) (before now : House D)
    (result : Result Begun BeginFault) : Type 0 where
  pub keeps : IsWholeOrClosed told now
  pub step : Step told faults
      (begin_call (trail_of before.trail) due.asking.session due.asking.number due.asking.text result)
      (begin_outcome result) (seen_of before) (seen_of now)
  pub answers : BeginAnswers (trail_of before.trail) due.tree result
  pub leaves : BeginLeaves told faults due.asking (seen_of before) (seen_of now) result
