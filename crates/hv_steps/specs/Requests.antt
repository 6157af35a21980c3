-- The aborts that an ABORT TRANSACTIONS asks for, one hold each: which it asked for, and that it has asked for all. Whatever others do between, each
-- was the first of its list that was left to ask for then.
-- Source: Hive Language Manual, DDL (Abort Transactions); that each is one hold of the house is this project's profile.
use Rattle.std.specs.Prelude.{◌≡◌, ℕ, Bool, true, false, Option, Some, List, [], ◌∷◌, ◌++◌, Result, Ok, Err}
use Rattle.std.specs.List.{AllByRecursion}
use Rattle.hv_base.specs.declared.ids.TxnId.{TxnId}
use Rattle.hv_ast.specs.declared.statement.Stmt.{Stmt}
use Rattle.hv_history.specs.declared.entry.Entry.{Entry}
use Rattle.hv_history.specs.Asking.{numbers_in, first_asked}
use Rattle.hv_history.specs.Lasting.{IsFront}
use Rattle.hv_trail.specs.declared.trail.TrailItem.{TrailItem}
use Rattle.hv_trail.specs.declared.trail.TrailItem.TheVariants.{Noted}
use Rattle.hv_trail.specs.Trail.{state_at}
use Rattle.hv_table_reader.specs.hv_acts.specs.declared.told.ToldHouse.{ToldHouse}
use Rattle.hv_table_reader.specs.hv_acts.specs.declared.fault.ActFault.{ActFault}
use Rattle.hv_table_reader.specs.hv_acts.specs.Told.{trail_in}
use Rattle.hv_table_reader.specs.hv_acts.specs.Passing.{opened_then, is_left, AllPassed}
use Rattle.hv_table_reader.specs.hv_acts.specs.hv_telling.specs.hv_house.specs.declared.fault.HouseFault.{HouseFault}
use Rattle.hv_steps.specs.declared.ready.Way.{Way}
use Rattle.hv_steps.specs.declared.reply.Done.{Done}
use Rattle.hv_steps.specs.declared.reply.Asked.{Asked}
use Rattle.hv_steps.specs.declared.reply.Asked.TheVariants as asked
use Rattle.hv_steps.specs.Going.{AddsOwn}
use Rattle.hv_steps.specs.Ending.{asking_for}
use Rattle.hv_actor.specs.Acting.{Moment}

-- ---- one that it asks for

-- the first that one has left to ask for that started at this place
abbrev pub first_left : List TrailItem → ℕ → ℕ → List ℕ → Option ℕ
first_left trail txn place numbers = first_asked (state_at trail).transactions txn (opened_then trail place) numbers

-- the entry asks for the abort of another transaction: of the first that was left where it was noted
pub record IsAskOf (trail : List TrailItem) (txn place : ℕ) (numbers : List ℕ) (event : Entry) : Type 0 where
  pub other : ℕ
  pub event_is : event ≡ asking_for txn other
  pub apart : other ≡ txn → ⊥
  pub then_ : List TrailItem
  pub front : IsFront (then_ ++ Noted event ∷ []) trail
  pub first : first_left then_ txn place numbers ≡ Some other

-- so of what a statement of this tree asks for
abbrev pub IsAskIn : {D : Type 0} → ToldHouse D → Way → Stmt → Entry → Type 0
IsAskIn now way said event = IsAskOf (trail_in now) way.txn.0 way.place (numbers_in (Some said)) event

-- ---- one act

abbrev pub asked_entries : ℕ → ℕ → Result Bool ActFault → List Entry
asked_entries txn other (Ok true) = asking_for txn other ∷ []
asked_entries txn other (Ok false) = []
asked_entries txn other (Err why) = []

-- it was left where it was asked for, which is noted last
pub record WasLeft (before now : List TrailItem) (txn : TxnId) (place number : ℕ) : Type 0 where
  pub then_ : List TrailItem
  pub behind : IsFront before then_
  pub noted : now ≡ then_ ++ Noted (asking_for txn.0 number) ∷ []
  pub left : is_left then_ txn place number ≡ true

-- the entry asks for that one, which was left there
pub record AsksThere (before now : List TrailItem) (txn : TxnId) (place number : ℕ) (event : Entry) : Type 0 where
  pub event_is : event ≡ asking_for txn.0 number
  pub was : WasLeft before now txn place number

abbrev pub AsksOne : List TrailItem → List TrailItem → TxnId → ℕ → ℕ → List Entry → Type 0
AsksOne before now txn place number added = AllByRecursion (AsksThere before now txn place number) added

-- ---- all of them

-- these were asked for so far
pub record AsksSoFar {D : Type 0} (faults : D → ℕ) (between : List TrailItem → Type 0)
    (before now : Moment (ToldHouse D)) (way : Way)
    (numbers : List ℕ) : Type 0 where
  pub added : List Entry
  pub adds : AddsOwn faults between way.txn.0 before now added
  pub asks : AllByRecursion (IsAskOf (trail_in now.house) way.txn.0 way.place numbers) added

-- it has asked for all
abbrev pub HasAsked : {D : Type 0} → ToldHouse D → Way → List ℕ → Asked → Type 0
HasAsked now way numbers asked.All = AllPassed (trail_in now) way.txn way.place numbers
HasAsked now way numbers (asked.Ended found) = Unit {0}

abbrev pub asks_stopped : Result Done HouseFault → Result Asked HouseFault
asks_stopped (Ok found) = Ok (asked.Ended found)
asks_stopped (Err why) = Err why
