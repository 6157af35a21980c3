-- A part of a statement's way that is done act by act, whatever others do between: what its own acts added, and what is known of the
-- house then. What others add behind it changes nothing of what is said here of a front of the trail.
-- Source: Hive Transactions; that each act is one hold of the house is this project's profile.
use Rattle.std.specs.Prelude.{◌≡◌, ◌⊎◌, ℕ, ◌≤◌, ◌<◌, Option, Some, None, List, [], ◌∷◌, ◌++◌, Result, IfOk, IfErr}
use Rattle.std.specs.List.{AllByRecursion}
use Rattle.hv_ast.specs.declared.statement.Stmt.{Stmt}
use Rattle.hv_history.specs.declared.entry.Entry.{Entry}
use Rattle.hv_history.specs.declared.entry.Cause.{Cause}
use Rattle.hv_history.specs.declared.entry.Cause.TheVariants as cause
use Rattle.hv_history.specs.Lasting.{IsFront}
use Rattle.hv_stands.specs.Running.{Asking, next_number, AreOf, IsWaiting, IsUnderWay}
use Rattle.hv_trail.specs.declared.trail.TrailItem.{TrailItem}
use Rattle.hv_trail.specs.Trail.{book_of, state_at}
use Rattle.hv_meta.specs.declared.facts.TxnState.TheVariants as standing
use Rattle.hv_meta.specs.States.{state_in}
use Rattle.hv_table_reader.specs.hv_acts.specs.hv_telling.specs.hv_house.specs.declared.fault.HouseFault.{HouseFault}
use Rattle.hv_table_reader.specs.hv_acts.specs.hv_telling.specs.hv_house.specs.declared.fault.HouseFault.TheVariants as fault
use Rattle.hv_actor.specs.Acting.{Setting, Moment}
use Rattle.hv_table_reader.specs.hv_acts.specs.declared.told.ToldHouse.{ToldHouse}
use Rattle.hv_table_reader.specs.hv_acts.specs.Told.{trail_in}
pub use Rattle.hv_table_reader.specs.hv_acts.specs.Going.{faults_in, IsOpenHouse, IsShutHouse, AddsOwn, IsShutBetween, IsShutNow, HaltsFor}
use Rattle.hv_steps.specs.Ending.{KeepsCount}
use Rattle.hv_table_reader.specs.hv_acts.specs.Meant.{IsNoEnd}
use Rattle.hv_table_reader.specs.hv_acts.specs.Answers.{HasNotEnded}
use Rattle.hv_table_reader.specs.hv_acts.specs.declared.ending.EndTold.{EndTold}
use Rattle.hv_table_reader.specs.hv_acts.specs.Ending.{told_at}
use Rattle.hv_steps.specs.declared.ready.Way.{Way}
use Rattle.hv_steps.specs.declared.ready.Reply.{Reply}

-- ---- what one's own acts added

-- so, all of this transaction, as this says of them; an abort that keeps a count of faults keeps one above `low`; and the house is open
pub record Gains {D : Type 0} (faults : D → ℕ) (between : List TrailItem → Type 0) (low txn : ℕ)
    (before now : Moment (ToldHouse D))
    (Is : List Entry → Type 0) : Type 0 where
  pub added : List Entry
  pub adds : AddsOwn faults between txn before now added
  pub of_it : AreOf txn added
  pub counts : AllByRecursion (KeepsCount low (faults_in faults now.house)) added
  pub is : Is added
  pub running : IsOpenHouse now.house

-- ---- the run stops

-- what its own acts added until then ends nothing
pub record Halts {D : Type 0} (setting : Setting D (ToldHouse D)) (txn : ℕ) (before now : Moment (ToldHouse D))
    (why : HouseFault) : Type 0 where
  pub added : List Entry
  pub adds : AddsOwn setting.faults setting.between txn before now added
  pub of_it : AreOf txn added
  pub unended : AllByRecursion (IsNoEnd txn) added
  pub halts : HaltsFor setting.told setting.meanwhile txn now.house why

-- a part that is done, and what it adds by what it answers; or the run stops
pub record Goes {D T : Type 0} (setting : Setting D (ToldHouse D)) (low txn : ℕ) (before now : Moment (ToldHouse D))
    (Is : T → List Entry → Type 0)
    (result : Result T HouseFault) : Type 0 where
  pub done : IfOk result (λ x. Gains setting.faults setting.between low txn before now (Is x))
  pub halted : IfErr result (Halts setting txn before now)

-- ---- what was so of the book at a front of the trail

pub record WasSo (trail : List TrailItem) (Is : List Entry → Type 0) : Type 0 where
  pub then_ : List TrailItem
  pub front : IsFront then_ trail
  pub was : Is (book_of then_)

-- its statement was under way, without a write id
abbrev pub WasOnWay : List TrailItem → Asking → Way → Stmt → Type 0
WasOnWay trail asking way said = WasSo trail (λ book. IsUnderWay book asking way.txn.0 way.place said [])

-- it was opened and waited for its Start
abbrev pub HasWaited : List TrailItem → Asking → ℕ → Stmt → Type 0
HasWaited trail asking txn said = WasSo trail (λ book. IsWaiting book asking txn said)

-- a statement of this tree opened it: it waited, or was under way
abbrev pub WasOpened : List TrailItem → ℕ → Type 0
WasOpened trail txn =
    (asking : Asking) × (said : Stmt) × (HasWaited trail asking txn said
    ⊎ ((place : ℕ) × WasSo trail (λ book. IsUnderWay book asking txn place said [])))

-- the count that a cause keeps is one by which the store's count rose
abbrev pub CauseKeeps : ℕ → ℕ → Cause → Type 0
CauseKeeps low high (cause.ReadFault count) = (low < count) × (count ≤ high)
CauseKeeps low high (cause.WriteFault count) = (low < count) × (count ≤ high)
CauseKeeps low high why = Unit {0}

-- others have ended it, by the entry at this place
abbrev pub IsGone : List TrailItem → ℕ → ℕ → Type 0
IsGone trail txn at = state_in (state_at trail) txn ≡ standing.Ended at

-- what is printed where others have ended it: what is told of their entry
abbrev pub end_reply : EndTold → Reply
end_reply told = record { text = told.text; refused = told.refused; ended = Some told.at }

pub record IsGoneSo (trail : List TrailItem) (txn : ℕ) (reply : Reply) : Type 0 where
  pub at : ℕ
  pub gone : IsGone trail txn at
  pub told : reply ≡ end_reply (told_at (book_of trail) at)

-- it has ended so, or it hasn't ended
abbrev pub SaysEnd : List TrailItem → ℕ → Option Reply → Type 0
SaysEnd trail txn None = HasNotEnded (state_in (state_at trail) txn)
SaysEnd trail txn (Some reply) = IsGoneSo trail txn reply

abbrev pub IsSaid : Option Reply → Type 0
IsSaid None = ⊥
IsSaid (Some reply) = Unit {0}

-- ---- a statement that is opened

-- at some trail between, this was so
pub record WasSoBetween {D : Type 0} (before now : ToldHouse D) (Is : List TrailItem → Type 0) : Type 0 where
  pub trail : List TrailItem
  pub later : (others : List TrailItem) × (trail ≡ trail_in before ++ others)
  pub front : (more : List TrailItem) × (trail_in now ≡ trail ++ more)
  pub was : Is trail

-- at this trail its number was the next
abbrev pub IsNextAt : ℕ → List TrailItem → Type 0
IsNextAt txn trail = txn ≡ next_number (book_of trail)

-- so for a transaction of its own, whose number was the next at some trail between
abbrev pub GainsSome : {D : Type 0} → (D → ℕ) → (List TrailItem → Type 0) → ℕ → Moment (ToldHouse D)
    → Moment (ToldHouse D) → (List Entry → Type 0) → Type 0
GainsSome faults between low before now Is =
    (txn : ℕ) × Gains faults between low txn before now Is × WasSoBetween before.house now.house (IsNextAt txn)
