-- What an initiator asks for: of each partition of the book at its first hold, what is due when its turn comes.
-- Source: Hive Transactions, compactor (initiator).
use Rattle.std.specs.Prelude.{◌≡◌, ℕ, Option, Some, None, List, [], ◌∷◌, ◌++◌, length, take, Result, IfOk, IfErr}
use Rattle.hv_history.specs.declared.entry.Entry.{Entry}
use Rattle.hv_history.specs.declared.entry.JobKind.{JobKind}
use Rattle.hv_history.specs.State.{state_of}
use Rattle.hv_history.specs.Jobs.{due}
use Rattle.hv_history.specs.Lasting.{IsFront}
use Rattle.hv_trail.specs.declared.trail.TrailItem.{TrailItem}
use Rattle.hv_trail.specs.declared.trail.TrailItem.TheVariants.{Noted}
use Rattle.hv_trail.specs.Trail.{book_of}
use Rattle.hv_actor.specs.Acting.{Setting, Moment}
use Rattle.hv_job_acts.specs.hv_acts.specs.declared.told.ToldHouse.{ToldHouse}
use Rattle.hv_job_acts.specs.hv_acts.specs.Told.{trail_in, book_in}
use Rattle.hv_job_acts.specs.hv_acts.specs.Going.{IsOpenHouse}
use Rattle.hv_job_acts.specs.hv_job_calls.specs.Refusals.{asking}
use Rattle.hv_job_acts.specs.declared.asking.PartAt.{PartAt}
use Rattle.hv_job_acts.specs.declared.noting.AskedJob.{AskedJob}
use Rattle.hv_job_acts.specs.Work.{parts_in}
use Rattle.hv_job_acts.specs.Going.{AddsItems}
use Rattle.hv_compact.specs.declared.fault.RunFault.{RunFault}
use Rattle.hv_compact.specs.Stopping.{IsAsking, IsFullFor, RunsOut}

-- the entry for what is due, where something is
abbrev pub asks_kind : List Entry → PartAt → Option JobKind → List TrailItem
asks_kind book part None = []
asks_kind book part (Some kind) = Noted (asking book part.table part.partition kind 0) ∷ []

abbrev pub asks_for : List Entry → PartAt → List TrailItem
asks_for book part = asks_kind book part (due (state_of book) part.table.0 part.partition)

-- turn by turn, with others' items between: what was asked for is what was due then
abbrev pub AreTurns : List TrailItem → List PartAt → List TrailItem → List TrailItem → Type 0
AreTurns from [] items to = (items ≡ []) × IsFront from to
AreTurns from (part ∷ parts) items to =
    (then_ : List TrailItem) × (rest : List TrailItem)
    × IsFront from then_ × (items ≡ asks_for (book_of then_) part ++ rest)
    × AreTurns (then_ ++ asks_for (book_of then_) part) parts rest to

-- one turn
pub record AsksPart {D : Type 0} (setting : Setting D (ToldHouse D)) (before now : Moment (ToldHouse D)) (part : PartAt)
    (result : Result ℕ RunFault) : Type 0 where
  pub items : List TrailItem
  pub adds : AddsItems setting.faults setting.between before now items
  pub turn : IfOk result (λ count. AreTurns (trail_in before.house) (part ∷ []) items (trail_in now.house))
  pub count : IfOk result (λ count. count ≡ length items)
  pub none : IfErr result (λ why. items ≡ [])
  pub running : IfOk result (λ count. IsOpenHouse now.house)
  pub stops : IfErr result (RunsOut setting IsAsking now.house)
  pub full : IfErr result (IsFullFor 1 (book_in now.house))

-- so many of them
pub record AsksSome {D : Type 0} (setting : Setting D (ToldHouse D)) (before now : Moment (ToldHouse D))
    (parts : List PartAt)
    (count : ℕ) : Type 0 where
  pub items : List TrailItem
  pub adds : AddsItems setting.faults setting.between before now items
  pub turns : AreTurns (trail_in before.house) parts items (trail_in now.house)
  pub count_is : count ≡ length items
  pub running : IsOpenHouse now.house

-- where it stops, the turns of some front of them were
pub record AsksLess {D : Type 0} (setting : Setting D (ToldHouse D)) (before now : Moment (ToldHouse D))
    (parts : List PartAt)
    (why : RunFault) : Type 0 where
  pub items : List TrailItem
  pub adds : AddsItems setting.faults setting.between before now items
  pub turns_done : ℕ
  pub turns : AreTurns (trail_in before.house) (take turns_done parts) items (trail_in now.house)
  pub stops : RunsOut setting IsAsking now.house why
  pub full : IsFullFor 1 (book_in now.house) why

abbrev pub count_of : Option AskedJob → ℕ
count_of None = 0
count_of (Some found) = 1

-- Of the partitions of live tables of the book at its first hold, in their order; the answer is how many were asked
-- for.
pub record Initiates {D : Type 0} (setting : Setting D (ToldHouse D)) (before now : Moment (ToldHouse D))
    (count : ℕ) : Type 0 where
  pub first : List TrailItem
  pub later : IsFront (trail_in before.house) first
  pub items : List TrailItem
  pub adds : AddsItems setting.faults setting.between before now items
  pub turns : AreTurns first (parts_in (book_of first)) items (trail_in now.house)
  pub count_is : count ≡ length items
  pub running : IsOpenHouse now.house

-- where it stops, some front of these turns was done
pub record InitiatesLess {D : Type 0} (setting : Setting D (ToldHouse D)) (before now : Moment (ToldHouse D))
    (why : RunFault) : Type 0 where
  pub first : List TrailItem
  pub later : IsFront (trail_in before.house) first
  pub items : List TrailItem
  pub adds : AddsItems setting.faults setting.between before now items
  pub turns_done : ℕ
  pub turns : AreTurns first (take turns_done (parts_in (book_of first))) items (trail_in now.house)
  pub stops : RunsOut setting IsAsking now.house why
  pub full : IsFullFor 1 (book_in now.house) why
