-- What a pass of an initiator and a compaction add where nobody else adds anything.
use Rattle.std.specs.Prelude.{◌≡◌, ℕ, Option, List, [], ◌∷◌, ◌++◌}
use Rattle.hv_shelf.specs.Disk.{Store}
use Rattle.hv_history.specs.declared.entry.Entry.{Entry}
use Rattle.hv_history.specs.declared.entry.Entry.TheVariants as entry
use Rattle.hv_history.specs.State.{state_of}
use Rattle.hv_trail.specs.declared.trail.TrailItem.{TrailItem}
use Rattle.hv_trail.specs.Trail.{book_of}
use Rattle.hv_actor.specs.Acting.{Moment, among}
use Rattle.hv_job_acts.specs.hv_acts.specs.declared.told.ToldHouse.{ToldHouse}
use Rattle.hv_job_acts.specs.hv_acts.specs.Told.{book_in}
use Rattle.hv_job_acts.specs.hv_job_calls.specs.Refusals.{picking, number_in, to_pick, publishing_of}
use Rattle.hv_job_acts.specs.declared.asking.PartAt.{PartAt}
use Rattle.hv_job_acts.specs.Work.{parts_in}
use Rattle.hv_compact.specs.declared.compacting.Done.{Done}
use Rattle.hv_compact.specs.declared.compacting.Done.TheVariants as done
use Rattle.hv_compact.specs.Initiating.{asks_for, Initiates}
use Rattle.hv_compact.specs.Compacting.{CompactsSo}

-- others add nothing between
abbrev pub AddsNothing : (List TrailItem → Type 0) → Type 0
AddsNothing between = (xs : List TrailItem) → between xs → xs ≡ []

-- ---- a pass of an initiator

-- each partition's turn, over the book behind the ones before it
abbrev pub initiated_from : List Entry → List PartAt → List Entry
initiated_from book [] = book
initiated_from book (part ∷ parts) = initiated_from (book ++ book_of (asks_for book part)) parts

abbrev pub initiated : List Entry → List Entry
initiated book = initiated_from book (parts_in book)

abbrev pub InitiatesAlone : {D : Type 0} → (D → Option Store) → (D → ℕ) → (List TrailItem → Type 0)
    → (ToldHouse D → ToldHouse D → Type 0) → Type 0
InitiatesAlone {D = D} told faults between meanwhile =
    (before now : Moment (ToldHouse D)) (count : ℕ) → Initiates (among told faults between meanwhile) before now count
    → book_in now.house ≡ initiated (book_in before.house)

-- ---- one compaction

-- the entry that ends the job, over the book behind its Picked
abbrev pub ended_with : List Entry → Done → List Entry
ended_with book done.Idle = []
ended_with book done.Nothing = entry.Empty (record { 0 = number_in (to_pick (state_of book)) }) ∷ []
ended_with book (done.Published job mark) = publishing_of (book ++ picking book ∷ []) job ∷ []
ended_with book (done.GivenUp job why) = entry.Failed job why ∷ []

abbrev pub picked_with : List Entry → Done → List Entry
picked_with book done.Idle = book
picked_with book answer = book ++ picking book ∷ ended_with book answer

abbrev pub CompactsAlone : {D : Type 0} → (D → Option Store) → (D → ℕ) → (List TrailItem → Type 0)
    → (ToldHouse D → ToldHouse D → Type 0) → Type 0
CompactsAlone {D = D} told faults between meanwhile =
    (before now : Moment (ToldHouse D)) (answer : Done)
    → CompactsSo (among told faults between meanwhile) before now answer
    → book_in now.house ≡ picked_with (book_in before.house) answer
