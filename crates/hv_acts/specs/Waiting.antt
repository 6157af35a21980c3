-- A transaction that is opened, and waits for its Start; and one that is started.
use Rattle.std.specs.Prelude.{◌≡◌, ℕ, false, Option, List, [], ◌∷◌, length, Result, Ok, Err}
use Rattle.hv_base.specs.Faults.{Rose}
use Rattle.hv_base.specs.declared.ids.TxnId.{TxnId}
use Rattle.hv_shelf.specs.Disk.{Store}
use Rattle.hv_history.specs.declared.entry.Entry.{Entry}
use Rattle.hv_history.specs.declared.entry.Entry.TheVariants as entry
use Rattle.hv_history.specs.Legal.{Of, BlockedFits, HasRoom, profile}
use Rattle.hv_stands.specs.Running.{Asking, next_number, opening}
use Rattle.hv_trail.specs.declared.trail.TrailItem.{TrailItem}
use Rattle.hv_trail.specs.Trail.{book_of, state_at}
use Rattle.hv_trail.specs.Kept.{trail_of}
use Rattle.hv_trail.specs.Steps.{HouseSeen, Note, Step}
use Rattle.hv_telling.specs.hv_house.specs.declared.fault.HouseFault.TheVariants as fault
use Rattle.hv_telling.specs.hv_house.specs.declared.house.House.{House}
use Rattle.hv_telling.specs.hv_house.specs.House.{Leaves}
use Rattle.hv_telling.specs.hv_house.specs.Steps.{seen_of}
use Rattle.hv_acts.specs.Told.{IsWholeOrClosed}
use Rattle.hv_acts.specs.declared.fault.ActFault.{ActFault}
use Rattle.hv_acts.specs.declared.fault.ActFault.TheVariants as act
use Rattle.hv_acts.specs.Answers.{answer_call, answer_outcome, StartTest, IsWhy, EntryFits, AnswerLeaves}
use Rattle.hv_acts.specs.Meant.{RestsOnStart}

-- the number of the transaction that is opened next, and its Opened
abbrev pub next_txn : List TrailItem → TxnId
next_txn trail = record { 0 = next_number (book_of trail) }

abbrev pub next_opened : List TrailItem → List ℕ → ℕ → List ℕ → Entry
next_opened trail session number text = opening (book_of trail)
    (record { session = session; number = number; text = text })

-- why it wasn't opened: there is no room for its Opened and the entry that ends it, or the house's call failed
abbrev pub IsOpenWhy : List TrailItem → ActFault → Type 0
IsOpenWhy trail (act.Full entries) = (entries ≡ length (book_of trail)) × (HasRoom profile (state_at trail) 2 → ⊥)
IsOpenWhy trail (act.House why) = Unit {0}
IsOpenWhy trail why = ⊥

-- it is opened only where there is room, under the next number
abbrev pub OpenAnswers : List TrailItem → Result TxnId ActFault → Type 0
OpenAnswers trail (Ok txn) = HasRoom profile (state_at trail) 2 × (txn ≡ next_txn trail)
OpenAnswers trail (Err why) = IsOpenWhy trail why

-- the journal of a house that was open reads to the book still, or to the book and its Opened, which fits
pub record IsOpeningCut {D : Type 0} (told : D → Option Store) (asking : Asking)
    (before now : HouseSeen D) : Type 0 where
  pub fits : EntryFits before.trail (opening (book_of before.trail) asking)
  pub leaves : Leaves fault.Store (opening (book_of before.trail) asking ∷ []) (told now.shelf) (book_of before.trail)

abbrev pub OpenLeaves : {D : Type 0} → (D → Option Store) → (D → ℕ) → Asking → HouseSeen D → HouseSeen D
    → Result TxnId ActFault → Type 0
OpenLeaves told faults asking before now (Err (act.House fault.Store)) = before.closed ≡ false
    → IsOpeningCut told asking before now × Rose (faults before.shelf) (faults now.shelf)
OpenLeaves told faults asking before now answer = before.closed ≡ false

-- all that is promised of a transaction that was to be opened
pub record OpenStep {D : Type 0} (told : D → Option Store) (faults : D → ℕ) (asking : Asking) (before now : House D)
    (result : Result TxnId ActFault) : Type 0 where
  pub keeps : IsWholeOrClosed told now
  pub step : Step told faults (answer_call (Note (next_opened (trail_of before.trail) asking.session asking.number
      asking.text)) result)
      (answer_outcome result) (seen_of before) (seen_of now)
  pub answers : OpenAnswers (trail_of before.trail) result
  pub leaves : OpenLeaves told faults asking (seen_of before) (seen_of now) result

-- ---- its Start

-- it waits, and this is the lowest open started transaction that holds a lock against its statement
abbrev pub IsHeld : List TrailItem → TxnId → TxnId → Type 0
IsHeld trail txn by = Of (state_at trail) txn.0 (BlockedFits (state_at trail) by.0)

-- the answer where that one holds a lock, unless the house's call failed
abbrev pub TellsHolder : {T : Type 0} → TxnId → Result T ActFault → Type 0
TellsHolder by (Err (act.Held holder)) = holder ≡ by
TellsHolder by (Err (act.House why)) = Unit {0}
TellsHolder by answer = ⊥

-- it is started only where its Start fits, and refused for what that rests on, for a lock or for want of room
abbrev pub StartsSo : List TrailItem → TxnId → Result ℕ ActFault → Type 0
StartsSo trail txn (Ok place) = EntryFits trail (entry.Start txn 0) × (place ≡ length (book_of trail))
StartsSo trail txn (Err why) = IsWhy StartTest trail txn (RestsOnStart trail txn) why

-- where a lock is held against it, the answer is who holds it
pub record StartAnswers (trail : List TrailItem) (txn : TxnId) (answer : Result ℕ ActFault) : Type 0 where
  pub answers : StartsSo trail txn answer
  pub held : (by : TxnId) → IsHeld trail txn by → TellsHolder by answer

-- all that is promised of a transaction that was to start
pub record StartStep {D : Type 0} (told : D → Option Store) (faults : D → ℕ) (txn : TxnId) (before now : House D)
    (result : Result ℕ ActFault) : Type 0 where
  pub keeps : IsWholeOrClosed told now
  pub step : Step told faults (answer_call (Note (entry.Start txn 0)) result) (answer_outcome result) (seen_of before)
      (seen_of now)
  pub answers : StartAnswers (trail_of before.trail) txn result
  pub leaves : AnswerLeaves told faults txn.0 (seen_of before) (seen_of now) result
