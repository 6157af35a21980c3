-- What is known of a session's own items in a trail that went on: which statements they open, and that none of them ends what it must not.
-- Source: Hive Transactions (a transaction's states, locks); counts of faults are this project's profile.
use Rattle.std.specs.Prelude.{◌≡◌, ◌≤◌, ℕ, Bool, true, if◌then◌else◌, is_some, List, [], ◌∷◌, sum_by}
use Rattle.std.specs.List.{AllByRecursion}
use Rattle.hv_history.specs.declared.entry.Entry.{Entry}
use Rattle.hv_history.specs.declared.entry.Entry.TheVariants as entry
use Rattle.hv_history.specs.States.{nothing_yet}
use Rattle.hv_history.specs.Legal.{AllFit, profile}
use Rattle.hv_history.specs.Lasting.{IsFront}
use Rattle.hv_stands.specs.Running.{Asking}
use Rattle.hv_trail.specs.declared.trail.TrailItem.{TrailItem}
use Rattle.hv_trail.specs.declared.trail.TrailItem.TheVariants.{Noted, Marked}
use Rattle.hv_actor.specs.Acting.{Setting, Moment}
use Rattle.hv_session.specs.hv_beginning.specs.hv_steps.specs.hv_table_reader.specs.hv_acts.specs.hv_telling.specs.hv_house.specs.declared.fault.HouseFault.{HouseFault}
use Rattle.hv_session.specs.hv_beginning.specs.hv_steps.specs.hv_table_reader.specs.hv_acts.specs.hv_telling.specs.Telling.{IsToldHouse}
use Rattle.hv_session.specs.hv_beginning.specs.hv_steps.specs.hv_table_reader.specs.hv_acts.specs.declared.told.ToldHouse.{ToldHouse}
use Rattle.hv_session.specs.hv_beginning.specs.hv_steps.specs.hv_table_reader.specs.hv_acts.specs.Told.{book_in}
use Rattle.hv_session.specs.hv_beginning.specs.hv_steps.specs.declared.ready.Reply.{Reply}
use Rattle.hv_session.specs.hv_beginning.specs.hv_steps.specs.Ending.{KeepsCount, IsUndamaged}
use Rattle.hv_session.specs.hv_beginning.specs.hv_steps.specs.Going.{faults_in}
use Rattle.hv_job_acts.specs.Going.{AddsItems}
use Rattle.hv_waiting.specs.Kinds.{never_blocks}
use Rattle.hv_saying.specs.Saying.{SaysAll, StopsSaying}

-- the statements that these items open, in their order
abbrev pub openings_of : List TrailItem → List Asking
openings_of [] = []
openings_of (Noted (entry.Opened txn session number text) ∷ items) =
    record { session = session; number = number; text = text } ∷ openings_of items
openings_of (item ∷ items) = openings_of items

-- however these are counted, there are no more of them than of those
abbrev pub IsPartOf : List Asking → List Asking → Type 0
IsPartOf these those = (weight : Asking → ℕ) → sum_by weight these ≤ sum_by weight those

-- those of these statements that were opened: a reply names the entry that ended it
abbrev pub opened_in : List Asking → List Reply → List Asking
opened_in [] replies = []
opened_in (asking ∷ askings) [] = []
opened_in (asking ∷ askings) (reply ∷ replies) =
    if is_some reply.ended then asking ∷ opened_in askings replies else opened_in askings replies

-- it aborts no transaction since a lock is held against it, or as lost
abbrev pub blocks_none : TrailItem → Bool
blocks_none (Noted event) = never_blocks event
blocks_none (Marked mark) = true

-- a count of faults that it keeps is one by which the store's count rose in this run, and it says of no file that it is damaged
abbrev pub IsOfRun : ℕ → ℕ → TrailItem → Type 0
IsOfRun low high (Noted event) = KeepsCount low high event × IsUndamaged event
IsOfRun low high (Marked mark) = Unit {0}

-- Own items, while these statements were asked for: each Opened is of one of them, and none has two; no lock was held against one.
pub record OwnsPlainly (low high : ℕ) (askings : List Asking) (items : List TrailItem) : Type 0 where
  pub opened : IsPartOf (openings_of items) askings
  pub unblocked : AllByRecursion (λ (item : TrailItem). blocks_none item ≡ true) items
  pub of_run : AllByRecursion (IsOfRun low high) items

-- ---- in a book that went on

-- a book that fits, and begins with this one
pub record GoesOnTo (before book : List Entry) : Type 0 where
  pub front : IsFront before book
  pub fits : AllFit profile nothing_yet book

-- What own acts added, while these statements were asked for. Where the store is told, and in each book that fits and begins with what was seen
-- then, it is so.
pub record HasOwned {D : Type 0} (setting : Setting D (ToldHouse D)) (before now : Moment (ToldHouse D))
    (askings : List Asking) : Type 0 where
  pub items : List TrailItem
  pub adds : AddsItems setting.faults setting.between before now items
  pub plainly : (book : List Entry) → IsToldHouse setting.told now.house.house → GoesOnTo (book_in now.house) book
      → OwnsPlainly (faults_in setting.faults before.house) (faults_in setting.faults now.house) askings items

-- of statements that were said, those that were opened; and where the run stopped in one, of all
abbrev pub OwningIsPlain : {D : Type 0} → Setting D (ToldHouse D) → Type 0
OwningIsPlain {D = D} setting =
    (before now : Moment (ToldHouse D)) (askings : List Asking) (replies : List Reply)
    → SaysAll setting before now askings replies → HasOwned setting before now (opened_in askings replies)

abbrev pub StoppingIsPlain : {D : Type 0} → Setting D (ToldHouse D) → Type 0
StoppingIsPlain {D = D} setting =
    (before now : Moment (ToldHouse D)) (askings : List Asking) (replies : List Reply) (why : HouseFault)
    → StopsSaying setting before now askings replies why → HasOwned setting before now askings
