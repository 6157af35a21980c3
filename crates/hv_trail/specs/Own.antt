-- Whose the items of a trail are, and where they stand.
use Rattle.std.specs.Prelude.{◌≡◌, ℕ, ◌+◌, ◌≤◌, ◌==◌, Bool, true, false, Option, Some, None, List, [], ◌∷◌, ◌++◌, length, slice_get}
use Rattle.std.specs.Option.{option_map, option_to_list}
use Rattle.std.specs.List.{AllByRecursion}
use Rattle.hv_book.specs.hv_history.specs.declared.entry.Entry.{Entry}
use Rattle.hv_book.specs.hv_history.specs.declared.entry.Entry.TheVariants as entry
use Rattle.hv_book.specs.hv_history.specs.declared.entry.Cause.TheVariants as cause
use Rattle.hv_book.specs.hv_history.specs.declared.state.Table.{Table}
use Rattle.hv_book.specs.hv_history.specs.declared.state.Transaction.{Transaction}
use Rattle.hv_book.specs.hv_history.specs.declared.state.Ending.TheVariants.{Aborted, Made, Dropped}
use Rattle.hv_book.specs.hv_history.specs.State.{State, Job, nothing_yet, after, opened, started, given_id, committed, ended, while_open}
use Rattle.hv_book.specs.hv_history.specs.Lasting.{txn_of}
use Rattle.hv_trail.specs.declared.trail.Mark.{Mark}
use Rattle.hv_trail.specs.declared.trail.Reader.TheVariants.{Txn}
use Rattle.hv_trail.specs.declared.trail.Mark.TheVariants.{Wrote, Broke}
use Rattle.hv_trail.specs.declared.trail.TrailItem.{TrailItem}
use Rattle.hv_trail.specs.declared.trail.TrailItem.TheVariants.{Noted, Marked}

-- ---- places of a trail, from 0

-- these places rise, from the first bound on and below the second
abbrev pub RiseWithin : ℕ → List ℕ → ℕ → Type 0
RiseWithin low [] high = low ≤ high
RiseWithin low (place ∷ places) high = (low ≤ place) × RiseWithin (place + 1) places high

-- the items at these places
abbrev pub items_at : List ℕ → List TrailItem → List TrailItem
items_at [] trail = []
items_at (place ∷ places) trail = option_to_list (slice_get trail place) ++ items_at places trail

-- ---- the entries of a transaction

-- the transaction that an entry makes, or else the one that it is about
abbrev pub acts_on : State → Entry → Option ℕ
acts_on state (entry.Opened txn session number text) = Some (length state.transactions + 1)
acts_on state event = txn_of event

abbrev pub is_number : ℕ → Option ℕ → Bool
is_number txn None = false
is_number txn (Some other) = txn == other

abbrev pub at_if : {A : Type 0} → Bool → A → List A → List A
at_if true x more = x ∷ more
at_if false x more = more

-- the transaction that a mark is of
abbrev pub marks_txn : Mark → Option ℕ
marks_txn (Wrote (Txn txn) place) = Some txn.0
marks_txn (Broke (Some (Txn txn)) put count) = Some txn.0
marks_txn _ = None

-- the places of its entries and marks, among items that follow on this state, from this place on
abbrev pub places_from : ℕ → ℕ → State → List TrailItem → List ℕ
places_from txn at state [] = []
places_from txn at state (Noted event ∷ items) =
    at_if (is_number txn (acts_on state event)) at (places_from txn (at + 1) (after state event) items)
places_from txn at state (Marked mark ∷ items) = at_if (is_number txn (marks_txn mark)) at (places_from txn (at + 1) state items)

-- the places of its entries and marks in a trail
abbrev pub own_places : ℕ → List TrailItem → List ℕ
own_places txn trail = places_from txn 0 nothing_yet trail

-- ---- what its own entries make of it

-- an entry, with what it reads of the book before it: how many entries there are, the tables, and for a SHOW the
-- transactions and the jobs
pub record Moment : Type 0 where
  pub event : Entry
  pub place : ℕ
  pub transactions : List Transaction
  pub tables : List Table
  pub jobs : List Job

abbrev pub moment_of : State → Entry → Moment
moment_of state event =
    record {
      event = event;
      place = state.entries;
      transactions = state.transactions;
      tables = state.tables;
      jobs = state.jobs;
    }

abbrev pub moments_from : ℕ → State → List TrailItem → List Moment
moments_from txn state [] = []
moments_from txn state (Noted event ∷ items) =
    at_if (is_number txn (acts_on state event)) (moment_of state event) (moments_from txn (after state event) items)
moments_from txn state (Marked mark ∷ items) = moments_from txn state items

-- a transaction's own entries in a trail, each at its moment
abbrev pub own_moments : ℕ → List TrailItem → List Moment
own_moments txn trail = moments_from txn nothing_yet trail

-- a state with so many entries, these transactions, these tables and these jobs
abbrev pub state_there : Moment → State
state_there moment =
    record nothing_yet {
      entries = moment.place;
      transactions = moment.transactions;
      tables = moment.tables;
      jobs = moment.jobs;
    }

-- what an entry does to the transaction that it is about
abbrev pub done_by : Moment → Entry → Transaction → Transaction
done_by moment (entry.Start txn statement) = started (state_there moment) statement
done_by moment (entry.Given txn table write) = given_id table.0 write.0
done_by moment (entry.Commit txn wrote) = committed moment.place wrote
done_by moment (entry.Abort txn why) = ended (Aborted moment.place why)
done_by moment (entry.Create txn table) = ended (Made moment.place table.0)
done_by moment (entry.Drop txn table) = ended (Dropped moment.place table.0)
done_by moment event = λ t. t

abbrev pub record_after : Moment → Entry → Option Transaction → Option Transaction
record_after moment (entry.Opened txn session number text) before = Some (opened session number text)
record_after moment event before = option_map (while_open (done_by moment event)) before

-- the record that these entries make, one after another
abbrev pub record_from : Option Transaction → List Moment → Option Transaction
record_from before [] = before
record_from before (moment ∷ moments) = record_from (record_after moment moment.event before) moments

-- ---- whose an item is

-- An item that a session adds in this transaction: its opening, its other entries, what it asks for, its marks, and a failed
-- call that is nobody's.
abbrev pub IsOf : ℕ → TrailItem → Type 0
IsOf txn (Noted (entry.Opened other session number text)) = other.0 ≡ txn
IsOf txn (Noted (entry.Abort other (cause.Request by))) = by.0 ≡ txn
IsOf txn (Noted (entry.Asked job table partition kind by)) = by ≡ txn
IsOf txn (Noted event) = txn_of event ≡ Some txn
IsOf txn (Marked (Wrote (Txn by) place)) = by.0 ≡ txn
IsOf txn (Marked (Broke (Some (Txn by)) put count)) = by.0 ≡ txn
IsOf txn (Marked (Broke None put count)) = Unit {0}
IsOf txn (Marked mark) = ⊥

-- an item that leaves a transaction's record alone
abbrev pub Spares : ℕ → TrailItem → Type 0
Spares txn (Noted event) = txn_of event ≡ Some txn → ⊥
Spares txn (Marked mark) = Unit {0}

abbrev pub AllSpare : ℕ → List TrailItem → Type 0
AllSpare txn items = AllByRecursion (Spares txn) items
