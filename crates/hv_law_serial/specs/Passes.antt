-- What one thread adds to a book by a script's `!compact` and `!clean`: a pass and a job end at the first entry without room.
-- Source: Hive Transactions, compactor and cleaner; the journal's room is this project's.
use Rattle.std.specs.Prelude.{ℕ, Bool, true, false, Option, Some, None, List, [], ◌∷◌, ◌++◌}
use Rattle.hv_history.specs.declared.entry.Entry.{Entry}
use Rattle.hv_history.specs.declared.entry.Entry.TheVariants as entry
use Rattle.hv_history.specs.declared.entry.JobKind.{JobKind}
use Rattle.hv_history.specs.State.{State, Job, numbered, state_of}
use Rattle.hv_history.specs.Jobs.{due, pieces_for, is_empty_of}
use Rattle.hv_law_next.specs.Next.{lacks_room}
use Rattle.hv_program.specs.hv_compact.specs.hv_job_acts.specs.declared.asking.PartAt.{PartAt}
use Rattle.hv_program.specs.hv_compact.specs.hv_job_acts.specs.hv_job_calls.specs.Refusals.{asking, picking, to_pick, publishing_of}
use Rattle.hv_program.specs.hv_compact.specs.hv_job_acts.specs.Work.{parts_in}
use Rattle.hv_program.specs.Background.{cleaning_of}

-- ---- a pass of an initiator: what is due in each partition at its turn is asked for

abbrev pub asked_if : Bool → Option JobKind → List Entry → PartAt → List Entry
asked_if lacks None book part = book
asked_if true (Some kind) book part = book
asked_if false (Some kind) book part = book ++ asking book part.table part.partition kind 0 ∷ []

abbrev pub asked_turn : List Entry → PartAt → List Entry
asked_turn book part =
    asked_if (lacks_room (state_of book) 1) (due (state_of book) part.table.0 part.partition) book part

abbrev pub asked_turns : List Entry → List PartAt → List Entry
asked_turns book [] = book
asked_turns book (part ∷ parts) = asked_turns (asked_turn book part) parts

-- ---- one job: the lowest of a live table that waits is taken up, and publishes what it merged, or has nothing to merge

abbrev pub is_empty_one : State → Option Job → Bool
is_empty_one state None = true
is_empty_one state (Some job) = is_empty_of job.kind (pieces_for state job)

abbrev pub ended_if : Bool → List Entry → ℕ → Entry
ended_if true book number = entry.Empty (record { 0 = number })
ended_if false book number = publishing_of book (record { 0 = number })

abbrev pub ended_of : List Entry → ℕ → Entry
ended_of book number = ended_if (is_empty_one (state_of book) (numbered (state_of book).jobs number)) book number

abbrev pub worked_if : Bool → Option ℕ → List Entry → List Entry
worked_if lacks None book = book
worked_if true (Some number) book = book
worked_if false (Some number) book =
    book ++ picking book ∷ ended_of (book ++ picking book ∷ []) number ∷ []

abbrev pub worked : List Entry → List Entry
worked book = worked_if (lacks_room (state_of book) 2) (to_pick (state_of book)) book

abbrev pub compacted : List Entry → List Entry
compacted book = worked (asked_turns book (parts_in book))

-- ---- a pass of a cleaner

abbrev pub noted_if : Bool → List Entry → Entry → List Entry
noted_if true book event = book
noted_if false book event = book ++ event ∷ []

abbrev pub noted_each : List Entry → List Entry → List Entry
noted_each book [] = book
noted_each book (event ∷ events) = noted_each (noted_if (lacks_room (state_of book) 1) book event) events

abbrev pub cleaned : List Entry → List Entry
cleaned book = noted_each book (cleaning_of book)
