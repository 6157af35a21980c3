-- The entry that one thread adds next for a statement: a function of the book before it, by how far the statement has come.
-- Source: Hive Transactions (snapshots, locks, first committer wins); the journal's room is this project's.
use Rattle.std.specs.Prelude.{ℕ, zero, suc, ◌+◌, Bool, true, false, ◌||◌, not, if◌then◌else◌, nat_lt, Option, Some, None, List, [], ◌∷◌, ◌++◌, length}
use Rattle.std.specs.Option.{option_map}
use Rattle.hv_base.specs.Refusals as refusals
use Rattle.hv_base.specs.declared.gate.Stage.{Stage}
use Rattle.hv_base.specs.declared.gate.Stage.TheVariants as stage
use Rattle.hv_base.specs.declared.ids.TableId.{TableId}
use Rattle.hv_base.specs.declared.ids.Touch.{Touch}
use Rattle.hv_ast.specs.declared.table.CompactionKind.{CompactionKind}
use Rattle.hv_logic.specs.declared.catalog.TableInfo.{TableInfo}
use Rattle.hv_logic.specs.declared.effect.Effect.{Effect}
use Rattle.hv_logic.specs.declared.meaning.Meaning.{Meaning}
use Rattle.hv_logic.specs.declared.meaning.Meaning.TheVariants.{Refused, Listing, Change, Make, Unmake, Ask, Plain, Twice, RowLimit, PartitionLimit}
use Rattle.hv_route.specs.Touching.{touches_of}
use Rattle.hv_history.specs.declared.entry.Entry.{Entry}
use Rattle.hv_history.specs.declared.entry.Entry.TheVariants as entry
use Rattle.hv_history.specs.declared.entry.Cause.{Cause}
use Rattle.hv_history.specs.declared.entry.Cause.TheVariants as cause
use Rattle.hv_history.specs.declared.state.Ending.{Ending}
use Rattle.hv_history.specs.declared.state.Ending.TheVariants.{Committed}
use Rattle.hv_history.specs.declared.state.Table.{Table}
use Rattle.hv_history.specs.declared.state.Transaction.{Transaction}
use Rattle.hv_history.specs.Asking.{listed_in, asked_by}
use Rattle.hv_history.specs.JobsTrue.{kind_of, ask_of, stands_for}
use Rattle.hv_history.specs.State.{State, numbered, meaning, state_of}
use Rattle.hv_history.specs.Legal.{is_started, locks_of, first_holder, first_shared, place_of_snapshot, load, profile}

-- ---- entries, by the number of a transaction

abbrev pub start : ℕ → Entry
start txn = entry.Start (record { 0 = txn }) 0

abbrev pub abort : ℕ → Cause → Entry
abort txn why = entry.Abort (record { 0 = txn }) why

abbrev pub commit : ℕ → List Touch → Entry
commit txn wrote = entry.Commit (record { 0 = txn }) wrote

-- ---- room: so many more would pass the journal's limit

abbrev pub lacks_room : State → ℕ → Bool
lacks_room state more = nat_lt profile.entries (load state + more)

-- ---- it was opened: it starts, unless an open transaction holds a lock against it, or there is no room

abbrev pub starting : State → ℕ → Option ℕ → Entry
starting state txn (Some holder) = abort txn (cause.Blocked (record { 0 = holder }))
starting state txn None = if lacks_room state 1 then abort txn cause.Full else start txn

-- ---- conflicts: the earliest commit behind the snapshot that conflicts, and the first touch that both share

pub record Meeting : Type 0 where
  pub at : ℕ
  pub by : ℕ
  pub shared : Touch

abbrev pub meeting : ℕ → ℕ → Touch → Meeting
meeting at by_ shared = record { at = at; by = by_; shared = shared }

-- what these touches meet in the transaction of that number, by how it ended
abbrev pub met : ℕ → List Touch → ℕ → Option Ending → Option Meeting
met place wrote number (Some (Committed at those)) = if nat_lt place at then option_map (meeting at number) (first_shared wrote those) else None
met place wrote number _ = None

-- the earlier of two
abbrev pub earlier_one : Option Meeting → Option Meeting → Option Meeting
earlier_one None other = other
earlier_one (Some one) None = Some one
earlier_one (Some one) (Some other) = if nat_lt other.at one.at then Some other else Some one

-- the earliest of all that they meet, where the first transaction's number is given
abbrev pub first_met : ℕ → List Touch → ℕ → List Transaction → Option Meeting
first_met place wrote number [] = None
first_met place wrote number (transaction ∷ more) = earlier_one (met place wrote number transaction.ending) (first_met place wrote (number + 1) more)

-- ---- it has started: what it means decides

-- a change of rows asks for a write id, once
abbrev pub needs_id : List (ℕ × ℕ) → Option Meaning → Bool
needs_id [] (Some (Change info effect)) = nat_lt 0 (length effect.inserts + length effect.deletes)
needs_id given meaning = false

-- the write id that is given next
abbrev pub next_write : Option Table → ℕ
next_write None = 1
next_write (Some table) = length table.owners + 1

abbrev pub giving : State → ℕ → TableInfo → Entry
giving state txn info = entry.Given (record { 0 = txn }) info.table (record { 0 = next_write (numbered state.tables info.table.0) })

-- the end of a change: a commit with its touches, unless a commit behind its snapshot conflicts
abbrev pub ending_change : ℕ → List Touch → Option Meeting → Entry
ending_change txn wrote None = commit txn wrote
ending_change txn wrote (Some meeting) = abort txn (cause.Conflict (record { 0 = meeting.by }) meeting.shared.table meeting.shared.partition)

abbrev pub changing : State → ℕ → Transaction → TableInfo → Effect → Bool → Entry
changing state txn transaction info effect true = if lacks_room state 1 then abort txn cause.Full else giving state txn info
changing state txn transaction info effect false =
    ending_change txn (touches_of info effect) (first_met (place_of_snapshot transaction.snapshot) (touches_of info effect) 1 state.transactions)

-- the end of what comes to nothing: it commits once it has asked for each abort that its text lists, one after another
abbrev pub asking_or_end : ℕ → Option ℕ → Entry
asking_or_end txn None = commit txn []
asking_or_end txn (Some other) = abort other (cause.Request (record { 0 = txn }))

-- the end of what asks for a compaction: it commits where a job of the partition was busy behind its snapshot, and asks for one before
abbrev pub asking_job : State → ℕ → TableId → List ℕ → CompactionKind → Entry
asking_job state txn table partition kind =
    entry.Asked (record { 0 = length state.jobs + 1 }) table partition (kind_of kind) txn

abbrev pub compacting : State → ℕ → TableId → List ℕ → CompactionKind → Bool → Entry
compacting state txn table partition kind true = commit txn []
compacting state txn table partition kind false =
    if lacks_room state 1 then abort txn cause.Full else asking_job state txn table partition kind

abbrev pub by_meaning : State → ℕ → Transaction → Option Meaning → Option Entry
by_meaning state txn transaction (Some (Refused why)) = Some (abort txn (cause.Refused (refusals.number why)))
by_meaning state txn transaction (Some (Twice region row)) = Some (abort txn (cause.Twice region row))
by_meaning state txn transaction (Some RowLimit) = Some (abort txn cause.RowLimit)
by_meaning state txn transaction (Some PartitionLimit) = Some (abort txn cause.PartitionLimit)
by_meaning state txn transaction (Some (Listing names rows)) = Some (commit txn [])
by_meaning state txn transaction (Some Plain) = Some (asking_or_end txn (asked_by state txn transaction))
by_meaning state txn transaction (Some (Ask table partition kind)) =
    Some (compacting state txn table partition kind (stands_for state transaction (ask_of table partition kind)))
by_meaning state txn transaction (Some (Make shape)) = Some (entry.Create (record { 0 = txn }) (record { 0 = length state.tables + 1 }))
by_meaning state txn transaction (Some (Unmake table)) = Some (entry.Drop (record { 0 = txn }) table)
by_meaning state txn transaction (Some (Change info effect)) =
    Some (changing state txn transaction info effect (needs_id transaction.given (Some (Change info effect))))
by_meaning state txn transaction None = None

-- ---- the next entry of a transaction: none where it has ended

abbrev pub by_start : State → ℕ → Transaction → Bool → Option Entry
by_start state txn transaction false = Some (starting state txn (first_holder (locks_of transaction) 1 state.transactions))
by_start state txn transaction true = by_meaning state txn transaction (meaning transaction)

abbrev pub by_ending : State → ℕ → Transaction → Option Ending → Option Entry
by_ending state txn transaction (Some ending) = None
by_ending state txn transaction None = by_start state txn transaction (is_started transaction)

unfoldable pub next_of : State → ℕ → Transaction → Option Entry
next_of state txn transaction = by_ending state txn transaction transaction.ending

-- ---- holds: which entries come before the place where a statement is held

abbrev pub is_refusal : Entry → Bool
is_refusal (entry.Abort txn (cause.Refused number)) = true
is_refusal event = false

-- a commit, or what can stand in its place
abbrev pub is_commit : Entry → Bool
is_commit (entry.Commit txn wrote) = true
is_commit (entry.Create txn table) = true
is_commit (entry.Drop txn table) = true
is_commit (entry.Abort txn (cause.Conflict by_ table partition)) = true
is_commit event = false

-- The entry of a statement that has started or not comes before its hold: at `start` it is held once it has started, at `read`
-- once its text isn't refused, and at `commit` before all that ends it there.
abbrev pub comes_before : Option Stage → Bool → Entry → Bool
comes_before None started event = true
comes_before (Some stage.Read) started event = not started || is_refusal event
comes_before (Some stage.Commit) started event = not started || not (is_commit event)
comes_before (Some other) started event = not started

abbrev pub if_before : Option Stage → Bool → Option Entry → Option Entry
if_before hold started None = None
if_before hold started (Some event) = if comes_before hold started event then Some event else None

abbrev pub due_of : Option Stage → State → ℕ → Option Transaction → Option Entry
due_of hold state txn None = None
due_of hold state txn (Some transaction) = if_before hold (is_started transaction) (next_of state txn transaction)

-- the entry that one thread adds next for that transaction, none where it has ended or is held
abbrev pub due : Option Stage → State → ℕ → Option Entry
due hold state txn = due_of hold state txn (numbered state.transactions txn)

-- ---- one entry after another: a statement has at most three behind its opening, and one for each number that it lists

abbrev pub with_one : List Entry → Option Entry → List Entry
with_one book None = book
with_one book (Some event) = book ++ event ∷ []

abbrev pub steps : ℕ → Option Stage → ℕ → List Entry → List Entry
steps zero hold txn book = book
steps (suc n) hold txn book = steps n hold txn (with_one book (due hold (state_of book) txn))

unfoldable pub carried_on : Option Stage → ℕ → List Entry → List Entry
carried_on hold txn book = steps (3 + listed_in (numbered (state_of book).transactions txn)) hold txn book
