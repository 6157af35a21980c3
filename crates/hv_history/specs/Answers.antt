-- What the program prints for a statement whose transaction ended. Source: the texts are this project's profile.
use Rattle.std.specs.Prelude.{if◌then◌else◌, ℕ, ◌+◌, ◌/◌, ◌%◌, ◌==◌, Option, Some, None, List, [], ◌∷◌, ◌++◌, map, sum_by, codes}
use Rattle.std.specs.List.{flat_map, join_with_byte}
use Rattle.std.specs.Option.{option_map}
use Rattle.std.specs.Fmt.{decimal}
use Rattle.hv_base.specs.declared.ids.Touch.{Touch}
use Rattle.hv_base.specs.declared.ids.RowId.{RowId}
use Rattle.hv_base.specs.declared.refusal.Refusal.{Refusal}
use Rattle.hv_base.specs.declared.refusal.Refusal.TheVariants as refusal
use Rattle.hv_base.specs.Refusals.{number, name}
use Rattle.hv_value.specs.declared.row.Row.{Row}
use Rattle.hv_value.specs.Printing.{printed}
use Rattle.hv_meaning.specs.hv_typing.specs.hv_logic.specs.declared.meaning.Meaning.{Meaning}
use Rattle.hv_meaning.specs.hv_typing.specs.hv_logic.specs.declared.meaning.Meaning.TheVariants.{Listing, Change}
use Rattle.hv_history.specs.declared.entry.FilePlace.{FilePlace}
use Rattle.hv_history.specs.declared.entry.Cause.{Cause}
use Rattle.hv_history.specs.declared.entry.Cause.TheVariants as cause
use Rattle.hv_history.specs.State.{State, Table, Snapshot, Transaction, Ending, Committed, Aborted, Made, Dropped, numbered, meaning}

abbrev pub tab : ℕ
tab = 9

abbrev pub line_feed : ℕ
line_feed = 10

abbrev pub line : List ℕ → List ℕ
line text = text ++ line_feed ∷ []

-- ---- a query prints its columns' names and its rows, with a tab between two values

abbrev pub row_line : Row → List ℕ
row_line row = line (join_with_byte tab (map printed row.values))

unfoldable pub listing : List (List ℕ) → List Row → List ℕ
listing names rows = line (join_with_byte tab names) ++ flat_map row_line rows

-- ---- a change prints how many rows it inserted and deleted

unfoldable pub counts_line : List Touch → List ℕ
counts_line wrote =
    line (codes "OK inserted " ++ decimal (sum_by (λ (touch : Touch). touch.inserted) wrote)
    ++ codes " deleted " ++ decimal (sum_by (λ (touch : Touch). touch.deleted) wrote))

unfoldable pub ok_line : List ℕ
ok_line = line (codes "OK")

abbrev pub committed_text : Option Meaning → List Touch → List ℕ
committed_text (Some (Listing names rows)) wrote = listing names rows
committed_text (Some (Change info effect)) wrote = counts_line wrote
committed_text _ wrote = ok_line

-- ---- a refusal prints FAILED, its number and its name, and what it names

abbrev pub every_refusal : List Refusal
every_refusal =
    refusal.BadCharacter ∷ refusal.OpenString ∷ refusal.WideNumber ∷ refusal.Syntax ∷ refusal.Nesting
    ∷ refusal.NoTable ∷ refusal.NoColumn ∷ refusal.Ambiguous ∷ refusal.BadType ∷ refusal.BadCount
    ∷ refusal.NotGrouped ∷ refusal.FixedColumn ∷ refusal.MergeClauses ∷ refusal.TableExists ∷ refusal.Limit
    ∷ refusal.ViewForm ∷ refusal.IsView ∷ refusal.NotView ∷ refusal.WindowPlace
    ∷ refusal.Conflict ∷ refusal.Aborted ∷ refusal.JournalFull ∷ refusal.MergeTwice ∷ refusal.Blocked
    ∷ refusal.ReadFault ∷ refusal.WriteFault ∷ refusal.NoMemory ∷ refusal.RowLimit ∷ refusal.PartitionLimit
    ∷ refusal.Damaged ∷ refusal.TransactionOver ∷ refusal.NotInTransaction ∷ refusal.NoTransaction ∷ []

abbrev pub name_among : List Refusal → ℕ → List ℕ
name_among [] n = []
name_among (first ∷ more) n = if number first == n then name first else name_among more n

-- the name of the refusal of that number
unfoldable pub refusal_name : ℕ → List ℕ
refusal_name n = name_among every_refusal n

unfoldable pub failed_line : ℕ → List ℕ → List ℕ
failed_line number text = line (codes "FAILED " ++ decimal number ++ codes " " ++ text)

abbrev pub refused_line : Refusal → List ℕ → List ℕ
refused_line why more = failed_line (number why) (name why ++ more)

-- a space and the text, where there is one
abbrev pub after_space : List ℕ → List ℕ
after_space [] = []
after_space (b ∷ text) = codes " " ++ b ∷ text

abbrev pub name_of : Option Table → List ℕ
name_of None = []
name_of (Some table) = table.info.shape.name

abbrev pub name_at : Option Snapshot → ℕ → List ℕ
name_at None table = []
name_at (Some snapshot) table = name_of (numbered snapshot.tables table)

abbrev pub row_text : RowId → List ℕ
row_text row = join_with_byte 58 (map decimal (row.write.0 ∷ row.statement ∷ row.bucket ∷ row.row ∷ []))

-- a bucket's file: five digits behind its name
abbrev pub five_digits : ℕ → List ℕ
five_digits n = map (λ k. 48 + n / k % 10) (10000 ∷ 1000 ∷ 100 ∷ 10 ∷ 1 ∷ [])

abbrev pub place_text : FilePlace → List ℕ
place_text place = place.dir ++ codes "/bucket_" ++ five_digits place.bucket

-- a conflict with that transaction, in a partition of the table of that name
unfoldable pub conflict_text : ℕ → List ℕ → List ℕ → List ℕ
conflict_text by table partition =
    refused_line refusal.Conflict (codes " with " ++ decimal by ++ codes " on " ++ table ++ after_space partition)

unfoldable pub cause_text : Option Snapshot → Cause → List ℕ
cause_text snapshot (cause.Refused n) = failed_line n (refusal_name n)
cause_text snapshot (cause.Conflict by table partition) = conflict_text by.0 (name_at snapshot table.0) partition
cause_text snapshot (cause.Request by) = refused_line refusal.Aborted (codes " by " ++ decimal by.0)
cause_text snapshot cause.Full = refused_line refusal.JournalFull []
cause_text snapshot (cause.Twice partition row) = refused_line refusal.MergeTwice (codes " " ++ row_text row ++ after_space partition)
cause_text snapshot (cause.Blocked holder) = refused_line refusal.Blocked (codes " by " ++ decimal holder.0)
cause_text snapshot (cause.ReadFault count) = refused_line refusal.ReadFault (codes " " ++ decimal count)
cause_text snapshot (cause.WriteFault count) = refused_line refusal.WriteFault (codes " " ++ decimal count)
cause_text snapshot (cause.Damaged place) = refused_line refusal.Damaged (codes " " ++ place_text place ++ codes " at " ++ decimal place.at)
cause_text snapshot cause.RowLimit = refused_line refusal.RowLimit []
cause_text snapshot cause.PartitionLimit = refused_line refusal.PartitionLimit []
cause_text snapshot cause.Memory = refused_line refusal.NoMemory []
-- a run that stopped prints nothing, so this one is never shown
cause_text snapshot cause.Lost = []
-- and so is this one: the ROLLBACK prints its own line
cause_text snapshot cause.Rollback = []

-- ---- the answer

abbrev pub ending_text : Transaction → Ending → List ℕ
ending_text transaction (Committed place wrote) = committed_text (meaning transaction) wrote
ending_text transaction (Made place table) = ok_line
ending_text transaction (Dropped place table) = ok_line
ending_text transaction (Aborted place cause) = cause_text transaction.snapshot cause

-- what is printed for a transaction, None while it is open
abbrev pub answer_of : Transaction → Option (List ℕ)
answer_of transaction = option_map (ending_text transaction) transaction.ending

abbrev pub answer_in : Option Transaction → Option (List ℕ)
answer_in None = None
answer_in (Some transaction) = answer_of transaction

-- what is printed for the transaction of that number, None where there is none or it is open
abbrev pub answer : State → ℕ → Option (List ℕ)
answer state txn = answer_in (numbered state.transactions txn)
