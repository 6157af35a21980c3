-- What decides whether an entry of compaction or of forgetting fits, by what is kept beside a book.
use Rattle.std.specs.Prelude.{if◌then◌else◌, ℕ, ◌-◌, ◌==◌, ◌&&◌, nat_eq, nat_le, Bool, true, false, not, is_none, is_some, Option, Some, None, List, [], ◌∷◌, map}
use Rattle.std.specs.List.{slice_get}
use Rattle.std.specs.Cmp.Lexicographic.{pointwise}
use Rattle.hv_ast.specs.declared.statement.Stmt.{Stmt}
use Rattle.hv_ast.specs.declared.statement.Stmt.TheVariants as stmt
use Rattle.hv_queue.specs.hv_history.specs.declared.entry.JobKind.{JobKind}
use Rattle.hv_queue.specs.hv_history.specs.declared.state.Table.{Table}
use Rattle.hv_queue.specs.hv_history.specs.declared.state.Transaction.{Transaction}
use Rattle.hv_queue.specs.hv_history.specs.State.{State, numbered}
use Rattle.hv_queue.specs.hv_history.specs.Jobs.{is_live_one}
use Rattle.hv_queue.specs.hv_history.specs.JobsFit.{is_of_kind, is_aborted_one}
use Rattle.hv_ids.specs.declared.notes.IdNote.{IdNote}
use Rattle.hv_queue.specs.hv_tallies.specs.hv_earlier.specs.hv_meta.specs.hv_book.specs.declared.jobs.JobNote.{JobNote}
use Rattle.hv_queue.specs.hv_tallies.specs.hv_earlier.specs.hv_meta.specs.hv_book.specs.declared.jobs.JobRange.{JobRange}
use Rattle.hv_queue.specs.hv_tallies.specs.hv_earlier.specs.hv_meta.specs.hv_book.specs.declared.notes.End.{End}
use Rattle.hv_queue.specs.hv_tallies.specs.hv_earlier.specs.hv_meta.specs.hv_book.specs.declared.notes.TransactionNote.{TransactionNote}
use Rattle.hv_queue.specs.hv_tallies.specs.hv_earlier.specs.hv_meta.specs.hv_book.specs.declared.past.ForgotNote.{ForgotNote}
use Rattle.hv_queue.specs.hv_tallies.specs.hv_earlier.specs.hv_meta.specs.hv_book.specs.Briefs.{brief, open_from}
use Rattle.hv_queue.specs.hv_tallies.specs.hv_earlier.specs.hv_meta.specs.hv_book.specs.Names.{name_at}
use Rattle.hv_queue.specs.hv_tallies.specs.hv_earlier.specs.hv_meta.specs.hv_book.specs.Past.{only_if, forgot_then}

-- ---- asking

-- the text asks for a compaction of that kind of a table of the name that the table of that number has
abbrev pub compacts : List Table → ℕ → JobKind → Option Stmt → Bool
compacts tables table kind (Some (stmt.Compact compact)) = pointwise nat_eq (name_at tables table) compact.table && is_of_kind kind compact.kind
compacts tables table kind _ = false

-- ---- taking up

-- nobody took it up, and its table is live
abbrev pub is_waiting : State → JobNote → Bool
is_waiting state note = (is_none note.watermark && is_none note.ended) && is_live_one (numbered state.tables note.table)

-- the first of these that waits is the one of that number, from 1
abbrev pub is_lowest : State → ℕ → List JobNote → Bool
is_lowest state number [] = false
is_lowest state number (note ∷ notes) = if is_waiting state note then number == 1 else is_lowest state (number - 1) notes

-- ---- cleaning

abbrev pub is_ready_note : JobNote → Bool
is_ready_note note = is_some note.published && not note.is_cleaned

abbrev pub is_past_first : ℕ → Option ℕ → Bool
is_past_first mark None = true
is_past_first mark (Some txn) = nat_le mark txn

-- none of these, which rise, is below the mark
abbrev pub is_past_mark : ℕ → List ℕ → Bool
is_past_mark mark txns = is_past_first mark (slice_get txns 0)

abbrev pub is_past_note : State → Option JobRange → Bool
is_past_note state None = false
is_past_note state (Some range) = is_past_mark range.mark (open_from 1 (map brief state.transactions))

-- ---- forgetting

abbrev pub is_aborted_end : Option End → Bool
is_aborted_end None = false
is_aborted_end (Some end) = not end.committed

abbrev pub is_aborted_note : Option TransactionNote → Bool
is_aborted_note None = false
is_aborted_note (Some note) = is_aborted_end note.ending

-- the one id is the other, and the transaction that it was given to was aborted
abbrev pub is_lost : List Transaction → ℕ → ℕ → ℕ → Bool
is_lost transactions write other txn = (other == write) && is_aborted_one (numbered transactions txn)

abbrev pub is_lost_in : List Transaction → ℕ → IdNote → Bool
is_lost_in transactions write id = is_lost transactions write id.write id.txn

-- the weight of one that is so
abbrev pub lost_weight : List Transaction → ℕ → ℕ → ℕ → ℕ
lost_weight transactions write other txn = only_if (is_lost transactions write other txn) 1

-- it was forgotten in that table before that place
abbrev pub is_forgot : ℕ → ℕ → ℕ → ForgotNote → Bool
is_forgot position table write note = forgot_then position table note && (note.write == write)
