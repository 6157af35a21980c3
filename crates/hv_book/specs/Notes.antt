-- What a book keeps beside its entries, so that nobody walks them: one note for each transaction, table and job, and what
-- is open. An entry changes the notes by what it says and by its place alone.
use Rattle.std.specs.Prelude.{ℕ, ◌+◌, ◌==◌, Bool, true, false, not, is_none, Option, Some, None, List, [], ◌∷◌, ◌++◌, length, filter, fold}
use Rattle.hv_history.specs.declared.entry.Entry.{Entry}
use Rattle.hv_history.specs.declared.entry.Entry.TheVariants as entry
use Rattle.hv_history.specs.declared.entry.JobKind.{JobKind}
use Rattle.hv_book.specs.declared.notes.End.{End}
use Rattle.hv_book.specs.declared.notes.TransactionNote.{TransactionNote}
use Rattle.hv_book.specs.declared.notes.TableNote.{TableNote}
use Rattle.hv_book.specs.declared.jobs.JobNote.{JobNote}
use Rattle.hv_book.specs.declared.notes.Held.{Held}
use Rattle.hv_book.specs.declared.jobs.Step.TheVariants as step
use Rattle.hv_book.specs.Jobs.{new_job, stepped}
use Rattle.hv_history.specs.State.{numbered, changed, first_of}

-- `opened` has the place of each transaction's Opened, `ongoing` the numbers of those that have not ended, `texts` for each
-- table the place of the text that made it, `held` the write ids of open transactions and `commits` the place of each
-- Commit that ended a transaction.
pub record Notes : Type 0 where
  pub opened : List ℕ
  pub transactions : List TransactionNote
  pub ongoing : List ℕ
  pub texts : List (Option ℕ)
  pub tables : List TableNote
  pub held : List Held
  pub commits : List ℕ
  pub jobs : List JobNote

abbrev pub no_notes : Notes
no_notes = record {
  opened = [];
  transactions = [];
  ongoing = [];
  texts = [];
  tables = [];
  held = [];
  commits = [];
  jobs = [];
}

-- ---- one transaction

abbrev pub note_open : TransactionNote → Bool
note_open note = is_none note.ending

abbrev pub unended : Option End → TransactionNote → TransactionNote → TransactionNote
unended None note next = next
unended (Some ending) note next = note

-- a transaction that has ended changes no more
abbrev pub while_unended : (TransactionNote → TransactionNote) → TransactionNote → TransactionNote
while_unended f note = unended note.ending note (f note)

abbrev pub started_at : ℕ → TransactionNote → TransactionNote
started_at place note = record note { started = first_of note.started place }

abbrev pub ended_at : ℕ → Bool → TransactionNote → TransactionNote
ended_at place committed note = record note { ending = Some (record { at = place; committed = committed }) }

unfoldable pub start_note : ℕ → TransactionNote → TransactionNote
start_note place note = while_unended (started_at place) note

unfoldable pub end_note : ℕ → Bool → TransactionNote → TransactionNote
end_note place committed note = while_unended (ended_at place committed) note

-- the transaction of that number is there and open
abbrev pub is_open_note : Option TransactionNote → Bool
is_open_note None = false
is_open_note (Some note) = note_open note

abbrev pub is_open_in : Notes → ℕ → Bool
is_open_in notes txn = is_open_note (numbered notes.transactions txn)

abbrev pub other_than : ℕ → ℕ → Bool
other_than txn other = not (other == txn)

abbrev pub held_by_other : ℕ → Held → Bool
held_by_other txn held = not (held.txn == txn)

-- a transaction ends: its note says how, and it holds nothing any more
unfoldable pub ending : ℕ → Bool → ℕ → Notes → Notes
ending place committed txn notes = record notes {
  transactions = changed (end_note place committed) notes.transactions txn;
  ongoing = filter (other_than txn) notes.ongoing;
  held = filter (held_by_other txn) notes.held;
}

-- ---- one table

unfoldable pub one_more : TableNote → TableNote
one_more note = record note { high = note.high + 1 }

unfoldable pub gone : TableNote → TableNote
gone note = record note { is_live = false }

-- ---- one entry, at its place

abbrev pub noted_opened : ℕ → Notes → Notes
noted_opened place notes = record notes {
  opened = notes.opened ++ place ∷ [];
  transactions = notes.transactions ++ record { started = None; ending = None } ∷ [];
  ongoing = notes.ongoing ++ (length notes.transactions + 1) ∷ [];
}

abbrev pub noted_start : ℕ → ℕ → Notes → Notes
noted_start place txn notes = record notes { transactions = changed (start_note place) notes.transactions txn }

-- one more behind, where it is so
abbrev pub add_if : {A : Type 0} → Bool → A → List A → List A
add_if true x xs = xs ++ x ∷ []
add_if false x xs = xs

abbrev pub noted_given : ℕ → ℕ → ℕ → Notes → Notes
noted_given txn table write notes = record notes {
  tables = changed one_more notes.tables table;
  held = add_if (is_open_in notes txn) (record { txn = txn; table = table; write = write }) notes.held;
}

abbrev pub noted_commit : ℕ → ℕ → Notes → Notes
noted_commit place txn notes = record (ending place true txn notes) {
  commits = add_if (is_open_in notes txn) place notes.commits;
}

abbrev pub noted_create : ℕ → ℕ → ℕ → Notes → Notes
noted_create place txn table notes = record (ending place true txn notes) {
  texts = notes.texts ++ numbered notes.opened txn ∷ [];
  tables = notes.tables ++ record { id = table; is_live = true; high = 0 } ∷ [];
}

abbrev pub noted_drop : ℕ → ℕ → ℕ → Notes → Notes
noted_drop place txn table notes = record (ending place true txn notes) { tables = changed gone notes.tables table }

abbrev pub noted_asked : ℕ → ℕ → JobKind → Notes → Notes
noted_asked place table kind notes = record notes { jobs = notes.jobs ++ new_job table kind place ∷ [] }

abbrev pub noted_job : (JobNote → JobNote) → ℕ → Notes → Notes
noted_job f job notes = record notes { jobs = changed f notes.jobs job }

abbrev pub noted : ℕ → Entry → Notes → Notes
noted place (entry.Opened txn session number text) notes = noted_opened place notes
noted place (entry.Start txn statement) notes = noted_start place txn.0 notes
noted place (entry.Given txn table write) notes = noted_given txn.0 table.0 write.0 notes
noted place (entry.Commit txn wrote) notes = noted_commit place txn.0 notes
noted place (entry.Abort txn cause) notes = ending place false txn.0 notes
noted place (entry.Create txn table) notes = noted_create place txn.0 table.0 notes
noted place (entry.Drop txn table) notes = noted_drop place txn.0 table.0 notes
noted place (entry.Asked job table partition kind by) notes = noted_asked place table.0 kind notes
noted place (entry.Picked job watermark) notes = noted_job (stepped (step.Picked watermark.0)) job.0 notes
noted place (entry.Published job low high mark) notes =
    noted_job (stepped (step.Published place (record { low = low.0; high = high.0; mark = mark.0 }))) job.0 notes
noted place (entry.Empty job) notes = noted_job (stepped (step.Empty place)) job.0 notes
noted place (entry.Cleaned job) notes = noted_job (stepped step.Cleaned) job.0 notes
noted place (entry.Failed job cause) notes = noted_job (stepped (step.Failed place)) job.0 notes
noted place _ notes = notes

-- ---- a book's notes

pub record Counted : Type 0 where
  pub count : ℕ
  pub notes : Notes

abbrev pub noted_next : Counted → Entry → Counted
noted_next counted event = record { count = counted.count + 1; notes = noted counted.count event counted.notes }

abbrev pub counted_of : List Entry → Counted
counted_of entries = fold noted_next (record { count = 0; notes = no_notes }) entries

abbrev pub notes_of : List Entry → Notes
notes_of entries = (counted_of entries).notes
