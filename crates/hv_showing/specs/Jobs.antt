-- How the jobs of a book stood before a place of it: their notes, by one walk over the entries before the place, and the rows that they give.
use Rattle.std.specs.Prelude.{ℕ, ◌+◌, Bool, true, false, is_some, Option, Some, None, List, [], ◌∷◌, ◌++◌, length, take}
use Rattle.std.specs.Option.{option_map}
use Rattle.hv_value.specs.declared.row.Row.{Row}
use Rattle.hv_history.specs.declared.entry.Entry.{Entry}
use Rattle.hv_history.specs.declared.entry.Entry.TheVariants as entry
use Rattle.hv_history.specs.State.{Job, changed, numbered, state_of}
use Rattle.hv_history.specs.Shown.{JobSteps, stage_text, stands_ready, needed_by, job_row}
use Rattle.hv_book.specs.declared.jobs.JobNote.{JobNote}
use Rattle.hv_book.specs.declared.jobs.JobRange.{JobRange}
use Rattle.hv_book.specs.declared.jobs.Step.TheVariants as step
use Rattle.hv_book.specs.Jobs.{new_job, stepped}
use Rattle.hv_book.specs.Names.{name_in}
use Rattle.hv_book.specs.Past.{table_live}
use Rattle.hv_tallies.specs.Jobs.{asked_at}
use Rattle.hv_earlier.specs.declared.fates.Fate.{Fate}
use Rattle.hv_earlier.specs.declared.fates.Fate.TheVariants as fate
use Rattle.hv_earlier.specs.Places.{live_so}
use Rattle.hv_showing.specs.Fronts.{tables_then}

abbrev pub jobs_then : List Entry → ℕ → List Job
jobs_then entries position = (state_of (take position entries)).jobs

-- ---- the walk: an Asked makes a note, and each further entry of a job changes it

abbrev pub jobs_by : ℕ → Entry → List JobNote → List JobNote
jobs_by place (entry.Asked job table partition kind by) notes = notes ++ new_job table.0 kind place ∷ []
jobs_by place (entry.Picked job mark) notes = changed (stepped (step.Picked mark.0)) notes job.0
jobs_by place (entry.Published job low high mark) notes =
    changed (stepped (step.Published place (record { low = low.0; high = high.0; mark = mark.0 }))) notes job.0
jobs_by place (entry.Empty job) notes = changed (stepped (step.Empty place)) notes job.0
jobs_by place (entry.Cleaned job) notes = changed (stepped step.Cleaned) notes job.0
jobs_by place (entry.Failed job cause) notes = changed (stepped (step.Failed place)) notes job.0
jobs_by place _ notes = notes

-- of these entries, the first of which stands at this place
abbrev pub jobs_over : ℕ → List Entry → List JobNote → List JobNote
jobs_over place [] notes = notes
jobs_over place (event ∷ entries) notes = jobs_over (place + 1) entries (jobs_by place event notes)

-- ---- the lowest transaction that was open

abbrev pub is_going : Option Fate → Bool
is_going None = false
is_going (Some fate.Open) = true
is_going (Some fate.Committed) = false
is_going (Some fate.Aborted) = false

-- ---- rows

abbrev pub steps_in : JobNote → JobSteps
steps_in note = record {
  picked = is_some note.watermark;
  published = is_some note.published;
  nothing = note.is_empty;
  cleaned = note.is_cleaned;
  failed = note.is_failed;
}

abbrev pub mark_in : Option JobRange → Option ℕ
mark_in None = None
mark_in (Some range) = Some range.mark

abbrev pub or_empty : Option (List ℕ) → List ℕ
or_empty None = []
or_empty (Some text) = text

-- of a job of a table of this name, live or not, and of a partition
abbrev pub row_of_note : List ℕ → Bool → List ℕ → Option ℕ → ℕ → JobNote → Row
row_of_note name live partition lowest number note =
    job_row number name partition note.kind (stage_text live (steps_in note))
    (needed_by lowest (stands_ready live (steps_in note)) (mark_in note.published))

abbrev pub note_row : List Entry → ℕ → Option ℕ → ℕ → JobNote → Row
note_row entries position lowest number note =
    row_of_note (name_in (numbered (tables_then entries position) note.table))
    (live_so (option_map table_live (numbered (tables_then entries position) note.table)))
    (or_empty (asked_at entries note.asked)) lowest number note

-- one behind another: so many rows stand before, so the next one's number is one more
abbrev pub rows_over : List Entry → ℕ → Option ℕ → List JobNote → List Row → List Row
rows_over entries position lowest [] rows = rows
rows_over entries position lowest (note ∷ notes) rows =
    rows_over entries position lowest notes (rows ++ note_row entries position lowest (length rows + 1) note ∷ [])
