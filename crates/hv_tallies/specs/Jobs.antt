-- What the jobs of a partition come to, by the notes that are kept of them beside a book.
use Rattle.std.specs.Prelude.{if◌then◌else◌, ℕ, ◌==◌, ◌&&◌, ◌||◌, nat_eq, nat_lt, Bool, true, false, is_none, Option, Some, None, List, filter, map, option_and_then, slice_get}
use Rattle.std.specs.Cmp.Lexicographic.{pointwise}
use Rattle.hv_jobs.specs.hv_history.specs.declared.entry.Entry.{Entry}
use Rattle.hv_jobs.specs.hv_history.specs.declared.entry.Entry.TheVariants as entry
use Rattle.hv_jobs.specs.hv_history.specs.declared.entry.JobKind.{JobKind}
use Rattle.hv_jobs.specs.hv_history.specs.declared.entry.JobKind.TheVariants as kind
use Rattle.hv_jobs.specs.hv_history.specs.State.{state_of}
use Rattle.hv_jobs.specs.hv_history.specs.Jobs.{larger}
use Rattle.hv_earlier.specs.hv_meta.specs.hv_book.specs.declared.jobs.JobNote.{JobNote}
use Rattle.hv_earlier.specs.hv_meta.specs.hv_book.specs.declared.jobs.JobRange.{JobRange}
use Rattle.hv_earlier.specs.hv_meta.specs.hv_book.specs.Jobs.{is_working_note}
use Rattle.hv_earlier.specs.hv_meta.specs.hv_book.specs.Briefs.{brief_job}
use Rattle.hv_tallies.specs.declared.survey.Survey.{Survey}

-- ---- the jobs of a partition: a note has the place of the job's Asked, which has the partition

abbrev pub asked_in : Entry → Option (List ℕ)
asked_in (entry.Asked job table partition kind by) = Some partition
asked_in _ = None

abbrev pub asked_at : List Entry → ℕ → Option (List ℕ)
asked_at entries place = option_and_then asked_in (slice_get entries place)

abbrev pub is_asked_for : List ℕ → Option (List ℕ) → Bool
is_asked_for partition None = false
is_asked_for partition (Some found) = pointwise nat_eq found partition

abbrev pub is_asked_of : List Entry → ℕ → List ℕ → JobNote → Bool
is_asked_of entries table partition note = (note.table == table) && is_asked_for partition (asked_at entries note.asked)

abbrev pub notes_in : List Entry → ℕ → List ℕ → List JobNote
notes_in entries table partition = filter (is_asked_of entries table partition) (map brief_job (state_of entries).jobs)

-- ---- one job

abbrev pub is_major : JobKind → Bool
is_major kind.Minor = false
is_major kind.Major = true

abbrev pub range_high : Option JobRange → ℕ
range_high None = 0
range_high (Some range) = range.high

abbrev pub is_busy_note : JobNote → Bool
is_busy_note note = (is_none note.watermark && is_none note.ended) || is_working_note note

-- ---- all of them

abbrev pub no_survey : Survey
no_survey = record { busy = false; base = 0; compacted = 0; last = None }

abbrev pub larger_if : Bool → ℕ → ℕ → ℕ
larger_if test base high = if test then larger base high else base

abbrev pub surveyed : Survey → JobNote → Survey
surveyed survey note = record {
  busy = survey.busy || is_busy_note note;
  base = larger_if (is_major note.kind) survey.base (range_high note.published);
  compacted = larger survey.compacted (range_high note.published);
  last = Some note;
}

abbrev pub low_by_range : ℕ → Option ℕ → Option JobRange → Option ℕ
low_by_range base low None = low
low_by_range base low (Some range) = if nat_lt base range.high then Some range.low else low

-- where the last minor one begins whose end is above the base
abbrev pub low_of : ℕ → Option ℕ → JobNote → Option ℕ
low_of base low note = if is_major note.kind then low else low_by_range base low note.published

-- ---- whether one was initiated or working behind a place

abbrev pub ended_behind : ℕ → Option ℕ → Bool
ended_behind place None = true
ended_behind place (Some end) = nat_lt place end

abbrev pub or_busy : ℕ → Bool → JobNote → Bool
or_busy place before note = before || ended_behind place note.ended
