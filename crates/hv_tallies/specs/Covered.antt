-- What is put behind one another of the directories that a job covers, by the notes that are kept beside a book.
use Rattle.std.specs.Prelude.{if◌then◌else◌, ℕ, ◌-◌, ◌&&◌, Bool, true, false, Option, Some, None, List, [], ◌∷◌, ◌++◌, map}
use Rattle.std.specs.List.{flat_map}
use Rattle.hv_base.specs.declared.ids.Touch.{Touch}
use Rattle.hv_dirs.specs.declared.names.DirName.{DirName}
use Rattle.hv_jobs.specs.hv_history.specs.declared.entry.Entry.{Entry}
use Rattle.hv_jobs.specs.hv_history.specs.declared.entry.JobKind.{JobKind}
use Rattle.hv_jobs.specs.hv_history.specs.declared.entry.JobKind.TheVariants as kind
use Rattle.hv_jobs.specs.hv_history.specs.State.{State, state_of, numbered}
use Rattle.hv_jobs.specs.hv_history.specs.Jobs.{Events, inserts, deletes, events_of, events_in}
use Rattle.hv_ids.specs.declared.notes.IdNote.{IdNote}
use Rattle.hv_earlier.specs.hv_meta.specs.hv_book.specs.declared.jobs.JobNote.{JobNote}
use Rattle.hv_earlier.specs.hv_meta.specs.hv_book.specs.declared.jobs.JobRange.{JobRange}
use Rattle.hv_earlier.specs.hv_meta.specs.hv_book.specs.Briefs.{brief_job}
use Rattle.hv_earlier.specs.hv_meta.specs.hv_book.specs.Commits.{wrote_in}
use Rattle.hv_earlier.specs.hv_meta.specs.hv_book.specs.Past.{total}
use Rattle.hv_jobs.specs.Covers.{covers_range}
use Rattle.hv_jobs.specs.Covered.{own, wide, base, has_within}
use Rattle.hv_tallies.specs.declared.tally.Reach.{Reach}
use Rattle.hv_tallies.specs.Tallies.{touch_in}
use Rattle.hv_tallies.specs.Jobs.{is_asked_of}

-- ---- what a job covers, by its note

abbrev pub covers_by_range : JobKind → JobRange → DirName → Bool
covers_by_range kind range name = covers_range kind range.low range.high name

abbrev pub covers_if : JobKind → Option JobRange → DirName → Bool
covers_if kind None name = false
covers_if kind (Some range) name = covers_by_range kind range name

abbrev pub covers_note : JobNote → DirName → Bool
covers_note note name = covers_if note.kind note.published name

-- ---- what is kept of the names that were made

abbrev pub kept_if : JobNote → Bool → DirName → List DirName
kept_if note made name = if made && covers_note note name then name ∷ [] else []

-- ---- own deltas

abbrev pub own_kept : JobNote → Events → List DirName
own_kept note events = kept_if note (inserts events) (own false events.write) ++ kept_if note (deletes events) (own true events.write)

abbrev pub touch_names : JobNote → ℕ → Option Touch → List DirName
touch_names note write None = []
touch_names note write (Some touch) = own_kept note (events_of write touch)

-- of one write id, which was given to the transaction of that number
unfoldable pub names_of : State → ℕ → List ℕ → JobNote → ℕ → ℕ → List DirName
names_of state table partition note write txn = touch_names note write (touch_in table partition (wrote_in (numbered state.transactions txn)))

abbrev pub names_at : State → ℕ → List ℕ → JobNote → IdNote → List DirName
names_at state table partition note id = names_of state table partition note id.write id.txn

-- what these weigh
abbrev pub names_weight : State → ℕ → List ℕ → JobNote → (DirName → ℕ) → ℕ → ℕ → ℕ
names_weight state table partition note weight write txn = total weight (names_of state table partition note write txn)

-- ---- what compactions made

-- how far a walk counts that looks for something in the range
abbrev pub reach_within : JobRange → Reach
reach_within range = record { base = range.low - 1; compacted = range.high; mark = range.high; given = 0 }

abbrev pub wide_kept : JobNote → Bool → Bool → JobRange → List DirName
wide_kept note inserted deleted range =
    kept_if note inserted (wide false range.low range.high) ++ kept_if note deleted (wide true range.low range.high)

abbrev pub range_kept : List Events → JobNote → JobKind → JobRange → List DirName
range_kept ids note kind.Minor range =
    wide_kept note (has_within false range.low range.high ids) (has_within true range.low range.high ids) range
range_kept ids note kind.Major range = kept_if note true (base range.high)

abbrev pub published_kept : List Events → JobNote → JobKind → Option JobRange → List DirName
published_kept ids note kind None = []
published_kept ids note kind (Some range) = range_kept ids note kind range

-- those of another job, where it is one of the partition
abbrev pub made_kept : List Entry → ℕ → List ℕ → JobNote → JobNote → List DirName
made_kept entries table partition note other =
    if is_asked_of entries table partition other
    then published_kept (events_in (state_of entries) table partition) note other.kind other.published else []

-- ---- all of them

abbrev pub kept_names : List Entry → ℕ → List ℕ → JobNote → List DirName
kept_names entries table partition note =
    flat_map (own_kept note) (events_in (state_of entries) table partition)
    ++ flat_map (made_kept entries table partition note) (map brief_job (state_of entries).jobs)
