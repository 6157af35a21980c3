-- What a job at work is to make, as directories of its partition, by what is kept of it beside a book; what goes of one that is given up; and
-- how an opening ends it.
use Rattle.std.specs.Prelude.{if◌then◌else◌, ◌≡◌, ◌<◌, ◌≤◌, ℕ, Bool, true, false, Option, Some, None, List, [], ◌∷◌, ◌++◌, length, map}
use Rattle.std.specs.List.{list_any, list_all}
use Rattle.hv_base.specs.declared.ids.Limits.{Limits}
use Rattle.hv_base.specs.Faults.{Rose}
use Rattle.hv_shelf.specs.Causes.{last_count}
use Rattle.hv_shelf.specs.declared.place.DirAt.{DirAt}
use Rattle.hv_shelf.specs.declared.place.Place.{Place}
use Rattle.hv_shelf.specs.Disk.{Store, Tree}
use Rattle.hv_shelf.specs.Places.{is_in}
use Rattle.hv_dirs.specs.declared.names.DirName.{DirName}
use Rattle.hv_dirs.specs.declared.names.DirName.TheVariants.{Staged}
use Rattle.hv_dirs.specs.Names.{write_end, text_of}
use Rattle.hv_history.specs.declared.entry.Entry.{Entry}
use Rattle.hv_history.specs.declared.entry.Entry.TheVariants as entry
use Rattle.hv_history.specs.declared.entry.JobKind.{JobKind}
use Rattle.hv_history.specs.declared.entry.JobKind.TheVariants as kind
use Rattle.hv_history.specs.State.{State, Job, nothing_yet, state_of}
use Rattle.hv_history.specs.Legal.{is_working, AllFit}
use Rattle.hv_history.specs.Jobs.{Events, Pieces, pieces_for, is_empty_of, events_in}
use Rattle.hv_jobs.specs.Covered.{base, wide, has_within}
use Rattle.hv_law_made.specs.Opening.{SomeGo, AllGo, is_whole_job, job_end, fails_as_gone, fails_as_lost}
use Rattle.hv_book.specs.declared.jobs.JobNote.{JobNote}
use Rattle.hv_book.specs.declared.jobs.JobRange.{JobRange}
use Rattle.hv_queue.specs.declared.queue.JobPieces.{JobPieces}
use Rattle.hv_queue.specs.Queue.{pieces_in}
use Rattle.hv_queue.specs.hv_tallies.specs.Jobs.{asked_at}
use Rattle.hv_finals.specs.declared.merging.Merge.{Merge}
use Rattle.hv_finals.specs.declared.ending.JobEnd.{JobEnd}
use Rattle.hv_finals.specs.declared.ending.JobEnd.TheVariants as end

-- What is asked of a book: each entry fits, within some limits, and they are so few that all its directories have names.
pub record CanName (entries : List Entry) : Type 0 where
  pub limits : Limits
  pub fit : AllFit limits nothing_yet entries
  pub few : length entries < write_end

-- ---- what a job merges

abbrev pub merge_if : Bool → Merge → Option Merge
merge_if empty merge = if empty then None else Some merge

-- by what is kept of it
abbrev pub merge_noted : JobNote → JobPieces → Option Merge
merge_noted note merged =
    merge_if (is_empty_of note.kind (pieces_in merged))
    (record { table = note.table; asked = note.asked; kind = note.kind; low = merged.low.0; high = merged.high.0 })

abbrev pub merge_by : Job → Pieces → Option Merge
merge_by job pieces =
    merge_if (is_empty_of job.kind pieces)
    (record { table = job.table; asked = job.asked; kind = job.kind; low = pieces.low; high = pieces.high })

abbrev pub merge_in : State → Job → Option Merge
merge_in state job = merge_by job (pieces_for state job)

-- the job is there, and at work
abbrev pub works_at : Option Job → Bool
works_at None = false
works_at (Some job) = is_working job

-- ---- its directories

abbrev pub dir_in : ℕ → List ℕ → DirName → DirAt
dir_in table partition name = record { table = record { 0 = table }; partition = partition; dir = text_of name }

abbrev pub dirs_in : ℕ → List ℕ → List DirName → List DirAt
dirs_in table partition names = map (dir_in table partition) names

abbrev pub one_in : ℕ → List ℕ → DirName → List DirAt
one_in table partition name = dir_in table partition name ∷ []

abbrev pub one_if : Bool → ℕ → List ℕ → DirName → List DirAt
one_if made table partition name = if made then one_in table partition name else []

abbrev pub wides_in : ℕ → List ℕ → Bool → Bool → ℕ → ℕ → List DirAt
wides_in table partition inserted deleted low high =
    one_if inserted table partition (wide false low high) ++ one_if deleted table partition (wide true low high)

-- those that it makes, by what commits say
abbrev pub finals_in : ℕ → List ℕ → List Events → JobKind → ℕ → ℕ → List DirAt
finals_in table partition ids kind.Minor low high = wides_in table partition (has_within false low high ids)
    (has_within true low high ids) low high
finals_in table partition ids kind.Major low high = one_in table partition (base high)

abbrev pub AreFinals : List Entry → Merge → List DirAt → Type 0
AreFinals entries merge dirs =
    (partition : List ℕ) → asked_at entries merge.asked ≡ Some partition
    → dirs ≡ finals_in merge.table partition (events_in (state_of entries) merge.table partition) merge.kind merge.low
    merge.high

-- ---- what goes

abbrev pub staged_as : ℕ → DirName → DirName
staged_as number name = Staged (record { 0 = number }) (text_of name)

abbrev pub both_in : ℕ → List ℕ → ℕ → DirName → List DirAt
both_in table partition number name = one_in table partition name ++ one_in table partition (staged_as number name)

abbrev pub range_dirs : ℕ → List ℕ → ℕ → JobKind → ℕ → ℕ → List DirAt
range_dirs table partition number kind.Minor low high =
    both_in table partition number (wide false low high) ++ both_in table partition number (wide true low high)
range_dirs table partition number kind.Major low high = both_in table partition number (base high)

abbrev pub AreFailing : List Entry → ℕ → Merge → List DirAt → Type 0
AreFailing entries number merge dirs =
    (partition : List ℕ) → asked_at entries merge.asked ≡ Some partition
    → dirs ≡ range_dirs merge.table partition number merge.kind merge.low merge.high

-- ---- what is listed

-- one of these places is in the directory
abbrev pub has_place : List Place → DirAt → Bool
has_place places dir = list_any (is_in dir) places

abbrev pub have_places : List Place → List DirAt → Bool
have_places places dirs = list_all (has_place places) dirs

-- the number of a job that is whole over these files
abbrev pub number_if : Bool → ℕ → List ℕ
number_if whole number = if whole then number ∷ [] else []

abbrev pub whole_at : State → Tree → ℕ → Option Job → List ℕ
whole_at state files number None = []
whole_at state files number (Some job) = number_if (is_whole_job state files job) number

-- ---- calls on files

-- Of several calls on files: no count falls, and where one failed the count of faults rose, and at its last value the hard count too.
pub record CallsCause (Fails : Type 0) (faults faults' hard hard' : ℕ) : Type 0 where
  pub later : faults ≤ faults'
  pub hard_later : hard ≤ hard'
  pub failed : Fails → Rose faults faults'
  pub failed_last : Fails → faults' ≡ last_count → Rose hard hard'

-- all files of these directories went, and the journal stays
pub record DirsGo (dirs : List DirAt) (before now : Store) : Type 0 where
  pub gone : AllGo dirs before.tree now.tree
  pub journal_is : now.journal ≡ before.journal

-- some did
pub record SomeDirsGo (dirs : List DirAt) (before now : Store) : Type 0 where
  pub gone : SomeGo dirs before.tree now.tree
  pub journal_is : now.journal ≡ before.journal

-- ---- how an opening ends a job

abbrev pub entry_of : ℕ → JobEnd → Entry
entry_of number (end.Published range) =
    entry.Published (record { 0 = number }) (record { 0 = range.low }) (record { 0 = range.high })
    (record { 0 = range.mark })
entry_of number (end.Failed gone) = if gone then fails_as_gone number else fails_as_lost number

abbrev pub entries_of_end : ℕ → Option JobEnd → List Entry
entries_of_end number None = []
entries_of_end number (Some it) = entry_of number it ∷ []

-- of the job of that number, where it is at work, and these are whole
abbrev pub end_entries : List ℕ → State → ℕ → Option Job → List Entry
end_entries whole state number None = []
end_entries whole state number (Some job) = if is_working job then job_end whole state number job ∷ [] else []

abbrev pub end_by : Bool → Bool → JobRange → JobEnd
end_by live publish range = if live then (if publish then end.Published range else end.Failed false)
    else end.Failed true

abbrev pub is_publication : JobEnd → Bool
is_publication (end.Published range) = true
is_publication (end.Failed gone) = false
