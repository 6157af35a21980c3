-- The directories of a job at work, by what commits say: where each is staged, and under which name it stands then.
use Rattle.std.specs.Prelude.{◌≡◌, ℕ, Option, Some, None, List, [], map}
use Rattle.std.specs.List.{AllByRecursion}
use Rattle.hv_shelf.specs.declared.place.DirAt.{DirAt}
use Rattle.hv_shelf.specs.declared.place.Place.{Place}
use Rattle.hv_dirs.specs.declared.names.DirName.{DirName}
use Rattle.hv_dirs.specs.declared.names.DirName.TheVariants.{Staged}
use Rattle.hv_dirs.specs.Names.{IsName, text_of}
use Rattle.hv_history.specs.declared.entry.Entry.{Entry}
use Rattle.hv_book.specs.declared.jobs.JobNote.{JobNote}
use Rattle.hv_tallies.specs.Jobs.{asked_at}
use Rattle.hv_history.specs.State.{State, Job, numbered}
use Rattle.hv_jobs.specs.Finals.{finals_of}
use Rattle.hv_law_made.specs.Entries.{staged_text}
use Rattle.hv_telling.specs.hv_law_work.specs.Work.{staged_at, renaming_of}
use Rattle.hv_trail.specs.declared.trail.Renaming.{Renaming}

-- the place of a file that the job stages
abbrev pub nowhere : Place
nowhere = record { table = record { 0 = 0 }; partition = []; dir = []; bucket = 0 }

abbrev pub staged_by : ℕ → DirName → ℕ → Option Job → Place
staged_by number name bucket None = nowhere
staged_by number name bucket (Some j) = staged_at number j name bucket

abbrev pub staged_in : State → ℕ → DirName → ℕ → Place
staged_in state number name bucket = staged_by number name bucket (numbered state.jobs number)

-- the directory has a name, and so has the one that stages it
abbrev pub IsStageable : ℕ → DirName → Type 0
IsStageable number name = IsName name × IsName (Staged (record { 0 = number }) (text_of name))

-- by what is kept of the job: its Asked has the partition
abbrev pub place_by : ℕ → JobNote → DirName → ℕ → Option (List ℕ) → Option Place
place_by number note name bucket None = None
place_by number note name bucket (Some partition) =
    Some (record {
      table = record { 0 = note.table };
      partition = partition;
      dir = staged_text number name;
      bucket = bucket;
    })

abbrev pub PlacesFor : List Entry → ℕ → JobNote → DirName → ℕ → Option Place → Type 0
PlacesFor entries number note name bucket place = place ≡ place_by number note name bucket (asked_at entries note.asked)

-- the directories get their names
abbrev pub renamings_by : State → ℕ → Option Job → List Renaming
renamings_by state number None = []
renamings_by state number (Some j) = map (renaming_of number j) (finals_of state j)

-- of the job of that number
abbrev pub renamings_of : State → ℕ → List Renaming
renamings_of state number = renamings_by state number (numbered state.jobs number)

-- ---- by directories

-- the text of the directory in which the job stages one of that text
abbrev pub stage_of : ℕ → List ℕ → List ℕ
stage_of number text = text_of (Staged (record { 0 = number }) text)

-- that has a name
abbrev pub IsStageableDir : ℕ → List ℕ → Type 0
IsStageableDir number text = IsName (Staged (record { 0 = number }) text)

abbrev pub AreStageable : ℕ → List DirAt → Type 0
AreStageable number dirs = AllByRecursion (λ (dir : DirAt). IsStageableDir number dir.dir) dirs

abbrev pub renamed : ℕ → DirAt → Renaming
renamed number dir = record { from = record dir { dir = stage_of number dir.dir }; to = dir.dir }
