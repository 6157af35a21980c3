-- What a cleaner goes through: it is just what the book makes and the job covers, so that nothing of that is left when it is through; and
-- no directory of it comes twice.
use Rattle.std.specs.Prelude.{◌≡◌, ℕ, true, Some, List, [], ◌∷◌}
use Rattle.std.specs.List.{AllByRecursion}
use Rattle.hv_dirs.specs.declared.names.DirName.{DirName}
use Rattle.hv_history.specs.declared.entry.Entry.{Entry}
use Rattle.hv_history.specs.declared.state.Table.{Table}
use Rattle.hv_history.specs.State as book
use Rattle.hv_history.specs.State.{State, Job}
use Rattle.hv_history.specs.Legal.{profile, AllTruthful, AllFit}
use Rattle.hv_history.specs.Jobs.{jobs_in}
use Rattle.hv_jobs.specs.Covers.{covers}
use Rattle.hv_jobs.specs.Covered.{covered_names}
use Rattle.hv_law_jobs.specs.Sound.{AreSoundJobs}
use Rattle.hv_law_made.specs.Made.{made_names}
use Rattle.hv_law_visible.specs.Members.{IsIn}

-- Where commits say the truth, each directory that the book makes and a job covers is one of those that it lists.
abbrev pub CoveredAreListed : Type 0
CoveredAreListed =
    (entries : List Entry) (number : ℕ) (job : Job) (table : Table) (name : DirName)
    → AllFit profile book.nothing_yet entries → AllTruthful book.nothing_yet entries
    → book.numbered (book.state_of entries).jobs number ≡ Some job → book.numbered (book.state_of entries).tables job.table ≡ Some table
    → IsIn name (made_names table.writes (jobs_in (book.state_of entries) job.table job.partition) job.partition) → covers job name ≡ true
    → IsIn name (covered_names (book.state_of entries) job)

-- And it lists nothing else.
abbrev pub ListedAreCovered : Type 0
ListedAreCovered =
    (entries : List Entry) (number : ℕ) (job : Job) (table : Table) (name : DirName)
    → AllFit profile book.nothing_yet entries → AllTruthful book.nothing_yet entries
    → book.numbered (book.state_of entries).jobs number ≡ Some job → book.numbered (book.state_of entries).tables job.table ≡ Some table
    → IsIn name (covered_names (book.state_of entries) job)
    → IsIn name (made_names table.writes (jobs_in (book.state_of entries) job.table job.partition) job.partition) × (covers job name ≡ true)

-- no two of these are one
abbrev pub AreDistinct : List DirName → Type 0
AreDistinct [] = Unit {0}
AreDistinct (name ∷ names) = AllByRecursion (λ (other : DirName). other ≡ name → ⊥) names × AreDistinct names

-- It lists none twice.
abbrev pub ListedOnce : Type 0
ListedOnce = (state : State) (job : Job) → AreSoundJobs state → AreDistinct (covered_names state job)
