-- What there is to do for initiators, compactions and cleaners, by the book alone.
-- Source: Hive Transactions, compactor (initiator) and cleaner; the orders are this project's profile.
use Rattle.std.specs.Prelude.{if◌then◌else◌, ◌≡◌, ℕ, zero, suc, ◌+◌, ◌-◌, ◌^◌, ◌==◌, ◌&&◌, nat_eq, not, is_some, Bool, false, Option, Some, None, List, [], ◌∷◌, ◌++◌, length, map}
use Rattle.std.specs.Cmp.Lexicographic.{pointwise, slice_cmp}
use Rattle.std.specs.Ordering.{nat_cmp}
use Rattle.std.specs.List.{flat_map, list_any, dedup, AllByRecursion}
use Rattle.hv_base.specs.Sorting.{sorted_by}
use Rattle.hv_base.specs.declared.ids.JobId.{JobId}
use Rattle.hv_base.specs.declared.ids.Limits.{Limits}
use Rattle.hv_base.specs.declared.ids.Touch.{Touch}
use Rattle.hv_shelf.specs.declared.place.DirAt.{DirAt}
use Rattle.hv_dirs.specs.declared.names.DirName.{DirName}
use Rattle.hv_dirs.specs.Names.{text_of}
use Rattle.hv_history.specs.declared.entry.Entry.{Entry}
use Rattle.hv_history.specs.declared.entry.Entry.TheVariants as entry
use Rattle.hv_history.specs.declared.state.Table.{Table}
use Rattle.hv_history.specs.State.{State, Job, numbered, state_of}
use Rattle.hv_history.specs.Jobs.{is_ready, is_live_one, jobs_in, ids_of}
use Rattle.hv_history.specs.JobsFit.{is_live_job, is_aborted_id}
use Rattle.hv_book.specs.declared.jobs.JobNote.{JobNote}
use Rattle.hv_book.specs.declared.notes.TableNote.{TableNote}
use Rattle.hv_jobs.specs.Covers.{is_cleaned_away}
use Rattle.hv_jobs.specs.Covered.{covered_names}
use Rattle.hv_law_visible.specs.Members.{IsIn}
use Rattle.hv_law_made.specs.Entries.{dir_of}
use Rattle.hv_job_calls.specs.Refusals.{IsCoveredDir}
use Rattle.hv_job_acts.specs.declared.asking.PartAt.{PartAt}
use Rattle.hv_job_acts.specs.declared.asking.LostId.{LostId}

-- what each number gives, so many from this one on
abbrev pub each_of : {X : Type 0} → (ℕ → List X) → ℕ → ℕ → List X
each_of f number zero = []
each_of f number (suc count) = f number ++ each_of f (number + 1) count

abbrev pub one_of : {X : Type 0} → Bool → X → List X
one_of given x = if given then x ∷ [] else []

-- ---- the partitions of live tables that a commit touched, by table and by text, each once

abbrev pub touched_in : ℕ → Touch → List (List ℕ)
touched_in table touch = one_of (touch.table.0 == table) touch.partition

abbrev pub touched_by : ℕ → Entry → List (List ℕ)
touched_by table (entry.Commit txn wrote) = flat_map (touched_in table) wrote
touched_by table _ = []

abbrev pub in_order : List (List ℕ) → List (List ℕ)
in_order texts = dedup (pointwise nat_eq) (sorted_by (slice_cmp nat_cmp) texts)

abbrev pub texts_of : List Entry → ℕ → List (List ℕ)
texts_of book table = in_order (flat_map (touched_by table) book)

abbrev pub part_at : ℕ → List ℕ → PartAt
part_at table partition = record { table = record { 0 = table }; partition = partition }

abbrev pub is_live_at_number : State → ℕ → Bool
is_live_at_number state table = is_live_one (numbered state.tables table)

abbrev pub parts_at : List Entry → ℕ → List PartAt
parts_at book table = if is_live_at_number (state_of book) table then map (part_at table) (texts_of book table) else []

abbrev pub parts_in : List Entry → List PartAt
parts_in book = each_of (parts_at book) 1 (length (state_of book).tables)

-- ---- the jobs of live tables that are ready for cleaning, by number

-- by what is kept of one
abbrev pub is_ready_note : JobNote → Bool
is_ready_note note = is_some note.published && not note.is_cleaned

abbrev pub is_ready_in : State → Option Job → Bool
is_ready_in state None = false
is_ready_in state (Some job) = is_ready job && is_live_job state job

abbrev pub job_at : ℕ → JobId
job_at number = record { 0 = number }

abbrev pub ready_at : State → ℕ → List JobId
ready_at state number = one_of (is_ready_in state (numbered state.jobs number)) (job_at number)

abbrev pub ready_in : State → List JobId
ready_in state = each_of (ready_at state) 1 (length state.jobs)

-- ---- the aborted write ids of live tables that aren't forgotten, by table and by id

-- room without end
abbrev pub free_room : Limits
free_room = record { entries = 2 ^ 64 - 1 }

abbrev pub is_lost_of : State → ℕ → Table → Bool
is_lost_of state write table =
    table.is_live && (is_aborted_id state.transactions (numbered table.owners write)
    && not (list_any (λ other. other == write) table.forgotten))

abbrev pub is_lost_at : State → ℕ → Option Table → Bool
is_lost_at state write None = false
is_lost_at state write (Some table) = is_lost_of state write table

abbrev pub id_at : ℕ → ℕ → LostId
id_at table write = record { table = record { 0 = table }; write = record { 0 = write } }

abbrev pub lost_at : State → ℕ → ℕ → List LostId
lost_at state table write = one_of (is_lost_at state write (numbered state.tables table)) (id_at table write)

abbrev pub given_in : State → ℕ → ℕ
given_in state table = length (ids_of (numbered state.tables table))

abbrev pub lost_of : State → ℕ → List LostId
lost_of state table = each_of (lost_at state table) 1 (given_in state table)

abbrev pub lost_in : State → List LostId
lost_in state = each_of (lost_of state) 1 (length state.tables)

-- ---- the directories that a job covers and no job covers that was cleaned

abbrev pub HasDir : Job → List DirAt → DirName → Type 0
HasDir job dirs name = IsIn (dir_of job (text_of name)) dirs

abbrev pub IsLeftOf : State → Job → List DirAt → DirName → Type 0
IsLeftOf state job dirs name =
    is_cleaned_away (jobs_in state job.table job.partition) name ≡ false → HasDir job dirs name

-- each of them is there, and nothing else
pub record AreCovered (state : State) (job : Job) (dirs : List DirAt) : Type 0 where
  pub each : AllByRecursion (λ (dir : DirAt). IsCoveredDir dir job) dirs
  pub every : (name : DirName) → IsIn name (covered_names state job) → IsLeftOf state job dirs name

-- ---- tables, whether each is live

-- by what is kept of one
abbrev pub is_live_note : TableNote → Bool
is_live_note note = note.is_live

abbrev pub live_in : State → List Bool
live_in state = map (λ (table : Table). table.is_live) state.tables
