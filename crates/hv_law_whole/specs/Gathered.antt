-- What a job at work gathers in each bucket. Of a minor one the records of its range, in the deltas that it chooses, are just those of the
-- wide delta that it is to make, each once (how they are gathered is said by hv_merge); and so of delete deltas. Of a major one the rows
-- that it reads are those of its base.
use Rattle.std.specs.Prelude.{◌≡◌, ℕ, ◌==◌, Bool, true, false, Some, List, map, filter}
use Rattle.hv_base.specs.Sorting.{rising_by}
use Rattle.hv_shelf.specs.Disk as disk
use Rattle.hv_logic.specs.declared.effect.Found.{Found}
use Rattle.hv_route.specs.Standing.{insert_record}
use Rattle.hv_rowfile.specs.declared.record.Rec.{Rec}
use Rattle.hv_dirs.specs.Choice.{Sight, sight_of, Delta, Wide}
use Rattle.hv_merge.specs.Gathering.{gathered}
use Rattle.hv_history.specs.declared.entry.Entry.{Entry}
use Rattle.hv_history.specs.declared.entry.JobKind.TheVariants as kind
use Rattle.hv_history.specs.declared.state.Table.{Table}
use Rattle.hv_history.specs.State as book
use Rattle.hv_history.specs.State.{Job}
use Rattle.hv_history.specs.Legal.{is_working, AllTruthful}
use Rattle.hv_history.specs.Jobs.{is_job_of, pieces_for}
use Rattle.hv_earlier.specs.Lists as earlier
use Rattle.hv_law_visible.specs.Visible.{Tree, deltas_chosen, deletes_chosen, visible_rows, by_id}
use Rattle.hv_law_visible.specs.Snapshots.{list_up_to}
use Rattle.hv_law_directories.specs.hv_law_partitions.specs.Partitions.{id_of}
use Rattle.hv_law_made.specs.Made.{delta_recs, base_recs}
use Rattle.hv_law_made.specs.Entries.{IsAtWork}
use Rattle.hv_law_directories.specs.Reading.{Reading}
use Rattle.hv_law_whole.specs.Shown.{AreOfBook}

-- the deltas that are chosen, or the delete deltas
abbrev pub chosen_of : Bool → Sight → Tree Found → List Delta
chosen_of false sight tree = deltas_chosen sight tree
chosen_of true sight tree = deletes_chosen sight tree

-- what stands in a bucket of each of these
abbrev pub recs_of : Table → List ℕ → Bool → ℕ → List Delta → List (List Rec)
recs_of table partition deletes bucket ds = map (λ (d : Delta). delta_recs table.info.shape table.writes partition deletes d bucket) ds

-- up to a job's watermark, at the end of the book
abbrev pub job_sight : List Entry → ℕ → ℕ → Sight
job_sight entries table mark = sight_of (list_up_to mark (earlier.list_at entries (book.state_of entries).entries table))

abbrev pub MinorJobsGather : Type 0
MinorJobsGather =
    (read : Reading) (entries : List Entry) (table : Table) (partition : List ℕ) (files : disk.Tree) (tree : Tree Found)
    (number mark : ℕ) (job : Job) (deletes : Bool) (bucket : ℕ)
    → AreOfBook read entries table partition files tree → AllTruthful book.nothing_yet entries
    → IsAtWork (book.state_of entries) number job → is_job_of table.info.table.0 partition job ≡ true → job.kind ≡ kind.Minor
    → job.watermark ≡ Some mark
    → gathered (pieces_for (book.state_of entries) job).low (pieces_for (book.state_of entries) job).high
    (recs_of table partition deletes bucket (chosen_of deletes (job_sight entries table.info.table.0 mark) tree))
    ≡ delta_recs table.info.shape table.writes partition deletes
    (Wide (pieces_for (book.state_of entries) job).low (pieces_for (book.state_of entries) job).high) bucket

abbrev pub in_bucket : ℕ → Found → Bool
in_bucket bucket found = found.id.bucket == bucket

abbrev pub MajorJobsGather : Type 0
MajorJobsGather =
    (read : Reading) (entries : List Entry) (table : Table) (partition : List ℕ) (files : disk.Tree) (tree : Tree Found)
    (number mark : ℕ) (job : Job) (bucket : ℕ)
    → AreOfBook read entries table partition files tree → AllTruthful book.nothing_yet entries
    → book.numbered (book.state_of entries).jobs number ≡ Some job → is_job_of table.info.table.0 partition job ≡ true
    → is_working job ≡ true → job.watermark ≡ Some mark
    → map (insert_record table.info.shape)
    (filter (in_bucket bucket) (rising_by (by_id id_of) (visible_rows id_of (job_sight entries table.info.table.0 mark) tree)))
    ≡ base_recs table.info.shape table.writes partition (pieces_for (book.state_of entries) job).high bucket
