-- How many rows of a change are of a partition: as rows, as touches, and as records of files.
use Rattle.std.specs.Prelude.{ℕ, ◌==◌, Bool, true, false, nat_eq, List, length}
use Rattle.std.specs.Cmp.Lexicographic.{pointwise}
use Rattle.hv_base.specs.declared.ids.Touch.{Touch}
use Rattle.hv_logic.specs.declared.catalog.Shape.{Shape}
use Rattle.hv_logic.specs.declared.effect.Effect.{Effect}
use Rattle.hv_logic.specs.declared.effect.Found.{Found}
use Rattle.hv_route.specs.Routes.{numbered_rows}
use Rattle.hv_route.specs.declared.files.OutFile.{OutFile}
use Rattle.hv_history.specs.declared.state.Written.{Written}
use Rattle.hv_book.specs.Past.{total, only_if}

-- ---- rows

abbrev pub row_in : List ℕ → Found → ℕ
row_in partition found = only_if (pointwise nat_eq found.partition partition) 1

-- how many of these rows stand in a partition
abbrev pub rows_in : List ℕ → List Found → ℕ
rows_in partition rows = total (row_in partition) rows

-- the rows that a change inserts, numbered, or those that it deletes
abbrev pub changed_rows : Shape → ℕ → ℕ → Effect → Bool → List Found
changed_rows shape write statement effect false = numbered_rows shape write statement effect.inserts
changed_rows shape write statement effect true = effect.deletes

-- ---- touches

abbrev pub count_of : Bool → Touch → ℕ
count_of false touch = touch.inserted
count_of true touch = touch.deleted

abbrev pub touched_by : Bool → List ℕ → Touch → ℕ
touched_by deletes partition touch = only_if (pointwise nat_eq touch.partition partition) (count_of deletes touch)

-- how many rows these touches say of a partition: 0 where none is of it
abbrev pub touched_in : Bool → List ℕ → List Touch → ℕ
touched_in deletes partition touches = total (touched_by deletes partition) touches

-- ---- files

abbrev pub kind_count : Bool → Bool → ℕ → ℕ
kind_count false false count = count
kind_count true true count = count
kind_count _ _ count = 0

abbrev pub recorded_by : Bool → List ℕ → OutFile → ℕ
recorded_by deletes partition file =
    only_if (pointwise nat_eq file.partition partition) (kind_count deletes file.deletes (length file.recs))

-- how many records the files of a kind have in a partition, over all its buckets
abbrev pub recorded_in : Bool → List ℕ → List OutFile → ℕ
recorded_in deletes partition files = total (recorded_by deletes partition) files

-- ---- writes

-- the rows that a write inserted, or those that it deleted
abbrev pub rows_of : Bool → Written → List Found
rows_of false written = written.inserts
rows_of true written = written.deletes

abbrev pub written_at : Bool → ℕ → List ℕ → Written → ℕ
written_at deletes write partition written = only_if (written.write == write) (rows_in partition (rows_of deletes written))

-- how many rows these writes have in a partition under a write id: 0 where none has the id
abbrev pub written_sum : Bool → ℕ → List ℕ → List Written → ℕ
written_sum deletes write partition writes = total (written_at deletes write partition) writes
