-- Which records stand in a partition and bucket where these rows are inserted and deleted, and that the files of a change have
-- just them.
use Rattle.std.specs.Prelude.{◌≡◌, ℕ, ◌<◌, ◌==◌, ◌&&◌, Bool, true, false, if◌then◌else◌, nat_eq, List, [], ◌∷◌, map, filter, length}
use Rattle.std.specs.Ordering.{bool_cmp, eq_by_cmp}
use Rattle.std.specs.Cmp.Lexicographic.{pointwise}
use Rattle.std.specs.List.{AllByRecursion}
use Rattle.std.specs.List.Sorted.{IsStrictlySortedBy}
use Rattle.hv_rowfile.specs.declared.record.Rec.{Rec}
use Rattle.hv_rowfile.specs.declared.record.Rec.TheVariants.{Insert, Delete}
use Rattle.hv_logic.specs.Rows.{found_cmp}
use Rattle.hv_logic.specs.declared.catalog.Shape.{Shape}
use Rattle.hv_logic.specs.declared.catalog.TableInfo.{TableInfo}
use Rattle.hv_logic.specs.declared.effect.Effect.{Effect}
use Rattle.hv_logic.specs.declared.effect.Found.{Found}
use Rattle.hv_route.specs.Routes.{stored, numbered_rows, files_of}
use Rattle.hv_route.specs.Touching.{touches_of}
use Rattle.hv_route.specs.declared.files.OutFile.{OutFile}

-- ---- the records of a partition and bucket, by kind; the values of partition columns aren't written, since the partition's text
-- says them

abbrev pub insert_record : Shape → Found → Rec
insert_record shape found = Insert found.id (stored shape found.row)

abbrev pub delete_record : ℕ → Found → Rec
delete_record write found = Delete found.id (record { 0 = write })

abbrev pub stands_in : List ℕ → ℕ → Found → Bool
stands_in partition bucket found = pointwise nat_eq found.partition partition && (found.id.bucket == bucket)

-- of the inserted rows, or of the deleted ones, under a write id
abbrev pub records_in_place : Shape → ℕ → Bool → List ℕ → ℕ → List Found → List Found → List Rec
records_in_place shape write false partition bucket inserts deletes =
    map (insert_record shape) (filter (stands_in partition bucket) inserts)
records_in_place shape write true partition bucket inserts deletes =
    map (delete_record write) (filter (stands_in partition bucket) deletes)

-- ---- the files have just these

abbrev pub is_file_of : Bool → List ℕ → ℕ → OutFile → Bool
is_file_of deletes partition bucket file =
    eq_by_cmp bool_cmp file.deletes deletes && (pointwise nat_eq file.partition partition && (file.bucket == bucket))

-- the records of the first file of that kind, partition and bucket, or none
abbrev pub recs_at : List OutFile → Bool → List ℕ → ℕ → List Rec
recs_at [] deletes partition bucket = []
recs_at (file ∷ files) deletes partition bucket =
    if is_file_of deletes partition bucket file then file.recs else recs_at files deletes partition bucket

-- the deleted rows rise by partition and identifier, as rows that stand in a table do
abbrev pub FilesHaveRows : Type 0
FilesHaveRows =
    (shape : Shape) (write statement : ℕ) (effect : Effect) (deletes : Bool) (partition : List ℕ) (bucket : ℕ)
    → IsStrictlySortedBy found_cmp effect.deletes
    → recs_at (files_of shape write statement effect) deletes partition bucket
    ≡ records_in_place shape write deletes partition bucket (numbered_rows shape write statement effect.inserts) effect.deletes

-- no file is without records
abbrev pub FilesHaveRecords : Type 0
FilesHaveRecords =
    (shape : Shape) (write statement : ℕ) (effect : Effect)
    → AllByRecursion (λ (file : OutFile). 0 < length file.recs) (files_of shape write statement effect)

-- ---- rows are touched where some are inserted or deleted

pub record TouchesAreOfRows (info : TableInfo) (effect : Effect) : Type 0 where
  pub none : touches_of info effect ≡ [] → (effect.inserts ≡ []) × (effect.deletes ≡ [])
  pub nothing : effect.inserts ≡ [] → effect.deletes ≡ [] → touches_of info effect ≡ []

abbrev pub AllTouchesAreOfRows : Type 0
AllTouchesAreOfRows = (info : TableInfo) (effect : Effect) → TouchesAreOfRows info effect
