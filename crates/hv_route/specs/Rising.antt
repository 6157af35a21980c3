-- Laws of what a change makes: its touches rise by table and partition and each is of some row; its files rise, so that none
-- comes twice; and so do its rows.
use Rattle.std.specs.Prelude.{◌≡◌, ℕ, ◌+◌, ◌<◌, List, Ok}
use Rattle.std.specs.declared.cmp.Ordering.{Ordering}
use Rattle.std.specs.Ordering.{bool_cmp, nat_cmp, on, then_cmp}
use Rattle.std.specs.Cmp.Lexicographic.{slice_cmp}
use Rattle.std.specs.List.{AllByRecursion}
use Rattle.std.specs.List.Sorted.{IsStrictlySortedBy}
use Rattle.hv_base.specs.declared.ids.Touch.{Touch}
use Rattle.hv_logic.specs.declared.catalog.Shape.{Shape}
use Rattle.hv_logic.specs.declared.catalog.TableInfo.{TableInfo}
use Rattle.hv_logic.specs.declared.effect.Effect.{Effect}
use Rattle.hv_logic.specs.Rows.{found_cmp}
use Rattle.hv_logic.specs.declared.effect.Found.{Found}
use Rattle.hv_value.specs.declared.row.Row.{Row}
use Rattle.hv_route.specs.Routes.{partition_of, bucket_in, numbered_rows, files_of}
use Rattle.hv_route.specs.Touching.{touched}
use Rattle.hv_route.specs.declared.files.OutFile.{OutFile}

-- by table, and then by partition
abbrev pub touch_cmp : Touch → Touch → Ordering
touch_cmp = then_cmp (on (λ (touch : Touch). touch.table.0) nat_cmp) (on (λ (touch : Touch). touch.partition) (slice_cmp nat_cmp))

-- each touch comes before all behind it, and is of some row
pub record TouchesRise (touches : List Touch) : Type 0 where
  pub rise : IsStrictlySortedBy touch_cmp touches
  pub some : AllByRecursion (λ (touch : Touch). 0 < touch.inserted + touch.deleted) touches

abbrev pub AllTouchesRise : Type 0
AllTouchesRise = (info : TableInfo) (effect : Effect) (touches : List Touch) → touched info effect ≡ Ok touches → TouchesRise touches

-- files of inserts before those of deletes, by partition, and then by bucket
abbrev pub file_cmp : OutFile → OutFile → Ordering
file_cmp =
    then_cmp (on (λ (file : OutFile). file.deletes) bool_cmp)
    (then_cmp (on (λ (file : OutFile). file.partition) (slice_cmp nat_cmp)) (on (λ (file : OutFile). file.bucket) nat_cmp))

-- each file comes before all behind it
abbrev pub AllFilesRise : Type 0
AllFilesRise =
    (shape : Shape) (write statement : ℕ) (effect : Effect) → IsStrictlySortedBy file_cmp (files_of shape write statement effect)

-- ---- the inserted rows rise by partition and identifier, and each stands in its own partition and bucket

pub record IsNumbered (shape : Shape) (write statement : ℕ) (found : Found) : Type 0 where
  pub partition_is : found.partition ≡ partition_of shape found.row
  pub bucket_is : found.id.bucket ≡ bucket_in shape found.row
  pub write_is : found.id.write.0 ≡ write
  pub statement_is : found.id.statement ≡ statement

pub record AreNumbered (shape : Shape) (write statement : ℕ) (founds : List Found) : Type 0 where
  pub rise : IsStrictlySortedBy found_cmp founds
  pub each : AllByRecursion (IsNumbered shape write statement) founds

abbrev pub RowsAreNumbered : Type 0
RowsAreNumbered =
    (shape : Shape) (write statement : ℕ) (rows : List Row) → AreNumbered shape write statement (numbered_rows shape write statement rows)
