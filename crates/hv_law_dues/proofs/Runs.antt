-- Sums over the runs of a sorted list are sums over its items, so that touches and files say how many rows a change has in a
-- partition.
use Rattle.std.proofs.Common.{◌≡◌, ℕ, suc, ◌+◌, ◌==◌, Bool, true, false, cond, List, [], ◌∷◌, ◌++◌, map, length, refl, sym, ap, ◌∙◌, arith}
use Rattle.std.specs.Prelude.{nat_eq, sum_by}
use Rattle.std.specs.declared.cmp.Ordering.{Ordering}
use Rattle.std.specs.Ordering.{bool_cmp}
use Rattle.std.specs.Cmp.Lexicographic.{pointwise}
use Rattle.std.proofs.lemmas.Bool.{and_parts}
use Rattle.std.proofs.lemmas.Slice.Eq.{bytes_eq-Decides}
use Rattle.hv_base.specs.declared.ids.RowId.{RowId}
use Rattle.hv_base.specs.Identifiers.{row_id_cmp}
use Rattle.hv_value.specs.Order.{row_cmp}
use Rattle.hv_value.specs.declared.row.Row.{Row}
use Rattle.hv_base.specs.Sorting.{sorted_by}
use Rattle.hv_base.proofs.SortingLaws.{permuted-sorted_by}
use Rattle.hv_logic.specs.declared.catalog.Shape.{Shape}
use Rattle.hv_logic.specs.declared.effect.Effect.{Effect}
use Rattle.hv_logic.specs.declared.effect.Found.{Found}
use Rattle.hv_route.specs.declared.placed.Placed.{Placed}
use Rattle.hv_route.specs.declared.runs.Run.{Run}
use Rattle.hv_route.specs.Placing.{placed_cmp, is_there, runs_from, runs_of}
use Rattle.hv_route.specs.Routes.{partition_of, place_of_row, place_of_deleted, file_of_rows, delete_by, file_of_deletes, row_runs, insert_files, delete_files, files_of, founds_from, founds_of_run, numbered_rows}
use Rattle.hv_route.specs.Touching.{place_of_insert, place_of_delete, rows_touched, touch_of}
use Rattle.hv_route.proofs.PlacedLemmas.{inserts_count}
use Rattle.hv_book.specs.Past.{total, only_if}
use Rattle.hv_law_dues.proofs.Totals.{sum-total, total-append, total-map, total-flat, total-none, total-permuted, total-ones}
use Rattle.hv_earlier.proofs.WalkLaws.{total-same}
use Rattle.hv_book.proofs.OpenedLaws.{only-none as no-count}
use Rattle.hv_law_dues.specs.Counting.{row_in, count_of, touched_by, recorded_by}
use Rattle.hv_law_dues.specs.Laws.{TouchesCountRows, FilesCountRows}

-- ---- of runs

module _ {T : Type 0} (g : T → ℕ) (partition : List ℕ) where
  abbrev pub weight : Placed T → ℕ
  weight placed = only_if (pointwise nat_eq placed.partition partition) (g placed.item)

  abbrev pub run_weight : Run T → ℕ
  run_weight run = only_if (pointwise nat_eq run.partition partition) (total g run.items)

  one-more : (b : Bool) (items : List T) (item : T) → only_if b (total g (items ++ item ∷ [])) ≡ only_if b (total g items) + only_if b (g item)
  one-more true items item = let parts = total-append g items (item ∷ []) in omega (arith, parts)
  one-more false items item = omega arith

  same-partition : (p : List ℕ) (b : ℕ) (x : Placed T) → is_there p b x ≡ true → x.partition ≡ p
  same-partition p b x e =
      let both = and_parts (pointwise nat_eq x.partition p) (x.bucket == b) e in
      (bytes_eq-Decides x.partition p).0 both.0

  from : (p : List ℕ) (b : ℕ) (items : List T) (xs : List (Placed T))
      → total run_weight (runs_from p b items xs) ≡ only_if (pointwise nat_eq p partition) (total g items) + total weight xs
  from p b items [] = refl
  from p b items (x ∷ xs) =
      by (is_there p b x) refl (from p b (items ++ x.item ∷ []) xs) (from x.partition x.bucket (x.item ∷ []) xs)
    where
      by : (t : Bool) → is_there p b x ≡ t
          → total run_weight (runs_from p b (items ++ x.item ∷ []) xs) ≡ only_if (pointwise nat_eq p partition) (total g (items ++ x.item ∷ [])) + total weight xs
          → total run_weight (runs_from x.partition x.bucket (x.item ∷ []) xs) ≡ only_if (pointwise nat_eq x.partition partition) (total g (x.item ∷ [])) + total weight xs
          → total run_weight (cond t (runs_from p b (items ++ x.item ∷ []) xs) (record { partition = p; bucket = b; items = items } ∷ runs_from x.partition x.bucket (x.item ∷ []) xs))
          ≡ only_if (pointwise nat_eq p partition) (total g items) + (weight x + total weight xs)
      by true e rest other =
          let more = one-more (pointwise nat_eq p partition) items x.item in
          let same = ap (λ (q : List ℕ). only_if (pointwise nat_eq q partition) (g x.item)) (same-partition p b x e) in
          omega (arith, rest, more, same)
      by false e other rest =
          let more = one-more (pointwise nat_eq x.partition partition) [] x.item in
          let none = no-count (pointwise nat_eq x.partition partition) in
          omega (arith, rest, more, none)

  of-runs : (xs : List (Placed T)) → total run_weight (runs_of xs) ≡ total weight xs
  of-runs [] = refl
  of-runs (x ∷ xs) =
      let rest = from x.partition x.bucket (x.item ∷ []) xs in
      let more = one-more (pointwise nat_eq x.partition partition) [] x.item in
      let none = no-count (pointwise nat_eq x.partition partition) in
      omega (arith, rest, more, none)

  -- and of the runs of the sorted list
  pub of-sorted : (cmp : T → T → Ordering) (xs : List (Placed T)) → total run_weight (runs_of (sorted_by (placed_cmp cmp) xs)) ≡ total weight xs
  of-sorted cmp xs =
      of-runs (sorted_by (placed_cmp cmp) xs)
      ∙ total-permuted weight xs (sorted_by (placed_cmp cmp) xs) (permuted-sorted_by (placed_cmp cmp) xs)

-- ---- the rows of a change

abbrev row_weight : Shape → List ℕ → Row → ℕ
row_weight shape partition row = only_if (pointwise nat_eq (partition_of shape row) partition) 1

run-founds : (partition p : List ℕ) (write statement bucket n : ℕ) (rows : List Row)
    → total (row_in partition) (founds_from p write statement bucket n rows) ≡ only_if (pointwise nat_eq p partition) (total (λ (row : Row). 1) rows)
run-founds partition p write statement bucket n [] = sym (no-count (pointwise nat_eq p partition))
run-founds partition p write statement bucket n (row ∷ rows) =
    ap (λ k. only_if (pointwise nat_eq p partition) 1 + k) (run-founds partition p write statement bucket (suc n) rows) ∙ by (pointwise nat_eq p partition)
  where
    by : (b : Bool) → only_if b 1 + only_if b (total (λ (row : Row). 1) rows) ≡ only_if b (1 + total (λ (row : Row). 1) rows)
    by true = refl
    by false = refl

inserted-rows : (shape : Shape) (write statement : ℕ) (partition : List ℕ) (rows : List Row)
    → total (row_in partition) (numbered_rows shape write statement rows) ≡ total (row_weight shape partition) rows
unfolding numbered_rows
inserted-rows shape write statement partition rows =
    total-flat (row_in partition) (founds_of_run write statement) (row_runs shape rows)
    ∙ total-same (λ run. total (row_in partition) (founds_of_run write statement run)) (run_weight (λ (row : Row). 1) partition)
    (λ run. run-founds partition run.partition write statement run.bucket 0 run.items) (row_runs shape rows)
    ∙ of-sorted (λ (row : Row). 1) partition row_cmp (map (place_of_row shape) rows)
    ∙ total-map (weight (λ (row : Row). 1) partition) (place_of_row shape) rows

-- ---- touches

abbrev inserted_one : Bool → ℕ
inserted_one mark = cond mark 0 1

abbrev deleted_one : Bool → ℕ
deleted_one mark = cond mark 1 0

touched-rows : (g : Bool → ℕ) (shape : Shape) (effect : Effect) (partition : List ℕ)
    → total (run_weight g partition) (runs_of (sorted_by (placed_cmp bool_cmp) (rows_touched shape effect)))
    ≡ total (λ row. only_if (pointwise nat_eq (partition_of shape row) partition) (g false)) effect.inserts
    + total (λ (found : Found). only_if (pointwise nat_eq found.partition partition) (g true)) effect.deletes
touched-rows g shape effect partition =
    of-sorted g partition bool_cmp (rows_touched shape effect)
    ∙ total-append (weight g partition) (map (place_of_insert shape) effect.inserts) (map place_of_delete effect.deletes)
    ∙ (λ i. total-map (weight g partition) (place_of_insert shape) effect.inserts i + total-map (weight g partition) place_of_delete effect.deletes i)

-- the touches of runs, each by the marks of its rows
touched-runs : (deletes : Bool) (g : Bool → ℕ) (table : ℕ) (partition : List ℕ) → ((run : Run Bool) → count_of deletes (touch_of table run) ≡ sum_by g run.items)
    → (runs : List (Run Bool)) → total (touched_by deletes partition) (map (touch_of table) runs) ≡ total (run_weight g partition) runs
touched-runs deletes g table partition counts runs =
    total-map (touched_by deletes partition) (touch_of table) runs
    ∙ total-same (λ run. touched_by deletes partition (touch_of table run)) (run_weight g partition)
    (λ run. ap (only_if (pointwise nat_eq run.partition partition)) (counts run ∙ sum-total g run.items)) runs

pub touches-count : TouchesCountRows
touches-count info write statement effect false partition =
    let touched = touched-runs false inserted_one info.table.0 partition (λ run. refl) (runs_of (sorted_by (placed_cmp bool_cmp) (rows_touched info.shape effect))) in
    let rows = touched-rows inserted_one info.shape effect partition in
    let none = total-none (λ (found : Found). only_if (pointwise nat_eq found.partition partition) 0) (λ found. no-count (pointwise nat_eq found.partition partition)) effect.deletes in
    let inserted = inserted-rows info.shape write statement partition effect.inserts in
    touched ∙ rows ∙ ap (λ n. total (row_weight info.shape partition) effect.inserts + n) none ∙ omega (arith, inserted)
touches-count info write statement effect true partition =
    let touched = touched-runs true deleted_one info.table.0 partition (λ run. refl) (runs_of (sorted_by (placed_cmp bool_cmp) (rows_touched info.shape effect))) in
    let rows = touched-rows deleted_one info.shape effect partition in
    let none = total-none (λ row. only_if (pointwise nat_eq (partition_of info.shape row) partition) 0) (λ row. no-count (pointwise nat_eq (partition_of info.shape row) partition)) effect.inserts in
    touched ∙ rows ∙ ap (λ n. n + total (row_in partition) effect.deletes) none ∙ omega arith

-- ---- files

delete-files : (deletes : Bool) (write : ℕ) (partition : List ℕ) (run : Run RowId) → recorded_by deletes partition (file_of_deletes write run)
    ≡ run_weight (λ (id : RowId). cond deletes 1 0) partition run
delete-files false write partition run =
    ap (λ n. only_if (pointwise nat_eq run.partition partition) n) (sym (total-none (λ (id : RowId). 0) (λ id. refl) run.items))
delete-files true write partition run =
    ap (λ n. only_if (pointwise nat_eq run.partition partition) n) (deleted run.items ∙ sym (total-ones run.items))
  where
    deleted : (ids : List RowId) → length (map (delete_by write) ids) ≡ length ids
    deleted [] = refl
    deleted (id ∷ ids) = let rest = deleted ids in omega (arith, rest)

row-files : (deletes : Bool) (shape : Shape) (write statement : ℕ) (partition : List ℕ) (run : Run Row) → recorded_by deletes partition (file_of_rows shape write statement run)
    ≡ run_weight (λ (row : Row). cond deletes 0 1) partition run
row-files true shape write statement partition run =
    ap (λ n. only_if (pointwise nat_eq run.partition partition) n) (sym (total-none (λ (row : Row). 0) (λ row. refl) run.items))
row-files false shape write statement partition run =
    ap (λ n. only_if (pointwise nat_eq run.partition partition) n) (inserts_count shape write statement run.bucket 0 run.items ∙ sym (total-ones run.items))

recorded-rows : (shape : Shape) (write statement : ℕ) (effect : Effect) (deletes : Bool) (partition : List ℕ)
    → total (recorded_by deletes partition) (files_of shape write statement effect)
    ≡ total (λ row. only_if (pointwise nat_eq (partition_of shape row) partition) (cond deletes 0 1)) effect.inserts
    + total (λ (found : Found). only_if (pointwise nat_eq found.partition partition) (cond deletes 1 0)) effect.deletes
unfolding files_of
recorded-rows shape write statement effect deletes partition =
    total-append (recorded_by deletes partition) (insert_files shape write statement effect.inserts) (delete_files write effect.deletes)
    ∙ (λ i. inserted i + deleted i)
  where
    inserted : total (recorded_by deletes partition) (insert_files shape write statement effect.inserts)
        ≡ total (λ row. only_if (pointwise nat_eq (partition_of shape row) partition) (cond deletes 0 1)) effect.inserts
    inserted =
        total-map (recorded_by deletes partition) (file_of_rows shape write statement) (row_runs shape effect.inserts)
        ∙ total-same (λ run. recorded_by deletes partition (file_of_rows shape write statement run)) (run_weight (λ (row : Row). cond deletes 0 1) partition)
        (row-files deletes shape write statement partition) (row_runs shape effect.inserts)
        ∙ of-sorted (λ (row : Row). cond deletes 0 1) partition row_cmp (map (place_of_row shape) effect.inserts)
        ∙ total-map (weight (λ (row : Row). cond deletes 0 1) partition) (place_of_row shape) effect.inserts

    deleted : total (recorded_by deletes partition) (delete_files write effect.deletes)
        ≡ total (λ (found : Found). only_if (pointwise nat_eq found.partition partition) (cond deletes 1 0)) effect.deletes
    deleted =
        total-map (recorded_by deletes partition) (file_of_deletes write) (runs_of (sorted_by (placed_cmp row_id_cmp) (map place_of_deleted effect.deletes)))
        ∙ total-same (λ run. recorded_by deletes partition (file_of_deletes write run)) (run_weight (λ (id : RowId). cond deletes 1 0) partition)
        (delete-files deletes write partition) (runs_of (sorted_by (placed_cmp row_id_cmp) (map place_of_deleted effect.deletes)))
        ∙ of-sorted (λ (id : RowId). cond deletes 1 0) partition row_id_cmp (map place_of_deleted effect.deletes)
        ∙ total-map (weight (λ (id : RowId). cond deletes 1 0) partition) place_of_deleted effect.deletes

pub files-count : FilesCountRows
files-count shape write statement effect false partition =
    let rows = recorded-rows shape write statement effect false partition in
    let none = total-none (λ (found : Found). only_if (pointwise nat_eq found.partition partition) 0) (λ found. no-count (pointwise nat_eq found.partition partition)) effect.deletes in
    let inserted = inserted-rows shape write statement partition effect.inserts in
    rows ∙ ap (λ n. total (row_weight shape partition) effect.inserts + n) none ∙ omega (arith, inserted)
files-count shape write statement effect true partition =
    let rows = recorded-rows shape write statement effect true partition in
    let none = total-none (λ row. only_if (pointwise nat_eq (partition_of shape row) partition) 0) (λ row. no-count (pointwise nat_eq (partition_of shape row) partition)) effect.inserts in
    rows ∙ ap (λ n. n + total (row_in partition) effect.deletes) none ∙ omega arith
