-- Inserted rows, numbered, rise by partition and identifier, and each stands in its own partition and bucket.
use Rattle.std.proofs.Common.{◌≡◌, ℕ, suc, ◌<◌, Bool, true, false, cond, List, [], ◌∷◌, ◌++◌, map, refl, sym, ap, ◌∙◌, subst, arith}
use Rattle.std.specs.List.{AllByRecursion, flat_map}
use Rattle.std.specs.List.Sorted.{IsStrictlySortedBy}
use Rattle.std.specs.declared.cmp.Ordering.{Ordering}
use Rattle.std.specs.declared.cmp.Ordering.TheVariants.{Less, Equal, Greater}
use Rattle.std.specs.Ordering.{nat_cmp, ordering_then}
use Rattle.std.specs.Cmp.{nat_cmp_is}
use Rattle.std.specs.Cmp.Lexicographic.{slice_cmp, nat_list_cmp_total}
use Rattle.hv_base.specs.Identifiers.{row_id_cmp}
use Rattle.hv_value.specs.Order.{row_cmp}
use Rattle.hv_value.specs.OrderLaws.{row_cmp_total}
use Rattle.hv_value.specs.declared.row.Row.{Row}
use Rattle.hv_logic.specs.Rows.{found_cmp}
use Rattle.hv_base.specs.Sorting.{sorted_by}
use Rattle.hv_logic.specs.declared.catalog.Shape.{Shape}
use Rattle.hv_logic.specs.declared.effect.Found.{Found}
use Rattle.hv_route.specs.declared.placed.Placed.{Placed}
use Rattle.hv_route.specs.declared.runs.Run.{Run}
use Rattle.hv_route.specs.Placing.{placed_cmp, is_there, runs_from, runs_of}
use Rattle.hv_route.specs.Routes.{partition_of, bucket_in, place_of_row, row_runs, founds_from, founds_of_run, numbered_rows}
use Rattle.hv_route.specs.Rising.{IsNumbered, RowsAreNumbered}
use Rattle.hv_route.proofs.PlacedLemmas.{found_at}
use Rattle.hv_route.proofs.RisingLemmas.{Key, key_cmp, is_equal, own_reverse, key-from-same, key_of, run_key, keys-rise, all-append, all-sorted, equal-self}

-- ---- what holds of each row and its place holds of it where it stands

module _ (Q : List ℕ → ℕ → Row → Type 0) where
  abbrev OfPlaced : Placed Row → Type 0
  OfPlaced placed = Q placed.partition placed.bucket placed.item

  abbrev OfRun : Run Row → Type 0
  OfRun run = AllByRecursion (Q run.partition run.bucket) run.items

  abbrev OfFound : Found → Type 0
  OfFound found = Q found.partition found.id.bucket found.row

  run-by : (t : Bool) (q : List ℕ) (c : ℕ) (items : List Row) (x : Placed Row) (xs : List (Placed Row)) → is_there q c x ≡ t
      → AllByRecursion (Q q c) items → OfPlaced x
      → (AllByRecursion (Q q c) (items ++ x.item ∷ []) → AllByRecursion OfRun (runs_from q c (items ++ x.item ∷ []) xs))
      → AllByRecursion OfRun (runs_from x.partition x.bucket (x.item ∷ []) xs)
      → AllByRecursion OfRun (cond t (runs_from q c (items ++ x.item ∷ []) xs) (record { partition = q; bucket = c; items = items } ∷ runs_from x.partition x.bucket (x.item ∷ []) xs))
  run-by true q c items x xs e all one join next =
      let same : key_of x ≡ (q, c) = key-from-same (key_of x) (q, c) e in
      join (all-append (Q q c) items (x.item ∷ []) all (subst (λ (k : Key). Q k.0 k.1 x.item) same one, tt))
  run-by false q c items x xs e all one join next = (all, next)

  runs-all-from : (q : List ℕ) (c : ℕ) (items : List Row) (xs : List (Placed Row)) → AllByRecursion (Q q c) items → AllByRecursion OfPlaced xs
      → AllByRecursion OfRun (runs_from q c items xs)
  runs-all-from q c items [] all h = (all, tt)
  runs-all-from q c items (x ∷ xs) all h =
      run-by (is_there q c x) q c items x xs refl all h.0 (λ joined. runs-all-from q c (items ++ x.item ∷ []) xs joined h.1)
      (runs-all-from x.partition x.bucket (x.item ∷ []) xs (h.0, tt) h.1)

  runs-all : (xs : List (Placed Row)) → AllByRecursion OfPlaced xs → AllByRecursion OfRun (runs_of xs)
  runs-all [] h = tt
  runs-all (x ∷ xs) h = runs-all-from x.partition x.bucket (x.item ∷ []) xs (h.0, tt) h.1

  founds-all : (partition : List ℕ) (write statement bucket n : ℕ) (rows : List Row) → AllByRecursion (Q partition bucket) rows
      → AllByRecursion OfFound (founds_from partition write statement bucket n rows)
  founds-all partition write statement bucket n [] h = tt
  founds-all partition write statement bucket n (row ∷ rows) h = (h.0, founds-all partition write statement bucket (suc n) rows h.1)

  all-founds : (write statement : ℕ) (runs : List (Run Row)) → AllByRecursion OfRun runs → AllByRecursion OfFound (flat_map (founds_of_run write statement) runs)
  all-founds write statement [] h = tt
  all-founds write statement (run ∷ runs) h =
      all-append OfFound (founds_of_run write statement run) (flat_map (founds_of_run write statement) runs)
      (founds-all run.partition write statement run.bucket 0 run.items h.0) (all-founds write statement runs h.1)

  all-placed-rows : (shape : Shape) (rows : List Row) → AllByRecursion (λ row. Q (partition_of shape row) (bucket_in shape row) row) rows
      → AllByRecursion OfPlaced (map (place_of_row shape) rows)
  all-placed-rows shape [] h = tt
  all-placed-rows shape (row ∷ rows) h = (h.0, all-placed-rows shape rows h.1)

  pub numbered-all : (shape : Shape) (write statement : ℕ) (rows : List Row)
      → AllByRecursion (λ row. Q (partition_of shape row) (bucket_in shape row) row) rows
      → AllByRecursion (λ (found : Found). Q found.partition found.id.bucket found.row) (numbered_rows shape write statement rows)
  unfolding numbered_rows
  numbered-all shape write statement rows h =
      let placed = map (place_of_row shape) rows in
      all-founds write statement (row_runs shape rows)
      (runs-all (sorted_by (placed_cmp row_cmp) placed) (all-sorted (placed_cmp row_cmp) OfPlaced placed (all-placed-rows shape rows h)))

own-places : (shape : Shape) (rows : List Row)
    → AllByRecursion (λ row. (partition_of shape row ≡ partition_of shape row) × (bucket_in shape row ≡ bucket_in shape row)) rows
own-places shape [] = tt
own-places shape (row ∷ rows) = ((refl, refl), own-places shape rows)

-- ---- under the write id and the statement's number

module _ (write statement : ℕ) where
  abbrev IsUnder : Found → Type 0
  IsUnder found = (found.id.write.0 ≡ write) × (found.id.statement ≡ statement)

  under-from : (partition : List ℕ) (bucket n : ℕ) (rows : List Row) → AllByRecursion IsUnder (founds_from partition write statement bucket n rows)
  under-from partition bucket n [] = tt
  under-from partition bucket n (row ∷ rows) = ((refl, refl), under-from partition bucket (suc n) rows)

  under-runs : (runs : List (Run Row)) → AllByRecursion IsUnder (flat_map (founds_of_run write statement) runs)
  under-runs [] = tt
  under-runs (run ∷ runs) =
      all-append IsUnder (founds_of_run write statement run) (flat_map (founds_of_run write statement) runs)
      (under-from run.partition run.bucket 0 run.items) (under-runs runs)

  under : (shape : Shape) (rows : List Row) → AllByRecursion IsUnder (numbered_rows shape write statement rows)
  unfolding numbered_rows
  under shape rows = under-runs (row_runs shape rows)

-- ---- rising

module _ (write statement : ℕ) where
  behind-equal : (a b : Ordering) → a ≡ Equal → b ≡ Less → ordering_then a b ≡ Less
  behind-equal a b e h = ap (λ o. ordering_then o b) e ∙ h

  same-partition : (p : List ℕ) → slice_cmp nat_cmp p p ≡ Equal
  same-partition p = is_equal (slice_cmp nat_cmp p p) (own_reverse (slice_cmp nat_cmp p p) (nat_list_cmp_total.antisymm p p))

  -- a row of a later number
  later-found : (p : List ℕ) (b n m : ℕ) (x y : Row) → nat_cmp n m ≡ Less
      → found_cmp (found_at p write statement b n x) (found_at p write statement b m y) ≡ Less
  unfolding row_id_cmp
  later-found p b n m x y less =
      behind-equal (slice_cmp nat_cmp p p) _ (same-partition p)
      (behind-equal (nat_cmp write write) _ (equal-self write)
      (behind-equal (nat_cmp statement statement) _ (equal-self statement)
      (behind-equal (nat_cmp b b) _ (equal-self b) less)))

  below-by : (a b c : Ordering) → ordering_then a b ≡ Less → ordering_then a (ordering_then b c) ≡ Less
  below-by Less b c e = refl
  below-by Equal Less c e = refl
  below-by Equal Equal c e = cc
  below-by Equal Greater c e = cc
  below-by Greater b c e = cc

  -- a row of a later place
  later-place : (x y : Run Row) (n m : ℕ) (v w : Row) → key_cmp (run_key x) (run_key y) ≡ Less
      → found_cmp (found_at x.partition write statement x.bucket n v) (found_at y.partition write statement y.bucket m w) ≡ Less
  unfolding row_id_cmp
  later-place x y n m v w less =
      let order = slice_cmp nat_cmp x.partition y.partition in
      let buckets = ordering_then (nat_cmp x.bucket y.bucket) (nat_cmp n m) in
      ap (λ o. ordering_then order (ordering_then o (ordering_then (nat_cmp statement statement) buckets))) (equal-self write)
      ∙ ap (λ o. ordering_then order (ordering_then o buckets)) (equal-self statement)
      ∙ below-by order (nat_cmp x.bucket y.bucket) (nat_cmp n m) less

  abbrev IsBelow : Found → List Found → Type 0
  IsBelow found founds = AllByRecursion (λ other. found_cmp found other ≡ Less) founds

  number-less : (n m : ℕ) → n < m → nat_cmp n m ≡ Less
  number-less n m h = sym (nat_cmp_is n m Less h)

  below-from : (p : List ℕ) (b n m : ℕ) (row : Row) (rows : List Row) → n < m → IsBelow (found_at p write statement b n row) (founds_from p write statement b m rows)
  below-from p b n m row [] h = tt
  below-from p b n m row (other ∷ rows) h =
      (later-found p b n m row other (number-less n m h), below-from p b n (suc m) row rows (omega (arith, h)))

  below-run : (x y : Run Row) (n m : ℕ) (row : Row) (rows : List Row) → key_cmp (run_key x) (run_key y) ≡ Less
      → IsBelow (found_at x.partition write statement x.bucket n row) (founds_from y.partition write statement y.bucket m rows)
  below-run x y n m row [] less = tt
  below-run x y n m row (other ∷ rows) less = (later-place x y n m row other less, below-run x y n (suc m) row rows less)

  below-runs : (x : Run Row) (n : ℕ) (row : Row) (runs : List (Run Row)) → AllByRecursion (λ k. key_cmp (run_key x) k ≡ Less) (map run_key runs)
      → IsBelow (found_at x.partition write statement x.bucket n row) (flat_map (founds_of_run write statement) runs)
  below-runs x n row [] h = tt
  below-runs x n row (run ∷ runs) h =
      all-append _ (founds_of_run write statement run) (flat_map (founds_of_run write statement) runs)
      (below-run x run n 0 row run.items h.0) (below-runs x n row runs h.1)

  rise-from : (x : Run Row) (n : ℕ) (rows : List Row) (runs : List (Run Row)) → AllByRecursion (λ k. key_cmp (run_key x) k ≡ Less) (map run_key runs)
      → IsStrictlySortedBy found_cmp (flat_map (founds_of_run write statement) runs)
      → IsStrictlySortedBy found_cmp (founds_from x.partition write statement x.bucket n rows ++ flat_map (founds_of_run write statement) runs)
  unfolding IsStrictlySortedBy
  rise-from x n [] runs h up = up
  rise-from x n (row ∷ rows) runs h up = (
    all-append _ (founds_from x.partition write statement x.bucket (suc n) rows) (flat_map (founds_of_run write statement) runs)
        (below-from x.partition x.bucket n (suc n) row rows (omega arith)) (below-runs x n row runs h),
    rise-from x (suc n) rows runs h up,
  )

  rise-runs : (runs : List (Run Row)) → IsStrictlySortedBy key_cmp (map run_key runs) → IsStrictlySortedBy found_cmp (flat_map (founds_of_run write statement) runs)
  unfolding IsStrictlySortedBy
  rise-runs [] h = tt
  rise-runs (run ∷ runs) h = rise-from run 0 run.items runs h.0 (rise-runs runs h.1)

  rise : (shape : Shape) (rows : List Row) → IsStrictlySortedBy found_cmp (numbered_rows shape write statement rows)
  unfolding numbered_rows
  rise shape rows = rise-runs (row_runs shape rows) (keys-rise row_cmp row_cmp_total (map (place_of_row shape) rows))

numbered-each : (shape : Shape) (write statement : ℕ) (founds : List Found)
    → AllByRecursion (λ (found : Found). (found.partition ≡ partition_of shape found.row) × (found.id.bucket ≡ bucket_in shape found.row)) founds
    → AllByRecursion (λ (found : Found). (found.id.write.0 ≡ write) × (found.id.statement ≡ statement)) founds
    → AllByRecursion (IsNumbered shape write statement) founds
numbered-each shape write statement [] places ids = tt
numbered-each shape write statement (found ∷ founds) places ids = (
  record { partition_is = places.0.0; bucket_is = places.0.1; write_is = ids.0.0; statement_is = ids.0.1 },
  numbered-each shape write statement founds places.1 ids.1,
)

pub rows-are-numbered : RowsAreNumbered
rows-are-numbered shape write statement rows =
    record {
      rise = rise write statement shape rows;
      each = numbered-each shape write statement (numbered_rows shape write statement rows)
          (numbered-all (λ partition bucket row. (partition ≡ partition_of shape row) × (bucket ≡ bucket_in shape row)) shape write statement rows (own-places shape rows))
          (under write statement shape rows);
    }
