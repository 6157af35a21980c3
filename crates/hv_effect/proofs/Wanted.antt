-- Without the rows of partitions that a query doesn't need it has the same rows.
use Rattle.std.proofs.Common.{if◌then◌else◌, ◌≡◌, ℕ, zero, suc, ◌+◌, ◌-◌, Bool, true, false, cond, List, [], ◌∷◌, ◌++◌, length, map, filter, drop, slice_get, Some, refl, sym, ap, ◌∙◌, subst, arith, append_assoc, eq-eqb}
use Rattle.std.specs.List.{list_all, AllByRecursion}
use Rattle.std.proofs.lemmas.List.{length-append}
use Rattle.hv_value.specs.declared.value.Value.{Value}
use Rattle.hv_value.specs.declared.row.Row.{Row}
use Rattle.hv_logic.specs.declared.catalog.TableInfo.{TableInfo}
use Rattle.hv_logic.specs.declared.effect.Found.{Found}
use Rattle.hv_logic.specs.Rows.{rows_in}
use Rattle.hv_route.specs.Partitions.{partition_values}
use Rattle.hv_typing.specs.declared.tree.TypedQuery.{TypedQuery}
use Rattle.hv_typing.specs.declared.tree.TypedSource.{TypedSource}
use Rattle.hv_typing.specs.Columns.{columns_of}
use Rattle.hv_typing.specs.Rows.{Frame, Tables, values_in, rows_of}
use Rattle.hv_meaning.specs.Meaning.{tables_of}
use Rattle.hv_meaning.specs.Needs.{Needs, later, rows_wanted, all_wanted, IsSaid, AreSaid}
use Rattle.hv_rewrite.specs.Reach.{Spot}
use Rattle.hv_rewrite.specs.Wide.{has_width, all_have_width}
use Rattle.hv_rewrite.specs.Fits.{fits, HaveCounts}
use Rattle.hv_rewrite.specs.Pruned.{uses_of, spot_keeps, keeps, last_values, row_kept, narrowed}
use Rattle.hv_rewrite.proofs.Lists.{Each, each-every, each-more, each-any, both-true, front-true, back-true, filter-same, filter-all, filter-map}
use Rattle.hv_rewrite.proofs.Fitting.{query-wide}
use Rattle.hv_rewrite.proofs.Pruning.{rows-kept}
use Rattle.hv_effect.specs.Needs.{width_of, widths_of, parts_at, query_needs}

-- ---- rows as partitions have them

abbrev pub parts_count : TableInfo → ℕ
parts_count info = length info.shape.parts

pub each-of : {X : Type 0} (P : X → Type 0) (xs : List X) → AllByRecursion P xs → Each P xs
each-of P [] all = tt
each-of P (x ∷ xs) all = (all.0, each-of P xs all.1)

-- the last values of a row are those that its partition's text says
pub said-parts : (info : TableInfo) (found : Found) → IsSaid info found
    → last_values (parts_count info) found.row.values ≡ partition_values info.shape.parts found.partition
said-parts info found said =
    let whole : length (columns_of info.shape) ≡ length info.shape.columns + length info.shape.parts = length-append info.shape.columns info.shape.parts in
    let wide : length found.row.values ≡ length (columns_of info.shape) = said.wide in
    let behind : length found.row.values - length info.shape.parts ≡ length info.shape.columns = omega (arith, wide, whole) in
    ap (λ n. drop n found.row.values) behind ∙ said.parts

-- a test of a partition's values, of its text
abbrev pub by_text : (List Value → Bool) → TableInfo → List ℕ → Bool
by_text kept info text = kept (partition_values info.shape.parts text)

rows-narrowed : (info : TableInfo) (kept : List Value → Bool) (rows : List Found) → AllByRecursion (IsSaid info) rows
    → rows_in (rows_wanted (by_text kept info) rows) ≡ filter (row_kept kept (parts_count info)) (rows_in rows)
rows-narrowed info kept rows said =
    ap rows_in
    (filter-same (λ (found : Found). by_text kept info found.partition) (λ (found : Found). row_kept kept (parts_count info) found.row) rows
    (each-more (IsSaid info) (λ (found : Found). by_text kept info found.partition ≡ row_kept kept (parts_count info) found.row)
    (λ found is. sym (ap kept (said-parts info found is))) rows (each-of (IsSaid info) rows said)))
    ∙ sym (filter-map (row_kept kept (parts_count info)) (λ (found : Found). found.row) rows)

said-wide : (info : TableInfo) (rows : List Found) → AllByRecursion (IsSaid info) rows
    → all_have_width (width_of info) (values_in (Some (rows_in rows))) ≡ true
said-wide info [] said = refl
said-wide info (found ∷ rows) said =
    both-true (has_width (width_of info) found.row.values) (all_have_width (width_of info) (values_in (Some (rows_in rows))))
    (eq-eqb (length found.row.values) (width_of info) said.0.wide) (said-wide info rows said.1)

some-is : {X : Type 0} (a b : X) → Some a ≡ Some b → a ≡ b
some-is a b e = cc

pub said-counts : (infos : List TableInfo) (found : List (List Found)) → AreSaid infos found → HaveCounts (widths_of infos) (tables_of found)
said-counts [] [] said place count is = cc
said-counts [] (rows ∷ found) said place count is = absurd said
said-counts (info ∷ infos) [] said place count is = absurd said
said-counts (info ∷ infos) (rows ∷ found) said zero count is =
    ap (λ n. all_have_width n (values_in (Some (rows_in rows)))) (sym (some-is (width_of info) count is)) ∙ said-wide info rows said.0
said-counts (info ∷ infos) (rows ∷ found) said (suc place) count is = said-counts infos found said.1 place count is

-- ---- tables without some of their rows

-- tests of partitions' values, of each table by its place
abbrev pub Kept : Type 0
Kept = ℕ → List Value → Bool

abbrev pub behind : Kept → Kept
behind kept place = kept (suc place)

abbrev pub by_parts : Kept → List TableInfo → Needs
by_parts kept infos place text = kept place (partition_values (parts_at (slice_get infos place)) text)

abbrev narrow_tables : Kept → List TableInfo → Tables → Tables
narrow_tables kept infos [] = []
narrow_tables kept [] (rows ∷ tables) = rows ∷ tables
narrow_tables kept (info ∷ infos) (rows ∷ tables) =
    filter (row_kept (kept 0) (parts_count info)) rows ∷ narrow_tables (behind kept) infos tables

tables-narrowed : (kept : Kept) (infos : List TableInfo) (found : List (List Found)) → AreSaid infos found
    → tables_of (all_wanted (by_parts kept infos) found) ≡ narrow_tables kept infos (tables_of found)
tables-narrowed kept [] [] said = refl
tables-narrowed kept [] (rows ∷ found) said = absurd said
tables-narrowed kept (info ∷ infos) [] said = absurd said
tables-narrowed kept (info ∷ infos) (rows ∷ found) said =
    λ i. rows-narrowed info (kept 0) rows said.0 i ∷ tables-narrowed (behind kept) infos found said.1 i

-- where all rows are kept nothing changes
pub all-stay : (needs : Needs) (found : List (List Found)) → ((place : ℕ) (text : List ℕ) → needs place text ≡ true) → all_wanted needs found ≡ found
all-stay needs [] stays = refl
all-stay needs (rows ∷ found) stays =
    λ i.
    filter-all (λ (one : Found). needs 0 one.partition) rows
    (each-every (λ (one : Found). needs 0 one.partition ≡ true) (λ one. stays 0 one.partition) rows) i
    ∷ all-stay (later needs) found (λ place text. stays (suc place) text) i

-- ---- one table after another

fewer-wide : (p : Frame → Bool) (test : Row → Bool) (rows : List Row)
    → list_all p (map (λ (row : Row). row.values) rows) ≡ true → list_all p (map (λ (row : Row). row.values) (filter test rows)) ≡ true
fewer-wide p test [] h = refl
fewer-wide p test (row ∷ rows) h =
    by (test row) (fewer-wide p test rows (back-true (p row.values) (list_all p (map (λ (one : Row). one.values) rows)) h))
  where
    by : (b : Bool) → list_all p (map (λ (one : Row). one.values) (filter test rows)) ≡ true
        → list_all p (map (λ (one : Row). one.values) (cond b (row ∷ filter test rows) (filter test rows))) ≡ true
    by true rest =
        both-true (p row.values) (list_all p (map (λ (one : Row). one.values) (filter test rows)))
        (front-true (p row.values) (list_all p (map (λ (one : Row). one.values) rows)) h) rest
    by false rest = rest

module _ (test : Row → Bool) (rows : List Row) (tables : Tables) where
  narrowed-at : (front : Tables) → narrowed (length front) test (front ++ rows ∷ tables) ≡ front ++ filter test rows ∷ tables
  narrowed-at [] = refl
  narrowed-at (first ∷ front) = ap (λ more. first ∷ more) (narrowed-at front)

  wide-at : (front : Tables) (place count : ℕ) → all_have_width count (values_in (slice_get (front ++ rows ∷ tables) place)) ≡ true
      → all_have_width count (values_in (slice_get (front ++ filter test rows ∷ tables) place)) ≡ true
  wide-at [] zero count h = fewer-wide (has_width count) test rows h
  wide-at [] (suc place) count h = h
  wide-at (first ∷ front) zero count h = h
  wide-at (first ∷ front) (suc place) count h = wide-at front place count h

module _ (query : TypedQuery TypedSource) (counts : List ℕ) (fit : fits query counts ≡ true) where
  -- what the query's uses of the table at a place keep is kept
  abbrev Covers : ℕ → (List Value → Bool) → Type 0
  Covers place kept = Each (λ (spot : Spot). (parts : List Value) → spot_keeps parts spot ≡ true → kept parts ≡ true) (uses_of place query)

  one-narrowed : (front : Tables) (rows : List Row) (tables : Tables) (kept : List Value → Bool) (count : ℕ) → Covers (length front) kept
      → HaveCounts counts (front ++ rows ∷ tables)
      → rows_of query (front ++ filter (row_kept kept count) rows ∷ tables) ≡ rows_of query (front ++ rows ∷ tables)
  one-narrowed front rows tables kept count covers have =
      ap (rows_of query) (sym (narrowed-at (row_kept kept count) rows tables front))
      ∙ rows-kept (length front) kept count (front ++ rows ∷ tables) query (query-wide counts (front ++ rows ∷ tables) have query fit) covers

  all-narrowed : (front : Tables) (kept : Kept) (infos : List TableInfo) (tables : Tables)
      → ((place : ℕ) → Covers (length front + place) (kept place)) → HaveCounts counts (front ++ tables)
      → rows_of query (front ++ narrow_tables kept infos tables) ≡ rows_of query (front ++ tables)
  all-narrowed front kept infos [] covers have = refl
  all-narrowed front kept [] (rows ∷ tables) covers have = refl
  all-narrowed front kept (info ∷ infos) (rows ∷ tables) covers have =
      let few : List Row = filter (row_kept (kept 0) (parts_count info)) rows in
      let longer : Tables = front ++ few ∷ [] in
      let one : length longer ≡ length front + 1 = length-append front (few ∷ []) in
      let have_few : HaveCounts counts (front ++ few ∷ tables) =
      λ place count is. wide-at (row_kept (kept 0) (parts_count info)) rows tables front place count (have place count is) in
      ap (rows_of query) (sym (append_assoc front (few ∷ []) (narrow_tables (behind kept) infos tables)))
      ∙ all-narrowed longer (behind kept) infos tables
      (λ place. subst (λ n. Covers n (kept (suc place))) (omega (arith, one)) (covers (suc place)))
      (subst (HaveCounts counts) (sym (append_assoc front (few ∷ []) tables)) have_few)
      ∙ ap (rows_of query) (append_assoc front (few ∷ []) tables)
      ∙ one-narrowed front rows tables (kept 0) (parts_count info) (subst (λ n. Covers n (kept 0)) (omega arith) (covers 0)) have

-- ---- the rows of a query

module _ (query : TypedQuery TypedSource) (infos : List TableInfo) (kept : Kept)
    (enough : (place : ℕ) (values : List Value) → query_needs (widths_of infos) place values query ≡ true → kept place values ≡ true) where
  covered : fits query (widths_of infos) ≡ true → (place : ℕ)
      → Each (λ (spot : Spot). (parts : List Value) → spot_keeps parts spot ≡ true → kept place parts ≡ true) (uses_of place query)
  unfolding keeps
  covered fit place =
      each-more (λ (spot : Spot). (parts : List Value) → spot_keeps parts spot ≡ true → keeps (uses_of place query) parts ≡ true)
      (λ (spot : Spot). (parts : List Value) → spot_keeps parts spot ≡ true → kept place parts ≡ true)
      (λ spot goes parts h. enough place parts (ap (λ b. if b then keeps (uses_of place query) parts else true) fit ∙ goes parts h)) (uses_of place query)
      (each-any (λ parts spot. spot_keeps parts spot) (uses_of place query))

  -- as all tables behind none have it
  covered-behind : fits query (widths_of infos) ≡ true → (place : ℕ)
      → Each (λ (spot : Spot). (parts : List Value) → spot_keeps parts spot ≡ true → kept place parts ≡ true) (uses_of (0 + place) query)
  covered-behind fit place =
      subst (λ (n : ℕ). Each (λ (spot : Spot). (parts : List Value) → spot_keeps parts spot ≡ true → kept place parts ≡ true) (uses_of n query))
      (let same : place ≡ 0 + place = omega arith in same) (covered fit place)

  pub query-rows : (found : List (List Found)) → AreSaid infos found
      → rows_of query (tables_of (all_wanted (by_parts kept infos) found)) ≡ rows_of query (tables_of found)
  query-rows found said = by (fits query (widths_of infos)) refl
    where
      by : (b : Bool) → fits query (widths_of infos) ≡ b
          → rows_of query (tables_of (all_wanted (by_parts kept infos) found)) ≡ rows_of query (tables_of found)
      by true fit =
          ap (rows_of query) (tables-narrowed kept infos found said)
          ∙ all-narrowed query (widths_of infos) fit [] kept infos (tables_of found) (covered-behind fit) (said-counts infos found said)
      by false lacks =
          ap (λ all. rows_of query (tables_of all))
          (all-stay (by_parts kept infos) found (λ place text.
          enough place (partition_values (parts_at (slice_get infos place)) text)
          (ap (λ b. if b then keeps (uses_of place query) (partition_values (parts_at (slice_get infos place)) text) else true) lacks)))
