-- The files of a change have just the records of their partition and bucket.
use Rattle.std.proofs.Common.{◌≡◌, ℕ, suc, ◌<◌, Bool, true, false, cond, List, [], ◌∷◌, ◌++◌, map, length, refl, sym, ap, ◌∙◌, subst, arith, append_assoc}
use Rattle.std.specs.Prelude.{filter}
use Rattle.std.specs.List.{AllByRecursion, flat_map}
use Rattle.std.specs.List.Sorted.{IsStrictlySortedBy}
use Rattle.std.specs.declared.cmp.Ordering.{Ordering}
use Rattle.std.specs.declared.cmp.Ordering.TheVariants.{Less, Equal, Greater}
use Rattle.std.specs.Ordering.{bool_cmp, is_eq, ordering_then, nat_cmp}
use Rattle.std.specs.Cmp.Lexicographic.{slice_cmp}
use Rattle.std.proofs.lemmas.List.{map-append, length-map, append-nil}
use Rattle.std.proofs.lemmas.List.Elements.{filter-append}
use Rattle.hv_base.specs.declared.ids.RowId.{RowId}
use Rattle.hv_base.specs.Identifiers.{row_id_cmp, row_id_total}
use Rattle.hv_value.specs.Order.{row_cmp}
use Rattle.hv_value.specs.OrderLaws.{row_cmp_total}
use Rattle.hv_value.specs.declared.row.Row.{Row}
use Rattle.hv_rowfile.specs.declared.record.Rec.{Rec}
use Rattle.hv_rowfile.specs.declared.record.Rec.TheVariants as rec
use Rattle.hv_logic.specs.Rows.{found_cmp}
use Rattle.hv_base.specs.Sorting.{placed_by, put_by, sorted_by}
use Rattle.hv_logic.specs.declared.catalog.Shape.{Shape}
use Rattle.hv_logic.specs.declared.catalog.TableInfo.{TableInfo}
use Rattle.hv_logic.specs.declared.effect.Effect.{Effect}
use Rattle.hv_logic.specs.declared.effect.Found.{Found}
use Rattle.hv_route.specs.declared.files.OutFile.{OutFile}
use Rattle.hv_route.specs.declared.placed.Placed.{Placed}
use Rattle.hv_route.specs.declared.runs.Run.{Run}
use Rattle.hv_route.specs.Placing.{placed_cmp, is_there, runs_from, runs_of}
use Rattle.hv_route.specs.Routes.{stored, place_of_row, place_of_deleted, row_number, inserts_from, file_of_rows, delete_by, file_of_deletes, row_runs, founds_from, founds_of_run, numbered_rows, files_of}
use Rattle.hv_route.specs.Touching.{place_of_insert, place_of_delete, touch_of, touches_of}
use Rattle.hv_route.specs.Standing.{insert_record, delete_record, stands_in, recs_at, FilesHaveRows, FilesHaveRecords, AllTouchesAreOfRows}
use Rattle.hv_route.proofs.PlacedLemmas.{found_at, inserts_count}
use Rattle.hv_route.proofs.RisingLemmas.{Key, key_cmp, same_key, is_equal, then_both, key-from-same, key-to-cmp, key_of, run_key, keys-rise, all-append}

-- ---- sorting keeps the order of items that rise

module _ {X : Type 0} (R : X → X → Ordering) (q : X → Bool) where
  filtered : (x : X) (xs : List X) (t : Bool) → q x ≡ t → filter q (x ∷ xs) ≡ cond t (x ∷ filter q xs) (filter q xs)
  filtered x xs t e = ap (λ b. cond b (x ∷ filter q xs) (filter q xs)) e

  dropped-by : (o : Ordering) (x y : X) (ys put : List X) → q x ≡ false → filter q put ≡ filter q ys → filter q (placed_by R o x y ys put) ≡ filter q (y ∷ ys)
  dropped-by Less x y ys put out e = filtered x (y ∷ ys) false out
  dropped-by Equal x y ys put out e = filtered x (y ∷ ys) false out
  dropped-by Greater x y ys put out e = ap (λ (z : List X). cond (q y) (y ∷ z) z) e

  -- an item that isn't kept changes nothing
  dropped : (x : X) → q x ≡ false → (ys : List X) → filter q (put_by R x ys) ≡ filter q ys
  dropped x out [] = filtered x [] false out
  dropped x out (y ∷ ys) = dropped-by (R x y) x y ys (put_by R x ys) out (dropped x out ys)

  abbrev IsBelow : X → List X → Type 0
  IsBelow x ys = AllByRecursion (λ y. R x y ≡ Less) ys

  -- behind an item that isn't kept
  behind-by : (t : Bool) (x y : X) (ys put : List X) → q y ≡ t → R x y ≡ Greater → IsBelow x (cond t (y ∷ filter q ys) (filter q ys))
      → (IsBelow x (filter q ys) → filter q put ≡ x ∷ filter q ys) → filter q (y ∷ put) ≡ x ∷ filter q (y ∷ ys)
  behind-by true x y ys put e above below more = let never : Greater ≡ Less = sym above ∙ below.0 in cc
  behind-by false x y ys put e above below more =
      filtered y put false e ∙ more below ∙ ap (λ (z : List X). x ∷ z) (sym (filtered y ys false e))

  first-by : (o : Ordering) (x y : X) (ys put : List X) → R x y ≡ o → q x ≡ true → IsBelow x (filter q (y ∷ ys))
      → (IsBelow x (filter q ys) → filter q put ≡ x ∷ filter q ys) → filter q (placed_by R o x y ys put) ≡ x ∷ filter q (y ∷ ys)
  first-by Less x y ys put is kept below more = filtered x (y ∷ ys) true kept
  first-by Equal x y ys put is kept below more = filtered x (y ∷ ys) true kept
  first-by Greater x y ys put is kept below more =
      behind-by (q y) x y ys put refl is below more

  -- an item below all that are kept comes before them
  first : (x : X) → q x ≡ true → (ys : List X) → IsBelow x (filter q ys) → filter q (put_by R x ys) ≡ x ∷ filter q ys
  first x kept [] below = filtered x [] true kept
  first x kept (y ∷ ys) below = first-by (R x y) x y ys (put_by R x ys) refl kept below (first x kept ys)

  -- those that are kept rise
  abbrev KeptRise : List X → Type 0
  KeptRise [] = Unit {0}
  KeptRise (x ∷ xs) = (q x ≡ true → IsBelow x (filter q xs)) × KeptRise xs

  keeps-by : (t : Bool) (x : X) (xs : List X) → q x ≡ t → (q x ≡ true → IsBelow x (filter q xs)) → filter q (sorted_by R xs) ≡ filter q xs
      → filter q (put_by R x (sorted_by R xs)) ≡ filter q (x ∷ xs)
  keeps-by true x xs e below same =
      first x e (sorted_by R xs) (subst (IsBelow x) (sym same) (below e)) ∙ ap (λ (z : List X). x ∷ z) same ∙ sym (filtered x xs true e)
  keeps-by false x xs e below same = dropped x e (sorted_by R xs) ∙ same ∙ sym (filtered x xs false e)

  sorted-keeps : (xs : List X) → KeptRise xs → filter q (sorted_by R xs) ≡ filter q xs
  sorted-keeps [] h = refl
  sorted-keeps (x ∷ xs) h = keeps-by (q x) x xs refl h.0 (sorted-keeps xs h.1)

-- ---- of runs that rise, at most one is of a place

module _ (p : List ℕ) (b : ℕ) where
  abbrev place : Key
  place = (p, b)

  apart : (k x : Key) → key_cmp k x ≡ Less → same_key k place ≡ true → same_key x place ≡ false
  apart k x less here = by (same_key x place) refl
    where
      by : (t : Bool) → same_key x place ≡ t → t ≡ false
      by false e = refl
      by true e =
          let same : k ≡ x = key-from-same k place here ∙ sym (key-from-same x place e) in
          sym (key-to-cmp k x same) ∙ ap is_eq less

  module _ {T : Type 0} (g : Run T → List Rec) where
    abbrev its : Run T → List Rec
    its run = cond (same_key (run_key run) place) (g run) []

    -- the records of the first run of that place
    abbrev first_of : List (Run T) → List Rec
    first_of [] = []
    first_of (run ∷ runs) = cond (same_key (run_key run) place) (g run) (first_of runs)

    none-behind : (k : Key) → same_key k place ≡ true → (runs : List (Run T)) → AllByRecursion (λ x. key_cmp k x ≡ Less) (map run_key runs) → flat_map its runs ≡ []
    none-behind k here [] h = refl
    none-behind k here (run ∷ runs) h =
        ap (λ t. cond t (g run) [] ++ flat_map its runs) (apart k (run_key run) h.0 here) ∙ none-behind k here runs h.1

    first-by-test : (t : Bool) (run : Run T) (runs : List (Run T)) → same_key (run_key run) place ≡ t
        → AllByRecursion (λ x. key_cmp (run_key run) x ≡ Less) (map run_key runs) → first_of runs ≡ flat_map its runs
        → cond t (g run) (first_of runs) ≡ cond t (g run) [] ++ flat_map its runs
    first-by-test true run runs e h more =
        sym (append-nil (g run)) ∙ ap (λ (z : List Rec). g run ++ z) (sym (none-behind (run_key run) e runs h))
    first-by-test false run runs e h more = more

    first-is-all : (runs : List (Run T)) → IsStrictlySortedBy key_cmp (map run_key runs) → first_of runs ≡ flat_map its runs
    unfolding IsStrictlySortedBy
    first-is-all [] h = refl
    first-is-all (run ∷ runs) h = first-by-test (same_key (run_key run) place) run runs refl h.0 (first-is-all runs h.1)

  -- ---- inserted rows

  module _ (shape : Shape) (write statement : ℕ) where
    abbrev row_recs : Run Row → List Rec
    row_recs run = inserts_from shape write statement run.bucket 0 run.items

    rows-first : (runs : List (Run Row)) (gone : List (Run RowId))
        → recs_at (map (file_of_rows shape write statement) runs ++ map (file_of_deletes write) gone) false p b ≡ first_of row_recs runs
    rows-first [] [] = refl
    rows-first [] (run ∷ gone) = rows-first [] gone
    rows-first (run ∷ runs) gone = ap (λ (z : List Rec). cond (same_key (run_key run) place) (row_recs run) z) (rows-first runs gone)

    founds-of : (q : List ℕ) (c : ℕ) (t : Bool) → same_key (q, c) place ≡ t → (n : ℕ) (rows : List Row)
        → map (insert_record shape) (filter (stands_in p b) (founds_from q write statement c n rows)) ≡ cond t (inserts_from shape write statement c n rows) []
    founds-of q c true e n [] = refl
    founds-of q c false e n [] = refl
    founds-of q c true e n (row ∷ rows) =
        let rest = filter (stands_in p b) (founds_from q write statement c (suc n) rows) in
        ap (λ t. map (insert_record shape) (cond t (found_at q write statement c n row ∷ rest) rest)) e
        ∙ ap (λ (z : List Rec). rec.Insert (row_number write statement c n) (stored shape row) ∷ z) (founds-of q c true e (suc n) rows)
    founds-of q c false e n (row ∷ rows) =
        let rest = filter (stands_in p b) (founds_from q write statement c (suc n) rows) in
        ap (λ t. map (insert_record shape) (cond t (found_at q write statement c n row ∷ rest) rest)) e
        ∙ founds-of q c false e (suc n) rows

    runs-stand : (runs : List (Run Row))
        → map (insert_record shape) (filter (stands_in p b) (flat_map (founds_of_run write statement) runs)) ≡ flat_map (its row_recs) runs
    runs-stand [] = refl
    runs-stand (run ∷ runs) =
        let here = founds_of_run write statement run in
        let more = flat_map (founds_of_run write statement) runs in
        ap (map (insert_record shape)) (filter-append (stands_in p b) here more)
        ∙ map-append (insert_record shape) (filter (stands_in p b) here) (filter (stands_in p b) more)
        ∙ ap (λ (z : List Rec). z ++ map (insert_record shape) (filter (stands_in p b) more))
        (founds-of run.partition run.bucket (same_key (run_key run) place) refl 0 run.items)
        ∙ ap (λ (z : List Rec). its row_recs run ++ z) (runs-stand runs)

    rows-stand : (effect : Effect)
        → recs_at (files_of shape write statement effect) false p b
        ≡ map (insert_record shape) (filter (stands_in p b) (numbered_rows shape write statement effect.inserts))
    unfolding files_of numbered_rows
    rows-stand effect =
        let runs = row_runs shape effect.inserts in
        rows-first runs (runs_of (sorted_by (placed_cmp row_id_cmp) (map place_of_deleted effect.deletes)))
        ∙ first-is-all row_recs runs (keys-rise row_cmp row_cmp_total (map (place_of_row shape) effect.inserts))
        ∙ sym (runs-stand runs)

  -- ---- deleted rows

  module _ (write : ℕ) where
    abbrev gone_recs : Run RowId → List Rec
    gone_recs run = map (delete_by write) run.items

    gone-first : (shape : Shape) (statement : ℕ) (runs : List (Run Row)) (gone : List (Run RowId))
        → recs_at (map (file_of_rows shape write statement) runs ++ map (file_of_deletes write) gone) true p b ≡ first_of gone_recs gone
    gone-first shape statement [] [] = refl
    gone-first shape statement [] (run ∷ gone) =
        ap (λ (z : List Rec). cond (same_key (run_key run) place) (gone_recs run) z) (gone-first shape statement [] gone)
    gone-first shape statement (run ∷ runs) gone = gone-first shape statement runs gone

    abbrev delete_of : Placed RowId → Rec
    delete_of placed = delete_by write placed.item

    abbrev left_of : List (Placed RowId) → List Rec
    left_of xs = map delete_of (filter (is_there p b) xs)

    one-more : (t : Bool) (x : Placed RowId) (xs : List (Placed RowId)) → cond t (delete_of x ∷ []) [] ++ map delete_of xs ≡ map delete_of (cond t (x ∷ xs) xs)
    one-more true x xs = refl
    one-more false x xs = refl

    joins : (t : Bool) (items : List RowId) (id : RowId)
        → cond t (map (delete_by write) (items ++ id ∷ [])) [] ≡ cond t (map (delete_by write) items) [] ++ cond t (delete_by write id ∷ []) []
    joins true items id = map-append (delete_by write) items (id ∷ [])
    joins false items id = refl

    gone-by : (t : Bool) (q : List ℕ) (c : ℕ) (items : List RowId) (x : Placed RowId) (xs : List (Placed RowId)) → is_there q c x ≡ t
        → flat_map (its gone_recs) (runs_from q c (items ++ x.item ∷ []) xs)
        ≡ cond (same_key (q, c) place) (map (delete_by write) (items ++ x.item ∷ [])) [] ++ left_of xs
        → flat_map (its gone_recs) (runs_from x.partition x.bucket (x.item ∷ []) xs)
        ≡ cond (same_key (key_of x) place) (delete_of x ∷ []) [] ++ left_of xs
        → flat_map (its gone_recs) (cond t (runs_from q c (items ++ x.item ∷ []) xs) (record { partition = q; bucket = c; items = items } ∷ runs_from x.partition x.bucket (x.item ∷ []) xs))
        ≡ cond (same_key (q, c) place) (map (delete_by write) items) [] ++ left_of (x ∷ xs)
    gone-by true q c items x xs e join next =
        let same : key_of x ≡ (q, c) = key-from-same (key_of x) (q, c) e in
        let before = cond (same_key (q, c) place) (map (delete_by write) items) [] in
        join ∙ ap (λ (z : List Rec). z ++ left_of xs) (joins (same_key (q, c) place) items x.item)
        ∙ append_assoc before (cond (same_key (q, c) place) (delete_of x ∷ []) []) (left_of xs)
        ∙ ap (λ (k : Key). before ++ (cond (same_key k place) (delete_of x ∷ []) [] ++ left_of xs)) (sym same)
        ∙ ap (λ (z : List Rec). before ++ z) (one-more (same_key (key_of x) place) x (filter (is_there p b) xs))
    gone-by false q c items x xs e join next =
        let before = cond (same_key (q, c) place) (map (delete_by write) items) [] in
        ap (λ (z : List Rec). before ++ z) (next ∙ one-more (same_key (key_of x) place) x (filter (is_there p b) xs))

    gone-from : (q : List ℕ) (c : ℕ) (items : List RowId) (xs : List (Placed RowId))
        → flat_map (its gone_recs) (runs_from q c items xs) ≡ cond (same_key (q, c) place) (map (delete_by write) items) [] ++ left_of xs
    gone-from q c items [] = refl
    gone-from q c items (x ∷ xs) =
        gone-by (is_there q c x) q c items x xs refl (gone-from q c (items ++ x.item ∷ []) xs) (gone-from x.partition x.bucket (x.item ∷ []) xs)

    gone-of : (xs : List (Placed RowId)) → flat_map (its gone_recs) (runs_of xs) ≡ left_of xs
    gone-of [] = refl
    gone-of (x ∷ xs) =
        gone-from x.partition x.bucket (x.item ∷ []) xs ∙ one-more (same_key (key_of x) place) x (filter (is_there p b) xs)

    -- rows of one place rise by their identifiers
    rises-by : (a c d : Ordering) → a ≡ Equal → c ≡ Equal → ordering_then a d ≡ Less → ordering_then a (ordering_then c d) ≡ Less
    rises-by Less c d e f h = cc
    rises-by Equal Less d e f h = cc
    rises-by Equal Equal d e f h = h
    rises-by Equal Greater d e f h = cc
    rises-by Greater c d e f h = cc

    one-below : (x y : Found) → is_there p b (place_of_deleted x) ≡ true → is_there p b (place_of_deleted y) ≡ true → found_cmp x y ≡ Less
        → placed_cmp row_id_cmp (place_of_deleted x) (place_of_deleted y) ≡ Less
    unfolding placed_cmp
    one-below x y here there less =
        let k = key_of (place_of_deleted x) in
        let l = key_of (place_of_deleted y) in
        let same : k ≡ l = key-from-same k place here ∙ sym (key-from-same l place there) in
        let both = then_both (slice_cmp nat_cmp x.partition y.partition) (nat_cmp x.id.bucket y.id.bucket) (is_equal (key_cmp k l) (key-to-cmp k l same)) in
        rises-by (slice_cmp nat_cmp x.partition y.partition) (nat_cmp x.id.bucket y.id.bucket) (row_id_cmp x.id y.id) both.0 both.1 less

    below-by : (t : Bool) (x y : Found) (rest : List (Placed RowId)) → is_there p b (place_of_deleted y) ≡ t → is_there p b (place_of_deleted x) ≡ true → found_cmp x y ≡ Less
        → AllByRecursion (λ z. placed_cmp row_id_cmp (place_of_deleted x) z ≡ Less) rest
        → AllByRecursion (λ z. placed_cmp row_id_cmp (place_of_deleted x) z ≡ Less) (cond t (place_of_deleted y ∷ rest) rest)
    below-by true x y rest there here less more = (one-below x y here there less, more)
    below-by false x y rest there here less more = more

    below : (x : Found) (ys : List Found) → is_there p b (place_of_deleted x) ≡ true → AllByRecursion (λ y. found_cmp x y ≡ Less) ys
        → AllByRecursion (λ z. placed_cmp row_id_cmp (place_of_deleted x) z ≡ Less) (filter (is_there p b) (map place_of_deleted ys))
    below x [] here h = tt
    below x (y ∷ ys) here h =
        below-by (is_there p b (place_of_deleted y)) x y (filter (is_there p b) (map place_of_deleted ys)) refl here h.0 (below x ys here h.1)

    rise : (founds : List Found) → IsStrictlySortedBy found_cmp founds → KeptRise (placed_cmp row_id_cmp) (is_there p b) (map place_of_deleted founds)
    unfolding IsStrictlySortedBy
    rise [] h = tt
    rise (x ∷ founds) h = ((λ here. below x founds here h.0), rise founds h.1)

    deleted-by : (t : Bool) (x : Found) (rest : List (Placed RowId)) (more : List Found) → map delete_of rest ≡ map (delete_record write) more
        → map delete_of (cond t (place_of_deleted x ∷ rest) rest) ≡ map (delete_record write) (cond t (x ∷ more) more)
    deleted-by true x rest more e = ap (λ (z : List Rec). delete_record write x ∷ z) e
    deleted-by false x rest more e = e

    deleted : (founds : List Found) → left_of (map place_of_deleted founds) ≡ map (delete_record write) (filter (stands_in p b) founds)
    deleted [] = refl
    deleted (x ∷ founds) =
        deleted-by (stands_in p b x) x (filter (is_there p b) (map place_of_deleted founds)) (filter (stands_in p b) founds) (deleted founds)

    deletes-stand : (shape : Shape) (statement : ℕ) (effect : Effect) → IsStrictlySortedBy found_cmp effect.deletes
        → recs_at (files_of shape write statement effect) true p b ≡ map (delete_record write) (filter (stands_in p b) effect.deletes)
    unfolding files_of
    deletes-stand shape statement effect up =
        let placed = map place_of_deleted effect.deletes in
        let order = sorted_by (placed_cmp row_id_cmp) placed in
        gone-first shape statement (row_runs shape effect.inserts) (runs_of order)
        ∙ first-is-all gone_recs (runs_of order) (keys-rise row_id_cmp row_id_total placed)
        ∙ gone-of order
        ∙ ap (map delete_of) (sorted-keeps (placed_cmp row_id_cmp) (is_there p b) placed (rise effect.deletes up))
        ∙ deleted effect.deletes

pub files-have-rows : FilesHaveRows
files-have-rows shape write statement effect false partition bucket up = rows-stand partition bucket shape write statement effect
files-have-rows shape write statement effect true partition bucket up = deletes-stand partition bucket write shape statement effect up

-- ---- no run is without items, and so no file without records

module _ {T : Type 0} where
  abbrev HasItems : Run T → Type 0
  HasItems run = 0 < length run.items

  item-more : (items : List T) (item : T) → 0 < length (items ++ item ∷ [])
  item-more [] item = omega arith
  item-more (x ∷ items) item = omega arith

  items-by : (t : Bool) (run : Run T) (joined others : List (Run T)) → HasItems run → AllByRecursion HasItems joined → AllByRecursion HasItems others
      → AllByRecursion HasItems (cond t joined (run ∷ others))
  items-by true run joined others h f g = f
  items-by false run joined others h f g = (h, g)

  items-from : (p : List ℕ) (b : ℕ) (items : List T) (xs : List (Placed T)) → 0 < length items → AllByRecursion HasItems (runs_from p b items xs)
  items-from p b items [] h = (h, tt)
  items-from p b items (x ∷ xs) h =
      items-by (is_there p b x) (record { partition = p; bucket = b; items = items }) (runs_from p b (items ++ x.item ∷ []) xs)
      (runs_from x.partition x.bucket (x.item ∷ []) xs) h (items-from p b (items ++ x.item ∷ []) xs (item-more items x.item))
      (items-from x.partition x.bucket (x.item ∷ []) xs (omega arith))

  items-of : (xs : List (Placed T)) → AllByRecursion HasItems (runs_of xs)
  items-of [] = tt
  items-of (x ∷ xs) = items-from x.partition x.bucket (x.item ∷ []) xs (omega arith)

abbrev HasRecs : OutFile → Type 0
HasRecs file = 0 < length file.recs

module _ (shape : Shape) (write statement : ℕ) where
  rows-recs : (runs : List (Run Row)) → AllByRecursion HasItems runs → AllByRecursion HasRecs (map (file_of_rows shape write statement) runs)
  rows-recs [] h = tt
  rows-recs (run ∷ runs) h = (subst (λ n. 0 < n) (sym (inserts_count shape write statement run.bucket 0 run.items)) h.0, rows-recs runs h.1)

  gone-recs : (runs : List (Run RowId)) → AllByRecursion HasItems runs → AllByRecursion HasRecs (map (file_of_deletes write) runs)
  gone-recs [] h = tt
  gone-recs (run ∷ runs) h = (subst (λ n. 0 < n) (sym (length-map run.items (delete_by write))) h.0, gone-recs runs h.1)

pub files-have-records : FilesHaveRecords
unfolding files_of
files-have-records shape write statement effect =
    let rows = row_runs shape effect.inserts in
    let gone = runs_of (sorted_by (placed_cmp row_id_cmp) (map place_of_deleted effect.deletes)) in
    all-append HasRecs (map (file_of_rows shape write statement) rows) (map (file_of_deletes write) gone)
    (rows-recs shape write statement rows (items-of (sorted_by (placed_cmp row_cmp) (map (place_of_row shape) effect.inserts))))
    (gone-recs shape write statement gone (items-of (sorted_by (placed_cmp row_id_cmp) (map place_of_deleted effect.deletes))))

-- ---- rows are touched where there are some

abbrev IsSome : {A : Type 0} → List A → Type 0
IsSome [] = ⊥
IsSome (x ∷ xs) = Unit {0}

some-placed : {X : Type 0} (R : X → X → Ordering) (o : Ordering) (x y : X) (ys put : List X) → IsSome (placed_by R o x y ys put)
some-placed R Less x y ys put = tt
some-placed R Equal x y ys put = tt
some-placed R Greater x y ys put = tt

some-put : {X : Type 0} (R : X → X → Ordering) (x : X) (ys : List X) → IsSome (put_by R x ys)
some-put R x [] = tt
some-put R x (y ∷ ys) = some-placed R (R x y) x y ys (put_by R x ys)

some-from : {T : Type 0} (p : List ℕ) (b : ℕ) (items : List T) (xs : List (Placed T)) → IsSome (runs_from p b items xs)
some-from p b items [] = tt
some-from p b items (x ∷ xs) = by (is_there p b x) (some-from p b (items ++ x.item ∷ []) xs)
  where
    by : (t : Bool) → IsSome (runs_from p b (items ++ x.item ∷ []) xs)
        → IsSome (cond t (runs_from p b (items ++ x.item ∷ []) xs) (record { partition = p; bucket = b; items = items } ∷ runs_from x.partition x.bucket (x.item ∷ []) xs))
    by true h = h
    by false h = tt

some-runs : {T : Type 0} (xs : List (Placed T)) → IsSome xs → IsSome (runs_of xs)
some-runs [] h = h
some-runs (x ∷ xs) h = some-from x.partition x.bucket (x.item ∷ []) xs

some-map : {A B : Type 0} (f : A → B) (xs : List A) → IsSome xs → IsSome (map f xs)
some-map f [] h = h
some-map f (x ∷ xs) h = tt

touches-some : (table : ℕ) (row : Placed Bool) (rows : List (Placed Bool)) → IsSome (map (touch_of table) (runs_of (sorted_by (placed_cmp bool_cmp) (row ∷ rows))))
touches-some table row rows =
    let order = sorted_by (placed_cmp bool_cmp) (row ∷ rows) in
    some-map (touch_of table) (runs_of order) (some-runs order (some-put (placed_cmp bool_cmp) row (sorted_by (placed_cmp bool_cmp) rows)))

not-none : {A : Type 0} (xs : List A) → IsSome xs → xs ≡ [] → ⊥
not-none [] h e = h
not-none (x ∷ xs) h e = cc

none-by : (info : TableInfo) (inserts : List Row) (deletes : List Found) → touches_of info (record { inserts = inserts; deletes = deletes }) ≡ []
    → (inserts ≡ []) × (deletes ≡ [])
none-by info [] [] e = (refl, refl)
none-by info [] (found ∷ deletes) e =
    absurd (not-none _ (touches-some info.table.0 (place_of_delete found) (map place_of_delete deletes)) e)
none-by info (row ∷ inserts) deletes e =
    absurd (not-none _ (touches-some info.table.0 (place_of_insert info.shape row) (map (place_of_insert info.shape) inserts ++ map place_of_delete deletes)) e)

pub touches-are-of-rows : AllTouchesAreOfRows
touches-are-of-rows info effect = record {
  none = none-by info effect.inserts effect.deletes;
  nothing = λ inserts deletes. λ i. touches_of info (record { inserts = inserts i; deletes = deletes i });
}
