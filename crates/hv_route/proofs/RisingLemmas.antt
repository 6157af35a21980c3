-- Runs of a sorted list rise by partition and bucket; so do files and touches.
use Rattle.std.proofs.Common.{◌≡◌, ℕ, zero, suc, ◌+◌, ◌<◌, ◌==◌, ◌&&◌, Bool, true, false, cond, List, [], ◌∷◌, ◌++◌, map, fold, length, get_or, refl, sym, ap, ◌∙◌, subst, arith, IsSorted}
use Rattle.std.specs.Prelude.{nat_eq, Ok, Err, IfOk}
use Rattle.std.specs.declared.cmp.Ordering.{Ordering}
use Rattle.std.specs.declared.cmp.Ordering.TheVariants.{Less, Equal, Greater}
use Rattle.std.specs.Ordering.{bool_cmp, nat_cmp, on, then_cmp, is_lt, is_eq, eq_by_cmp, ordering_then, ordering_reverse}
use Rattle.std.specs.Cmp.{IsTotalOrder, on_total, then_total, nat_cmp_total, bool_cmp_total}
use Rattle.std.specs.Cmp.Lexicographic.{slice_cmp, pointwise, nat_list_cmp_total}
use Rattle.std.specs.FinMap.{nat_cmp-IsAntisymmetric, slice_cmp-IsAntisymmetric}
use Rattle.std.specs.List.{AllByRecursion, dedup, dedup_from, list_all}
use Rattle.std.specs.List.Sorted.{IsStrictlySortedBy}
use Rattle.std.proofs.lemmas.Bool.{false≢true, and_parts}
use Rattle.std.proofs.lemmas.Bool.Decides.{nat_tests}
use Rattle.std.proofs.lemmas.List.Kept.{IsStrictlySortedBy-dedup}
use Rattle.std.proofs.lemmas.Slice.Eq.{bytes_eq-Decides}
use Rattle.hv_base.specs.declared.ids.RowId.{RowId}
use Rattle.hv_base.specs.declared.ids.Touch.{Touch}
use Rattle.hv_base.specs.Identifiers.{row_id_cmp, row_id_total}
use Rattle.hv_value.specs.Order.{row_cmp}
use Rattle.hv_value.specs.OrderLaws.{row_cmp_total}
use Rattle.hv_value.specs.declared.row.Row.{Row}
use Rattle.hv_base.specs.Sorting.{placed_by, put_by, sorted_by}
use Rattle.hv_base.proofs.SortingLaws.{sorted-sorted_by}
use Rattle.hv_logic.specs.declared.catalog.Shape.{Shape}
use Rattle.hv_logic.specs.declared.catalog.TableInfo.{TableInfo}
use Rattle.hv_logic.specs.declared.effect.Effect.{Effect}
use Rattle.hv_logic.specs.declared.effect.Found.{Found}
use Rattle.hv_route.specs.declared.placed.Placed.{Placed}
use Rattle.hv_route.specs.declared.runs.Run.{Run}
use Rattle.hv_route.specs.declared.fault.RouteFault.TheVariants as fault
use Rattle.hv_route.specs.Placing.{placed_cmp, placed_total, is_there, runs_from, runs_of}
use Rattle.hv_route.specs.Routes.{file_of_rows, file_of_deletes, place_of_row, place_of_deleted, files_of}
use Rattle.hv_route.specs.Touching.{place_of_insert, place_of_delete, rows_touched, inserted_count, deleted_count, touch_of, touches_of, stored_fits, is_above, touched}
use Rattle.hv_route.specs.Rising.{touch_cmp, TouchesRise, file_cmp}

-- ---- the keys of places

abbrev pub Key : Type 0
Key = List ℕ × ℕ

abbrev pub key_cmp : Key → Key → Ordering
key_cmp = then_cmp (on (λ (k : Key). k.0) (slice_cmp nat_cmp)) (on (λ (k : Key). k.1) nat_cmp)

key_total : IsTotalOrder key_cmp
key_total = then_total (on_total (λ (k : Key). k.0) nat_list_cmp_total) (on_total (λ (k : Key). k.1) nat_cmp_total)

abbrev pub same_key : Key → Key → Bool
same_key x k = pointwise nat_eq x.0 k.0 && (x.1 == k.1)

pub is_equal : (o : Ordering) → is_eq o ≡ true → o ≡ Equal
is_equal Less e = cc
is_equal Equal e = refl
is_equal Greater e = cc

pub own_reverse : (o : Ordering) → o ≡ ordering_reverse o → is_eq o ≡ true
own_reverse Less e = cc
own_reverse Equal e = refl
own_reverse Greater e = cc

pub then_both : (a b : Ordering) → ordering_then a b ≡ Equal → (a ≡ Equal) × (b ≡ Equal)
then_both Less b e = cc
then_both Equal b e = (refl, e)
then_both Greater b e = cc

both_ways : (a b : Bool) → (a ≡ true → b ≡ true) → (b ≡ true → a ≡ true) → a ≡ b
both_ways true true f g = refl
both_ways true false f g = absurd (false≢true (f refl))
both_ways false true f g = absurd (false≢true (g refl))
both_ways false false f g = refl

key-from-cmp : (x y : Key) → eq_by_cmp key_cmp x y ≡ true → x ≡ y
key-from-cmp x y e =
    let both = then_both _ _ (is_equal _ e) in
    λ i. (slice_cmp-IsAntisymmetric nat_cmp-IsAntisymmetric x.0 y.0 both.0 i, nat_cmp-IsAntisymmetric x.1 y.1 both.1 i)

pub key-to-cmp : (x y : Key) → x ≡ y → eq_by_cmp key_cmp x y ≡ true
key-to-cmp x y e = ap (λ z. eq_by_cmp key_cmp x z) (sym e) ∙ own_reverse (key_cmp x x) (key_total.antisymm x x)

number-is : (a b : ℕ) → (a == b) ≡ true → a ≡ b
number-is a b e = grind (arith, nat_tests)

number-same : (a : ℕ) → (a == a) ≡ true
number-same a = grind (arith, nat_tests)

pub key-from-same : (x y : Key) → same_key x y ≡ true → x ≡ y
key-from-same x y e =
    let both = and_parts (pointwise nat_eq x.0 y.0) (x.1 == y.1) e in
    λ i. ((bytes_eq-Decides x.0 y.0).0 both.0 i, number-is x.1 y.1 both.1 i)

pub key-to-same : (x y : Key) → x ≡ y → same_key x y ≡ true
key-to-same x y e =
    ap (λ z. same_key x z) (sym e) ∙ (λ i. (bytes_eq-Decides x.0 x.0).1 refl i && (x.1 == x.1)) ∙ number-same x.1

ties : (x y : Key) → same_key x y ≡ eq_by_cmp key_cmp x y
ties x y =
    both_ways (same_key x y) (eq_by_cmp key_cmp x y) (λ e. key-to-cmp x y (key-from-same x y e)) (λ e. key-to-same x y (key-from-cmp x y e))

-- ---- the keys of runs

not-below : (a b c : Ordering) → is_lt (ordering_then a (ordering_then b c)) ≡ false → is_lt (ordering_then a b) ≡ false
not-below Less b c e = e
not-below Equal Less c e = e
not-below Equal Equal c e = refl
not-below Equal Greater c e = refl
not-below Greater b c e = refl

module _ {T : Type 0} where
  abbrev pub key_of : Placed T → Key
  key_of placed = (placed.partition, placed.bucket)

  abbrev pub run_key : Run T → Key
  run_key run = (run.partition, run.bucket)

  keys-by : (t : Bool) (run : Run T) (first others : List (Run T)) (ks us : List Key) → map run_key first ≡ ks → map run_key others ≡ us
      → map run_key (cond t first (run ∷ others)) ≡ cond t ks (run_key run ∷ us)
  keys-by true run first others ks us e f = e
  keys-by false run first others ks us e f = ap (λ (z : List Key). run_key run ∷ z) f

  keys-from : (p : List ℕ) (b : ℕ) (items : List T) (xs : List (Placed T)) → map run_key (runs_from p b items xs) ≡ dedup_from same_key (p, b) (map key_of xs)
  keys-from p b items [] = refl
  keys-from p b items (x ∷ xs) =
      keys-by (is_there p b x) (record { partition = p; bucket = b; items = items }) (runs_from p b (items ++ x.item ∷ []) xs)
      (runs_from x.partition x.bucket (x.item ∷ []) xs) (dedup_from same_key (p, b) (map key_of xs))
      (dedup_from same_key (key_of x) (map key_of xs)) (keys-from p b (items ++ x.item ∷ []) xs)
      (keys-from x.partition x.bucket (x.item ∷ []) xs)

  keys-of : (xs : List (Placed T)) → map run_key (runs_of xs) ≡ dedup same_key (map key_of xs)
  keys-of [] = refl
  keys-of (x ∷ xs) = keys-from x.partition x.bucket (x.item ∷ []) xs

  module _ (cmp : T → T → Ordering) where
    key-not-below : (x y : Placed T) → is_lt (placed_cmp cmp x y) ≡ false → is_lt (key_cmp (key_of x) (key_of y)) ≡ false
    unfolding placed_cmp
    key-not-below x y e = not-below (slice_cmp nat_cmp x.partition y.partition) (nat_cmp x.bucket y.bucket) (cmp x.item y.item) e

    sorted-behind : (x : Placed T) (xs : List (Placed T)) → IsSorted (placed_cmp cmp) (x ∷ xs) → IsSorted (placed_cmp cmp) xs
    sorted-behind x xs h k d p q =
        let e : suc k + 1 ≡ suc (k + 1) = omega arith in
        subst (λ n. is_lt (placed_cmp cmp (get_or (x ∷ xs) n d) (get_or xs k d)) ≡ false) e (h (suc k) d (omega arith) (omega arith))

    keys-sorted : (xs : List (Placed T)) → IsSorted (placed_cmp cmp) xs → IsSorted key_cmp (map key_of xs)
    keys-sorted [] h k d p q = absurd (omega arith)
    keys-sorted (x ∷ []) h k d p q = absurd (omega arith)
    keys-sorted (x ∷ y ∷ xs) h zero d p q = key-not-below y x (h zero x (omega arith) (omega arith))
    keys-sorted (x ∷ y ∷ xs) h (suc k) d p q =
        let e : suc (k + 1) ≡ suc k + 1 = omega arith in
        subst (λ n. is_lt (key_cmp (get_or (map key_of (x ∷ y ∷ xs)) n d) (get_or (map key_of (y ∷ xs)) k d)) ≡ false) e
        (keys-sorted (y ∷ xs) (sorted-behind x (y ∷ xs) h) k d (omega arith) (omega arith))

    pub keys-rise : IsTotalOrder cmp → (xs : List (Placed T)) → IsStrictlySortedBy key_cmp (map run_key (runs_of (sorted_by (placed_cmp cmp) xs)))
    keys-rise total xs =
        let sorted = sorted_by (placed_cmp cmp) xs in
        subst (IsStrictlySortedBy key_cmp) (sym (keys-of sorted))
        (IsStrictlySortedBy-dedup key_total ties (map key_of sorted) (keys-sorted sorted (sorted-sorted_by (placed_total total) xs)))

-- ---- what is made of runs, one of each

module _ {A B : Type 0} (P : A → Type 0) (f : A → Key) (g : A → B) (S : B → B → Ordering)
    (up : (x y : A) → P x → P y → key_cmp (f x) (f y) ≡ Less → S (g x) (g y) ≡ Less) where
  first-below : (x : A) → P x → (ys : List A) → AllByRecursion P ys → AllByRecursion (λ k. key_cmp (f x) k ≡ Less) (map f ys)
      → AllByRecursion (λ b. S (g x) b ≡ Less) (map g ys)
  first-below x px [] ps h = tt
  first-below x px (y ∷ ys) ps h = (up x y px ps.0 h.0, first-below x px ys ps.1 h.1)

  made-rise : (xs : List A) → AllByRecursion P xs → IsStrictlySortedBy key_cmp (map f xs) → IsStrictlySortedBy S (map g xs)
  unfolding IsStrictlySortedBy
  made-rise [] ps h = tt
  made-rise (x ∷ xs) ps h = (first-below x ps.0 xs ps.1 h.0, made-rise xs ps.1 h.1)

anything : {A : Type 0} (xs : List A) → AllByRecursion (λ x. Unit {0}) xs
anything [] = tt
anything (x ∷ xs) = (tt, anything xs)

-- ---- files

pub all-append : {A : Type 0} (P : A → Type 0) (xs ys : List A) → AllByRecursion P xs → AllByRecursion P ys → AllByRecursion P (xs ++ ys)
all-append P [] ys h g = g
all-append P (x ∷ xs) ys h g = (h.0, all-append P xs ys h.1 g)

module _ (shape : Shape) (write statement : ℕ) where
  rows-rise : (rows : List (Run Row)) → IsStrictlySortedBy key_cmp (map run_key rows) → IsStrictlySortedBy file_cmp (map (file_of_rows shape write statement) rows)
  rows-rise rows h = made-rise (λ run. Unit {0}) run_key (file_of_rows shape write statement) file_cmp (λ x y p q e. e) rows (anything rows) h

  deletes-rise : (deletes : List (Run RowId)) → IsStrictlySortedBy key_cmp (map run_key deletes) → IsStrictlySortedBy file_cmp (map (file_of_deletes write) deletes)
  deletes-rise deletes h = made-rise (λ run. Unit {0}) run_key (file_of_deletes write) file_cmp (λ x y p q e. e) deletes (anything deletes) h

  before-deletes : (run : Run Row) (deletes : List (Run RowId)) → AllByRecursion (λ file. file_cmp (file_of_rows shape write statement run) file ≡ Less) (map (file_of_deletes write) deletes)
  before-deletes run [] = tt
  before-deletes run (d ∷ deletes) = (refl, before-deletes run deletes)

  both-rise : (rows : List (Run Row)) (deletes : List (Run RowId)) → IsStrictlySortedBy file_cmp (map (file_of_rows shape write statement) rows)
      → IsStrictlySortedBy file_cmp (map (file_of_deletes write) deletes)
      → IsStrictlySortedBy file_cmp (map (file_of_rows shape write statement) rows ++ map (file_of_deletes write) deletes)
  unfolding IsStrictlySortedBy
  both-rise [] deletes h g = g
  both-rise (run ∷ rows) deletes h g = (
    all-append _ (map (file_of_rows shape write statement) rows) (map (file_of_deletes write) deletes) h.0 (before-deletes run deletes),
    both-rise rows deletes h.1 g,
  )

  files-rise : (effect : Effect) → IsStrictlySortedBy file_cmp (files_of shape write statement effect)
  unfolding files_of
  files-rise effect =
      let rows = map (place_of_row shape) effect.inserts in
      let deletes = map place_of_deleted effect.deletes in
      both-rise (runs_of (sorted_by (placed_cmp row_cmp) rows)) (runs_of (sorted_by (placed_cmp row_id_cmp) deletes))
      (rows-rise (runs_of (sorted_by (placed_cmp row_cmp) rows)) (keys-rise row_cmp row_cmp_total rows))
      (deletes-rise (runs_of (sorted_by (placed_cmp row_id_cmp) deletes)) (keys-rise row_id_cmp row_id_total deletes))

-- ---- touches

module _ {X : Type 0} (R : X → X → Ordering) (P : X → Type 0) where
  all-placed : (o : Ordering) (x y : X) (later put : List X) → P x → P y → AllByRecursion P later → AllByRecursion P put → AllByRecursion P (placed_by R o x y later put)
  all-placed Less x y later put px py pl pp = (px, (py, pl))
  all-placed Equal x y later put px py pl pp = (px, (py, pl))
  all-placed Greater x y later put px py pl pp = (py, pp)

  all-put : (x : X) (ys : List X) → P x → AllByRecursion P ys → AllByRecursion P (put_by R x ys)
  all-put x [] px h = (px, tt)
  all-put x (y ∷ ys) px h = all-placed (R x y) x y ys (put_by R x ys) px h.0 h.1 (all-put x ys px h.1)

  pub all-sorted : (xs : List X) → AllByRecursion P xs → AllByRecursion P (sorted_by R xs)
  all-sorted [] h = tt
  all-sorted (x ∷ xs) h = all-put x (sorted_by R xs) h.0 (all-sorted xs h.1)

abbrev NoBucket : Placed Bool → Type 0
NoBucket placed = placed.bucket ≡ 0

-- a run of touched rows
abbrev IsTouch : Run Bool → Type 0
IsTouch run = (run.bucket ≡ 0) × (0 < length run.items)

touch-by : (t : Bool) (run : Run Bool) (first others : List (Run Bool)) → IsTouch run → AllByRecursion IsTouch first → AllByRecursion IsTouch others
    → AllByRecursion IsTouch (cond t first (run ∷ others))
touch-by true run first others h f g = f
touch-by false run first others h f g = (h, g)

some-more : (items : List Bool) (mark : Bool) → 0 < length (items ++ mark ∷ [])
some-more [] mark = omega arith
some-more (first ∷ items) mark = omega arith

touches-from : (p : List ℕ) (b : ℕ) (items : List Bool) (xs : List (Placed Bool)) → b ≡ 0 → 0 < length items → AllByRecursion NoBucket xs → AllByRecursion IsTouch (runs_from p b items xs)
touches-from p b items [] e some h = ((e, some), tt)
touches-from p b items (x ∷ xs) e some h =
    touch-by (is_there p b x) (record { partition = p; bucket = b; items = items }) (runs_from p b (items ++ x.item ∷ []) xs)
    (runs_from x.partition x.bucket (x.item ∷ []) xs) (e, some) (touches-from p b (items ++ x.item ∷ []) xs e (some-more items x.item) h.1)
    (touches-from x.partition x.bucket (x.item ∷ []) xs h.0 (omega arith) h.1)

all-touches : (xs : List (Placed Bool)) → AllByRecursion NoBucket xs → AllByRecursion IsTouch (runs_of xs)
all-touches [] h = tt
all-touches (x ∷ xs) h = touches-from x.partition x.bucket (x.item ∷ []) xs h.0 (omega arith) h.1

inserts-no-bucket : (shape : Shape) (rows : List Row) → AllByRecursion NoBucket (map (place_of_insert shape) rows)
inserts-no-bucket shape [] = tt
inserts-no-bucket shape (row ∷ rows) = (refl, inserts-no-bucket shape rows)

deletes-no-bucket : (deletes : List Found) → AllByRecursion NoBucket (map place_of_delete deletes)
deletes-no-bucket [] = tt
deletes-no-bucket (found ∷ deletes) = (refl, deletes-no-bucket deletes)

counts-from : (a b : ℕ) (marks : List Bool)
    → fold (λ n (mark : Bool). n + cond mark 0 1) a marks + fold (λ n (mark : Bool). n + cond mark 1 0) b marks ≡ a + b + length marks
counts-from a b [] = omega arith
counts-from a b (true ∷ marks) = let e : a + 0 + (b + 1) + length marks ≡ a + b + length (true ∷ marks) = omega arith in counts-from (a + 0) (b + 1) marks ∙ e
counts-from a b (false ∷ marks) = let e : a + 1 + (b + 0) + length marks ≡ a + b + length (false ∷ marks) = omega arith in counts-from (a + 1) (b + 0) marks ∙ e

counts : (marks : List Bool) → inserted_count marks + deleted_count marks ≡ length marks
counts marks = let e : 0 + 0 + length marks ≡ length marks = omega arith in counts-from 0 0 marks ∙ e

touches-have-rows : (table : ℕ) (runs : List (Run Bool)) → AllByRecursion IsTouch runs → AllByRecursion (λ (touch : Touch). 0 < touch.inserted + touch.deleted) (map (touch_of table) runs)
touches-have-rows table [] h = tt
touches-have-rows table (run ∷ runs) h = (subst (λ n. 0 < n) (sym (counts run.items)) h.0.1, touches-have-rows table runs h.1)

pub equal-self : (n : ℕ) → nat_cmp n n ≡ Equal
equal-self n = is_equal (nat_cmp n n) (own_reverse (nat_cmp n n) (nat_cmp_total.antisymm n n))

then-equal : (a b : Ordering) → b ≡ Equal → ordering_then a b ≡ Less → a ≡ Less
then-equal Less b e h = refl
then-equal Equal b e h = cc
then-equal Greater b e h = h

touch-up : (table : ℕ) (x y : Run Bool) → IsTouch x → IsTouch y → key_cmp (run_key x) (run_key y) ≡ Less → touch_cmp (touch_of table x) (touch_of table y) ≡ Less
touch-up table x y p q e =
    let order = slice_cmp nat_cmp x.partition y.partition in
    let less : order ≡ Less = then-equal order (nat_cmp x.bucket y.bucket) ((λ i. nat_cmp (p.0 i) (q.0 i)) ∙ equal-self 0) e in
    ap (λ o. ordering_then o order) (equal-self table) ∙ less

touches-rise : (info : TableInfo) (effect : Effect) → TouchesRise (touches_of info effect)
touches-rise info effect =
    let rows = rows_touched info.shape effect in
    let runs = runs_of (sorted_by (placed_cmp bool_cmp) rows) in
    let no : AllByRecursion NoBucket rows =
    all-append NoBucket (map (place_of_insert info.shape) effect.inserts) (map place_of_delete effect.deletes)
    (inserts-no-bucket info.shape effect.inserts) (deletes-no-bucket effect.deletes) in
    let all : AllByRecursion IsTouch runs = all-touches (sorted_by (placed_cmp bool_cmp) rows) (all-sorted (placed_cmp bool_cmp) NoBucket rows no) in
    record {
      rise = made-rise IsTouch run_key (touch_of info.table.0) touch_cmp (touch-up info.table.0) runs all (keys-rise bool_cmp bool_cmp_total rows);
      some = touches-have-rows info.table.0 runs all;
    }

-- the limits let through what was made, or nothing
let-through : (above fits : Bool) (made : List Touch) → TouchesRise made
    → IfOk (cond fits (cond above (Err fault.PartitionLimit) (Ok made)) (Err fault.RowLimit)) TouchesRise
let-through above false made h = tt
let-through true true made h = tt
let-through false true made h = h

touched-rise : (info : TableInfo) (effect : Effect) → IfOk (touched info effect) TouchesRise
unfolding touched
touched-rise info effect =
    let made = touches_of info effect in
    let-through (is_above made) (list_all (stored_fits info.shape) effect.inserts) made (touches-rise info effect)

pub all-touches-rise : (info : TableInfo) (effect : Effect) (touches : List Touch) → touched info effect ≡ Ok touches → TouchesRise touches
all-touches-rise info effect touches e = subst (λ r. IfOk r TouchesRise) e (touched-rise info effect)

pub all-files-rise : (shape : Shape) (write statement : ℕ) (effect : Effect) → IsStrictlySortedBy file_cmp (files_of shape write statement effect)
all-files-rise = files-rise
