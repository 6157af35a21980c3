-- The laws of the order: it is total, and values that it doesn't tell apart are one value.
use Rattle.std.specs.Prelude.{◌≡◌, ℕ, zero, suc, ◌<◌, Bool, true, false, List, [], ◌∷◌, ℤ, refl, map, max, ◌==◌, cond, IsSorted, IsPermutation}
use Rattle.std.specs.declared.cmp.Ordering.{Ordering}
use Rattle.std.specs.declared.cmp.Ordering.TheVariants.{Less, Equal, Greater}
use Rattle.std.specs.Ordering.{ordering_then, bool_cmp, is_eq}
use Rattle.std.specs.Bool.{Decides}
use Rattle.std.specs.Cmp.{Equal-is, tied_itself, IsTotalOrder, then_total, on_total, nat_cmp_total, int_cmp_total, bool_cmp_total}
use Rattle.std.specs.Cmp.Lexicographic.{slice_cmp, lists_total, nat_list_cmp_total}
use Rattle.std.specs.Cmp.Derive.{point_total}
use Rattle.std.specs.FinMap.{IsAntisymmetric, nat_cmp-IsAntisymmetric, int_cmp-IsAntisymmetric, slice_cmp-IsAntisymmetric}
use Rattle.std.specs.Cmp.Derive.Recursive.{ConvergesTo, limit_total}
use Rattle.std.proofs.Common.{sym, ap, ◌∙◌, arith, subst}
use Rattle.hv_value.specs.declared.row.Row.{Row}
use Rattle.hv_value.specs.declared.value.Value.{Value}
use Rattle.hv_value.specs.declared.value.Value.TheOpen.{Value-F}
use Rattle.hv_value.specs.declared.value.Value.TheFolds.{fold-Value, fold_out-Value, ind-Value, map-Value}
use Rattle.hv_value.specs.declared.value.Value.TheViews.{out-Value, roll-Value, out-roll-Value, roll-out-Value}
use Rattle.hv_base.proofs.SortingLaws.{sorted_same}
use Rattle.hv_value.specs.Order.{value_cmp, row_cmp, scalar_cmp, layer_cmp, compares_with, kind_of, truth_of, number_of, width_of, bytes_of, items_of}

-- ---- the order's equation

slice_cmp-applied : (xs ys : List Value) → slice_cmp (λ (item : Value → Ordering) other. item other) (map value_cmp xs) ys ≡ slice_cmp value_cmp xs ys
slice_cmp-applied [] [] = refl
slice_cmp-applied [] (y ∷ ys) = refl
slice_cmp-applied (x ∷ xs) [] = refl
slice_cmp-applied (x ∷ xs) (y ∷ ys) = ap (ordering_then (value_cmp x y)) (slice_cmp-applied xs ys)

layer_cmp-mapped : (x : Value-F Value) (y : Value) → compares_with (map-Value Value (Value → Ordering) value_cmp x) y ≡ layer_cmp value_cmp x (out-Value y)
unfolding scalar_cmp layer_cmp
layer_cmp-mapped Value-F.Null y = refl
layer_cmp-mapped (Value-F.Bool b) y = refl
layer_cmp-mapped (Value-F.Int n) y = refl
layer_cmp-mapped (Value-F.Big n) y = refl
layer_cmp-mapped (Value-F.Str t) y = refl
layer_cmp-mapped (Value-F.Day n) y = refl
layer_cmp-mapped (Value-F.Array xs) y =
    ap (ordering_then (scalar_cmp (Value-F.Array xs) (out-Value y))) (slice_cmp-applied xs (items_of (out-Value y)))

-- values compare by kind, and then by what they hold
pub value_cmp-out : (x y : Value) → value_cmp x y ≡ layer_cmp value_cmp (out-Value x) (out-Value y)
unfolding value_cmp
value_cmp-out x y =
    ap (λ (f : Value → Ordering). f y) (fold_out-Value (Value → Ordering) compares_with x) ∙ layer_cmp-mapped (out-Value x) y

-- ---- it is total: to each depth of arrays, and so at all

most : List ℕ → ℕ
most [] = 0
most (n ∷ ns) = max n (most ns)

deepens : Value-F ℕ → ℕ
deepens x = suc (most (items_of x))

depth : Value → ℕ
depth = fold-Value ℕ deepens

depth-mapped : (x : Value-F Value) → deepens (map-Value Value ℕ depth x) ≡ suc (most (map depth (items_of x)))
unfolding deepens
depth-mapped Value-F.Null = refl
depth-mapped (Value-F.Bool b) = refl
depth-mapped (Value-F.Int n) = refl
depth-mapped (Value-F.Big n) = refl
depth-mapped (Value-F.Str t) = refl
depth-mapped (Value-F.Day n) = refl
depth-mapped (Value-F.Array xs) = refl

depth-out : (x : Value) → depth x ≡ suc (most (map depth (items_of (out-Value x))))
unfolding depth
depth-out x = fold_out-Value ℕ deepens x ∙ depth-mapped (out-Value x)

cmp_to : ℕ → Value → Value → Ordering
cmp_to zero x y = Equal
cmp_to (suc n) x y = layer_cmp (cmp_to n) (out-Value x) (out-Value y)

layer_total : {R : Value → Value → Ordering} → IsTotalOrder R → IsTotalOrder (λ (x y : Value). layer_cmp R (out-Value x) (out-Value y))
unfolding scalar_cmp layer_cmp
layer_total o =
    let kinds = on_total (λ (x : Value). kind_of (out-Value x)) nat_cmp_total in
    let truths = then_total kinds (on_total (λ (x : Value). truth_of (out-Value x)) bool_cmp_total) in
    let numbers = then_total truths (on_total (λ (x : Value). number_of (out-Value x)) int_cmp_total) in
    let widths = then_total numbers (on_total (λ (x : Value). width_of (out-Value x)) nat_cmp_total) in
    let bytes = then_total widths (on_total (λ (x : Value). bytes_of (out-Value x)) nat_list_cmp_total) in
    then_total bytes (on_total (λ (x : Value). items_of (out-Value x)) (lists_total o))

cmp_to_total : (n : ℕ) → IsTotalOrder (cmp_to n)
unfolding cmp_to
cmp_to_total zero = point_total
cmp_to_total (suc n) = layer_total (cmp_to_total n)

slice_cmp-alike : (R S : Value → Value → Ordering) (n : ℕ) → ((x y : Value) → depth x < n → depth y < n → R x y ≡ S x y)
    → (xs ys : List Value) → most (map depth xs) < n → most (map depth ys) < n → slice_cmp R xs ys ≡ slice_cmp S xs ys
unfolding most
slice_cmp-alike R S n alike [] [] p q = refl
slice_cmp-alike R S n alike [] (y ∷ ys) p q = refl
slice_cmp-alike R S n alike (x ∷ xs) [] p q = refl
slice_cmp-alike R S n alike (x ∷ xs) (y ∷ ys) p q =
    let first = alike x y (omega arith) (omega arith) in
    let rest = slice_cmp-alike R S n alike xs ys (omega arith) (omega arith) in
    λ i. ordering_then (first i) (rest i)

layer_cmp-alike : (R S : Value → Value → Ordering) (x y : Value-F Value) → slice_cmp R (items_of x) (items_of y) ≡ slice_cmp S (items_of x) (items_of y)
    → layer_cmp R x y ≡ layer_cmp S x y
unfolding layer_cmp
layer_cmp-alike R S x y e = ap (ordering_then (scalar_cmp x y)) e

converges : ConvergesTo depth cmp_to value_cmp
unfolding cmp_to
converges zero x y p q = absurd (omega arith)
converges (suc n) x y p q =
    layer_cmp-alike (cmp_to n) value_cmp (out-Value x) (out-Value y)
    (slice_cmp-alike (cmp_to n) value_cmp n (converges n) (items_of (out-Value x)) (items_of (out-Value y))
    (omega (arith, depth-out x)) (omega (arith, depth-out y)))
    ∙ sym (value_cmp-out x y)

pub value_cmp_total : IsTotalOrder value_cmp
value_cmp_total = limit_total depth cmp_to value_cmp converges cmp_to_total

-- ---- what it doesn't tell apart is one value

pub then_first : (a b : Ordering) → ordering_then a b ≡ Equal → a ≡ Equal
then_first Less b e = cc
then_first Equal b e = refl
then_first Greater b e = cc

pub then_second : (a b : Ordering) → ordering_then a b ≡ Equal → b ≡ Equal
then_second Less b e = cc
then_second Equal b e = e
then_second Greater b e = cc

bool_cmp-same : (x y : Bool) → bool_cmp x y ≡ Equal → x ≡ y
bool_cmp-same false false e = refl
bool_cmp-same false true e = cc
bool_cmp-same true false e = cc
bool_cmp-same true true e = refl

-- a layer from what the order compares
rebuild : {A : Type 0} → ℕ → Bool → ℤ → ℕ → List ℕ → List A → Value-F A
rebuild kind truth number width bytes items =
    cond (kind == 0) Value-F.Null
    (cond (kind == 1) (Value-F.Bool truth)
    (cond (kind == 2) (cond (width == 0) (Value-F.Int number) (Value-F.Big number))
    (cond (kind == 3) (Value-F.Str bytes)
    (cond (kind == 4) (Value-F.Day number) (Value-F.Array items)))))

rebuilt : {A : Type 0} (x : Value-F A) → rebuild (kind_of x) (truth_of x) (number_of x) (width_of x) (bytes_of x) (items_of x) ≡ x
unfolding rebuild
rebuilt Value-F.Null = refl
rebuilt (Value-F.Bool b) = refl
rebuilt (Value-F.Int n) = refl
rebuilt (Value-F.Big n) = refl
rebuilt (Value-F.Str t) = refl
rebuilt (Value-F.Day n) = refl
rebuilt (Value-F.Array xs) = refl

layer_cmp-same : (x y : Value-F Value) → (slice_cmp value_cmp (items_of x) (items_of y) ≡ Equal → items_of x ≡ items_of y)
    → layer_cmp value_cmp x y ≡ Equal → x ≡ y
unfolding scalar_cmp layer_cmp
layer_cmp-same x y same e =
    let scalars = then_first _ _ e in
    let widths = then_first _ _ scalars in
    let numbers = then_first _ _ widths in
    let truths = then_first _ _ numbers in
    let kind = nat_cmp-IsAntisymmetric (kind_of x) (kind_of y) (then_first _ _ truths) in
    let truth = bool_cmp-same (truth_of x) (truth_of y) (then_second _ _ truths) in
    let number = int_cmp-IsAntisymmetric (number_of x) (number_of y) (then_second _ _ numbers) in
    let width = nat_cmp-IsAntisymmetric (width_of x) (width_of y) (then_second _ _ widths) in
    let bytes = slice_cmp-IsAntisymmetric nat_cmp-IsAntisymmetric (bytes_of x) (bytes_of y) (then_second _ _ scalars) in
    let items = same (then_second _ _ e) in
    sym (rebuilt x) ∙ (λ i. rebuild (kind i) (truth i) (number i) (width i) (bytes i) (items i)) ∙ rebuilt y

Tells : Value → Type 0
Tells x = (y : Value) → value_cmp x y ≡ Equal → x ≡ y

slice_cmp-same : (xs : List ((x : Value) × Tells x)) (ys : List Value) → slice_cmp value_cmp (map (λ e. e.0) xs) ys ≡ Equal → map (λ e. e.0) xs ≡ ys
unfolding Tells
slice_cmp-same [] [] e = refl
slice_cmp-same [] (y ∷ ys) e = cc
slice_cmp-same (x ∷ xs) [] e = cc
slice_cmp-same (x ∷ xs) (y ∷ ys) e =
    let first = x.1 y (then_first _ _ e) in
    let rest = slice_cmp-same xs ys (then_second _ _ e) in
    λ i. first i ∷ rest i

items-mapped : (k : Value-F ((x : Value) × Tells x)) → items_of (map-Value ((x : Value) × Tells x) Value (λ e. e.0) k) ≡ map (λ e. e.0) (items_of k)
items-mapped Value-F.Null = refl
items-mapped (Value-F.Bool b) = refl
items-mapped (Value-F.Int n) = refl
items-mapped (Value-F.Big n) = refl
items-mapped (Value-F.Str t) = refl
items-mapped (Value-F.Day n) = refl
items-mapped (Value-F.Array xs) = refl

tells-layer : (x : Value-F Value) (k : Value-F ((x : Value) × Tells x)) → map-Value ((x : Value) × Tells x) Value (λ e. e.0) k ≡ x
    → Tells (roll-Value x)
unfolding Tells
tells-layer x k is y e =
    let items : map (λ e. e.0) (items_of k) ≡ items_of x = sym (items-mapped k) ∙ ap items_of is in
    let same = subst (λ xs. slice_cmp value_cmp xs (items_of (out-Value y)) ≡ Equal → xs ≡ items_of (out-Value y)) items
    (slice_cmp-same (items_of k) (items_of (out-Value y))) in
    let layers : x ≡ out-Value y = layer_cmp-same x (out-Value y) same (subst (λ l. layer_cmp value_cmp l (out-Value y) ≡ Equal) (out-roll-Value x) (sym (value_cmp-out (roll-Value x) y) ∙ e)) in
    ap roll-Value layers ∙ roll-out-Value y

pub value_cmp-IsAntisymmetric : IsAntisymmetric value_cmp
unfolding Tells
value_cmp-IsAntisymmetric = ind-Value Tells tells-layer

-- ---- rows

pub row_cmp_total : IsTotalOrder row_cmp
unfolding row_cmp
row_cmp_total = on_total (λ (row : Row). row.values) (lists_total value_cmp_total)

pub row_cmp-IsAntisymmetric : IsAntisymmetric row_cmp
unfolding row_cmp
row_cmp-IsAntisymmetric x y e =
    let values = slice_cmp-IsAntisymmetric value_cmp-IsAntisymmetric x.values y.values e in
    λ i. record { values = values i }

-- ---- `==`, which is true exactly where two are one value

exact : {K : Type 0} {R : K → K → Ordering} → IsTotalOrder R → IsAntisymmetric R → (x y : K) → Decides (is_eq (R x y)) (x ≡ y)
exact {R = R} total same x y =
    (λ e. same x y ((Equal-is (R x y)).0 e), λ e. (Equal-is (R x y)).1 (ap (R x) (sym e) ∙ tied_itself total x))

pub value_eq-exact : (x y : Value) → Decides (is_eq (value_cmp x y)) (x ≡ y)
value_eq-exact = exact value_cmp_total value_cmp-IsAntisymmetric

pub row_eq-exact : (x y : Row) → Decides (is_eq (row_cmp x y)) (x ≡ y)
row_eq-exact = exact row_cmp_total row_cmp-IsAntisymmetric

pub ruleset exactness = (value_eq-exact, row_eq-exact)

-- ---- sorted rows

pub sorted_rows-same : (xs ys : List Row) → IsSorted row_cmp xs → IsSorted row_cmp ys → IsPermutation xs ys → xs ≡ ys
sorted_rows-same = sorted_same row_cmp_total row_cmp-IsAntisymmetric

pub ruleset sortings = (sorted_rows-same)
