-- What a sum comes to is of the type at which its column is taken.
use Rattle.std.proofs.Common.{if◌then◌else◌, ◌≡◌, suc, Bool, true, false, not, List, [], ◌∷◌, map, length, ℤ, Option, None, Some, refl, sym, ap, ◌∙◌}
use Rattle.std.specs.Int.{int_wrap, w64}
use Rattle.std.specs.Ordering.{is_lt}
use Rattle.hv_value.specs.declared.sql_type.SqlType.{SqlType}
use Rattle.hv_value.specs.declared.sql_type.SqlType.TheVariants as type
use Rattle.hv_value.specs.declared.value.Value.{Value}
use Rattle.hv_value.specs.declared.value.Value.TheOpen.{Value-F}
use Rattle.hv_value.specs.declared.value.Value.TheVariants as value
use Rattle.hv_value.specs.declared.value.Value.TheVariants.{rolls-Bool, rolls-Big}
use Rattle.hv_value.specs.declared.value.Value.TheViews.{out-Value, out-roll-Value}
use Rattle.hv_value.specs.Order.{value_cmp}
use Rattle.hv_expr.specs.Values.{taken, taken_or_null, is_layer_of, layer_is_null, or_null}
use Rattle.hv_expr.specs.Groups.{those, known, sum_value, first_of, last_of, least, greatest, comparable}

unfoldable pub Fits : SqlType → Value → Type 0
Fits kind v = taken kind v ≡ v

abbrev pub Fits_if : SqlType → Option Value → Type 0
Fits_if kind None = Unit {0}
Fits_if kind (Some v) = Fits kind v

abbrev pub AllFit : SqlType → List Value → Type 0
AllFit kind [] = Unit {0}
AllFit kind (v ∷ vs) = Fits kind v × AllFit kind vs

pub null_fits : (kind : SqlType) → Fits kind value.Null
unfolding Fits taken
null_fits kind = by (is_layer_of kind (out-Value value.Null))
  where
    by : (b : Bool) → (if b then value.Null else value.Null) ≡ value.Null
    by true = refl
    by false = refl

pub big_fits : (z : ℤ) → Fits type.BigInt (value.Big z)
unfolding Fits taken
big_fits z = ap (λ l. if is_layer_of type.BigInt l then value.Big z else value.Null) (ap out-Value (sym (rolls-Big z)) ∙ out-roll-Value (Value-F.Big z))

pub taken_fits : (kind : SqlType) (v : Value) → Fits kind (taken kind v)
unfolding Fits taken
taken_fits kind v = by (is_layer_of kind (out-Value v)) refl
  where
    by : (b : Bool) → is_layer_of kind (out-Value v) ≡ b → taken kind (taken kind v) ≡ taken kind v
    by true e = ap (taken kind) (ap (λ b. if b then v else value.Null) e)
    by false e = ap (taken kind) (ap (λ b. if b then v else value.Null) e) ∙ null_fits kind ∙ sym (ap (λ b. if b then v else value.Null) e)

pub column_fits : (kind : SqlType) (o : Option Value) → Fits kind (taken_or_null kind o)
column_fits kind None = null_fits kind
column_fits kind (Some v) = taken_fits kind v

pub sum_fits : (o : Option ℤ) → Fits type.BigInt (sum_value o)
sum_fits None = null_fits type.BigInt
sum_fits (Some z) = big_fits (int_wrap w64 z)

-- ---- the least and the greatest

module _ (kind : SqlType) where
  either_fits : (b : Bool) (v w : Value) → Fits kind v → Fits kind w → Fits kind (if b then v else w)
  either_fits true v w f g = f
  either_fits false v w f g = g

  first_fits : (v : Value) (o : Option Value) → Fits kind v → Fits_if kind o → Fits kind (first_of v o)
  first_fits v None f g = f
  first_fits v (Some w) f g = either_fits (is_lt (value_cmp w v)) w v g f

  last_fits : (v : Value) (o : Option Value) → Fits kind v → Fits_if kind o → Fits kind (last_of v o)
  last_fits v None f g = f
  last_fits v (Some w) f g = either_fits (is_lt (value_cmp v w)) w v g f

  least_fits : (vs : List Value) → AllFit kind vs → Fits_if kind (least vs)
  least_fits [] f = tt
  least_fits (v ∷ vs) f = first_fits v (least vs) f.0 (least_fits vs f.1)

  greatest_fits : (vs : List Value) → AllFit kind vs → Fits_if kind (greatest vs)
  greatest_fits [] f = tt
  greatest_fits (v ∷ vs) f = last_fits v (greatest vs) f.0 (greatest_fits vs f.1)

  those_fit : (test : Value → Bool) (vs : List Value) → AllFit kind vs → AllFit kind (those test vs)
  those_fit test [] f = tt
  those_fit test (v ∷ vs) f = by (test v) (those_fit test vs f.1)
    where
      by : (b : Bool) → AllFit kind (those test vs) → AllFit kind (if b then v ∷ those test vs else those test vs)
      by true g = (f.0, g)
      by false g = g

  null_or_fits : (o : Option Value) → Fits_if kind o → Fits kind (or_null o)
  null_or_fits None f = null_fits kind
  null_or_fits (Some v) f = f

  pub min_fits : (vs : List Value) → AllFit kind vs → Fits kind (or_null (least (those comparable vs)))
  min_fits vs f = null_or_fits (least (those comparable vs)) (least_fits (those comparable vs) (those_fit comparable vs f))

  pub max_fits : (vs : List Value) → AllFit kind vs → Fits kind (or_null (greatest (those comparable vs)))
  max_fits vs f = null_or_fits (greatest (those comparable vs)) (greatest_fits (those comparable vs) (those_fit comparable vs f))

  pub columns_fit : {R : Type 0} (at : R → Option Value) (rows : List R) → AllFit kind (map (λ row. taken_or_null kind (at row)) rows)
  columns_fit at [] = tt
  columns_fit at (row ∷ rows) = (column_fits kind (at row), columns_fit at rows)

-- ---- rows are counted as values that aren't NULL

truth_known : known (value.Bool true) ≡ true
truth_known = ap (λ l. not (layer_is_null l)) (ap out-Value (sym (rolls-Bool true)) ∙ out-roll-Value (Value-F.Bool true))

pub all_known : {R : Type 0} (rows : List R) → length (those known (map (λ (row : R). value.Bool true) rows)) ≡ length rows
all_known [] = refl
all_known {R} (row ∷ rows) =
    let rest = map (λ (row : R). value.Bool true) rows in
    ap (λ b. length (if b then value.Bool true ∷ those known rest else those known rest)) truth_known ∙ ap suc (all_known rows)
