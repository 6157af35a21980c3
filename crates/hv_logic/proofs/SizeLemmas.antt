-- The bytes of a value, variant by variant.
use Rattle.std.proofs.Common.{◌≡◌, ℕ, ◌+◌, List, length, map, sum, sum_by, refl, sym, ap, ◌∙◌}
use Rattle.hv_value.specs.declared.value.Value.{Value}
use Rattle.hv_value.specs.declared.value.Value.TheOpen.{Value-F}
use Rattle.hv_value.specs.declared.value.Value.TheFolds.{fold_out-Value, map-Value}
use Rattle.hv_value.specs.declared.value.Value.TheVariants as value
use Rattle.hv_value.specs.declared.value.Value.TheVariants.{rolls-Null, rolls-Bool, rolls-Int, rolls-Big, rolls-Str, rolls-Day, rolls-Array}
use Rattle.hv_value.specs.declared.value.Value.TheViews.{out-Value, out-roll-Value}
use Rattle.std.specs.Prelude.{ℤ, Bool}
use Rattle.std.proofs.lemmas.List.Folds.{fold-map}
use Rattle.hv_logic.specs.Sizes.{layer_size, stored_size}

-- a layer's bytes, with the values themselves as the items
abbrev size_of : Value-F Value → ℕ
size_of Value-F.Null = 1
size_of (Value-F.Bool b) = 2
size_of (Value-F.Int n) = 5
size_of (Value-F.Big n) = 9
size_of (Value-F.Str text) = 5 + length text
size_of (Value-F.Day n) = 5
size_of (Value-F.Array items) = 5 + sum_by stored_size items

items-sizes : (xs : List Value) → sum (map stored_size xs) ≡ sum_by stored_size xs
items-sizes xs = fold-map ◌+◌ stored_size 0 xs

layer_size-mapped : (x : Value-F Value) → layer_size (map-Value Value ℕ stored_size x) ≡ size_of x
layer_size-mapped Value-F.Null = refl
layer_size-mapped (Value-F.Bool b) = refl
layer_size-mapped (Value-F.Int n) = refl
layer_size-mapped (Value-F.Big n) = refl
layer_size-mapped (Value-F.Str t) = refl
layer_size-mapped (Value-F.Day n) = refl
layer_size-mapped (Value-F.Array xs) = ap (λ n. 5 + n) (items-sizes xs)

stored_size-out : (x : Value) → stored_size x ≡ size_of (out-Value x)
unfolding stored_size
stored_size-out x = fold_out-Value ℕ layer_size x ∙ layer_size-mapped (out-Value x)

pub size-Null : stored_size value.Null ≡ 1
size-Null = stored_size-out value.Null ∙ ap size_of (ap out-Value (sym rolls-Null) ∙ out-roll-Value Value-F.Null)

pub size-Bool : (b : Bool) → stored_size (value.Bool b) ≡ 2
size-Bool b = stored_size-out (value.Bool b) ∙ ap size_of (ap out-Value (sym (rolls-Bool b)) ∙ out-roll-Value (Value-F.Bool b))

pub size-Int : (n : ℤ) → stored_size (value.Int n) ≡ 5
size-Int n = stored_size-out (value.Int n) ∙ ap size_of (ap out-Value (sym (rolls-Int n)) ∙ out-roll-Value (Value-F.Int n))

pub size-Big : (n : ℤ) → stored_size (value.Big n) ≡ 9
size-Big n = stored_size-out (value.Big n) ∙ ap size_of (ap out-Value (sym (rolls-Big n)) ∙ out-roll-Value (Value-F.Big n))

pub size-Str : (t : List ℕ) → stored_size (value.Str t) ≡ 5 + length t
size-Str t = stored_size-out (value.Str t) ∙ ap size_of (ap out-Value (sym (rolls-Str t)) ∙ out-roll-Value (Value-F.Str t))

pub size-Day : (n : ℤ) → stored_size (value.Day n) ≡ 5
size-Day n = stored_size-out (value.Day n) ∙ ap size_of (ap out-Value (sym (rolls-Day n)) ∙ out-roll-Value (Value-F.Day n))

pub size-Array : (xs : List Value) → stored_size (value.Array xs) ≡ 5 + sum_by stored_size xs
size-Array xs = stored_size-out (value.Array xs) ∙ ap size_of (ap out-Value (sym (rolls-Array xs)) ∙ out-roll-Value (Value-F.Array xs))
