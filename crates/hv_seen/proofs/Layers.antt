-- A value and its layer.
use Rattle.std.proofs.Common.{◌≡◌, ℤ, Option}
use Rattle.std.specs.Int.{Width}
use Rattle.hv_value.specs.declared.value.Value.{Value}
use Rattle.hv_value.specs.declared.value.Value.TheOpen.{Value-F}
use Rattle.hv_value.specs.declared.value.Value.TheViews.{roll-Value, out-Value, out-roll-Value}
use Rattle.hv_value.specs.declared.value.Value.TheVariants as value
use Rattle.hv_value.specs.declared.value.Value.TheVariants.{rolls-Null, rolls-Bool, rolls-Int, rolls-Big, rolls-Str, rolls-Day, rolls-Array}
use Rattle.std.proofs.lemmas.Int.{wraps}
use Rattle.hv_value.specs.declared.sql_type.SqlType.{SqlType}
use Rattle.hv_value.specs.Conversion.{converted, from_layer}
use Rattle.hv_expr.specs.Values.{by, layers_by, by_one, layer_by_one, compare, layers_compare}

pub ruleset layers = (out-roll-Value, rolls-Null, rolls-Bool, rolls-Int, rolls-Big, rolls-Str, rolls-Day, rolls-Array)

pub ruleset wrapping = (wraps)

pub by-layers : (f : Width → ℤ → ℤ → Option ℤ) (x y : Value-F Value) → by f (roll-Value x) (roll-Value y) ≡ layers_by f x y
unfolding by
by-layers f x y = λ i. layers_by f (out-roll-Value x i) (out-roll-Value y i)

pub by_one-layer : (f : ℤ → ℤ) (x : Value-F Value) → by_one f (roll-Value x) ≡ layer_by_one f x
unfolding by_one
by_one-layer f x = λ i. layer_by_one f (out-roll-Value x i)

pub ruleset sums = (by-layers, by_one-layer)

pub compare-layers : (x y : Value-F Value) → compare (roll-Value x) (roll-Value y) ≡ layers_compare x y
unfolding compare
compare-layers x y = λ i. layers_compare (out-roll-Value x i) (out-roll-Value y i)

pub ruleset comparisons = (compare-layers)

pub ruleset takes = (rolls-Null, rolls-Bool, rolls-Int, rolls-Big, rolls-Str, rolls-Day, rolls-Array)

pub converted-layer : (x : Value-F Value) (to : SqlType) → converted (roll-Value x) to ≡ from_layer x to
unfolding converted
converted-layer x to = λ i. from_layer (out-roll-Value x i) to

pub ruleset casts = (converted-layer)
