-- What is equal feeds a hasher alike.
use Rattle.std.specs.Prelude.{◌≡◌, ℕ, ℤ, Bool, List, [], ◌∷◌, ◌++◌, length, refl, map}
use Rattle.std.specs.Hash as fed
use Rattle.std.specs.Hash.{HashWrites, Alike, same_Alike}
use Rattle.std.specs.Ordering.{eq_by_cmp}
use Rattle.std.specs.List.{flat_map}
use Rattle.std.proofs.Common.{sym, ap, ◌∙◌}
use Rattle.std.proofs.lemmas.List.{length-map}
use Rattle.hv_value.specs.declared.value.Value.{Value}
use Rattle.hv_value.specs.declared.value.Value.TheOpen.{Value-F}
use Rattle.hv_value.specs.declared.value.Value.TheFolds.{fold_out-Value, map-Value}
use Rattle.hv_value.specs.declared.value.Value.TheVariants.{Null, Bool as Bool', Int, Big, Str, Day, Array, rolls-Null, rolls-Bool, rolls-Int, rolls-Big, rolls-Str, rolls-Day, rolls-Array}
use Rattle.hv_value.specs.declared.value.Value.TheViews.{out-Value, out-roll-Value}
use Rattle.hv_value.specs.Order.{value_cmp, row_cmp}
use Rattle.hv_value.specs.OrderLaws.{value_eq-exact, row_eq-exact}
use Rattle.hv_value.specs.Hashing.{layer_writes, value_writes, row_writes}

pub value_hash : Alike (eq_by_cmp value_cmp) value_writes
value_hash = same_Alike value_writes value_eq-exact

pub row_hash : Alike (eq_by_cmp row_cmp) row_writes
row_hash = same_Alike row_writes row_eq-exact

items-writes : (xs : List Value) → flat_map (λ (item : HashWrites). item) (map value_writes xs) ≡ flat_map value_writes xs
items-writes [] = refl
items-writes (x ∷ xs) = ap (λ rest. value_writes x ++ rest) (items-writes xs)

-- a layer's writes, with the values themselves as the items
abbrev pub writes_of : Value-F Value → HashWrites
writes_of Value-F.Null = fed.u8 0
writes_of (Value-F.Bool b) = fed.u8 1 ++ fed.bool b
writes_of (Value-F.Int n) = fed.u8 2 ++ fed.i32 n
writes_of (Value-F.Big n) = fed.u8 3 ++ fed.i64 n
writes_of (Value-F.Str text) = fed.u8 4 ++ fed.str text
writes_of (Value-F.Day n) = fed.u8 5 ++ fed.i32 n
writes_of (Value-F.Array items) = fed.u8 6 ++ (fed.usize (length items) ++ flat_map value_writes items)

layer_writes-mapped : (x : Value-F Value) → layer_writes (map-Value Value HashWrites value_writes x) ≡ writes_of x
layer_writes-mapped Value-F.Null = refl
layer_writes-mapped (Value-F.Bool b) = refl
layer_writes-mapped (Value-F.Int n) = refl
layer_writes-mapped (Value-F.Big n) = refl
layer_writes-mapped (Value-F.Str t) = refl
layer_writes-mapped (Value-F.Day n) = refl
layer_writes-mapped (Value-F.Array xs) =
    λ i. fed.u8 6 ++ (fed.usize (length-map xs value_writes i) ++ items-writes xs i)

pub value_writes-out : (x : Value) → value_writes x ≡ writes_of (out-Value x)
unfolding value_writes
value_writes-out x = fold_out-Value HashWrites layer_writes x ∙ layer_writes-mapped (out-Value x)

-- what each variant writes
pub writes-Null : value_writes Null ≡ fed.u8 0
writes-Null = value_writes-out Null ∙ ap writes_of (ap out-Value (sym rolls-Null) ∙ out-roll-Value Value-F.Null)

pub writes-Bool : (b : Bool) → value_writes (Bool' b) ≡ fed.u8 1 ++ fed.bool b
writes-Bool b = value_writes-out (Bool' b) ∙ ap writes_of (ap out-Value (sym (rolls-Bool b)) ∙ out-roll-Value (Value-F.Bool b))

pub writes-Int : (n : ℤ) → value_writes (Int n) ≡ fed.u8 2 ++ fed.i32 n
writes-Int n = value_writes-out (Int n) ∙ ap writes_of (ap out-Value (sym (rolls-Int n)) ∙ out-roll-Value (Value-F.Int n))

pub writes-Big : (n : ℤ) → value_writes (Big n) ≡ fed.u8 3 ++ fed.i64 n
writes-Big n = value_writes-out (Big n) ∙ ap writes_of (ap out-Value (sym (rolls-Big n)) ∙ out-roll-Value (Value-F.Big n))

pub writes-Str : (text : List ℕ) → value_writes (Str text) ≡ fed.u8 4 ++ fed.str text
writes-Str text = value_writes-out (Str text) ∙ ap writes_of (ap out-Value (sym (rolls-Str text)) ∙ out-roll-Value (Value-F.Str text))

pub writes-Day : (n : ℤ) → value_writes (Day n) ≡ fed.u8 5 ++ fed.i32 n
writes-Day n = value_writes-out (Day n) ∙ ap writes_of (ap out-Value (sym (rolls-Day n)) ∙ out-roll-Value (Value-F.Day n))

pub writes-Array : (items : List Value) → value_writes (Array items) ≡ fed.u8 6 ++ (fed.usize (length items) ++ flat_map value_writes items)
writes-Array items =
    value_writes-out (Array items) ∙ ap writes_of (ap out-Value (sym (rolls-Array items)) ∙ out-roll-Value (Value-F.Array items))
