-- The printed text of each kind of value.
use Rattle.std.specs.Prelude.{◌≡◌, ℕ, ℤ, Bool, true, List, [], ◌∷◌, map, refl, codes}
use Rattle.std.specs.Fmt.{signed_decimal}
use Rattle.std.proofs.Common.{sym, ap, ◌∙◌}
use Rattle.hv_value.specs.declared.value.Value.{Value}
use Rattle.hv_value.specs.declared.value.Value.TheOpen.{Value-F}
use Rattle.hv_value.specs.declared.value.Value.TheFolds.{fold_out-Value, map-Value}
use Rattle.hv_value.specs.declared.value.Value.TheVariants.{Null, Bool as Bool', Int, Big, Str, Day, Array, rolls-Null, rolls-Bool, rolls-Int, rolls-Big, rolls-Str, rolls-Day, rolls-Array}
use Rattle.hv_value.specs.declared.value.Value.TheViews.{out-Value, roll-Value, out-roll-Value}
use Rattle.hv_value.specs.Dates.{day_text}
use Rattle.hv_value.specs.Printing.{layer_text, text_of, truth_text, string_text, array_text, item_text}

texts-applied : (xs : List Value) → map (λ (item : Bool → List ℕ). item true) (map text_of xs) ≡ map (λ item. text_of item true) xs
texts-applied [] = refl
texts-applied (x ∷ xs) = ap (λ rest. text_of x true ∷ rest) (texts-applied xs)

-- a layer's text, with the values themselves as the items
abbrev shows : Value-F Value → Bool → List ℕ
shows (Value-F.Array items) in_array = array_text (map item_text items)
shows Value-F.Null in_array = codes "NULL"
shows (Value-F.Bool b) in_array = truth_text b
shows (Value-F.Int n) in_array = signed_decimal n
shows (Value-F.Big n) in_array = signed_decimal n
shows (Value-F.Str text) in_array = string_text in_array text
shows (Value-F.Day n) in_array = day_text n

layer_text-mapped : (x : Value-F Value) (q : Bool) → layer_text (map-Value Value (Bool → List ℕ) text_of x) q ≡ shows x q
layer_text-mapped Value-F.Null q = refl
layer_text-mapped (Value-F.Bool b) q = refl
layer_text-mapped (Value-F.Int n) q = refl
layer_text-mapped (Value-F.Big n) q = refl
layer_text-mapped (Value-F.Str t) q = refl
layer_text-mapped (Value-F.Day n) q = refl
layer_text-mapped (Value-F.Array xs) q = ap array_text (texts-applied xs)

text_of-out : (x : Value) (q : Bool) → text_of x q ≡ shows (out-Value x) q
unfolding text_of
text_of-out x q =
    ap (λ (f : Bool → List ℕ). f q) (fold_out-Value (Bool → List ℕ) layer_text x) ∙ layer_text-mapped (out-Value x) q

text_of-roll : (x : Value) (y : Value-F Value) (q : Bool) → x ≡ roll-Value y → text_of x q ≡ shows y q
text_of-roll x y q e = text_of-out x q ∙ ap (λ l. shows l q) (ap out-Value e ∙ out-roll-Value y)

pub text_of-Null : (q : Bool) → text_of Null q ≡ codes "NULL"
text_of-Null q = text_of-roll Null Value-F.Null q (sym rolls-Null)

pub text_of-Bool : (b q : Bool) → text_of (Bool' b) q ≡ truth_text b
text_of-Bool b q = text_of-roll (Bool' b) (Value-F.Bool b) q (sym (rolls-Bool b))

pub text_of-Int : (n : ℤ) (q : Bool) → text_of (Int n) q ≡ signed_decimal n
text_of-Int n q = text_of-roll (Int n) (Value-F.Int n) q (sym (rolls-Int n))

pub text_of-Big : (n : ℤ) (q : Bool) → text_of (Big n) q ≡ signed_decimal n
text_of-Big n q = text_of-roll (Big n) (Value-F.Big n) q (sym (rolls-Big n))

pub text_of-Str : (text : List ℕ) (q : Bool) → text_of (Str text) q ≡ string_text q text
text_of-Str text q = text_of-roll (Str text) (Value-F.Str text) q (sym (rolls-Str text))

pub text_of-Day : (n : ℤ) (q : Bool) → text_of (Day n) q ≡ day_text n
text_of-Day n q = text_of-roll (Day n) (Value-F.Day n) q (sym (rolls-Day n))

pub text_of-Array : (items : List Value) (q : Bool) → text_of (Array items) q ≡ array_text (map item_text items)
text_of-Array items q = text_of-roll (Array items) (Value-F.Array items) q (sym (rolls-Array items))
