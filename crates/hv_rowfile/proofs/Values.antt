-- Values by their kinds.
use Rattle.std.proofs.Common.{◌≡◌, ℕ, ◌+◌, ◌^◌, ◌<◌, Bool, List, [], ◌∷◌, ◌++◌, length, ℤ, refl, sym, ap, ◌∙◌, subst, append_assoc, arith}
use Rattle.std.specs.Prelude.{IsTrue, FitsSigned}
use Rattle.std.specs.Int.{w32, w64, cast_unsigned}
use Rattle.std.specs.List.{flat_map, AllByRecursion}
use Rattle.std.proofs.lemmas.List.{length-append}
use Rattle.hv_value.specs.Dates.{is_day}
use Rattle.hv_value.specs.declared.value.Value.{Value}
use Rattle.hv_value.specs.declared.value.Value.TheOpen.{Value-F}
use Rattle.hv_value.specs.declared.value.Value.TheVariants.{Null, Bool as Bool', Int, Big, Str, Day, Array, rolls-Null, rolls-Bool, rolls-Int, rolls-Big, rolls-Str, rolls-Day, rolls-Array}
use Rattle.hv_value.specs.declared.value.Value.TheViews.{out-Value, roll-Value, out-roll-Value, roll-out-Value}
use Rattle.hv_bytes.specs.Spelling.{four_bytes, text_spelling, IsText}
use Rattle.hv_bytes.proofs.Lengths.{length-two, length-four, length-eight, length-text}
use Rattle.hv_bytes.proofs.ItemLemmas.{all_map}
use Rattle.hv_rowfile.specs.Writing.{IsElement, IsValue, CanPutElement, CanPutValue}
use Rattle.hv_rowfile.specs.Layout.{truth_byte, int_spelling, big_spelling, flat_spelling, element_spelling, layer_spelling, value_spelling, FlatIsTaken, ElementIsTaken, LayerIsTaken, ValueIsTaken, FlatFits, ElementFits, LayerFits, ValueFits}

out_of : (x : Value) (y : Value-F Value) → roll-Value y ≡ x → out-Value x ≡ y
out_of x y e = ap out-Value (sym e) ∙ out-roll-Value y

spelled : (x : Value) (y : Value-F Value) → roll-Value y ≡ x → element_spelling x ≡ flat_spelling y
unfolding element_spelling
spelled x y e = ap flat_spelling (out_of x y e)

taken : (x : Value) (y : Value-F Value) → roll-Value y ≡ x → FlatIsTaken y → ElementIsTaken x
unfolding ElementIsTaken
taken x y e h = subst FlatIsTaken (sym (out_of x y e)) h

fits : (x : Value) (y : Value-F Value) → roll-Value y ≡ x → FlatFits y → ElementFits x
unfolding ElementFits
fits x y e h = subst FlatFits (sym (out_of x y e)) h

pub spelled-Null : element_spelling Null ≡ 0 ∷ []
spelled-Null = spelled Null Value-F.Null rolls-Null

pub spelled-Bool : (b : Bool) → element_spelling (Bool' b) ≡ 1 ∷ truth_byte b ∷ []
spelled-Bool b = spelled (Bool' b) (Value-F.Bool b) (rolls-Bool b)

pub spelled-Int : (n : ℤ) → element_spelling (Int n) ≡ 2 ∷ int_spelling n
spelled-Int n = spelled (Int n) (Value-F.Int n) (rolls-Int n)

pub spelled-Big : (n : ℤ) → element_spelling (Big n) ≡ 3 ∷ big_spelling n
spelled-Big n = spelled (Big n) (Value-F.Big n) (rolls-Big n)

pub spelled-Str : (t : List ℕ) → element_spelling (Str t) ≡ 4 ∷ text_spelling t
spelled-Str t = spelled (Str t) (Value-F.Str t) (rolls-Str t)

pub spelled-Day : (n : ℤ) → element_spelling (Day n) ≡ 5 ∷ int_spelling n
spelled-Day n = spelled (Day n) (Value-F.Day n) (rolls-Day n)

pub spelled-no-Array : (items : List Value) → element_spelling (Array items) ≡ []
spelled-no-Array items = spelled (Array items) (Value-F.Array items) (rolls-Array items)

pub taken-Null : ElementIsTaken Null
taken-Null = taken Null Value-F.Null rolls-Null tt

pub taken-Bool : (b : Bool) → ElementIsTaken (Bool' b)
taken-Bool b = taken (Bool' b) (Value-F.Bool b) (rolls-Bool b) tt

pub taken-Int : (n : ℤ) → ElementIsTaken (Int n)
taken-Int n = taken (Int n) (Value-F.Int n) (rolls-Int n) tt

pub taken-Big : (n : ℤ) → ElementIsTaken (Big n)
taken-Big n = taken (Big n) (Value-F.Big n) (rolls-Big n) tt

pub taken-Str : (t : List ℕ) → ElementIsTaken (Str t)
taken-Str t = taken (Str t) (Value-F.Str t) (rolls-Str t) tt

pub taken-Day : (n : ℤ) → IsTrue (is_day n) → ElementIsTaken (Day n)
taken-Day n h = taken (Day n) (Value-F.Day n) (rolls-Day n) h

pub fits-Null : ElementFits Null
fits-Null = fits Null Value-F.Null rolls-Null tt

pub fits-Bool : (b : Bool) → ElementFits (Bool' b)
fits-Bool b = fits (Bool' b) (Value-F.Bool b) (rolls-Bool b) tt

pub fits-Int : (n : ℤ) → FitsSigned w32 n → ElementFits (Int n)
fits-Int n h = fits (Int n) (Value-F.Int n) (rolls-Int n) h

pub fits-Big : (n : ℤ) → FitsSigned w64 n → ElementFits (Big n)
fits-Big n h = fits (Big n) (Value-F.Big n) (rolls-Big n) h

pub fits-Str : (t : List ℕ) → IsText t → ElementFits (Str t)
fits-Str t h = fits (Str t) (Value-F.Str t) (rolls-Str t) h

pub fits-Day : (n : ℤ) → FitsSigned w32 n → ElementFits (Day n)
fits-Day n h = fits (Day n) (Value-F.Day n) (rolls-Day n) h

pub fits-no-Array : (items : List Value) → ElementFits (Array items)
fits-no-Array items = fits (Array items) (Value-F.Array items) (rolls-Array items) tt

-- ---- arrays

pub spelled-Array : (items : List Value) → value_spelling (Array items) ≡ 6 ∷ four_bytes (length items) ++ flat_map element_spelling items
unfolding value_spelling
spelled-Array items = ap layer_spelling (out_of (Array items) (Value-F.Array items) (rolls-Array items))

pub taken-Array : (items : List Value) → AllByRecursion ElementIsTaken items → ValueIsTaken (Array items)
unfolding ValueIsTaken
taken-Array items h = subst LayerIsTaken (sym (out_of (Array items) (Value-F.Array items) (rolls-Array items))) h

pub items_taken : (items : List Value) → ValueIsTaken (Array items) → AllByRecursion ElementIsTaken items
unfolding ValueIsTaken
items_taken items h = subst LayerIsTaken (out_of (Array items) (Value-F.Array items) (rolls-Array items)) h

pub no_element : (x : Value) (items : List Value) → x ≡ Array items → ElementIsTaken x → ⊥
unfolding ElementIsTaken
no_element x items e h = subst FlatIsTaken (out_of (Array items) (Value-F.Array items) (rolls-Array items)) (subst ElementIsTaken e h)

pub fits-Array : (items : List Value) → length items < 2 ^ 32 → AllByRecursion ElementFits items → ValueFits (Array items)
unfolding ValueFits
fits-Array items short h = subst LayerFits (sym (out_of (Array items) (Value-F.Array items) (rolls-Array items))) (short, h)

-- a count and so many elements
pub array_parts : (bytes : List ℕ) (n : ℕ) (behind : List ℕ) (items : List Value) (rest : List ℕ) → n < 2 ^ 32 → bytes ≡ four_bytes n ++ behind → length items ≡ n → AllByRecursion IsElement items
    → behind ≡ flat_map element_spelling items ++ rest → ValueIsTaken (Array items) × ValueFits (Array items) × (6 ∷ bytes ≡ value_spelling (Array items) ++ rest)
array_parts bytes n behind items rest small parts count has e =
    let body = flat_map element_spelling items in
    let spelled : value_spelling (Array items) ++ rest ≡ 6 ∷ (four_bytes (length items) ++ (body ++ rest)) =
    ap (λ (x : List ℕ). x ++ rest) (spelled-Array items) ∙ ap (λ (x : List ℕ). 6 ∷ x) (append_assoc (four_bytes (length items)) body rest) in
    let read : 6 ∷ bytes ≡ 6 ∷ (four_bytes (length items) ++ (body ++ rest)) =
    ap (λ (x : List ℕ). 6 ∷ x) (parts ∙ ap (λ (k : ℕ). four_bytes k ++ behind) (sym count) ∙ ap (λ (x : List ℕ). four_bytes (length items) ++ x) e) in
    let t = all_map IsElement ElementIsTaken (λ x h. h.0) items has in
    let f = all_map IsElement ElementFits (λ x h. h.1) items has in
    (taken-Array items t, fits-Array items (omega arith) f, read ∙ sym spelled)

-- ---- a value that is no array stands in a row as it does in an array

flat_layers : (y : Value-F Value) → FlatIsTaken y → (layer_spelling y ≡ flat_spelling y) × (LayerIsTaken y) × (FlatFits y → LayerFits y)
flat_layers Value-F.Null h = (refl, tt, λ f. f)
flat_layers (Value-F.Bool b) h = (refl, tt, λ f. f)
flat_layers (Value-F.Int n) h = (refl, tt, λ f. f)
flat_layers (Value-F.Big n) h = (refl, tt, λ f. f)
flat_layers (Value-F.Str t) h = (refl, tt, λ f. f)
flat_layers (Value-F.Day n) h = (refl, h, λ f. f)
flat_layers (Value-F.Array items) h = absurd h

pub flat_spelled : (x : Value) → ElementIsTaken x → value_spelling x ≡ element_spelling x
unfolding value_spelling element_spelling ElementIsTaken
flat_spelled x h = (flat_layers (out-Value x) h).0

pub flat_taken : (x : Value) → ElementIsTaken x → ValueIsTaken x
unfolding ValueIsTaken ElementIsTaken
flat_taken x h = (flat_layers (out-Value x) h).1

pub flat_fits : (x : Value) → ElementIsTaken x → ElementFits x → ValueFits x
unfolding ValueFits ElementFits ElementIsTaken
flat_fits x h f = (flat_layers (out-Value x) h).2 f

plain_layers : (x : Value) (y : Value-F Value) → out-Value x ≡ y → ((items : List Value) → x ≡ Array items → ⊥) → (layer_spelling y ≡ flat_spelling y) × (LayerIsTaken y → FlatIsTaken y)
plain_layers x Value-F.Null e other = (refl, λ h. h)
plain_layers x (Value-F.Bool b) e other = (refl, λ h. h)
plain_layers x (Value-F.Int n) e other = (refl, λ h. h)
plain_layers x (Value-F.Big n) e other = (refl, λ h. h)
plain_layers x (Value-F.Str t) e other = (refl, λ h. h)
plain_layers x (Value-F.Day n) e other = (refl, λ h. h)
plain_layers x (Value-F.Array items) e other = absurd (other items (sym (roll-out-Value x) ∙ ap roll-Value e ∙ rolls-Array items))

pub plain_spelled : (x : Value) → ((items : List Value) → x ≡ Array items → ⊥) → value_spelling x ≡ element_spelling x
unfolding value_spelling element_spelling
plain_spelled x other = (plain_layers x (out-Value x) refl other).0

plain_taken : (x : Value) → ((items : List Value) → x ≡ Array items → ⊥) → ValueIsTaken x → ElementIsTaken x
unfolding ValueIsTaken ElementIsTaken
plain_taken x other h = (plain_layers x (out-Value x) refl other).1 h

pub plain_can : (x : Value) → ((items : List Value) → x ≡ Array items → ⊥) → CanPutValue x → CanPutElement x
plain_can x other h = (plain_taken x other h.0, subst (λ (bytes : List ℕ). length bytes < 2 ^ 32) (plain_spelled x other) h.1)

pub plain_is : (x : Value) → IsElement x → IsValue x
plain_is x h = (flat_taken x h.0, flat_fits x h.0 h.1)

-- ---- how long values are

pub length-Null : length (element_spelling Null) ≡ 1
length-Null = ap length spelled-Null

pub length-Bool : (b : Bool) → length (element_spelling (Bool' b)) ≡ 2
length-Bool b = ap length (spelled-Bool b)

pub length-Int : (n : ℤ) → length (element_spelling (Int n)) ≡ 5
length-Int n = ap length (spelled-Int n) ∙ omega (arith, length-four (cast_unsigned w32 n))

pub length-Big : (n : ℤ) → length (element_spelling (Big n)) ≡ 9
length-Big n = ap length (spelled-Big n) ∙ omega (arith, length-eight (cast_unsigned w64 n))

pub length-Str : (t : List ℕ) → length (element_spelling (Str t)) ≡ 5 + length t
length-Str t = ap length (spelled-Str t) ∙ omega (arith, length-text t)

pub length-Day : (n : ℤ) → length (element_spelling (Day n)) ≡ 5
length-Day n = ap length (spelled-Day n) ∙ omega (arith, length-four (cast_unsigned w32 n))

pub length-no-Array : (items : List Value) → length (element_spelling (Array items)) ≡ 0
length-no-Array items = ap length (spelled-no-Array items)

pub length-Array : (items : List Value) → length (value_spelling (Array items)) ≡ 5 + length (flat_map element_spelling items)
length-Array items =
    ap length (spelled-Array items) ∙ omega (arith, length-append (four_bytes (length items)) (flat_map element_spelling items), length-four (length items))

pub ruleset lengths = (length-Null, length-Bool, length-Int, length-Big, length-Str, length-Day, length-no-Array, length-Array, length-append, length-two, length-four, length-eight, length-text)

pub ruleset elements = (spelled-Null, spelled-Bool, spelled-Int, spelled-Big, spelled-Str, spelled-Day, spelled-no-Array, taken-Null, taken-Bool, taken-Int, taken-Big, taken-Str, taken-Day, fits-Null, fits-Bool, fits-Int, fits-Big, fits-Str, fits-Day, fits-no-Array, append_assoc)

pub ruleset read_elements = (spelled-Null, spelled-Bool, spelled-Int, spelled-Big, spelled-Str, spelled-Day, taken-Null, taken-Bool, taken-Int, taken-Big, taken-Str, taken-Day, fits-Null, fits-Bool, fits-Int, fits-Big, fits-Str, fits-Day)
