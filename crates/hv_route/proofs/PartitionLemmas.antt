-- How the text of a partition grows piece by piece, and how its values are read one by one.
use Rattle.std.proofs.Common.{◌≡◌, ℕ, ◌+◌, ◌<◌, ◌==◌, false, List, [], ◌∷◌, ◌++◌, drop, length, get_or, refl, ap, sym, ◌∙◌, append_assoc, arith}
use Rattle.std.specs.Prelude.{slice_get}
use Rattle.std.specs.List.{flat_map, join_with_byte}
use Rattle.std.proofs.lemmas.List.{append-nil, drop_more}
use Rattle.std.specs.Str.{bytes_eq, IsUtf8}
use Rattle.std.proofs.lemmas.Str.{IsUtf8-from_is_utf8, is_utf8-from_IsUtf8}
use Rattle.std.proofs.lemmas.Bool.{cond-true, cond-false, false_from_ne_true}
use Rattle.std.proofs.lemmas.Bool.Decides.{nat_tests}
use Rattle.percent_encoding.specs.Percent.{percent_decode}
use Rattle.hv_logic.specs.declared.catalog.Column.{Column}
use Rattle.hv_value.specs.Conversion.{converted, from_layer, from_text}
use Rattle.hv_value.specs.declared.sql_type.SqlType.{SqlType}
use Rattle.hv_value.specs.declared.sql_type.SqlType.TheVariants as type
use Rattle.hv_value.specs.declared.value.Value.{Value}
use Rattle.hv_value.specs.declared.value.Value.TheOpen.{Value-F}
use Rattle.hv_value.specs.declared.value.Value.TheVariants as value
use Rattle.hv_value.specs.declared.value.Value.TheVariants.{rolls-Str}
use Rattle.hv_value.specs.declared.value.Value.TheViews.{out-Value, roll-Value, out-roll-Value, roll-out-Value}
use Rattle.hv_route.specs.Partitions.{slash, escaped, default_partition, layer_text, value_text, piece_text, separator, pieces, partition_text, read_as, read_value, first_value, behind_piece, partition_values}

-- ---- values

out_str : (text : List ℕ) → out-Value (value.Str text) ≡ Value-F.Str text
out_str text = ap out-Value (sym (rolls-Str text)) ∙ out-roll-Value (Value-F.Str text)

-- a value that converts to a text
pub text_of_str : (v : Value) (text : List ℕ) → value.Str text ≡ converted v type.Str → value_text v ≡ escaped text
unfolding value_text
text_of_str v text is = ap (λ (x : Value). layer_text (out-Value x)) (sym is) ∙ ap layer_text (out_str text)

other_layer : (x : Value) (y : Value-F Value) → out-Value x ≡ y → ((text : List ℕ) → x ≡ value.Str text → ⊥) → layer_text y ≡ default_partition
other_layer x Value-F.Null e other = refl
other_layer x (Value-F.Bool b) e other = refl
other_layer x (Value-F.Int n) e other = refl
other_layer x (Value-F.Big n) e other = refl
other_layer x (Value-F.Str text) e other =
    absurd (other text (sym (roll-out-Value x) ∙ ap roll-Value e ∙ rolls-Str text))
other_layer x (Value-F.Day n) e other = refl
other_layer x (Value-F.Array items) e other = refl

-- a value that converts to no text
pub text_of_other : (v x : Value) → x ≡ converted v type.Str → ((text : List ℕ) → x ≡ value.Str text → ⊥) → value_text v ≡ default_partition
unfolding value_text
text_of_other v x is other =
    ap (λ (y : Value). layer_text (out-Value y)) (sym is) ∙ other_layer x (out-Value x) refl other

from_str : (text : List ℕ) (kind : SqlType) → converted (value.Str text) kind ≡ from_text text kind
unfolding converted
from_str text kind = ap (λ (y : Value-F Value). from_layer y kind) (out_str text)

-- a text is read as the conversion reads it, but for a BOOLEAN
pub read_other : (kind : SqlType) (text : List ℕ) → (kind ≡ type.Boolean → ⊥) → converted (value.Str text) kind ≡ read_as kind text
read_other type.Null text other = from_str text type.Null
read_other type.Boolean text other = absurd (other refl)
read_other type.Int text other = from_str text type.Int
read_other type.BigInt text other = from_str text type.BigInt
read_other type.Str text other = from_str text type.Str
read_other type.Date text other = from_str text type.Date
read_other (type.ArrayOf e) text other = from_str text (type.ArrayOf e)

pub read_text : (kind : SqlType) (piece text : List ℕ) → bytes_eq piece default_partition ≡ false → IsUtf8 (percent_decode piece) → text ≡ percent_decode piece → read_as kind text ≡ read_value kind piece
read_text kind piece text plain utf8 is =
    ap (read_as kind) is ∙ sym (cond-true _ _ _ (is_utf8-from_IsUtf8 _ utf8)) ∙ sym (cond-false _ _ _ plain)

pub read_no_text : (kind : SqlType) (piece : List ℕ) → bytes_eq piece default_partition ≡ false → (IsUtf8 (percent_decode piece) → ⊥) → value.Null ≡ read_value kind piece
read_no_text kind piece plain other =
    sym (cond-false _ _ _ (false_from_ne_true _ (λ e. other (IsUtf8-from_is_utf8 _ e)))) ∙ sym (cond-false _ _ _ plain)

-- ---- the text

-- the pieces from a place on, each behind what stands before it
abbrev pub pieces_from : ℕ → List Column → List Value → List ℕ
pieces_from place [] values = []
pieces_from place (column ∷ more) values =
    (separator place ++ piece_text column (slice_get values 0)) ++ pieces_from (place + 1) more (drop 1 values)

joined : (first : List ℕ) (more : List (List ℕ)) → join_with_byte slash (first ∷ more) ≡ first ++ flat_map (λ (piece : List ℕ). slash ∷ piece) more
joined first [] = sym (append-nil first)
joined first (next ∷ more) = ap (λ (x : List ℕ). first ++ slash ∷ x) (joined next more)

behind_first : (place : ℕ) → separator (place + 1) ≡ slash ∷ []
behind_first place =
    let later_place : (place + 1 == 0) ≡ false = grind (arith, nat_tests) in
    cond-false _ _ _ later_place

later : (place : ℕ) (columns : List Column) (values : List Value) → pieces_from (place + 1) columns values ≡ flat_map (λ (piece : List ℕ). slash ∷ piece) (pieces columns values)
later place [] values = refl
later place (column ∷ more) values =
    let piece = piece_text column (slice_get values 0) in
    ap (λ (x : List ℕ). (x ++ piece) ++ pieces_from (place + 1 + 1) more (drop 1 values)) (behind_first place) ∙ ap (λ (x : List ℕ). (slash ∷ piece) ++ x) (later (place + 1) more (drop 1 values))

pub all_pieces : (columns : List Column) (values : List Value) → pieces_from 0 columns values ≡ partition_text columns values
all_pieces [] values = refl
all_pieces (column ∷ more) values =
    ap (λ (x : List ℕ). piece_text column (slice_get values 0) ++ x) (later 0 more (drop 1 values)) ∙ sym (joined (piece_text column (slice_get values 0)) (pieces more (drop 1 values)))

-- ---- the values

-- one value more
pub value_more : (columns : List Column) (i : ℕ) (d : Column) (done whole : List Value) (left : List ℕ) → i < length columns
    → done ++ partition_values (drop i columns) left ≡ whole
    → (done ++ first_value (get_or columns i d) left ∷ []) ++ partition_values (drop (i + 1) columns) (behind_piece (get_or columns i d) left) ≡ whole
value_more columns i d done whole left within before =
    let rest = partition_values (drop (i + 1) columns) (behind_piece (get_or columns i d) left) in
    append_assoc done (first_value (get_or columns i d) left ∷ []) rest ∙ ap (λ (x : List Column). done ++ partition_values x left) (sym (drop_more columns i d within)) ∙ before
