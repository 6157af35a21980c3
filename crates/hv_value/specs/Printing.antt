-- The printed text of a value (this project's profile).
use Rattle.std.specs.Prelude.{◌≡◌, ℕ, ◌==◌, if◌then◌else◌, Bool, true, false, ◌&&◌, List, [], ◌∷◌, ◌++◌, map, codes, Result, MatchResult}
use Rattle.std.specs.Fmt.{signed_decimal}
use Rattle.std.specs.List.{flat_map, join_with_byte}
use Rattle.hv_value.specs.Bytes.{tab, line_feed, carriage_return, backslash, double_quote, comma, open_bracket, close_bracket}
use Rattle.hv_value.specs.Dates.{day_text}
use Rattle.hv_value.specs.declared.value.Value.{Value}
use Rattle.hv_value.specs.declared.value.Value.TheOpen.{Value-F}
use Rattle.hv_value.specs.declared.value.Value.TheFolds.{fold-Value}

-- a byte of a string; within an array the double quote is escaped too
abbrev pub escaped : Bool → ℕ → List ℕ
escaped in_array byte =
    if byte == tab then codes "\\t"
    else if byte == line_feed then codes "\\n"
    else if byte == carriage_return then codes "\\r"
    else if byte == backslash then codes "\\\\"
    else if in_array && (byte == double_quote) then codes "\\\""
    else byte ∷ []

-- a string; within an array it stands in double quotes
abbrev pub string_text : Bool → List ℕ → List ℕ
string_text true text = double_quote ∷ flat_map (escaped true) text ++ double_quote ∷ []
string_text false text = flat_map (escaped false) text

-- the texts of an array's items, with commas between
abbrev pub items_text : List (List ℕ) → List ℕ
items_text items = join_with_byte comma items

abbrev pub truth_text : Bool → List ℕ
truth_text b = if b then codes "true" else codes "false"

abbrev pub array_text : List (List ℕ) → List ℕ
array_text items = open_bracket ∷ items_text items ++ close_bracket ∷ []

-- a value, with the texts of an array's items, by whether it stands within an array
abbrev pub layer_text : Value-F (Bool → List ℕ) → Bool → List ℕ
layer_text Value-F.Null in_array = codes "NULL"
layer_text (Value-F.Bool b) in_array = truth_text b
layer_text (Value-F.Int n) in_array = signed_decimal n
layer_text (Value-F.Big n) in_array = signed_decimal n
layer_text (Value-F.Str text) in_array = string_text in_array text
layer_text (Value-F.Day n) in_array = day_text n
layer_text (Value-F.Array items) in_array = array_text (map (λ item. item true) items)

unfoldable pub text_of : Value → Bool → List ℕ
text_of = fold-Value (Bool → List ℕ) layer_text

-- the printed text of a value
abbrev pub printed : Value → List ℕ
printed value = text_of value false

-- a prefix of the text was appended, and the rest of it wasn't
pub record AppendsPrefix (text old new : List ℕ) : Type 0 where
  pub added : List ℕ
  pub rest : List ℕ
  pub begins : text ≡ added ++ rest
  pub appended : new ≡ old ++ added

-- the text was appended, or memory ran out and a prefix of it was
abbrev pub Prints : {E : Type 0} → List ℕ → List ℕ → Result (Unit {0}) E → List ℕ → Type 0
Prints text old result new = MatchResult result (λ _. new ≡ old ++ text) (λ _. AppendsPrefix text old new)

abbrev pub item_text : Value → List ℕ
item_text value = text_of value true

-- a comma stands before each item but the first
abbrev pub separator : Bool → List ℕ
separator first = if first then [] else comma ∷ []

abbrev pub placed_item : Bool → Value → List ℕ
placed_item first value = separator first ++ item_text value
