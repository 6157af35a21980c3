-- The text of a partition says its values.
use Rattle.std.proofs.Common.{◌≡◌, ℕ, ◌+◌, ◌==◌, ◌&&◌, Bool, true, false, not, cond, List, [], ◌∷◌, ◌++◌, drop, take, length, refl, ap, sym, ◌∙◌, append_assoc, arith, Some}
use Rattle.std.specs.List.{flat_map, prefix_len, list_all, join_with_byte}
use Rattle.std.specs.Str.{bytes_eq}
use Rattle.std.proofs.lemmas.List.{append-nil}
use Rattle.std.proofs.lemmas.List.Folds.{list_all-append}
use Rattle.std.proofs.Math.Seq.{take-append_seam, drop-append-add}
use Rattle.std.proofs.lemmas.Bool.{and_parts}
use Rattle.std.proofs.lemmas.Bool.Decides.{nat_tests}
use Rattle.std.proofs.lemmas.Slice.Eq.{bytes_eq-Decides}
use Rattle.percent_encoding.specs.Percent.{percent_encode_byte}
use Rattle.hv_value.specs.declared.value.Value.{Value}
use Rattle.hv_value.specs.declared.value.Value.TheOpen.{Value-F}
use Rattle.hv_logic.specs.declared.catalog.Column.{Column}
use Rattle.hv_route.specs.Partitions.{slash, equals_sign, is_plain, escaped_byte, escaped, default_partition, is_inside, layer_text, value_text, piece_text, pieces, partition_text, read_value, first_value, behind_name, behind_piece, piece_length, partition_values}
use Rattle.hv_route.specs.Back.{SaysValue, SayValues}

-- ---- no `/` and no `_` in what is escaped

abbrev kept_byte : ℕ → Bool
kept_byte b = not (b == 47) && not (b == 95)

plain-kept : (b : ℕ) → is_plain b ≡ true → kept_byte b ≡ true
plain-kept b e = grind (arith, nat_tests)

byte-kept-by : (b : ℕ) (p : Bool) → is_plain b ≡ p → list_all kept_byte (cond p (b ∷ []) (percent_encode_byte b)) ≡ true
unfolding percent_encode_byte
byte-kept-by b true e = ap (λ c. c && true) (plain-kept b e)
byte-kept-by b false e = grind (arith, nat_tests)

escaped-kept : (text : List ℕ) → list_all kept_byte (escaped text) ≡ true
unfolding escaped
escaped-kept [] = refl
escaped-kept (b ∷ text) =
    list_all-append kept_byte (escaped_byte b) (escaped text)
    ∙ ap (λ c. c && list_all kept_byte (escaped text)) (byte-kept-by b (is_plain b) refl) ∙ escaped-kept text

inside-by : (b : ℕ) → kept_byte b ≡ true → is_inside b ≡ true
inside-by b e = (and_parts (not (b == 47)) (not (b == 95)) e).0

all-inside : (text : List ℕ) → list_all kept_byte text ≡ true → list_all is_inside text ≡ true
all-inside [] e = refl
all-inside (b ∷ text) e =
    let h = and_parts (kept_byte b) (list_all kept_byte text) e in
    ap (λ c. c && list_all is_inside text) (inside-by b h.0) ∙ all-inside text h.1

default-inside : list_all is_inside default_partition ≡ true
unfolding default_partition
default-inside = refl

not-default : (text : List ℕ) → list_all kept_byte text ≡ true → bytes_eq text default_partition ≡ false
unfolding default_partition
not-default text e = by (bytes_eq text default_partition) refl
  where
    by : (b : Bool) → bytes_eq text default_partition ≡ b → b ≡ false
    by false is = refl
    by true is =
        let same : text ≡ default_partition = (bytes_eq-Decides text default_partition).0 is in
        let z : false ≡ true = ap (list_all kept_byte) (sym same) ∙ e in cc

pub escaped-plain : (text : List ℕ) → bytes_eq (escaped text) default_partition ≡ false
escaped-plain text = not-default (escaped text) (escaped-kept text)

layer-inside : (x : Value-F Value) → list_all is_inside (layer_text x) ≡ true
layer-inside Value-F.Null = default-inside
layer-inside (Value-F.Bool b) = default-inside
layer-inside (Value-F.Int n) = default-inside
layer-inside (Value-F.Big n) = default-inside
layer-inside (Value-F.Str text) = all-inside (escaped text) (escaped-kept text)
layer-inside (Value-F.Day n) = default-inside
layer-inside (Value-F.Array items) = default-inside

value-inside : (v : Value) → list_all is_inside (value_text v) ≡ true
unfolding value_text
value-inside v = layer-inside _

-- ---- one piece, and what stands behind it

-- nothing, or a `/`
abbrev Ends : List ℕ → Type 0
Ends [] = Unit {0}
Ends (b ∷ rest) = b ≡ slash

prefix-ends : (rest : List ℕ) → Ends rest → prefix_len is_inside rest ≡ 0
prefix-ends [] e = refl
prefix-ends (b ∷ rest) e = ap (λ c. cond (is_inside c) (1 + prefix_len is_inside rest) 0) e

prefix-is : (text rest : List ℕ) → list_all is_inside text ≡ true → Ends rest → prefix_len is_inside (text ++ rest) ≡ length text
prefix-is [] rest e ends = prefix-ends rest ends
prefix-is (b ∷ text) rest e ends =
    let h = and_parts (is_inside b) (list_all is_inside text) e in
    let next : 1 + prefix_len is_inside (text ++ rest) ≡ length (b ∷ text) = omega (arith, prefix-is text rest h.1 ends) in
    ap (λ c. cond c (1 + prefix_len is_inside (text ++ rest)) 0) h.0 ∙ next

behind-name : (column : Column) (text rest : List ℕ) → behind_name column ((column.name ++ equals_sign ∷ text) ++ rest) ≡ text ++ rest
behind-name column text rest =
    ap (drop (length column.name + 1)) (append_assoc column.name (equals_sign ∷ text) rest)
    ∙ drop-append-add column.name (equals_sign ∷ text ++ rest) 1

first-is : (column : Column) (v : Value) (rest : List ℕ) → Ends rest → SaysValue column.kind v
    → first_value column (piece_text column (Some v) ++ rest) ≡ v
first-is column v rest ends says =
    let behind = behind-name column (value_text v) rest in
    ap (λ (z : List ℕ). read_value column.kind (take (piece_length z) z)) behind
    ∙ ap (λ n. read_value column.kind (take n (value_text v ++ rest))) (prefix-is (value_text v) rest (value-inside v) ends)
    ∙ ap (read_value column.kind) (take-append_seam (value_text v) rest) ∙ says

behind-is : (column : Column) (v : Value) (rest : List ℕ) → Ends rest → behind_piece column (piece_text column (Some v) ++ rest) ≡ drop 1 rest
behind-is column v rest ends =
    let behind = behind-name column (value_text v) rest in
    ap (λ (z : List ℕ). drop (piece_length z + 1) z) behind
    ∙ ap (λ n. drop (n + 1) (value_text v ++ rest)) (prefix-is (value_text v) rest (value-inside v) ends)
    ∙ drop-append-add (value_text v) rest 1

-- ---- all of them

abbrev rest_of : List (List ℕ) → List ℕ
rest_of more = flat_map (λ (piece : List ℕ). slash ∷ piece) more

joined : (first : List ℕ) (more : List (List ℕ)) → join_with_byte slash (first ∷ more) ≡ first ++ rest_of more
joined first [] = sym (append-nil first)
joined first (next ∷ more) = ap (λ (x : List ℕ). first ++ slash ∷ x) (joined next more)

rest-ends : (more : List (List ℕ)) → Ends (rest_of more)
rest-ends [] = tt
rest-ends (piece ∷ more) = refl

rest-behind : (more : List (List ℕ)) → drop 1 (rest_of more) ≡ join_with_byte slash more
rest-behind [] = refl
rest-behind (piece ∷ more) = sym (joined piece more)

pub text-says : (columns : List Column) (values : List Value) → SayValues columns values → partition_values columns (partition_text columns values) ≡ values
text-says [] [] says = refl
text-says [] (v ∷ values) says = absurd says
text-says (column ∷ columns) [] says = absurd says
text-says (column ∷ columns) (v ∷ values) says =
    let rest = rest_of (pieces columns values) in
    let ends = rest-ends (pieces columns values) in
    ap (partition_values (column ∷ columns)) (joined (piece_text column (Some v)) (pieces columns values))
    ∙ ap (λ (x : Value). x ∷ partition_values columns (behind_piece column (piece_text column (Some v) ++ rest))) (first-is column v rest ends says.0)
    ∙ ap (λ (z : List ℕ). v ∷ partition_values columns z) (behind-is column v rest ends ∙ rest-behind (pieces columns values))
    ∙ ap (λ (z : List Value). v ∷ z) (text-says columns values says.1)
