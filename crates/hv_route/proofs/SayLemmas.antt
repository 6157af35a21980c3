-- Each value's text says it.
use Rattle.std.proofs.Common.{◌≡◌, ℕ, zero, suc, ◌+◌, ◌-◌, ◌<◌, ◌==◌, ◌^◌, ◌&&◌, Bool, true, false, cond, List, [], ◌∷◌, drop, take, length, get_or, fold, refl, ap, sym, ◌∙◌, subst, arith, Option, Some, None, rules}
use Rattle.std.specs.Prelude.{ℤ, pos, negsuc, neg_ℤ, FitsSigned, IsSome, nat_lt, option_map, option_and_then, codes, All}
use Rattle.std.specs.Int.{w32, w64}
use Rattle.std.specs.Fmt.{decimal, signed_decimal}
use Rattle.std.specs.Char.{is_ascii_digit}
use Rattle.std.specs.List.{prefix_len, suffix_len, list_all}
use Rattle.std.specs.Str.{bytes_eq, IsUtf8, IsAscii, all_ascii_digits}
use Rattle.std.proofs.Math.Seq.{take-length}
use Rattle.std.proofs.lemmas.List.{drop_all}
use Rattle.std.proofs.lemmas.Int.{ints}
use Rattle.std.proofs.lemmas.Bool.{and_parts, false≢true}
use Rattle.std.proofs.lemmas.Bool.Decides.{nat_tests}
use Rattle.std.proofs.lemmas.Str.{IsUtf8-from_ascii}
use Rattle.std.proofs.lemmas.Str.Ascii.{All-from_ascii}
use Rattle.std.proofs.lemmas.Str.Parse.{IsNumeralModel, numerals_by_fold}
use Rattle.std.proofs.lemmas.Fmt.{digits_decimal, digits_value-decimal, decimal_nonempty, IsAscii-decimal}
use Rattle.std.proofs.lemmas.List.Sums.{suffix_len-take_no}
use Rattle.percent_encoding.specs.Percent.{percent_decode}
use Rattle.percent_encoding.proofs.PercentLemmas.{IsByte, round_trip}
use Rattle.hv_value.specs.Conversion.{converted, from_layer, integer_of, signed_of, unsigned_of, is_fraction, trimmed, without_end, without_front, is_space, int_of, big_of, is_int, is_big, kept_if, some_int, some_big, some_day, from_date}
use Rattle.hv_value.specs.Dates.{date_of, civil_text}
use Rattle.hv_value.specs.declared.dates.CivilDate.{CivilDate}
use Rattle.hv_value.proofs.DateText.{civil_text-utf8}
use Rattle.hv_value.specs.Digits.{digit_count, numeral_value, with_digit}
use Rattle.hv_value.specs.declared.sql_type.SqlType.{SqlType}
use Rattle.hv_value.specs.declared.sql_type.SqlType.TheVariants as type
use Rattle.hv_value.specs.declared.value.Value.{Value}
use Rattle.hv_value.specs.declared.value.Value.TheOpen.{Value-F}
use Rattle.hv_value.specs.declared.value.Value.TheVariants as value
use Rattle.hv_value.specs.declared.value.Value.TheVariants.{rolls-Null, rolls-Bool, rolls-Int, rolls-Big, rolls-Str, rolls-Day}
use Rattle.hv_value.specs.declared.value.Value.TheViews.{out-Value, roll-Value, roll-out-Value}
use Rattle.hv_route.specs.declared.partitions.TheConstants.{ESCAPED}
use Rattle.hv_route.specs.Partitions.{escaped, default_partition, layer_text, value_text, read_as, read_value}
use Rattle.hv_route.specs.Back.{SaysValue, IsSaidLayer}
use Rattle.hv_route.proofs.EscapeLemmas.{escapes}
use Rattle.hv_route.proofs.PartitionLemmas.{text_of_str, read_text}
use Rattle.hv_route.proofs.BackLemmas.{escaped-plain}
use Rattle.hv_route.proofs.DayLemmas.{read-day, civil-small}

-- ---- through a text

decoded : (text : List ℕ) → All IsByte text → percent_decode (escaped text) ≡ text
decoded text small = ap percent_decode (sym (escapes text)) ∙ round_trip ESCAPED text refl small

by-text : (kind : SqlType) (v : Value) (text : List ℕ) → value.Str text ≡ converted v type.Str → IsUtf8 text → All IsByte text
    → read_as kind text ≡ v → SaysValue kind v
by-text kind v text is utf8 small read =
    ap (read_value kind) (text_of_str v text is)
    ∙ sym (read_text kind (escaped text) text (escaped-plain text) (subst IsUtf8 (sym (decoded text small)) utf8) (sym (decoded text small)))
    ∙ read

-- what a layer converts to
conv : (v : Value) (x : Value-F Value) (kind : SqlType) → out-Value v ≡ x → from_layer x kind ≡ converted v kind
unfolding converted
conv v x kind e = ap (λ (y : Value-F Value). from_layer y kind) (sym e)

whole : (v : Value) (x : Value-F Value) → out-Value v ≡ x → roll-Value x ≡ v
whole v x e = ap roll-Value (sym e) ∙ roll-out-Value v

null-says : (kind : SqlType) (v : Value) → out-Value v ≡ Value-F.Null → SaysValue kind v
unfolding value_text default_partition
null-says kind v e =
    let is : value.Null ≡ v = sym rolls-Null ∙ whole v Value-F.Null e in
    let text : value_text v ≡ default_partition =
    ap (λ (x : Value). layer_text (out-Value x)) (sym (conv v Value-F.Null type.Str e) ∙ is) ∙ ap layer_text e in
    ap (read_value kind) text ∙ is

-- ---- integers

own : IsNumeralModel (λ ds. all_ascii_digits ds ≡ true) numeral_value
unfolding numeral_value
own = numerals_by_fold _ (search rules) (λ n ds. fold with_digit n ds) (search rules)

all-digits : (ds : List ℕ) → all_ascii_digits ds ≡ true → digit_count ds ≡ length ds
all-digits [] e = refl
all-digits (c ∷ ds) e =
    let h = and_parts (is_ascii_digit c) (all_ascii_digits ds) e in
    let more : 1 + digit_count ds ≡ length (c ∷ ds) = omega (arith, all-digits ds h.1) in
    ap (λ b. cond b (1 + digit_count ds) 0) h.0 ∙ more

digit-at : (ds : List ℕ) (i d : ℕ) → all_ascii_digits ds ≡ true → i < length ds → is_ascii_digit (get_or ds i d) ≡ true
digit-at [] i d e within = absurd (omega arith)
digit-at (c ∷ ds) zero d e within = (and_parts (is_ascii_digit c) (all_ascii_digits ds) e).0
digit-at (c ∷ ds) (suc i) d e within = digit-at ds i d (and_parts (is_ascii_digit c) (all_ascii_digits ds) e).1 (omega arith)

digit-no-space : (c : ℕ) → is_ascii_digit c ≡ true → is_space c ≡ false
digit-no-space c e = grind (arith, nat_tests)

-- texts without a space at either end stay
ends-stay : (text : List ℕ) → 0 < length text → is_space (get_or text 0 0) ≡ false → is_space (get_or text (length text - 1) 0) ≡ false → trimmed text ≡ text
ends-stay [] some first last = absurd (omega arith)
ends-stay (c ∷ text) some first last =
    let none : suffix_len is_space (c ∷ text) ≡ 0 =
    ap (suffix_len is_space) (sym (take-length (c ∷ text))) ∙ suffix_len-take_no is_space (c ∷ text) (length (c ∷ text)) 0 some (omega arith) last in
    let same : length (c ∷ text) - suffix_len is_space (c ∷ text) ≡ length (c ∷ text) = omega (arith, none) in
    let end : without_end (c ∷ text) ≡ c ∷ text = ap (λ k. take k (c ∷ text)) same ∙ take-length (c ∷ text) in
    ap without_front end ∙ ap (λ b. drop (cond b (1 + prefix_len is_space text) 0) (c ∷ text)) first

unsigned-is : (ds : List ℕ) → all_ascii_digits ds ≡ true → 0 < length ds → unsigned_of ds ≡ Some (numeral_value ds)
unsigned-is [] e some = absurd (omega arith)
unsigned-is (c ∷ ds) e some =
    let n = length (c ∷ ds) in
    let more : nat_lt 0 n ≡ true = grind (arith, nat_tests) in
    ap (λ k. cond (nat_lt 0 k && is_fraction (drop k (c ∷ ds))) (Some (numeral_value (take k (c ∷ ds)))) None) (all-digits (c ∷ ds) e)
    ∙ ap (λ b. cond (b && is_fraction (drop n (c ∷ ds))) (Some (numeral_value (take n (c ∷ ds)))) None) more
    ∙ ap (λ (z : List ℕ). cond (is_fraction z) (Some (numeral_value (take n (c ∷ ds)))) None) (drop_all n (c ∷ ds) (omega arith))
    ∙ ap (λ (z : List ℕ). Some (numeral_value z)) (take-length (c ∷ ds))

digit-no-sign : (c : ℕ) → is_ascii_digit c ≡ true → ((c == 45) ≡ false) × ((c == 43) ≡ false)
digit-no-sign c e = (grind (arith, nat_tests), grind (arith, nat_tests))

signed-is : (ds : List ℕ) → all_ascii_digits ds ≡ true → 0 < length ds → signed_of ds ≡ Some (pos (numeral_value ds))
signed-is [] e some = absurd (omega arith)
signed-is (c ∷ ds) e some =
    let no = digit-no-sign c (and_parts (is_ascii_digit c) (all_ascii_digits ds) e).0 in
    let plain = option_map pos (unsigned_of (c ∷ ds)) in
    let plus = option_map pos (unsigned_of ds) in
    ap (λ b. cond b (option_map (λ n. neg_ℤ (pos n)) (unsigned_of ds)) (cond (c == 43) plus plain)) no.0
    ∙ ap (λ b. cond b plus plain) no.1 ∙ ap (option_map pos) (unsigned-is (c ∷ ds) e some)

module _ (n : ℕ) (small : n < 2 ^ 64) where
  are_digits : all_ascii_digits (decimal n) ≡ true
  are_digits = digits_decimal own n small

  some_digits : 0 < length (decimal n)
  some_digits = decimal_nonempty n small

  last-no-space : is_space (get_or (decimal n) (length (decimal n) - 1) 0) ≡ false
  last-no-space = digit-no-space _ (digit-at (decimal n) (length (decimal n) - 1) 0 are_digits (omega (arith, some_digits)))

  integer-pos : integer_of (decimal n) ≡ Some (pos n)
  integer-pos =
      ap signed_of (ends-stay (decimal n) some_digits (digit-no-space _ (digit-at (decimal n) 0 0 are_digits some_digits)) last-no-space)
      ∙ signed-is (decimal n) are_digits some_digits ∙ ap (λ k. Some (pos k)) (digits_value-decimal own n small)

  last-of : (ds : List ℕ) → 0 < length ds → get_or (45 ∷ ds) (length (45 ∷ ds) - 1) 0 ≡ get_or ds (length ds - 1) 0
  last-of [] some = absurd (omega arith)
  last-of (c ∷ ds) some =
      let e : length (45 ∷ c ∷ ds) - 1 ≡ suc (length (c ∷ ds) - 1) = omega arith in ap (λ k. get_or (45 ∷ c ∷ ds) k 0) e

  integer-neg : integer_of (45 ∷ decimal n) ≡ Some (neg_ℤ (pos n))
  integer-neg =
      ap signed_of (ends-stay (45 ∷ decimal n) (omega arith) refl (ap is_space (last-of (decimal n) some_digits) ∙ last-no-space))
      ∙ ap (option_map (λ k. neg_ℤ (pos k))) (unsigned-is (decimal n) are_digits some_digits)
      ∙ ap (λ k. Some (neg_ℤ (pos k))) (digits_value-decimal own n small)

Near : ℤ → Type 0
Near (pos n) = n < 2 ^ 64
Near (negsuc n) = suc n < 2 ^ 64

integer-is : (z : ℤ) → Near z → integer_of (signed_decimal z) ≡ Some z
unfolding Near
integer-is (pos n) near = integer-pos n near
integer-is (negsuc n) near = integer-neg (suc n) near

signed-ascii : (z : ℤ) → Near z → IsAscii (signed_decimal z)
unfolding Near
signed-ascii (pos n) near i = IsAscii-decimal n near i
signed-ascii (negsuc n) near zero = omega arith
signed-ascii (negsuc n) near (suc i) = IsAscii-decimal (suc n) near i

ascii-small : (text : List ℕ) → IsAscii text → All IsByte text
ascii-small text ascii k d within = let h = All-from_ascii text ascii k d within in omega (arith, h)

int-near : (z : ℤ) → FitsSigned w32 z → Near z × (is_int z ≡ true)
unfolding Near
int-near (pos n) fits = (omega (arith, ints), grind (arith, ints, nat_tests))
int-near (negsuc n) fits = (omega (arith, ints), grind (arith, ints, nat_tests))

big-near : (z : ℤ) → FitsSigned w64 z → Near z × (is_big z ≡ true)
unfolding Near
big-near (pos n) fits = (omega (arith, ints), grind (arith, ints, nat_tests))
big-near (negsuc n) fits = (omega (arith, ints), grind (arith, ints, nat_tests))

int-says : (v : Value) (z : ℤ) → out-Value v ≡ Value-F.Int z → FitsSigned w32 z → SaysValue type.Int v
int-says v z e fits =
    let near = int-near z fits in
    let read : int_of (signed_decimal z) ≡ Some z =
    ap (option_and_then (kept_if is_int)) (integer-is z near.0) ∙ ap (λ b. cond b (Some z) None) near.1 in
    by-text type.Int v (signed_decimal z) (conv v (Value-F.Int z) type.Str e)
    (IsUtf8-from_ascii (signed_decimal z) (signed-ascii z near.0)) (ascii-small (signed_decimal z) (signed-ascii z near.0))
    (ap some_int read ∙ sym (rolls-Int z) ∙ whole v (Value-F.Int z) e)

big-says : (v : Value) (z : ℤ) → out-Value v ≡ Value-F.Big z → FitsSigned w64 z → SaysValue type.BigInt v
big-says v z e fits =
    let near = big-near z fits in
    let read : big_of (signed_decimal z) ≡ Some z =
    ap (option_and_then (kept_if is_big)) (integer-is z near.0) ∙ ap (λ b. cond b (Some z) None) near.1 in
    by-text type.BigInt v (signed_decimal z) (conv v (Value-F.Big z) type.Str e)
    (IsUtf8-from_ascii (signed_decimal z) (signed-ascii z near.0)) (ascii-small (signed_decimal z) (signed-ascii z near.0))
    (ap some_big read ∙ sym (rolls-Big z) ∙ whole v (Value-F.Big z) e)

-- ---- texts and truths

str-says : (v : Value) (text : List ℕ) → out-Value v ≡ Value-F.Str text → IsUtf8 text → All IsByte text → SaysValue type.Str v
str-says v text e utf8 small =
    by-text type.Str v text (conv v (Value-F.Str text) type.Str e) utf8 small (sym (rolls-Str text) ∙ whole v (Value-F.Str text) e)

letters : (text : List ℕ) → Rattle.std.specs.List.list_all (λ b. nat_lt b 128) text ≡ true → IsAscii text
letters [] e i = omega arith
letters (b ∷ text) e zero = grind (arith, nat_tests)
letters (b ∷ text) e (suc i) = letters text (and_parts (nat_lt b 128) _ e).1 i

bool-says : (v : Value) (b : Bool) → out-Value v ≡ Value-F.Bool b → SaysValue type.Boolean v
bool-says v true e =
    by-text type.Boolean v (codes "TRUE") (conv v (Value-F.Bool true) type.Str e) (IsUtf8-from_ascii (codes "TRUE") (letters (codes "TRUE") refl))
    (ascii-small (codes "TRUE") (letters (codes "TRUE") refl)) (sym (rolls-Bool true) ∙ whole v (Value-F.Bool true) e)
bool-says v false e =
    by-text type.Boolean v (codes "FALSE") (conv v (Value-F.Bool false) type.Str e) (IsUtf8-from_ascii (codes "FALSE") (letters (codes "FALSE") refl))
    (ascii-small (codes "FALSE") (letters (codes "FALSE") refl)) (sym (rolls-Bool false) ∙ whole v (Value-F.Bool false) e)

-- ---- dates

dated : (v : Value) (day : ℤ) (date : CivilDate) → out-Value v ≡ Value-F.Day day → date_of day ≡ Some date → SaysValue type.Date v
dated v day date e found =
    by-text type.Date v (civil_text date)
    (ap (λ (d : Option CivilDate). from_date day d type.Str) (sym found) ∙ conv v (Value-F.Day day) type.Str e)
    (civil_text-utf8 date) (civil-small date)
    (ap some_day (read-day day date found) ∙ sym (rolls-Day day) ∙ whole v (Value-F.Day day) e)

day-by : (v : Value) (day : ℤ) → out-Value v ≡ Value-F.Day day → (d : Option CivilDate) → date_of day ≡ d → IsSome d → SaysValue type.Date v
day-by v day e None found some = absurd (false≢true some)
day-by v day e (Some date) found some = dated v day date e found

day-says : (v : Value) (day : ℤ) → out-Value v ≡ Value-F.Day day → IsSome (date_of day) → SaysValue type.Date v
day-says v day e some = day-by v day e (date_of day) refl some

-- ---- all of them

says-by : (kind : SqlType) (v : Value) (x : Value-F Value) → out-Value v ≡ x → IsSaidLayer kind x → SaysValue kind v
says-by kind v Value-F.Null e said = null-says kind v e
says-by type.Boolean v (Value-F.Bool b) e said = bool-says v b e
says-by type.Int v (Value-F.Int z) e said = int-says v z e said
says-by type.BigInt v (Value-F.Big z) e said = big-says v z e said
says-by type.Str v (Value-F.Str text) e said = str-says v text e said.0 said.1
says-by type.Null v (Value-F.Bool b) e said = absurd said
says-by type.Null v (Value-F.Int b) e said = absurd said
says-by type.Null v (Value-F.Big b) e said = absurd said
says-by type.Null v (Value-F.Str b) e said = absurd said
says-by type.Boolean v (Value-F.Int b) e said = absurd said
says-by type.Boolean v (Value-F.Big b) e said = absurd said
says-by type.Boolean v (Value-F.Str b) e said = absurd said
says-by type.Int v (Value-F.Bool b) e said = absurd said
says-by type.Int v (Value-F.Big b) e said = absurd said
says-by type.Int v (Value-F.Str b) e said = absurd said
says-by type.BigInt v (Value-F.Bool b) e said = absurd said
says-by type.BigInt v (Value-F.Int b) e said = absurd said
says-by type.BigInt v (Value-F.Str b) e said = absurd said
says-by type.Str v (Value-F.Bool b) e said = absurd said
says-by type.Str v (Value-F.Int b) e said = absurd said
says-by type.Str v (Value-F.Big b) e said = absurd said
says-by type.Date v (Value-F.Bool b) e said = absurd said
says-by type.Date v (Value-F.Int b) e said = absurd said
says-by type.Date v (Value-F.Big b) e said = absurd said
says-by type.Date v (Value-F.Str b) e said = absurd said
says-by (type.ArrayOf a) v (Value-F.Bool b) e said = absurd said
says-by (type.ArrayOf a) v (Value-F.Int b) e said = absurd said
says-by (type.ArrayOf a) v (Value-F.Big b) e said = absurd said
says-by (type.ArrayOf a) v (Value-F.Str b) e said = absurd said
says-by type.Null v (Value-F.Day d) e said = absurd said
says-by type.Null v (Value-F.Array items) e said = absurd said
says-by type.Boolean v (Value-F.Day d) e said = absurd said
says-by type.Boolean v (Value-F.Array items) e said = absurd said
says-by type.Int v (Value-F.Day d) e said = absurd said
says-by type.Int v (Value-F.Array items) e said = absurd said
says-by type.BigInt v (Value-F.Day d) e said = absurd said
says-by type.BigInt v (Value-F.Array items) e said = absurd said
says-by type.Str v (Value-F.Day d) e said = absurd said
says-by type.Str v (Value-F.Array items) e said = absurd said
says-by type.Date v (Value-F.Day day) e said = day-says v day e said
says-by type.Date v (Value-F.Array items) e said = absurd said
says-by (type.ArrayOf a) v (Value-F.Day d) e said = absurd said
says-by (type.ArrayOf a) v (Value-F.Array items) e said = absurd said

pub says : (kind : SqlType) (v : Value) → IsSaidLayer kind (out-Value v) → SaysValue kind v
says kind v said = says-by kind v (out-Value v) refl said
