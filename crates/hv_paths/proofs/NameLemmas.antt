-- Lemmas on the names of files and folders.
use Rattle.std.proofs.Common.{◌≡◌, ℕ, zero, suc, ◌+◌, ◌-◌, ◌*◌, ◌^◌, ◌<◌, ◌⊎◌, inl, inr, List, [], ◌∷◌, ◌++◌, Bor, length, drop, replicate, map, Bool, true, false, true≢false, not, ◌&&◌, ◌||◌, ◌==◌, if◌then◌else◌, Result, Ok, refl, sym, ap, ◌∙◌, subst, arith, rules, length-append, eqb-true}
use Rattle.std.specs.Char.{is_ascii_digit}
use Rattle.std.specs.Fmt.{decimal}
use Rattle.std.specs.List.{list_all, slice_split}
use Rattle.std.specs.Str.{all_ascii_digits}
use Rattle.std.specs.Str.Parse.{ParsesUnsigned}
use Rattle.std.proofs.lemmas.Fmt.{digits_decimal, digits_value-decimal, decimal_is_IsNumeral}
use Rattle.std.proofs.lemmas.Str.Parse.{IsNumeralModel, numerals_by_fold, parse_gives}
use Rattle.hv_paths.specs.Names.{slash, zero_digit, piece_mark, dir_mark, is_marked, has_equals, piece_name, dir_name, padded, table_name, is_table, bucket_name, pieces_of}

-- ## Pieces and directories

piece_choice : (equals marked : Bool) (plain other : List ℕ) →
    let name = if equals && not marked then plain else other
    in ((name ≡ plain) × (equals ≡ true) × (marked ≡ false)) ⊎ (name ≡ other)
piece_choice true true plain other = inr refl
piece_choice true false plain other = inl (refl, refl, refl)
piece_choice false marked plain other = inr refl

dir_choice : (equals marked : Bool) (plain other : List ℕ) →
    let name = if equals || marked then other else plain
    in ((name ≡ plain) × (equals ≡ false) × (marked ≡ false)) ⊎ (name ≡ other)
dir_choice true marked plain other = inr refl
dir_choice false true plain other = inr refl
dir_choice false false plain other = inl (refl, refl, refl)

-- a piece's name is the piece, or the piece behind its mark
pub piece_cases : (piece : List ℕ) →
    ((piece_name piece ≡ piece) × (has_equals piece ≡ true) × (is_marked piece ≡ false))
    ⊎ (piece_name piece ≡ piece_mark ∷ piece)
piece_cases piece = piece_choice (has_equals piece) (is_marked piece) piece (piece_mark ∷ piece)

pub dir_cases : (dir : List ℕ) →
    ((dir_name dir ≡ dir) × (has_equals dir ≡ false) × (is_marked dir ≡ false))
    ⊎ (dir_name dir ≡ dir_mark ∷ dir)
dir_cases dir = dir_choice (has_equals dir) (is_marked dir) dir (dir_mark ∷ dir)

differ : (test : List ℕ → Bool) (a b : List ℕ) → test a ≡ true → test b ≡ false → a ≡ b → ⊥
differ test a b passes fails e = true≢false (sym passes ∙ ap test e ∙ fails)

-- a name that no piece and no directory has
pub no_entry : (name : List ℕ) → is_marked name ≡ true →
    ((rest : List ℕ) → name ≡ piece_mark ∷ rest → ⊥) → ((rest : List ℕ) → name ≡ dir_mark ∷ rest → ⊥) →
    ((piece : List ℕ) → piece_name piece ≡ name → ⊥) × ((dir : List ℕ) → dir_name dir ≡ name → ⊥)
no_entry name marked no_piece no_dir = (
  (λ piece e. elim (piece_cases piece) [
    | inl plain ↦ differ is_marked name piece marked plain.2 (sym e ∙ plain.0)
    | inr other ↦ no_piece piece (sym e ∙ other)
  ]),
  (λ dir e. elim (dir_cases dir) [
    | inl plain ↦ differ is_marked name dir marked plain.2 (sym e ∙ plain.0)
    | inr other ↦ no_dir dir (sym e ∙ other)
  ]),
)

-- two pieces have two names
pub piece_name-same : (piece other : List ℕ) → piece_name piece ≡ piece_name other → piece ≡ other
piece_name-same piece other e = elim (piece_cases piece) [
  | inl p ↦ elim (piece_cases other) [
    | inl q ↦ sym p.0 ∙ e ∙ q.0
    | inr q ↦ absurd (differ is_marked (piece_mark ∷ other) piece refl p.2 (sym q ∙ sym e ∙ p.0))
  ]
  | inr p ↦ elim (piece_cases other) [
    | inl q ↦ absurd (differ is_marked (piece_mark ∷ piece) other refl q.2 (sym p ∙ e ∙ q.0))
    | inr q ↦ ap (drop 1) (sym p ∙ e ∙ q)
  ]
]

-- two directories have two names
pub dir_name-same : (dir other : List ℕ) → dir_name dir ≡ dir_name other → dir ≡ other
dir_name-same dir other e = elim (dir_cases dir) [
  | inl p ↦ elim (dir_cases other) [
    | inl q ↦ sym p.0 ∙ e ∙ q.0
    | inr q ↦ absurd (differ is_marked (dir_mark ∷ other) dir refl p.2 (sym q ∙ sym e ∙ p.0))
  ]
  | inr p ↦ elim (dir_cases other) [
    | inl q ↦ absurd (differ is_marked (dir_mark ∷ dir) other refl q.2 (sym p ∙ e ∙ q.0))
    | inr q ↦ ap (drop 1) (sym p ∙ e ∙ q)
  ]
]

-- whether a name begins with a piece's mark
begins_piece : List ℕ → Bool
begins_piece [] = false
begins_piece (byte ∷ bytes) = byte == piece_mark

-- no piece has a directory's name
pub names_apart : (piece dir : List ℕ) → piece_name piece ≡ dir_name dir → ⊥
unfolding begins_piece
names_apart piece dir e = elim (piece_cases piece) [
  | inl p ↦ elim (dir_cases dir) [
    | inl q ↦ differ has_equals piece dir p.1 q.1 (sym p.0 ∙ e ∙ q.0)
    | inr q ↦ differ is_marked (dir_mark ∷ dir) piece refl p.2 (sym q ∙ sym e ∙ p.0)
  ]
  | inr p ↦ elim (dir_cases dir) [
    | inl q ↦ differ is_marked (piece_mark ∷ piece) dir refl q.2 (sym p ∙ e ∙ q.0)
    | inr q ↦ differ begins_piece (piece_mark ∷ piece) (dir_mark ∷ dir) refl refl (sym p ∙ e ∙ q)
  ]
]

-- ## Partitions

pub map-shown : (pieces : List (Bor (List ℕ))) →
    map (λ piece. piece_name piece.now) pieces ≡ map piece_name (map (λ piece. piece.now) pieces)
map-shown [] = refl
map-shown (piece ∷ pieces) = ap (λ names. piece_name piece.now ∷ names) (map-shown pieces)

-- a text that isn't empty has its parts between slashes as pieces
pub pieces_of-some : (text : List ℕ) → (length text == 0) ≡ false →
    slice_split (λ byte. byte == slash) text ≡ pieces_of text
pieces_of-some [] some = absurd (true≢false some)
pieces_of-some (byte ∷ bytes) some = refl

-- ## Numbers

abbrev read_on : ℕ → List ℕ → ℕ
read_on n [] = n
read_on n (c ∷ cs) = read_on (10 * n + (c - 48)) cs

own : IsNumeralModel (λ ds. all_ascii_digits ds ≡ true) (read_on 0)
own = numerals_by_fold _ (search rules) read_on (search rules)

zeros_digits : (count : ℕ) (ds : List ℕ) →
    all_ascii_digits (replicate count zero_digit ++ ds) ≡ all_ascii_digits ds
zeros_digits zero ds = refl
zeros_digits (suc count) ds = zeros_digits count ds

zeros_value : (count : ℕ) (ds : List ℕ) → read_on 0 (replicate count zero_digit ++ ds) ≡ read_on 0 ds
zeros_value zero ds = refl
zeros_value (suc count) ds = zeros_value count ds

pub padded_digits : (width number : ℕ) → number < 2 ^ 64 → all_ascii_digits (padded width number) ≡ true
padded_digits width number fits =
    zeros_digits (width - length (decimal number)) (decimal number) ∙ digits_decimal own number fits

read_on-padded : (width number : ℕ) → number < 2 ^ 64 → read_on 0 (padded width number) ≡ number
read_on-padded width number fits =
    zeros_value (width - length (decimal number)) (decimal number) ∙ digits_value-decimal own number fits

pub padded_some : (width number : ℕ) → number < 2 ^ 64 → 0 < length (padded width number)
padded_some width number fits =
    let some = (decimal_is_IsNumeral number fits).0.0
    in omega (arith, some, length-append (replicate (width - length (decimal number)) zero_digit) (decimal number))

all_digits : (name : List ℕ) → all_ascii_digits name ≡ true → list_all is_ascii_digit name ≡ true
all_digits [] digits = refl
all_digits (byte ∷ bytes) digits = elim (is_ascii_digit byte) as (λ b. b && all_ascii_digits bytes ≡ true → b && list_all is_ascii_digit bytes ≡ true) [
  | true ↦ λ rest. all_digits bytes rest
  | false ↦ λ rest. absurd (true≢false (sym rest))
] digits

some_digits : (name : List ℕ) → 0 < length name → all_ascii_digits name ≡ true → is_table name ≡ true
some_digits [] some digits = absurd (omega (arith, some))
some_digits (byte ∷ bytes) some digits = all_digits (byte ∷ bytes) digits

pub is_table-none : (name : List ℕ) → (length name == 0) ≡ true → false ≡ is_table name
is_table-none [] none = refl
is_table-none (byte ∷ bytes) none = absurd (omega (arith, eqb-true (length (byte ∷ bytes)) 0 none))

pub is_table-some : (name : List ℕ) (digits : Bool) → (length name == 0) ≡ false →
    digits ≡ list_all is_ascii_digit name → digits ≡ is_table name
is_table-some [] digits some e = absurd (true≢false some)
is_table-some (byte ∷ bytes) digits some e = e

-- each table's folder has digits alone
pub table_name-is_table : (table : ℕ) → table < 2 ^ 64 → is_table (table_name table) ≡ true
table_name-is_table table fits = some_digits (table_name table) (padded_some 7 table fits) (padded_digits 7 table fits)

-- two numbers have two spellings
pub padded-same : (width number other : ℕ) → number < 2 ^ 64 → other < 2 ^ 64 →
    padded width number ≡ padded width other → number ≡ other
padded-same width number other fits fits' e =
    sym (read_on-padded width number fits) ∙ ap (read_on 0) e ∙ read_on-padded width other fits'

-- a name begins as a file's does, and its digits are the rest
pub digits_of : (bucket at : ℕ) (name digits : List ℕ) → bucket_name bucket ≡ name → at ≡ 7 →
    digits ≡ drop at name → digits ≡ padded 5 bucket
digits_of bucket at name digits named seven e =
    e ∙ ap (λ n. drop n name) seven ∙ ap (drop 7) (sym named)

-- the digits of a bucket are read as its number
pub parse_padded : {E : Type 0} (width number : ℕ) (digits : List ℕ) (r : Result ℕ E) → number < 2 ^ 32 →
    digits ≡ padded width number → ParsesUnsigned 32 10 digits r → r ≡ Ok number
parse_padded width number digits r small e parses =
    let fits : number < 2 ^ 64 = omega arith
    in let value : read_on 0 digits ≡ number = ap (read_on 0) e ∙ read_on-padded width number fits
    in let all : all_ascii_digits digits ≡ true = ap all_ascii_digits e ∙ padded_digits width number fits
    in let some : 0 < length digits = subst (λ ds. 0 < length ds) (sym e) (padded_some width number fits)
    in parse_gives own 32 digits r parses all some (subst (λ n. n < 2 ^ 32) (sym value) small) ∙ ap Ok value
