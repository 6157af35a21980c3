-- Paths: two directories have two, and none leads out of the folder.
use Rattle.std.proofs.Common.{◌≡◌, ℕ, ◌^◌, ◌<◌, ◌⊎◌, inl, inr, List, [], ◌∷◌, ◌++◌, length, drop, map, Bool, true, false, true≢false, not, ◌&&◌, ◌||◌, ◌==◌, cond, refl, sym, ap, ◌∙◌, eqb-true, arith}
use Rattle.std.specs.Char.{is_ascii_digit}
use Rattle.std.specs.Str.{all_ascii_digits}
use Rattle.std.specs.List.{list_all, slice_split, onto_first, join_with_byte}
use Rattle.std.proofs.lemmas.List.Splits.{join_with_byte-slice_split}
use Rattle.hv_paths.specs.Names.{slash, dot, piece_mark, dir_mark, is_marked, piece_name, dir_name, padded, table_name, bucket_name, pieces_of, folders_of, has_slash, is_dotted, is_name}
use Rattle.hv_paths.proofs.NameLemmas.{piece_cases, dir_cases, piece_name-same, dir_name-same, padded-same, padded_digits, padded_some}

-- ## Two directories have two paths

no_end : (names : List (List ℕ)) (last : List ℕ) → names ++ last ∷ [] ≡ [] → ⊥
no_end [] last e = cc
no_end (name ∷ names) last e = cc

first_of : List (List ℕ) → List ℕ
first_of [] = []
first_of (name ∷ names) = name

firsts : (a b : List ℕ) (xs ys : List (List ℕ)) → a ∷ xs ≡ b ∷ ys → (a ≡ b) × (xs ≡ ys)
unfolding first_of
firsts a b xs ys e = (ap first_of e, ap (drop 1) e)

lasts : (xs ys : List (List ℕ)) (a b : List ℕ) → xs ++ a ∷ [] ≡ ys ++ b ∷ [] → (xs ≡ ys) × (a ≡ b)
lasts [] [] a b e = (refl, (firsts a b [] [] e).0)
lasts [] (y ∷ ys) a b e = absurd (no_end ys b (sym (firsts a y [] (ys ++ b ∷ []) e).1))
lasts (x ∷ xs) [] a b e = absurd (no_end xs a (firsts x b (xs ++ a ∷ []) [] e).1)
lasts (x ∷ xs) (y ∷ ys) a b e =
    let parts = firsts x y (xs ++ a ∷ []) (ys ++ b ∷ []) e
    in let rest = lasts xs ys a b parts.1
    in ((λ i. parts.0 i ∷ rest.0 i), rest.1)

piece_names-same : (xs ys : List (List ℕ)) → map piece_name xs ≡ map piece_name ys → xs ≡ ys
piece_names-same [] [] e = refl
piece_names-same [] (b ∷ ys) e = absurd (cc)
piece_names-same (a ∷ xs) [] e = absurd (cc)
piece_names-same (a ∷ xs) (b ∷ ys) e =
    let parts = firsts (piece_name a) (piece_name b) (map piece_name xs) (map piece_name ys) e
    in let first = piece_name-same a b parts.0
    in let rest = piece_names-same xs ys parts.1
    in λ i. first i ∷ rest i

joined : (text : List ℕ) → join_with_byte slash (pieces_of text) ≡ text
joined [] = refl
joined (byte ∷ bytes) = join_with_byte-slice_split slash (byte ∷ bytes)

pieces_of-same : (text other : List ℕ) → pieces_of text ≡ pieces_of other → text ≡ other
pieces_of-same text other e = sym (joined text) ∙ ap (join_with_byte slash) e ∙ joined other

pub folders_of-same : (table other : ℕ) (partition text dir name : List ℕ) → table < 2 ^ 64 → other < 2 ^ 64 →
    folders_of table partition dir ≡ folders_of other text name →
    (table ≡ other) × (partition ≡ text) × (dir ≡ name)
folders_of-same table other partition text dir name fits fits' e =
    let parts =
    firsts (table_name table) (table_name other) (map piece_name (pieces_of partition) ++ dir_name dir ∷ [])
    (map piece_name (pieces_of text) ++ dir_name name ∷ []) e
    in let rest =
    lasts (map piece_name (pieces_of partition)) (map piece_name (pieces_of text)) (dir_name dir) (dir_name name)
    parts.1
    in (
      padded-same 7 table other fits fits' parts.0,
      pieces_of-same partition text (piece_names-same (pieces_of partition) (pieces_of text) rest.0),
      dir_name-same dir name rest.1,
    )

pub bucket_name-same : (bucket other : ℕ) → bucket < 2 ^ 32 → other < 2 ^ 32 →
    bucket_name bucket ≡ bucket_name other → bucket ≡ other
bucket_name-same bucket other small small' e =
    padded-same 5 bucket other (omega arith) (omega arith) (ap (drop 7) e)

-- ## No name leads out of its folder

which : (b : Bool) → (b ≡ true) ⊎ (b ≡ false)
which true = inl refl
which false = inr refl

other_byte : (byte other : ℕ) → is_ascii_digit byte ≡ true → is_ascii_digit other ≡ false → (byte == other) ≡ false
other_byte byte other digit none = elim (which (byte == other)) [
  | inl same ↦ absurd (true≢false (sym digit ∙ ap is_ascii_digit (eqb-true byte other same) ∙ none))
  | inr differs ↦ differs
]

both : (a b : Bool) → (a && b) ≡ true → (a ≡ true) × (b ≡ true)
both true b e = (refl, e)
both false b e = absurd (true≢false (sym e))

neither : (a b : Bool) → a ≡ false → b ≡ false → (a || b) ≡ false
neither a b left right = ap (λ v. v || b) left ∙ right

digits-no_slash : (digits : List ℕ) → all_ascii_digits digits ≡ true → has_slash digits ≡ false
digits-no_slash [] all = refl
digits-no_slash (c ∷ cs) all =
    let parts = both (is_ascii_digit c) (all_ascii_digits cs) all
    in neither (c == slash) (has_slash cs) (other_byte c slash parts.0 refl) (digits-no_slash cs parts.1)

digits-no_dot : (digits : List ℕ) → all_ascii_digits digits ≡ true → 0 < length digits → is_dotted digits ≡ false
digits-no_dot [] all some = absurd (omega (arith, some))
digits-no_dot (c ∷ cs) all some = other_byte c dot (both (is_ascii_digit c) (all_ascii_digits cs) all).0 refl

named : (name : List ℕ) → has_slash name ≡ false → is_dotted name ≡ false → is_name name ≡ true
named name no_slash no_dot = λ i. not (no_slash i) && not (no_dot i)

padded-is_name : (width number : ℕ) → number < 2 ^ 64 → is_name (padded width number) ≡ true
padded-is_name width number fits =
    let digits = padded_digits width number fits
    in named (padded width number) (digits-no_slash (padded width number) digits)
    (digits-no_dot (padded width number) digits (padded_some width number fits))

pub bucket_name-is_name : (bucket : ℕ) → bucket < 2 ^ 32 → is_name (bucket_name bucket) ≡ true
bucket_name-is_name bucket small =
    named (bucket_name bucket) (digits-no_slash (padded 5 bucket) (padded_digits 5 bucket (omega arith))) refl

marked-no_dot : (name : List ℕ) → is_marked name ≡ false → is_dotted name ≡ false
marked-no_dot [] unmarked = unmarked
marked-no_dot (byte ∷ bytes) unmarked = elim (which (byte == dot)) [
  | inl is ↦ absurd (true≢false (sym (ap (λ v. v || ((byte == piece_mark) || (byte == dir_mark))) is) ∙ unmarked))
  | inr differs ↦ differs
]

piece-is_name : (piece : List ℕ) → has_slash piece ≡ false → is_name (piece_name piece) ≡ true
piece-is_name piece no_slash = elim (piece_cases piece) [
  | inl plain ↦ ap is_name plain.0 ∙ named piece no_slash (marked-no_dot piece plain.2)
  | inr marked ↦ ap is_name marked ∙ named (piece_mark ∷ piece) no_slash refl
]

dir-is_name : (dir : List ℕ) → has_slash dir ≡ false → is_name (dir_name dir) ≡ true
dir-is_name dir no_slash = elim (dir_cases dir) [
  | inl plain ↦ ap is_name plain.0 ∙ named dir no_slash (marked-no_dot dir plain.2)
  | inr marked ↦ ap is_name marked ∙ named (dir_mark ∷ dir) no_slash refl
]

no_slashes : List (List ℕ) → Bool
no_slashes [] = true
no_slashes (piece ∷ pieces) = not (has_slash piece) && no_slashes pieces

onto-no_slash : (byte : ℕ) (pieces : List (List ℕ)) → (byte == slash) ≡ false → no_slashes pieces ≡ true →
    no_slashes (onto_first byte pieces) ≡ true
unfolding no_slashes
onto-no_slash byte [] other all = λ i. not (other i || false) && true
onto-no_slash byte (piece ∷ pieces) other all =
    (λ i. not (other i || has_slash piece) && no_slashes pieces) ∙ all

split-no_slash : (text : List ℕ) → no_slashes (slice_split (λ byte. byte == slash) text) ≡ true
unfolding no_slashes
split-no_slash [] = refl
split-no_slash (byte ∷ bytes) =
    let parts = slice_split (λ b. b == slash) bytes
    in let split = λ (v : Bool). no_slashes (cond v ([] ∷ parts) (onto_first byte parts))
    in elim (which (byte == slash)) [
      | inl is ↦ ap split is ∙ split-no_slash bytes
      | inr differs ↦ ap split differs ∙ onto-no_slash byte parts differs (split-no_slash bytes)
    ]

pieces-no_slash : (text : List ℕ) → no_slashes (pieces_of text) ≡ true
unfolding no_slashes
pieces-no_slash [] = refl
pieces-no_slash (byte ∷ bytes) = split-no_slash (byte ∷ bytes)

no_of : (b : Bool) → not b ≡ true → b ≡ false
no_of true e = sym e
no_of false e = refl

pieces-are_names : (pieces : List (List ℕ)) (last : List ℕ) → no_slashes pieces ≡ true → is_name last ≡ true →
    list_all is_name (map piece_name pieces ++ last ∷ []) ≡ true
unfolding no_slashes
pieces-are_names [] last all ends = ap (λ v. v && true) ends
pieces-are_names (piece ∷ pieces) last all ends =
    let parts = both (not (has_slash piece)) (no_slashes pieces) all
    in let first = piece-is_name piece (no_of (has_slash piece) parts.0)
    in let rest = pieces-are_names pieces last parts.1 ends
    in λ i. first i && rest i

pub folders_of-are_names : (table : ℕ) (partition dir : List ℕ) → table < 2 ^ 64 → has_slash dir ≡ false →
    list_all is_name (folders_of table partition dir) ≡ true
folders_of-are_names table partition dir fits no_slash =
    let first = padded-is_name 7 table fits
    in let rest = pieces-are_names (pieces_of partition) (dir_name dir) (pieces-no_slash partition) (dir-is_name dir no_slash)
    in λ i. first i && rest i
