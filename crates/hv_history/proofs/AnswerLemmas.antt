-- Texts with a separator between two pieces, one piece more.
use Rattle.std.proofs.Common.{◌≡◌, ℕ, zero, suc, ◌+◌, ◌<◌, ◌==◌, Bool, if◌then◌else◌, List, [], ◌∷◌, ◌++◌, length, get_or, take, map, refl, ap, ◌∙◌, sym, arith}
use Rattle.std.specs.List.{join_with_byte}
use Rattle.std.proofs.Math.Dec.{eqb-suc-zero}
use Rattle.std.proofs.lemmas.List.{append_assoc}

-- the first piece
pub joined_first : (c : ℕ) (xs : List (List ℕ)) (d : List ℕ) → 0 < length xs → join_with_byte c (take 1 xs) ≡ get_or xs 0 d
joined_first c [] d p = absurd (omega arith)
joined_first c (x ∷ xs) d p = refl

-- a later piece stands behind the separator
pub joined_later : (c : ℕ) (xs : List (List ℕ)) (i : ℕ) (d : List ℕ) → suc i < length xs
    → join_with_byte c (take (suc (suc i)) xs) ≡ join_with_byte c (take (suc i) xs) ++ (c ∷ get_or xs (suc i) d)
joined_later c [] i d p = absurd (omega arith)
joined_later c (x ∷ []) i d p = absurd (omega arith)
joined_later c (x ∷ y ∷ ys) zero d p = refl
joined_later c (x ∷ y ∷ ys) (suc i) d p =
    ap (λ rest. x ++ (c ∷ rest)) (joined_later c (y ∷ ys) i d (omega arith))
    ∙ sym (append_assoc x (c ∷ join_with_byte c (take (suc i) (y ∷ ys))) (c ∷ get_or (y ∷ ys) (suc i) d))

abbrev separator : ℕ → Bool → List ℕ
separator c first = if first then [] else c ∷ []

-- one piece more, behind its separator
joined_more : (c : ℕ) (xs : List (List ℕ)) (i : ℕ) (d : List ℕ) → i < length xs
    → join_with_byte c (take (suc i) xs) ≡ join_with_byte c (take i xs) ++ separator c (i == 0) ++ get_or xs i d
joined_more c xs zero d p = joined_first c xs d p
joined_more c xs (suc i) d p =
    joined_later c xs i d p ∙ sym (append_assoc (join_with_byte c (take (suc i) xs)) (c ∷ []) (get_or xs (suc i) d))
    ∙ ap (λ first. join_with_byte c (take (suc i) xs) ++ separator c first ++ get_or xs (suc i) d) (sym (eqb-suc-zero i))

-- what was written so far goes on by a piece
pub written_more : (c : ℕ) (xs : List (List ℕ)) (i : ℕ) (start out apart next piece : List ℕ) → i < length xs
    → out ≡ start ++ join_with_byte c (take i xs) → apart ≡ out ++ separator c (i == 0) → next ≡ apart ++ piece
    → piece ≡ get_or xs i piece → next ≡ start ++ join_with_byte c (take (i + 1) xs)
written_more c xs i start out apart next piece p before behind put is =
    let step : suc i ≡ i + 1 = omega arith in
    put ∙ ap (λ o. o ++ piece) (behind ∙ ap (λ o. o ++ separator c (i == 0)) before)
    ∙ ap (λ o. o ++ piece) (append_assoc start (join_with_byte c (take i xs)) (separator c (i == 0)))
    ∙ append_assoc start (join_with_byte c (take i xs) ++ separator c (i == 0)) piece
    ∙ ap (λ rest. start ++ (join_with_byte c (take i xs) ++ separator c (i == 0) ++ rest)) is
    ∙ ap (λ rest. start ++ rest) (sym (joined_more c xs i piece p))
    ∙ ap (λ n. start ++ join_with_byte c (take n xs)) step

pub mapped_read : {A B : Type 0} (f : A → B) (xs : List A) (i : ℕ) (x : A) → i < length xs → x ≡ get_or xs i x → f x ≡ get_or (map f xs) i (f x)
mapped_read {A = A} f xs i x p is = ap f is ∙ by xs i x p
  where
    by : (xs : List A) (i : ℕ) (d : A) → i < length xs → f (get_or xs i d) ≡ get_or (map f xs) i (f d)
    by [] i d p = absurd (omega arith)
    by (y ∷ ys) zero d p = refl
    by (y ∷ ys) (suc i) d p = by ys i d (omega arith)
