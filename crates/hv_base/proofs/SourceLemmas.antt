use Rattle.std.proofs.Common.{◌≡◌, ℕ, ◌+◌, ◌-◌, List, ◌++◌, length, take, drop, min, sym, ◌∙◌, ap, subst, arith, length-append, length-drop}
use Rattle.std.proofs.lemmas.List.{take-append-drop, take_at, take_all, length-take, drop-drop}
use Rattle.hv_base.specs.Source.{GivesNext}

-- the front of a buffer that was filled from the front of what was left
pub GivesNext-front : (count : ℕ) (left out : List ℕ) → count ≡ min (length out) (length left) →
    GivesNext count (take count left ++ drop count out) left (drop count left)
GivesNext-front count left out fits =
    let full : length (take count left) ≡ count = omega (arith, length-take count left)
    in record {
      given = sym (ap (λ p. p ++ drop count left) (take_at (take count left) (drop count out) count full) ∙ take-append-drop count left);
      some = λ a b. omega (arith, length-append (take count left) (drop count out), length-drop count out);
    }

-- the same, where what is left stands in a slice behind a place
pub GivesNext-slice : (count place : ℕ) (slice bytes out copied left : List ℕ) →
    slice ≡ bytes → drop place bytes ≡ left →
    copied ≡ take count (take (length slice - place) (drop place slice)) →
    count ≡ min (length out) (length (take (length slice - place) (drop place slice))) →
    GivesNext count (copied ++ drop count out) left (drop (place + count) bytes)
GivesNext-slice count place slice bytes out copied left same behind filled fits =
    let all : take (length slice - place) (drop place slice) ≡ left =
    take_all _ _ (omega (arith, length-drop place slice)) ∙ ap (drop place) same ∙ behind
    in let rest : drop count left ≡ drop (place + count) bytes = ap (drop count) (sym behind) ∙ drop-drop count place bytes
    in let front : take count left ≡ copied = sym (filled ∙ ap (take count) all)
    in subst (λ p. GivesNext count (p ++ drop count out) left (drop (place + count) bytes)) front
    (subst (λ p. GivesNext count (take count left ++ drop count out) left p) rest
    (GivesNext-front count left out (fits ∙ ap (λ p. min (length out) (length p)) all)))
