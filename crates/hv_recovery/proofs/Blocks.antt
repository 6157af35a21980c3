-- A journal that is read block by block.
use Rattle.std.proofs.Common.{◌≡◌, ℕ, ◌+◌, ◌<◌, ◌≤◌, List, [], ◌∷◌, ◌++◌, length, take, drop, Option, Some, None, refl, sym, ap, ◌∙◌, subst, append_assoc, arith, length-append}
use Rattle.std.proofs.lemmas.List.{length-take-le, append-nil}
use Rattle.hv_base.specs.Told.{Tells}
use Rattle.hv_shelf.specs.Disk.{Store, ReadsAt}
use Rattle.hv_shelf.specs.Causes.{HardCause}

-- what was read is the front of the journal
abbrev pub HasRead : Option Store → List ℕ → Type 0
HasRead told bytes = Tells told (λ s. s.journal ≡ bytes ++ drop (length bytes) s.journal)

pub read_none : (told : Option Store) (bytes : List ℕ) → bytes ≡ [] → HasRead told bytes
read_none None bytes e = tt
read_none (Some s) bytes e = rw e refl

more : (j bytes out : List ℕ) (count at : ℕ) → at ≡ length bytes → count ≤ length out → j ≡ bytes ++ drop (length bytes) j → ReadsAt at count out j
    → j ≡ (bytes ++ take count out) ++ drop (length (bytes ++ take count out)) j
more j bytes out count at place fits before read =
    let len : length (bytes ++ take count out) ≡ at + count = omega (arith, length-append bytes (take count out), length-take-le count out fits) in
    before ∙ ap (λ (n : ℕ). bytes ++ drop n j) (sym place) ∙ ap (λ (x : List ℕ). bytes ++ x) read.given
    ∙ sym (append_assoc bytes (take count out) (drop (at + count) j)) ∙ ap (λ (n : ℕ). (bytes ++ take count out) ++ drop n j) (sym len)

pub read_more : (told now : Option Store) (bytes new out : List ℕ) (count at : ℕ) → now ≡ told → at ≡ length bytes → count ≤ length out
    → new ≡ bytes ++ take count out → HasRead told bytes → Tells now (λ s. ReadsAt at count out s.journal) → HasRead told new
read_more told now bytes new out count at same place fits pushed before read =
    let step : (t : Option Store) → HasRead t bytes → Tells t (λ s. ReadsAt at count out s.journal) → HasRead t (bytes ++ take count out) = λ t.
    elim t as (λ x. HasRead x bytes → Tells x (λ s. ReadsAt at count out s.journal) → HasRead x (bytes ++ take count out)) [
      | None ↦ λ a b. tt
      | Some s ↦ λ a b. more s.journal bytes out count at place fits a b
    ] in
    subst (HasRead told) (sym pushed)
    (step told before (subst (λ (t : Option Store). Tells t (λ s. ReadsAt at count out s.journal)) same read))

no_items : (xs : List ℕ) → length xs ≡ 0 → xs ≡ []
no_items [] e = refl
no_items (x ∷ xs) e = absurd (omega arith)

ended : (j bytes out : List ℕ) (count at : ℕ) → at ≡ length bytes → count ≡ 0 → 0 < length out → j ≡ bytes ++ drop (length bytes) j → ReadsAt at count out j
    → j ≡ bytes
ended j bytes out count at place none room before read =
    let nothing : length (drop at j) ≡ 0 = grind (arith, read.some room) in
    before ∙ ap (λ (n : ℕ). bytes ++ drop n j) (sym place) ∙ ap (λ (x : List ℕ). bytes ++ x) (no_items (drop at j) nothing) ∙ append-nil bytes

-- a read that gives nothing comes at the end
pub read_all : (told now : Option Store) (bytes out : List ℕ) (count at : ℕ) → now ≡ told → at ≡ length bytes → count ≡ 0 → 0 < length out
    → HasRead told bytes → Tells now (λ s. ReadsAt at count out s.journal) → Tells told (λ s. s.journal ≡ bytes)
read_all told now bytes out count at same place none room before read =
    let step : (t : Option Store) → HasRead t bytes → Tells t (λ s. ReadsAt at count out s.journal) → Tells t (λ s. s.journal ≡ bytes) = λ t.
    elim t as (λ x. HasRead x bytes → Tells x (λ s. ReadsAt at count out s.journal) → Tells x (λ s. s.journal ≡ bytes)) [
      | None ↦ λ a b. tt
      | Some s ↦ λ a b. ended s.journal bytes out count at place none room a b
    ] in
    step told before (subst (λ (t : Option Store). Tells t (λ s. ReadsAt at count out s.journal)) same read)

-- one call behind others that succeeded
pub cause_more : (F G : Type 0) (a b c x y z : ℕ) → HardCause ⊥ a b x y → HardCause F b c y z → (G → F) → HardCause G a c x z
cause_more F G a b c x y z before now also = record {
  later = omega (arith, before.later, now.later);
  hard_later = omega (arith, before.hard_later, now.hard_later);
  failed = λ f. let rose = now.failed (also f) in omega (arith, before.later, rose);
  failed_hard = λ f. let rose = now.failed_hard (also f) in omega (arith, before.hard_later, rose);
  rose_last = λ lt last. grind (arith, before.rose_last, now.rose_last, before.later, now.later, before.hard_later, now.hard_later);
}

pub cause_none : (a x : ℕ) → HardCause ⊥ a a x x
cause_none a x = record { later = omega arith; hard_later = omega arith; failed = λ no. absurd no; failed_hard = λ no. absurd no; rose_last = λ lt last. absurd (omega arith) }
