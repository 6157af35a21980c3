-- What is set by transactions, one after another.
use Rattle.std.proofs.Common.{◌≡◌, ℕ, zero, suc, ◌+◌, ◌*◌, ◌<◌, ◌≤◌, true, false, Option, Some, None, List, [], ◌∷◌, length, drop, fold, refl, sym, ap, ◌∙◌, subst, arith}
use Rattle.std.specs.Prelude.{if◌then◌else◌, ◌&&◌, nat_lt, nat_le}
use Rattle.std.specs.Option.{option_map}
use Rattle.std.specs.List.{slice_get, list_all}
use Rattle.std.proofs.lemmas.Bool.{and_parts, ltb-true, leb-true}
use Rattle.hv_base.specs.declared.ids.Touch.{Touch}
use Rattle.hv_ast.specs.declared.statement.Stmt.{Stmt}
use Rattle.hv_ast.specs.declared.statement.Stmt.TheVariants as stmt
use Rattle.hv_history.specs.declared.state.Ending.{Ending}
use Rattle.hv_history.specs.declared.state.Ending.TheVariants.{Committed, Aborted, Made, Dropped}
use Rattle.hv_history.specs.declared.state.Transaction.{Transaction}
use Rattle.hv_history.specs.State.{numbered, opening_tree}
use Rattle.hv_history.specs.Thresholds.{is_digit, are_digits, number_of, thousandths_by, set_by, set_ended, set_in}
use Rattle.hv_tallies.specs.hv_earlier.specs.hv_meta.specs.hv_book.specs.Briefs.{brief, end_of, tree_in}
use Rattle.hv_tallies.specs.hv_earlier.specs.hv_meta.specs.hv_book.specs.Commits.{wrote_by, wrote_in}
use Rattle.hv_tallies.specs.hv_earlier.specs.hv_meta.specs.hv_book.specs.Said.{said}
use Rattle.hv_queue.specs.Settings.{scale, padded, set_with, set_next, place_of_end, end_place}

-- ---- a fold by numbers

drop-nil : {A : Type 0} (n : ℕ) → drop {A = A} n [] ≡ []
drop-nil zero = refl
drop-nil (suc n) = refl

-- what is kept of a text sets the same
set-said : (key : List ℕ) (reads : List ℕ → Option ℕ) (tree : Option Stmt) → set_by key reads (option_map said tree) ≡ set_by key reads tree
set-said key reads None = refl
set-said key reads (Some (stmt.Insert insert)) = refl
set-said key reads (Some tree) = refl

module _ (opening : Option ℕ) (key : List ℕ) (reads : List ℕ → Option ℕ) where
  fold-at : (ts : List Transaction) (n : ℕ) (found : Option (ℕ × ℕ))
      → fold (set_in opening key reads) found (drop n ts) ≡ fold (set_in opening key reads) (set_next opening key reads found (slice_get ts n)) (drop (n + 1) ts)
  fold-at [] zero found = ap (fold (set_in opening key reads) found) (sym (drop-nil (zero + 1)))
  fold-at [] (suc n) found = ap (fold (set_in opening key reads) found) (sym (drop-nil (suc n + 1)))
  fold-at (t ∷ ts) zero found = refl
  fold-at (t ∷ ts) (suc n) found =
      fold-at ts n found
      ∙ ap (λ k. fold (set_in opening key reads) (set_next opening key reads found (slice_get ts n)) (drop k (t ∷ ts))) (let at : suc (n + 1) ≡ suc n + 1 = omega arith in at)

  pub set-step : (ts : List Transaction) (i number : ℕ) (found : Option (ℕ × ℕ)) → number ≡ i + 1
      → fold (set_in opening key reads) found (drop i ts) ≡ fold (set_in opening key reads) (set_next opening key reads found (numbered ts number)) (drop (i + 1) ts)
  set-step ts i zero found e = absurd (omega (arith, e))
  set-step ts i (suc n) found e =
      let same : n ≡ i = omega (arith, e) in
      fold-at ts i found ∙ ap (λ k. fold (set_in opening key reads) (set_next opening key reads found (slice_get ts k)) (drop (i + 1) ts)) (sym same)

  -- ---- one that committed sets, at the place of its end

  pub uncommitted : (found : Option (ℕ × ℕ)) (o : Option Transaction) → wrote_in o ≡ None → found ≡ set_next opening key reads found o
  uncommitted found None none = refl
  uncommitted found (Some t) none = by t.ending none
    where
      by : (e : Option Ending) → wrote_by e ≡ None → found ≡ set_ended opening (set_by key reads (opening_tree t)) e found
      by None none = refl
      by (Some (Committed place wrote)) none = cc
      by (Some (Aborted place cause)) none = refl
      by (Some (Made place table)) none = refl
      by (Some (Dropped place table)) none = refl

  pub committed-set : (found : Option (ℕ × ℕ)) (o : Option Transaction) (wrote : List Touch) → wrote_in o ≡ Some wrote
      → set_with opening (set_by key reads (tree_in o)) found (end_place (option_map brief o)) ≡ set_next opening key reads found o
  committed-set found None wrote is = cc
  committed-set found (Some t) wrote is =
      ap (λ value. set_with opening value found (end_place (option_map brief (Some t)))) (set-said key reads (opening_tree t)) ∙ by t.ending is
    where
      by : (e : Option Ending) → wrote_by e ≡ Some wrote
          → set_with opening (set_by key reads (opening_tree t)) found (place_of_end (option_map end_of e)) ≡ set_ended opening (set_by key reads (opening_tree t)) e found
      by None is = cc
      by (Some (Committed place those)) is = refl
      by (Some (Aborted place cause)) is = cc
      by (Some (Made place table)) is = cc
      by (Some (Dropped place table)) is = cc

-- behind the last one nothing is left
pub set-end : (ts : List Transaction) (i : ℕ) → length ts ≤ i → drop i ts ≡ []
set-end [] i past = drop-nil i
set-end (t ∷ ts) zero past = absurd (omega (arith, past))
set-end (t ∷ ts) (suc i) past = set-end ts i (omega (arith, past))

-- ---- numbers of few digits

-- how great a number may be behind so many digits
abbrev pub bound_at : ℕ → ℕ
bound_at zero = 0
bound_at (suc i) = bound_at i * 10 + 255

pub bound-small : (i : ℕ) → i ≤ 6 → bound_at i ≤ 28333305
bound-small zero few = omega arith
bound-small (suc zero) few = omega arith
bound-small (suc (suc zero)) few = omega arith
bound-small (suc (suc (suc zero))) few = omega arith
bound-small (suc (suc (suc (suc zero)))) few = omega arith
bound-small (suc (suc (suc (suc (suc zero))))) few = omega arith
bound-small (suc (suc (suc (suc (suc (suc zero)))))) few = omega arith
bound-small (suc (suc (suc (suc (suc (suc (suc i))))))) few = absurd (omega (arith, few))

pub bound-next : (i n m : ℕ) → n ≤ bound_at i → m ≤ n * 10 + 255 → m ≤ bound_at (i + 1)
bound-next i n m fits next =
    let same : suc i ≡ i + 1 = omega arith in
    let more : m ≤ bound_at (suc i) = omega (arith, fits, next) in
    subst (λ k. m ≤ bound_at k) same more

pub padded-is : (fraction : List ℕ) → 0 < length fraction → length fraction ≤ 3 → number_of fraction * scale (length fraction) ≡ padded fraction
padded-is [] some few = absurd (omega (arith, some))
padded-is (a ∷ []) some few = omega arith
padded-is (a ∷ b ∷ []) some few = omega arith
padded-is (a ∷ b ∷ c ∷ []) some few = omega arith
padded-is (a ∷ b ∷ c ∷ d ∷ more) some few = absurd (omega (arith, few))

-- ---- digits that were tested

pub digits-some : (most : ℕ) (text : List ℕ) → are_digits most text ≡ true → 0 < length text
digits-some most text is = ltb-true 0 (length text) (and_parts (nat_lt 0 (length text)) (nat_le (length text) most && list_all is_digit text) is).0

pub digits-few : (most : ℕ) (text : List ℕ) → are_digits most text ≡ true → length text ≤ most
digits-few most text is =
    leb-true (length text) most
    (and_parts (nat_le (length text) most) (list_all is_digit text) (and_parts (nat_lt 0 (length text)) (nat_le (length text) most && list_all is_digit text) is).1).0

pub thousandths-some : (whole fraction : List ℕ) (n p : ℕ) → (are_digits 3 whole && are_digits 3 fraction) ≡ true → n ≡ number_of whole → p ≡ padded fraction
    → Some (n * 1000 + p) ≡ thousandths_by whole fraction
thousandths-some whole fraction n p is n_is p_is =
    (λ i. Some (n_is i * 1000 + p_is i)) ∙ sym (ap (λ b. if b then Some (number_of whole * 1000 + padded fraction) else None) is)

pub thousandths-none : (whole fraction : List ℕ) → (are_digits 3 whole && are_digits 3 fraction) ≡ false → None ≡ thousandths_by whole fraction
thousandths-none whole fraction is = sym (ap (λ b. if b then Some (number_of whole * 1000 + padded fraction) else None) is)
