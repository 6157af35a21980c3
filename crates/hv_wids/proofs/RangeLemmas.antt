-- From what holds of each write of a range to the range's answer.
use Rattle.std.proofs.Common.{◌≡◌, ℕ, zero, suc, ◌+◌, ◌-◌, ◌<◌, ◌≤◌, Bool, true, false, cond, sym, ap, refl, ◌∙◌, not, nat_le, inl, inr, ◌⊎◌, arith}
use Rattle.std.specs.List.{list_any, list_all, range_with_len}
use Rattle.std.proofs.lemmas.Bool.{le-leb, leb-true, not-true, not_from_false, and_parts, both_ways, or_from, or_left, or_right, and_from, and_left, and_right, cond-true, cond-false, false_from_ne_true, cases_eq}
use Rattle.hv_wids.specs.declared.list.Range.{Range}
use Rattle.hv_wids.specs.declared.list.Range.TheVariants.{All, Zero, Part}
use Rattle.hv_wids.specs.Between.{has, IsCountBetween}
use Rattle.hv_wids.specs.WriteIds.{WriteIds, ids_of, is_valid, ids_between, range_of, IsRangeOf}

all_between : (test : ℕ → Bool) (low count : ℕ) → ((id : ℕ) → low ≤ id → id < low + count → test id ≡ true) → list_all test (range_with_len low count) ≡ true
all_between test low zero each = refl
all_between test low (suc count) each =
    and_from (test low) (list_all test (range_with_len (low + 1) count)) (each low (omega arith) (omega arith))
    (all_between test (low + 1) count (λ id at_least below. each id (omega arith) (omega arith)))

not_all_between : (test : ℕ → Bool) (low count id : ℕ) → low ≤ id → id < low + count → test id ≡ false → list_all test (range_with_len low count) ≡ false
not_all_between test low zero id at_least below fails = absurd (omega arith)
not_all_between test low (suc count) id at_least below fails =
    elim (cases_eq low id) [
      | inl same ↦ and_left (test low) (list_all test (range_with_len (low + 1) count)) (ap test same ∙ fails)
      | inr differs ↦ and_right (test low) (list_all test (range_with_len (low + 1) count))
          (not_all_between test (low + 1) count id (omega arith) (omega arith) fails)
    ]

pub some_between : (test : ℕ → Bool) (low count id : ℕ) → low ≤ id → id < low + count → test id ≡ true → list_any test (range_with_len low count) ≡ true
some_between test low zero id at_least below passes = absurd (omega arith)
some_between test low (suc count) id at_least below passes =
    elim (cases_eq low id) [
      | inl same ↦ or_left (test low) (list_any test (range_with_len (low + 1) count)) (ap test same ∙ passes)
      | inr differs ↦ or_right (test low) (list_any test (range_with_len (low + 1) count))
          (some_between test (low + 1) count id (omega arith) (omega arith) passes)
    ]

pub none_between : (test : ℕ → Bool) (low count : ℕ) → ((id : ℕ) → low ≤ id → id < low + count → test id ≡ false) → list_any test (range_with_len low count) ≡ false
none_between test low zero each = refl
none_between test low (suc count) each =
    or_from (test low) (list_any test (range_with_len (low + 1) count)) (each low (omega arith) (omega arith))
    (none_between test (low + 1) count (λ id at_least below. each id (omega arith) (omega arith)))

pub range_of-from : (list : WriteIds) (low high : ℕ) (answer : Range) → low ≤ high → IsRangeOf list low high answer → answer ≡ range_of list low high
unfolding range_of
range_of-from list low high All order each =
    let all = all_between (is_valid list) low (suc high - low) (λ id at_least below. each id at_least (omega arith)) in
    sym (cond-true (list_all (is_valid list) (ids_between low high)) All (cond (list_any (is_valid list) (ids_between low high)) Part Zero) all)
range_of-from list low high Zero order none =
    let not_all = not_all_between (is_valid list) low (suc high - low) low (omega arith) (omega arith) (false_from_ne_true (is_valid list low) (none low (omega arith) order)) in
    let not_any = none_between (is_valid list) low (suc high - low) (λ id at_least below. false_from_ne_true (is_valid list id) (none id at_least (omega arith))) in
    sym (cond-false (list_all (is_valid list) (ids_between low high)) All (cond (list_any (is_valid list) (ids_between low high)) Part Zero) not_all
    ∙ cond-false (list_any (is_valid list) (ids_between low high)) Part Zero not_any)
range_of-from list low high Part order both =
    let seen = both.0 in
    let unseen = both.1 in
    let not_all = not_all_between (is_valid list) low (suc high - low) unseen.0 unseen.1.0 (omega (arith, unseen.1.1)) (false_from_ne_true (is_valid list unseen.0) unseen.1.2) in
    let some = some_between (is_valid list) low (suc high - low) seen.0 seen.1.0 (omega (arith, seen.1.1)) seen.1.2 in
    sym (cond-false (list_all (is_valid list) (ids_between low high)) All (cond (list_any (is_valid list) (ids_between low high)) Part Zero) not_all
    ∙ cond-true (list_any (is_valid list) (ids_between low high)) Part Zero some)

-- some write up to `last` is seen, and one at or behind it isn't
pub IsRangeOf-part : (list : WriteIds) (low last high count : ℕ) → IsCountBetween low last (ids_of list.exceptions) count → low ≤ last → last ≤ high → last ≤ list.high.0 → count ≤ last - low → (0 < count) ⊎ (list.high.0 < high) → IsRangeOf list low high Part
IsRangeOf-part list low last high count counted order within known room partly =
    let seen = counted.room (omega arith) in
    let valid : is_valid list seen.0 ≡ true =
    and_from (nat_le seen.0 list.high.0) (not (has (ids_of list.exceptions) seen.0)) (le-leb seen.0 list.high.0 (omega (arith, seen.1.1))) (not_from_false (has (ids_of list.exceptions) seen.0) seen.1.2) in (
      (seen.0, (seen.1.0, omega (arith, seen.1.1), valid)),
      elim partly [
        | inl some ↦
            let unseen = counted.some some in (
              unseen.0,
              (
                unseen.1.0,
                omega (arith, unseen.1.1),
                λ valid'.
                    both_ways (has (ids_of list.exceptions) unseen.0)
                    (not-true (has (ids_of list.exceptions) unseen.0) (and_parts (nat_le unseen.0 list.high.0) (not (has (ids_of list.exceptions) unseen.0)) valid').1)
                    unseen.1.2,
              ),
            )
        | inr above ↦ (
          high,
          (
            omega arith,
            omega arith,
            λ valid'.
                absurd (omega (arith, leb-true high list.high.0 (and_parts (nat_le high list.high.0) (not (has (ids_of list.exceptions) high)) valid').0)),
          ),
        )
      ],
    )
