-- A table whose rows differ has a word at one place at most, and that is the first place that is found.
use Rattle.std.proofs.Common.{◌≡◌, ℕ, zero, suc, ◌+◌, Bool, true, false, not, cond, List, [], ◌∷◌, map, Some, sym, ap, refl, subst, ◌∙◌, inl, inr, arith}
use Rattle.std.specs.List.{list_any, position, position_from, slice_get}
use Rattle.std.proofs.lemmas.Iterator.Adapters.{position_from-zero}
use Rattle.std.specs.Str.{bytes_eq}
use Rattle.std.proofs.lemmas.Bool.{cases_Bool, and_parts, or_parts, not-true, false≢true, cond-true, cond-false}
use Rattle.std.proofs.lemmas.Slice.Eq.{bytes_eq-Decides}
use Rattle.hv_table.specs.Rows.{rows_differ, IsPlaceOf}

-- what no element passes, the element at a place doesn't
list_any-at : (test : List ℕ → Bool) (rows : List (List ℕ)) (place : ℕ) (word : List ℕ) → list_any test rows ≡ false → slice_get rows place ≡ Some word → test word ≡ false
list_any-at test [] place word none at = cc
list_any-at test (row ∷ rows) zero word none at =
    let same : row ≡ word = cc in
    ap test (sym same) ∙ (or_parts (test row) (list_any test rows) none).0
list_any-at test (row ∷ rows) (suc place) word none at =
    list_any-at test rows place word (or_parts (test row) (list_any test rows) none).1 at

-- from where a row is to where the search stops
position-at : (rows : List (List ℕ)) (place from : ℕ) (word : List ℕ) → rows_differ rows ≡ true → slice_get rows place ≡ Some word → position_from (λ row. bytes_eq row word) from rows ≡ Some (from + place)
position-at [] place from word differ at = cc
position-at (row ∷ rows) zero from word differ at =
    let same : row ≡ word = cc in
    let e : bytes_eq row word ≡ true = (bytes_eq-Decides row word).1 same in
    let n : from + 0 ≡ from = omega arith in
    rw e (ap Some (sym n))
position-at (row ∷ rows) (suc place) from word differ at =
    let parts = and_parts (not (list_any (bytes_eq row) rows)) (rows_differ rows) differ in
    let e : bytes_eq row word ≡ false = list_any-at (bytes_eq row) rows place word (not-true (list_any (bytes_eq row) rows) parts.0) at in
    let n : from + 1 + place ≡ from + suc place = omega arith in
    rw e (position-at rows place (from + 1) word parts.1 at ∙ ap Some n)

-- from where the search stops to where the row is
row_at-position : (rows : List (List ℕ)) (from found : ℕ) (word : List ℕ) → position_from (λ row. bytes_eq row word) from rows ≡ Some found → (place : ℕ) × ((found ≡ from + place) × (slice_get rows place ≡ Some word))
row_at-position [] from found word stops = absurd (let k : false ≡ true = cc in false≢true k)
row_at-position (row ∷ rows) from found word stops =
    elim (cases_Bool (bytes_eq row word)) [
      | inl e ↦
          let here : Some from ≡ Some found = sym (cond-true (bytes_eq row word) (Some from) (position_from (λ row. bytes_eq row word) (from + 1) rows) e) ∙ stops in
          let n : from ≡ found = cc in
          let same : row ≡ word = (bytes_eq-Decides row word).0 e in
          (0, (omega arith, ap Some same))
      | inr e ↦
          let behind : position_from (λ row. bytes_eq row word) (from + 1) rows ≡ Some found = sym (cond-false (bytes_eq row word) (Some from) (position_from (λ row. bytes_eq row word) (from + 1) rows) e) ∙ stops in
          let rest = row_at-position rows (from + 1) found word behind in
          (suc rest.0, (omega (arith, rest.1.0), rest.1.1))
    ]

-- a search among texts is one among what has them
position_from-map : {X : Type 0} (text : X → List ℕ) (word : List ℕ) (from : ℕ) (rows : List X) → position_from (λ row. bytes_eq (text row) word) from rows ≡ position_from (λ row. bytes_eq row word) from (map text rows)
position_from-map text word from [] = refl
position_from-map text word from (row ∷ rows) =
    ap (cond (bytes_eq (text row) word) (Some from)) (position_from-map text word (from + 1) rows)

-- where rows differ, the first place that is found is the only one
IsPlaceOf-position_from : (word : List ℕ) (rows : List (List ℕ)) → rows_differ rows ≡ true → IsPlaceOf word rows (position_from (λ row. bytes_eq row word) 0 rows)
IsPlaceOf-position_from word rows differ = λ place. (
  λ found. let row = row_at-position rows 0 place word found in
      let same : row.0 ≡ place = omega (arith, row.1.0) in
      subst (λ (p : ℕ). slice_get rows p ≡ Some word) same row.1.1,
  λ at. let found = position-at rows place 0 word differ at in
      let same : 0 + place ≡ place = omega arith in
      found ∙ ap Some same,
)

pub IsPlaceOf-position : {X : Type 0} (text : X → List ℕ) (word : List ℕ) (rows : List X) → rows_differ (map text rows) ≡ true → IsPlaceOf word (map text rows) (position (λ row. bytes_eq (text row) word) rows)
IsPlaceOf-position text word rows differ =
    let same = position_from-zero (λ row. bytes_eq (text row) word) rows ∙ position_from-map text word 0 rows in
    subst (IsPlaceOf word (map text rows)) (sym same) (IsPlaceOf-position_from word (map text rows) differ)
