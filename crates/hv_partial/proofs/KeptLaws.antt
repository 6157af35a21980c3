-- What is kept of a group, row by row, is its first row and what its sums are over all its rows.
use Rattle.std.proofs.Common.{◌≡◌, ℕ, zero, suc, ◌+◌, ◌<◌, ◌≤◌, min, Bool, true, false, cond, List, [], ◌∷◌, ◌++◌, length, map, filter, flat_map, take, drop, set, get_or, Option, None, Some, refl, sym, ap, subst, ◌∙◌, arith, append_assoc, ◌⊎◌, inl, inr}
use Rattle.std.specs.List.{fold}
use Rattle.std.proofs.lemmas.List.{append-nil, map-append, map-set, length-map, get_or-map, take-append-drop}
use Rattle.std.proofs.lemmas.Bool.{cases_lt}
use Rattle.std.proofs.lemmas.Simd.{map-map}
use Rattle.hv_value.specs.declared.value.Value.{Value}
use Rattle.hv_expr.specs.declared.tree.TypedExpr.{TypedExpr}
use Rattle.hv_expr.specs.Evaluation.{value_over, first_row, values_of}
use Rattle.hv_expr.specs.Groups.{over_values}
use Rattle.hv_typing.specs.Grouped.{members, keys_in, groups}
use Rattle.hv_typing.specs.Rows.{Frame, key_of, same_row, is_met_over, group_row}
use Rattle.hv_keyed.specs.Folds.{folded, folds}
use Rattle.hv_keyed.proofs.Members.{groups_shown}
use Rattle.hv_seen.specs.declared.seen.Seen.{Seen}
use Rattle.hv_seen.specs.Seen.{seen_value}
use Rattle.hv_eval.specs.declared.frame.Frame.{Frame as Row}
use Rattle.hv_eval.specs.Frames.{frame_values, frames_values}
use Rattle.hv_eval.proofs.Accumulators.{one_more as value_more}
use Rattle.hv_partial.specs.declared.sum.Sum.{Sum}
use Rattle.hv_partial.specs.declared.select.Lifted.{Lifted}
use Rattle.hv_partial.specs.Sums.{function_of, taken_of, sum_over, sums_over, one_more}
use Rattle.hv_partial.specs.Lifts.{IsLifted, maybe_of, maybe_in}
use Rattle.hv_partial.specs.Kept.{head_of, summed, first_or, each_more, summed_more, or_no_values, holds_if, shown_if, shown_by, rows_shown}

-- ---- one row more

sum_more : (sum : Sum) (done : List Frame) (row : Frame) → one_more sum (sum_over done sum) row ≡ sum_over (done ++ row ∷ []) sum
unfolding one_more sum_over
sum_more sum done row =
    value_more (function_of sum) (map (taken_of sum) done) (taken_of sum row)
    ∙ ap (over_values (function_of sum)) (sym (map-append (taken_of sum) done (row ∷ [])))

sums_more : (sums : List Sum) (done : List Frame) (row : Frame) → each_more sums (sums_over sums done) row ≡ sums_over sums (done ++ row ∷ [])
sums_more [] done row = refl
sums_more (sum ∷ sums) done row = λ i. sum_more sum done row i ∷ sums_more sums done row i

head_more : (done : List Frame) (row : Frame) → Some (first_or (head_of done) row) ≡ head_of (done ++ row ∷ [])
head_more [] row = refl
head_more (first ∷ done) row = refl

pub row_more : (sums : List Sum) (done : List Frame) (row : Frame) → summed_more sums (summed sums done) row ≡ summed sums (done ++ row ∷ [])
unfolding summed_more
row_more sums done row = λ i. (head_more done row i, sums_more sums done row i)

-- ---- all rows

abbrev stepped : List Sum → Option Frame × List Value → Row → Option Frame × List Value
stepped sums kept row = summed_more sums kept (frame_values row)

folded_from : (sums : List Sum) (done : List Frame) (rows : List Row) → fold (stepped sums) (summed sums done) rows ≡ summed sums (done ++ frames_values rows)
folded_from sums done [] = ap (summed sums) (sym (append-nil done))
folded_from sums done (row ∷ rows) =
    ap (λ kept. fold (stepped sums) kept rows) (row_more sums done (frame_values row))
    ∙ folded_from sums (done ++ frame_values row ∷ []) rows ∙ ap (summed sums) (append_assoc done (frame_values row ∷ []) (frames_values rows))

map_same : {A B : Type 0} (f g : A → B) → ((a : A) → f a ≡ g a) → (xs : List A) → map f xs ≡ map g xs
map_same f g e [] = refl
map_same f g e (x ∷ xs) = λ i. e x i ∷ map_same f g e xs i

-- what is kept of each group is what is kept of its rows
pub groups_summed : (sums : List Sum) (keys : List TypedExpr) (rows : List Row)
    → folds same_row (λ row. key_of keys (frame_values row)) (summed sums []) (stepped sums) rows ≡ map (summed sums) (groups same_row (key_of keys) (frames_values rows))
groups_summed sums keys rows =
    let key = λ (row : Row). key_of keys (frame_values row) in
    let all = keys_in same_row key rows in
    map_same (folded same_row key (summed sums []) (stepped sums) rows) (λ k. summed sums (frames_values (members same_row key rows k)))
    (λ k. folded_from sums [] (members same_row key rows k)) all
    ∙ sym (map-map (λ (group : List Row). summed sums (frames_values group)) (members same_row key rows) all)
    ∙ sym (map-map (summed sums) frames_values (groups same_row key rows))
    ∙ ap (map (summed sums)) (groups_shown same_row (key_of keys) frame_values rows)

-- ---- the loop over the sums

set_more : (sums : List Sum) (kept : List Value) (row : Frame) (place : ℕ) (sum : Sum) (v : Value) → place < length sums → place < length kept
    → sum ≡ get_or sums place sum → v ≡ get_or kept place v
    → take (place + 1) (set kept place (one_more sum v row)) ++ each_more (drop (place + 1) sums) (drop (place + 1) (set kept place (one_more sum v row))) row
    ≡ take place kept ++ each_more (drop place sums) (drop place kept) row
set_more [] kept row place sum v h k is at = absurd (omega (arith, h))
set_more (s ∷ sums) [] row place sum v h k is at = absurd (omega (arith, k))
set_more (s ∷ sums) (w ∷ kept) row zero sum v h k is at = λ i. one_more (is i) (at i) row ∷ each_more sums kept row
set_more (s ∷ sums) (w ∷ kept) row (suc place) sum v h k is at =
    let e : suc place + 1 ≡ suc (place + 1) = omega arith in
    let rest = set_more sums kept row place sum v (omega (arith, h)) (omega (arith, k)) is at in
    (λ i. take (e i) (set (w ∷ kept) (suc place) (one_more sum v row)) ++ each_more (drop (e i) (s ∷ sums)) (drop (e i) (set (w ∷ kept) (suc place) (one_more sum v row))) row)
    ∙ ap (λ l. w ∷ l) rest

-- behind the last sum, or the last that is kept
no_more : (sums : List Sum) (kept : List Value) (row : Frame) (place : ℕ) → (length sums ≤ place) ⊎ (length kept ≤ place)
    → take place kept ++ each_more (drop place sums) (drop place kept) row ≡ kept
no_more [] [] row zero done = refl
no_more [] (v ∷ kept) row zero done = refl
no_more (s ∷ sums) [] row zero done = refl
no_more (s ∷ sums) (v ∷ kept) row zero (inl h) = absurd (omega (arith, h))
no_more (s ∷ sums) (v ∷ kept) row zero (inr h) = absurd (omega (arith, h))
no_more [] [] row (suc place) done = refl
no_more [] (v ∷ kept) row (suc place) done = ap (λ l. v ∷ l) (take-append-drop place kept)
no_more (s ∷ sums) [] row (suc place) done = nothing (drop place sums)
  where
    nothing : (sums : List Sum) → each_more sums [] row ≡ []
    nothing [] = refl
    nothing (s ∷ sums) = refl
no_more (s ∷ sums) (v ∷ kept) row (suc place) (inl h) = ap (λ l. v ∷ l) (no_more sums kept row place (inl (omega (arith, h))))
no_more (s ∷ sums) (v ∷ kept) row (suc place) (inr h) = ap (λ l. v ∷ l) (no_more sums kept row place (inr (omega (arith, h))))

-- one turn of the loop
pub each_turn : (sums : List Sum) (kept : List Seen) (whole : List Value) (row : Frame) (place : ℕ) (sum : Sum) (v next : Seen) → place < length sums → place < length kept
    → sum ≡ get_or sums place sum → v ≡ get_or kept place v → seen_value next ≡ one_more sum (seen_value v) row
    → take place (map seen_value kept) ++ each_more (drop place sums) (drop place (map seen_value kept)) row ≡ whole
    → take (place + 1) (map seen_value (set kept place next)) ++ each_more (drop (place + 1) sums) (drop (place + 1) (map seen_value (set kept place next))) row ≡ whole
each_turn sums kept whole row place sum v next within long is at stepped so_far =
    let changed : map seen_value (set kept place next) ≡ set (map seen_value kept) place (one_more sum (seen_value v) row) =
    map-set seen_value kept place next ∙ ap (set (map seen_value kept) place) stepped in
    let mapped : place < length (map seen_value kept) = subst (λ n. place < n) (sym (length-map kept seen_value)) long in
    let seen : seen_value v ≡ get_or (map seen_value kept) place (seen_value v) = ap seen_value at ∙ sym (get_or-map seen_value kept place v (seen_value v) long) in
    ap (λ l. take (place + 1) l ++ each_more (drop (place + 1) sums) (drop (place + 1) l) row) changed
    ∙ set_more sums (map seen_value kept) row place sum (seen_value v) within mapped is seen ∙ so_far

one_ends : (a b n : ℕ) → min a b ≤ n → (a ≤ n) ⊎ (b ≤ n)
one_ends a b n h = by (cases_lt n a)
  where
    by : (n < a) ⊎ (a ≤ n) → (a ≤ n) ⊎ (b ≤ n)
    by (inl below) = inr (omega (arith, h, below))
    by (inr done) = inl done

pub each_done : (sums : List Sum) (kept : List Seen) (whole : List Value) (row : Frame) (place : ℕ) → min (length sums) (length kept) ≤ place
    → take place (map seen_value kept) ++ each_more (drop place sums) (drop place (map seen_value kept)) row ≡ whole → map seen_value kept ≡ whole
each_done sums kept whole row place done so_far =
    let mapped : min (length sums) (length (map seen_value kept)) ≤ place = subst (λ n. min (length sums) n ≤ place) (sym (length-map kept seen_value)) done in
    sym (no_more sums (map seen_value kept) row place (one_ends (length sums) (length (map seen_value kept)) place mapped)) ∙ so_far

-- ---- what is shown of a group

first_is : (group : List Frame) → first_row group ≡ or_no_values (head_of group)
first_is [] = refl
first_is (row ∷ rows) = refl

met_is : (having : Option TypedExpr) (group : List Frame) → is_met_over having group ≡ holds_if (maybe_in having group (first_row group))
met_is None group = refl
met_is (Some condition) group = refl

pub shown_is : (items : List TypedExpr) (having : Option TypedExpr) (lifted : Lifted) (group : List Frame) → IsLifted items having lifted
    → shown_by lifted (summed lifted.sums group) ≡ shown_if (is_met_over having group) (map (λ item. value_over item group) items)
unfolding shown_by
shown_is items having lifted group is =
    let first = ap (λ row. sums_over lifted.sums group ++ row) (sym (first_is group)) in
    let condition = ap (maybe_of lifted.having) first ∙ is.condition group (first_row group) in
    let values = ap (values_of lifted.items) first ∙ is.values group (first_row group) in
    (λ i. shown_if (holds_if (condition i)) (values i)) ∙ ap (λ met. shown_if met (map (λ item. value_over item group) items)) (sym (met_is having group))

-- the rows of groups by what is kept of them are those of the groups
pub rows_are_shown : (items : List TypedExpr) (having : Option TypedExpr) (lifted : Lifted) → IsLifted items having lifted → (grouped : List (List Frame))
    → flat_map (λ kept. rows_shown (shown_by lifted kept)) (map (summed lifted.sums) grouped) ≡ map (group_row items) (filter (is_met_over having) grouped)
rows_are_shown items having lifted is [] = refl
rows_are_shown items having lifted is (group ∷ grouped) =
    ap (λ shown. rows_shown shown ++ flat_map (λ kept. rows_shown (shown_by lifted kept)) (map (summed lifted.sums) grouped)) (shown_is items having lifted group is)
    ∙ by (is_met_over having group) (rows_are_shown items having lifted is grouped)
  where
    by : (met : Bool) → flat_map (λ kept. rows_shown (shown_by lifted kept)) (map (summed lifted.sums) grouped) ≡ map (group_row items) (filter (is_met_over having) grouped)
        → rows_shown (shown_if met (map (λ item. value_over item group) items)) ++ flat_map (λ kept. rows_shown (shown_by lifted kept)) (map (summed lifted.sums) grouped)
        ≡ map (group_row items) (cond met (group ∷ filter (is_met_over having) grouped) (filter (is_met_over having) grouped))
    by true e = ap (λ rows. group_row items group ∷ rows) e
    by false e = e
