-- Sums of parts, put together, are the sums of the whole; so are groups.
use Rattle.std.proofs.Common.{◌≡◌, List, [], ◌∷◌, ◌++◌, map, fold, Option, refl, sym, ap, ◌∙◌, append_assoc}
use Rattle.std.specs.Cmp.{IsEquivalence, eq_by_cmp_equiv}
use Rattle.std.proofs.lemmas.List.{append-nil, map-append}
use Rattle.std.proofs.lemmas.List.Sums.{fold-append}
use Rattle.std.proofs.lemmas.Simd.{map-map}
use Rattle.hv_value.specs.declared.value.Value.{Value}
use Rattle.hv_value.specs.declared.row.Row.{Row}
use Rattle.hv_value.specs.OrderLaws.{row_cmp_total}
use Rattle.hv_expr.specs.declared.tree.TypedExpr.{TypedExpr}
use Rattle.hv_expr.specs.Groups.{over_values}
use Rattle.hv_typing.specs.Grouped.{members, keys_in, groups}
use Rattle.hv_typing.specs.Rows.{Frame, key_of, same_row}
use Rattle.hv_keyed.specs.Folds.{folded}
use Rattle.hv_keyed.specs.Parts.{groups_in, put_group, put_groups}
use Rattle.hv_keyed.proofs.Members.{entries_shown}
use Rattle.hv_keyed.proofs.PartLaws.{put_part}
use Rattle.hv_eval.specs.declared.frame.Frame.{Frame as Met}
use Rattle.hv_eval.specs.Frames.{frame_values, frames_values}
use Rattle.hv_eval.specs.Accumulating.{merged}
use Rattle.hv_eval.proofs.Accumulators.{splits}
use Rattle.hv_partial.specs.declared.sum.Sum.{Sum}
use Rattle.hv_partial.specs.Sums.{function_of, taken_of, sum_over, sums_over}
use Rattle.hv_partial.specs.Kept.{head_of, summed, summed_more}
use Rattle.hv_partial.specs.Merged.{or_first, each_merged, summed_merged, keys_and_sums, groups_kept, AreGroupsOf, AreSumsOf}
use Rattle.hv_partial.proofs.KeptLaws.{row_more}

-- ---- the sums of two parts

sum_merged : (sum : Sum) (xs ys : List Frame) → merged (function_of sum) (sum_over xs sum) (sum_over ys sum) ≡ sum_over (xs ++ ys) sum
unfolding sum_over
sum_merged sum xs ys =
    splits (function_of sum) (map (taken_of sum) xs) (map (taken_of sum) ys) ∙ ap (over_values (function_of sum)) (sym (map-append (taken_of sum) xs ys))

sums_merged : (sums : List Sum) (xs ys : List Frame) → each_merged sums (sums_over sums xs) (sums_over sums ys) ≡ sums_over sums (xs ++ ys)
sums_merged [] xs ys = refl
sums_merged (sum ∷ sums) xs ys = λ i. sum_merged sum xs ys i ∷ sums_merged sums xs ys i

heads_merged : (xs ys : List Frame) → or_first (head_of xs) (head_of ys) ≡ head_of (xs ++ ys)
heads_merged [] ys = refl
heads_merged (row ∷ xs) ys = refl

both_merged : (sums : List Sum) (xs ys : List Frame) → summed_merged sums (summed sums xs) (summed sums ys) ≡ summed sums (xs ++ ys)
unfolding summed_merged
both_merged sums xs ys = λ i. (heads_merged xs ys i, sums_merged sums xs ys i)

-- ---- one group of all rows, by what is kept of its parts

pub sums_none : (sums : List Sum) → AreSumsOf sums [] []
sums_none sums before = ap (summed sums) (sym (append-nil before))

pub sums_one : (sums : List Sum) (rows : List Frame) → AreSumsOf sums rows (summed sums rows ∷ [])
sums_one sums rows before = both_merged sums before rows

pub sums_both : (sums : List Sum) (us cs : List Frame) (bs ds : List (Option Frame × List Value)) → AreSumsOf sums us bs → AreSumsOf sums cs ds → AreSumsOf sums (us ++ cs) (bs ++ ds)
sums_both sums us cs bs ds one two before =
    fold-append (summed_merged sums) (summed sums before) bs ds ∙ ap (λ kept. fold (summed_merged sums) kept ds) (one before)
    ∙ two (before ++ us) ∙ ap (summed sums) (append_assoc before us cs)

-- ---- groups, by those of parts

values_from : (sums : List Sum) (done rows : List Frame) → fold (summed_more sums) (summed sums done) rows ≡ summed sums (done ++ rows)
values_from sums done [] = ap (summed sums) (sym (append-nil done))
values_from sums done (row ∷ rows) =
    ap (λ kept. fold (summed_more sums) kept rows) (row_more sums done row) ∙ values_from sums (done ++ row ∷ []) rows
    ∙ ap (summed sums) (append_assoc done (row ∷ []) rows)

values_split : (sums : List Sum) (us vs : List Frame)
    → summed_merged sums (fold (summed_more sums) (summed sums []) us) (fold (summed_more sums) (summed sums []) vs) ≡ fold (summed_more sums) (summed sums []) (us ++ vs)
values_split sums us vs =
    (λ i. summed_merged sums (values_from sums [] us i) (values_from sums [] vs i)) ∙ both_merged sums us vs ∙ sym (values_from sums [] (us ++ vs))

row_laws : IsEquivalence same_row
row_laws = eq_by_cmp_equiv row_cmp_total

pub groups_none : (sums : List Sum) (keys : List TypedExpr) → AreGroupsOf sums keys [] []
groups_none sums keys before = ap (keys_and_sums sums keys) (sym (append-nil before))

groups_part : (sums : List Sum) (keys : List TypedExpr) (rows : List Frame) → AreGroupsOf sums keys rows (groups_kept sums keys rows)
groups_part sums keys rows before =
    put_part row_laws (key_of keys) (summed sums []) (summed_more sums) (summed_merged sums) (values_split sums) before rows

pub groups_both : (sums : List Sum) (keys : List TypedExpr) (us cs : List Frame) (bs ds : List (Row × (Option Frame × List Value)))
    → AreGroupsOf sums keys us bs → AreGroupsOf sums keys cs ds → AreGroupsOf sums keys (us ++ cs) (bs ++ ds)
groups_both sums keys us cs bs ds one two before =
    fold-append (put_group same_row (summed_merged sums)) (keys_and_sums sums keys before) bs ds
    ∙ ap (λ kept. put_groups same_row (summed_merged sums) kept ds) (one before) ∙ two (before ++ us) ∙ ap (keys_and_sums sums keys) (append_assoc before us cs)

-- the groups of a part, of rows where they stand
pub entries_are_groups : (sums : List Sum) (keys : List TypedExpr) (rows : List Met) (groups : List (Row × (Option Frame × List Value)))
    → groups ≡ groups_kept sums keys (frames_values rows) → AreGroupsOf sums keys (frames_values rows) groups
entries_are_groups sums keys rows groups is before =
    ap (λ l. put_groups same_row (summed_merged sums) (keys_and_sums sums keys before) l) is ∙ groups_part sums keys (frames_values rows) before

pub entries_met : (sums : List Sum) (keys : List TypedExpr) (rows : List Met)
    → groups_in same_row (λ (row : Met). key_of keys (frame_values row)) (summed sums []) (λ kept (row : Met). summed_more sums kept (frame_values row)) rows
    ≡ groups_kept sums keys (frames_values rows)
entries_met sums keys rows = entries_shown same_row (key_of keys) frame_values (summed sums []) (summed_more sums) rows

map_same : {A B : Type 0} (f g : A → B) → ((a : A) → f a ≡ g a) → (xs : List A) → map f xs ≡ map g xs
map_same f g e [] = refl
map_same f g e (x ∷ xs) = λ i. e x i ∷ map_same f g e xs i

-- what is kept of each key is what is kept of its group
pub kept_groups : (sums : List Sum) (keys : List TypedExpr) (rows : List Frame)
    → (keys_and_sums sums keys rows).1 ≡ map (summed sums) (groups same_row (key_of keys) rows)
kept_groups sums keys rows =
    let key = key_of keys in
    let all = keys_in same_row key rows in
    map_same (folded same_row key (summed sums []) (summed_more sums) rows) (λ k. summed sums (members same_row key rows k))
    (λ k. values_from sums [] (members same_row key rows k)) all
    ∙ sym (map-map (summed sums) (members same_row key rows) all)
