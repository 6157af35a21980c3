-- Rows of just so many values, behind joins and as a query makes them.
use Rattle.std.proofs.Common.{◌≡◌, ℕ, zero, suc, ◌+◌, ◌≤◌, Bool, true, false, not, List, [], ◌∷◌, ◌++◌, map, filter, take, length, Option, None, Some, ◌∙◌, arith, eqb-true}
use Rattle.std.specs.Prelude.{if◌then◌else◌, fold}
use Rattle.std.specs.List.{list_all, list_any}
use Rattle.std.specs.declared.cmp.Ordering.{Ordering}
use Rattle.std.specs.declared.cmp.Ordering.TheVariants.{Less, Equal, Greater}
use Rattle.std.proofs.lemmas.List.{length-append, length-map}
use Rattle.hv_base.specs.Sorting.{placed_by, put_by, sorted_by}
use Rattle.hv_value.specs.declared.row.Row.{Row}
use Rattle.hv_expr.specs.declared.tree.TypedExpr.{TypedExpr}
use Rattle.hv_expr.specs.Evaluation.{value_of, value_over}
use Rattle.hv_typing.specs.declared.tree.Grouping.{Grouping}
use Rattle.hv_typing.specs.declared.tree.JoinKind.{JoinKind}
use Rattle.hv_typing.specs.declared.tree.JoinKind.TheVariants as kind
use Rattle.hv_typing.specs.declared.tree.TypedSelect.{TypedSelect}
use Rattle.hv_typing.specs.declared.tree.TypedUnion.{TypedUnion}
use Rattle.hv_typing.specs.declared.tree.TypedQuery.{TypedQuery}
use Rattle.hv_typing.specs.Grouped.{keep_new, distinct}
use Rattle.hv_typing.specs.Joins as pairs
use Rattle.hv_typing.specs.Order.{order_cmp, ordered, limited}
use Rattle.hv_typing.specs.Rows.{Frame, or_nulls, nulls, joined, width_behind, same_row, is_met, frames_from, item_row, group_row, is_met_over, grouped, shown, kept, selected, united, query_rows}
use Rattle.hv_rewrite.specs.Wide.{has_width, all_have_width, has_items, union_has_items, shows}
use Rattle.hv_rewrite.proofs.Lists.{Each, each-every, each-more, each-append, each-map, each-flat, each-filter, all-each, front-true, back-true}
use Rattle.hv_rewrite.proofs.Sides.{length-nulls}
use Rattle.hv_rewrite.proofs.Grown.{AtLeast}

abbrev pub IsWide : ℕ → Frame → Type 0
IsWide width frame = length frame ≡ width

abbrev pub Wide : ℕ → List Frame → Type 0
Wide width frames = Each (IsWide width) frames

pub wide-tested : (width : ℕ) (frames : List Frame) → all_have_width width frames ≡ true → Wide width frames
wide-tested width frames h =
    each-more (λ frame. has_width width frame ≡ true) (IsWide width) (λ frame e. eqb-true (length frame) width e) frames (all-each (has_width width) frames h)

pub wide-enough : (width low : ℕ) → low ≤ width → (frames : List Frame) → Wide width frames → AtLeast low frames
wide-enough width low less frames wide =
    each-more (IsWide width) (λ frame. low ≤ length frame) (λ frame e. omega (arith, e, less)) frames wide

-- ---- behind a join

module _ (left_width right_width : ℕ) (on : Frame → Frame → Bool) where
  sum-wide : (left right : Frame) → IsWide left_width left → IsWide right_width right → IsWide (left_width + right_width) (left ++ right)
  sum-wide left right e f = length-append left right ∙ (λ i. e i + f i)

  -- ---- an inner join

  abbrev Both : Frame × Frame → Type 0
  Both pair = IsWide left_width pair.0 × IsWide right_width pair.1

  abbrev pair_at : Frame → Frame → Frame × Frame
  pair_at left right = (left, right)

  pairs-wide : (rights : List Frame) → Wide right_width rights → (left : Frame) → IsWide left_width left → Each Both (pairs.pairs_of on rights left)
  pairs-wide rights wide left e =
      each-map Both (pair_at left) (filter (on left) rights)
      (each-more (IsWide right_width) (λ right. IsWide left_width left × IsWide right_width right) (λ right f. (e, f)) (filter (on left) rights)
      (each-filter (IsWide right_width) (on left) rights wide))

  inner-wide : (lefts rights : List Frame) → Wide left_width lefts → Wide right_width rights
      → Wide (left_width + right_width) (joined left_width right_width on kind.Inner lefts rights)
  inner-wide lefts rights wide_left wide_right =
      each-map (IsWide (left_width + right_width)) (λ (pair : Frame × Frame). pair.0 ++ pair.1) (pairs.inner on lefts rights)
      (each-more Both (λ (pair : Frame × Frame). IsWide (left_width + right_width) (pair.0 ++ pair.1)) (λ pair e. sum-wide pair.0 pair.1 e.0 e.1)
      (pairs.inner on lefts rights)
      (each-flat Both (pairs.pairs_of on rights) lefts
      (each-more (IsWide left_width) (λ left. Each Both (pairs.pairs_of on rights left)) (pairs-wide rights wide_right) lefts wide_left)))

-- ---- an outer join: those of one side, each with one of the other or alone

abbrev OrAlone : ℕ → Option Frame → Type 0
OrAlone width None = Unit {0}
OrAlone width (Some frame) = IsWide width frame

or-nulls-wide : (width : ℕ) (frame : Option Frame) → OrAlone width frame → IsWide width (or_nulls width frame)
or-nulls-wide width None e = length-nulls width
or-nulls-wide width (Some frame) e = e

module _ (own other : ℕ) (on : Frame → Frame → Bool) where
  abbrev Outer : Frame × Option Frame → Type 0
  Outer pair = IsWide own pair.0 × OrAlone other pair.1

  abbrev some_at : Frame → Frame → Frame × Option Frame
  some_at one match = (one, Some match)

  alone-wide : (one : Frame) → IsWide own one → (matches : List Frame) → Wide other matches → Each Outer (pairs.or_alone one matches)
  alone-wide one e [] wide = ((e, tt), tt)
  alone-wide one e (first ∷ matches) wide =
      each-map Outer (some_at one) (first ∷ matches)
      (each-more (IsWide other) (λ match. IsWide own one × IsWide other match) (λ match f. (e, f)) (first ∷ matches) wide)

  outer-wide : (ones others : List Frame) → Wide own ones → Wide other others → Each Outer (pairs.left_outer on ones others)
  outer-wide ones others wide_one wide_other =
      each-flat Outer (λ one. pairs.or_alone one (filter (on one) others)) ones
      (each-more (IsWide own) (λ one. Each Outer (pairs.or_alone one (filter (on one) others)))
      (λ one e. alone-wide one e (filter (on one) others) (each-filter (IsWide other) (on one) others wide_other)) ones wide_one)

module _ (left_width right_width : ℕ) (on : Frame → Frame → Bool) where
  abbrev turned_on : Frame → Frame → Bool
  turned_on right left = on left right

  left-wide : (lefts rights : List Frame) → Wide left_width lefts → Wide right_width rights
      → Wide (left_width + right_width) (joined left_width right_width on kind.Left lefts rights)
  left-wide lefts rights wide_left wide_right =
      each-map (IsWide (left_width + right_width)) (λ (pair : Frame × Option Frame). pair.0 ++ or_nulls right_width pair.1) (pairs.left_outer on lefts rights)
      (each-more (Outer left_width right_width on) (λ (pair : Frame × Option Frame). IsWide (left_width + right_width) (pair.0 ++ or_nulls right_width pair.1))
      (λ pair e. sum-wide left_width right_width on pair.0 (or_nulls right_width pair.1) e.0 (or-nulls-wide right_width pair.1 e.1))
      (pairs.left_outer on lefts rights) (outer-wide left_width right_width on lefts rights wide_left wide_right))

  right-wide : (lefts rights : List Frame) → Wide left_width lefts → Wide right_width rights
      → Wide (left_width + right_width) (joined left_width right_width on kind.Right lefts rights)
  right-wide lefts rights wide_left wide_right =
      each-map (IsWide (left_width + right_width)) (λ (pair : Frame × Option Frame). or_nulls left_width pair.1 ++ pair.0)
      (pairs.left_outer turned_on rights lefts)
      (each-more (Outer right_width left_width turned_on) (λ (pair : Frame × Option Frame). IsWide (left_width + right_width) (or_nulls left_width pair.1 ++ pair.0))
      (λ pair e. sum-wide left_width right_width on (or_nulls left_width pair.1) pair.0 (or-nulls-wide left_width pair.1 e.1) e.0)
      (pairs.left_outer turned_on rights lefts) (outer-wide right_width left_width turned_on rights lefts wide_right wide_left))

  full-wide : (lefts rights : List Frame) → Wide left_width lefts → Wide right_width rights
      → Wide (left_width + right_width) (joined left_width right_width on kind.Full lefts rights)
  full-wide lefts rights wide_left wide_right =
      each-append (IsWide (left_width + right_width)) (joined left_width right_width on kind.Left lefts rights)
      (map (λ right. nulls left_width ++ right) (pairs.alone turned_on rights lefts))
      (left-wide lefts rights wide_left wide_right)
      (each-map (IsWide (left_width + right_width)) (λ right. nulls left_width ++ right) (pairs.alone turned_on rights lefts)
      (each-more (IsWide right_width) (λ right. IsWide (left_width + right_width) (nulls left_width ++ right))
      (λ right e. sum-wide left_width right_width on (nulls left_width) right (length-nulls left_width) e)
      (pairs.alone turned_on rights lefts) (each-filter (IsWide right_width) (λ right. not (pairs.is_matched turned_on lefts right)) rights wide_right)))

  pub joined-is-wide : (join : JoinKind) (lefts rights : List Frame) → Wide left_width lefts → Wide right_width rights
      → Wide (width_behind join left_width right_width) (joined left_width right_width on join lefts rights)
  joined-is-wide kind.Inner lefts rights wide_left wide_right = inner-wide left_width right_width on lefts rights wide_left wide_right
  joined-is-wide kind.Left lefts rights wide_left wide_right = left-wide lefts rights wide_left wide_right
  joined-is-wide kind.Right lefts rights wide_left wide_right = right-wide lefts rights wide_left wide_right
  joined-is-wide kind.Full lefts rights wide_left wide_right = full-wide lefts rights wide_left wide_right
  joined-is-wide kind.LeftSemi lefts rights wide_left wide_right = each-filter (IsWide left_width) (pairs.is_matched on rights) lefts wide_left

-- ---- the rows that a query makes

abbrev Shows : ℕ → Row → Type 0
Shows width row = length row.values ≡ width

items-shown : (width : ℕ) (items : List TypedExpr) → length items ≡ width → (frames : List Frame) → Each (Shows width) (map (item_row items) frames)
items-shown width items e frames =
    each-map (Shows width) (item_row items) frames
    (each-every (λ frame. Shows width (item_row items frame)) (λ frame. length-map items (λ item. value_of item frame) ∙ e) frames)

all-shown : (width : ℕ) (items : List TypedExpr) → length items ≡ width → (groups : Option Grouping) (frames : List Frame)
    → Each (Shows width) (shown items groups frames)
all-shown width items e None frames = items-shown width items e frames
all-shown width items e (Some grouping) frames =
    each-map (Shows width) (group_row items) (filter (is_met_over grouping.having) (grouped grouping.keys frames))
    (each-every (λ group. Shows width (group_row items group)) (λ group. length-map items (λ item. value_over item group) ∙ e)
    (filter (is_met_over grouping.having) (grouped grouping.keys frames)))

module _ (P : Row → Type 0) where
  new-kept : (b : Bool) (rows : List Row) (row : Row) → Each P rows → P row → Each P (if b then rows else rows ++ row ∷ [])
  new-kept true rows row e h = e
  new-kept false rows row e h = each-append P rows (row ∷ []) e (h, tt)

  once-from : (found rows : List Row) → Each P found → Each P rows → Each P (fold (keep_new same_row) found rows)
  once-from found [] e f = e
  once-from found (row ∷ rows) e f =
      once-from (keep_new same_row found row) rows (new-kept (list_any (same_row row) found) found row e f.0) f.1

  distinct-each : (rows : List Row) → Each P rows → Each P (distinct same_row rows)
  distinct-each rows e = once-from [] rows tt e

  kept-each : (once : Bool) (rows : List Row) → Each P rows → Each P (kept once rows)
  kept-each true rows e = distinct-each rows e
  kept-each false rows e = e

  module _ (cmp : Row → Row → Ordering) where
    placed-each : (order : Ordering) (row other : Row) (later put : List Row) → P row → P other → Each P later → Each P put
        → Each P (placed_by cmp order row other later put)
    placed-each Greater row other later put h i e f = (i, f)
    placed-each Less row other later put h i e f = (h, (i, e))
    placed-each Equal row other later put h i e f = (h, (i, e))

    put-each : (row : Row) (rows : List Row) → P row → Each P rows → Each P (put_by cmp row rows)
    put-each row [] h e = (h, tt)
    put-each row (other ∷ rows) h e = placed-each (cmp row other) row other rows (put_by cmp row rows) h e.0 e.1 (put-each row rows h e.1)

    sorted-each : (rows : List Row) → Each P rows → Each P (sorted_by cmp rows)
    sorted-each [] e = tt
    sorted-each (row ∷ rows) e = put-each row (sorted_by cmp rows) e.0 (sorted-each rows e.1)

  take-each : (count : ℕ) (rows : List Row) → Each P rows → Each P (take count rows)
  take-each zero rows e = tt
  take-each (suc count) [] e = tt
  take-each (suc count) (row ∷ rows) e = (e.0, take-each count rows e.1)

  limited-each : (limit : Option ℕ) (rows : List Row) → Each P rows → Each P (limited limit rows)
  limited-each None rows e = e
  limited-each (Some count) rows e = take-each count rows e

module _ {S : Type 0} (rows : S → List Frame) (width : ℕ) where
  select-shown : (select : TypedSelect S) → has_items width select ≡ true → Each (Shows width) (selected rows select)
  select-shown select h =
      let frames : List Frame = filter (is_met select.filter) (frames_from rows select.from) in
      kept-each (Shows width) select.distinct (shown select.items select.groups frames)
      (all-shown width select.items (eqb-true (length select.items) width h) select.groups frames)

  with-more : (all : Bool) (found more : List Row) → Each (Shows width) found → Each (Shows width) more
      → Each (Shows width) (if all then found ++ more else distinct same_row (found ++ more))
  with-more true found more e f = each-append (Shows width) found more e f
  with-more false found more e f = distinct-each (Shows width) (found ++ more) (each-append (Shows width) found more e f)

  united-shown : (found : List Row) (unions : List (TypedUnion S)) → Each (Shows width) found → list_all (union_has_items width) unions ≡ true
      → Each (Shows width) (united rows found unions)
  united-shown found [] e h = e
  united-shown found (next ∷ unions) e h =
      united-shown (if next.all then found ++ selected rows next.select else distinct same_row (found ++ selected rows next.select)) unions
      (with-more next.all found (selected rows next.select) e
      (select-shown next.select (front-true (union_has_items width next) (list_all (union_has_items width) unions) h)))
      (back-true (union_has_items width next) (list_all (union_has_items width) unions) h)

  pub query-shown : (query : TypedQuery S) → shows width query ≡ true → Wide width (map (λ (row : Row). row.values) (query_rows rows query))
  query-shown query h =
      each-map (IsWide width) (λ (row : Row). row.values) (query_rows rows query)
      (limited-each (Shows width) query.limit (ordered query.order (united rows (selected rows query.select) query.unions))
      (sorted-each (Shows width) (order_cmp query.order) (united rows (selected rows query.select) query.unions)
      (united-shown (selected rows query.select) query.unions
      (select-shown query.select (front-true (has_items width query.select) (list_all (union_has_items width) query.unions) h))
      (back-true (has_items width query.select) (list_all (union_has_items width) query.unions) h))))
