-- A query over sources from which rows are left out that their conditions don't let through has the same rows.
use Rattle.std.proofs.Common.{if◌then◌else◌, ◌≡◌, ℕ, ◌+◌, ◌≤◌, Bool, true, ◌&&◌, List, [], ◌∷◌, ◌++◌, map, filter, Option, None, Some, refl, sym, ap, ◌∙◌, subst, arith}
use Rattle.std.specs.List.{flat_map}
use Rattle.hv_value.specs.declared.row.Row.{Row}
use Rattle.hv_expr.specs.declared.tree.TypedExpr.{TypedExpr}
use Rattle.hv_typing.specs.declared.tree.JoinKind.{JoinKind}
use Rattle.hv_typing.specs.declared.tree.JoinKind.TheVariants as kind
use Rattle.hv_typing.specs.declared.tree.TypedJoin.{TypedJoin}
use Rattle.hv_typing.specs.declared.tree.TypedFrom.{TypedFrom}
use Rattle.hv_typing.specs.declared.tree.TypedLateral.{TypedLateral}
use Rattle.hv_typing.specs.declared.tree.TypedSelect.{TypedSelect}
use Rattle.hv_typing.specs.declared.tree.TypedUnion.{TypedUnion}
use Rattle.hv_typing.specs.declared.tree.TypedQuery.{TypedQuery}
use Rattle.hv_typing.specs.Grouped.{distinct}
use Rattle.hv_typing.specs.Joins as pairs
use Rattle.hv_typing.specs.Order.{ordered, limited}
use Rattle.hv_typing.specs.Rows.{Frame, is_met, nulls, joined, width_behind, frames_from, kept, shown, same_row, selected, united, query_rows}
use Rattle.hv_rewrite.specs.Conditions.{conjuncts_of, all_true}
use Rattle.hv_rewrite.specs.Reach.{known, known_right, Spot, spot_at, Placed, joined_spots, from_spots, select_spots, union_spots, query_spots}
use Rattle.hv_rewrite.proofs.Lists.{Each, each-every, each-more, each-front, each-behind, each-filter, filter-same, filter-twice, filter-weaker, filter-map, filter-all, any-weaker, flat-same, flat-filtered, back-true}
use Rattle.hv_rewrite.proofs.Sides.{looks-behind, length-nulls}
use Rattle.hv_rewrite.proofs.Truths.{met-by-conjuncts}
use Rattle.hv_rewrite.proofs.Grown.{beside, grown, joined-grown}
use Rattle.hv_rewrite.proofs.WideRows.{IsWide, Wide, joined-is-wide}
use Rattle.hv_rewrite.proofs.Reached.{on_rows, own, own-looks, own-true, own-append, inner-meets, ends, IsWideJoin, reached}

-- from the rows of a source, as wide as they should be, some are left out: none that meets the conditions of its spot
pub record Narrowed (spot : Spot) (all few : List Frame) : Type 0 where
  pub wide : Wide spot.width all
  pub test : Frame → Bool
  pub left : few ≡ filter test all
  pub needed : (frame : Frame) → IsWide spot.width frame → all_true spot.conditions (nulls spot.base ++ frame) ≡ true → test frame ≡ true

pub narrowed-wide : (spot : Spot) (all few : List Frame) → Narrowed spot all few → Wide spot.width few
narrowed-wide spot all few narrowed =
    subst (Wide spot.width) (sym narrowed.left) (each-filter (IsWide spot.width) narrowed.test all narrowed.wide)

-- none is left out
pub same-narrowed : (spot : Spot) (all few : List Frame) → Wide spot.width all → few ≡ all → Narrowed spot all few
same-narrowed spot all few wide e = record {
  wide = wide;
  test = λ frame. true;
  left = e ∙ sym (filter-all (λ frame. true) all (each-every (λ frame. true ≡ true) (λ frame. refl) all));
  needed = λ frame wide h. refl;
}

-- ---- the right side of a join

module _ (left_width right_width : ℕ) (on : Frame → Frame → Bool) (test : Frame → Bool) (lefts rights : List Frame)
    (wide_left : Wide left_width lefts) (wide_right : Wide right_width rights)
    (needed : (left right : Frame) → IsWide left_width left → IsWide right_width right → on left right ≡ true → test right ≡ true) where
  -- the rows that match a left row are the same
  same-matches : (left : Frame) → IsWide left_width left → filter (on left) (filter test rights) ≡ filter (on left) rights
  same-matches left wide =
      filter-weaker test (on left) rights
      (each-more (IsWide right_width) (λ right. on left right ≡ true → test right ≡ true) (λ right e h. needed left right wide e h) rights wide_right)

  same-matched : (left : Frame) → IsWide left_width left → pairs.is_matched on (filter test rights) left ≡ pairs.is_matched on rights left
  same-matched left wide =
      any-weaker test (on left) rights
      (each-more (IsWide right_width) (λ right. on left right ≡ true → test right ≡ true) (λ right e h. needed left right wide e h) rights wide_right)

  pub left-same : joined left_width right_width on kind.Left lefts (filter test rights) ≡ joined left_width right_width on kind.Left lefts rights
  left-same =
      joined-grown left_width right_width on kind.Left refl lefts (filter test rights)
      ∙ flat-same (grown left_width right_width on kind.Left (filter test rights)) (grown left_width right_width on kind.Left rights) lefts
      (each-more (IsWide left_width)
      (λ left. grown left_width right_width on kind.Left (filter test rights) left ≡ grown left_width right_width on kind.Left rights left)
      (λ left e. ap (λ matches. map (beside right_width) (pairs.or_alone left matches)) (same-matches left e)) lefts wide_left)
      ∙ sym (joined-grown left_width right_width on kind.Left refl lefts rights)

  pub semi-same : joined left_width right_width on kind.LeftSemi lefts (filter test rights) ≡ joined left_width right_width on kind.LeftSemi lefts rights
  semi-same =
      filter-same (pairs.is_matched on (filter test rights)) (pairs.is_matched on rights) lefts
      (each-more (IsWide left_width) (λ left. pairs.is_matched on (filter test rights) left ≡ pairs.is_matched on rights left) same-matched lefts wide_left)

-- an inner join, of whose rows a test is asked behind it
module _ (left_width right_width : ℕ) (on : Frame → Frame → Bool) (test p : Frame → Bool) (lefts rights : List Frame)
    (wide_left : Wide left_width lefts) (wide_right : Wide right_width rights)
    (needed : (left right : Frame) → IsWide left_width left → IsWide right_width right → p (left ++ right) ≡ true → test right ≡ true) where
  abbrev beside_left : Frame → Frame → Frame
  beside_left left right = left ++ right

  abbrev joined_at : List Frame → Frame → List Frame
  joined_at all left = map (beside_left left) (filter (on left) all)

  one-left : (left : Frame) → IsWide left_width left → filter p (joined_at (filter test rights) left) ≡ filter p (joined_at rights left)
  one-left left e =
      filter-map p (beside_left left) (filter (on left) (filter test rights))
      ∙ ap (map (beside_left left))
      (filter-twice (on left) (λ right. p (left ++ right)) (filter test rights)
      ∙ filter-weaker test (λ right. on left right && p (left ++ right)) rights
      (each-more (IsWide right_width) (λ right. (on left right && p (left ++ right)) ≡ true → test right ≡ true)
      (λ right f h. needed left right e f (back-true (on left right) (p (left ++ right)) h)) rights wide_right)
      ∙ sym (filter-twice (on left) (λ right. p (left ++ right)) rights))
      ∙ sym (filter-map p (beside_left left) (filter (on left) rights))

  pub inner-same : filter p (joined left_width right_width on kind.Inner lefts (filter test rights)) ≡ filter p (joined left_width right_width on kind.Inner lefts rights)
  inner-same =
      ap (filter p) (joined-grown left_width right_width on kind.Inner refl lefts (filter test rights))
      ∙ flat-filtered p (joined_at (filter test rights)) lefts
      ∙ flat-same (λ left. filter p (joined_at (filter test rights) left)) (λ left. filter p (joined_at rights left)) lefts
      (each-more (IsWide left_width) (λ left. filter p (joined_at (filter test rights) left) ≡ filter p (joined_at rights left)) one-left lefts wide_left)
      ∙ sym (flat-filtered p (joined_at rights) lefts)
      ∙ ap (filter p) (sym (joined-grown left_width right_width on kind.Inner refl lefts rights))

-- ---- joins behind rows

module _ {S : Type 0} (all few : S → List Frame) (views : List TypedLateral) (condition : Option TypedExpr) where
  abbrev pub At : Placed S → Type 0
  At one = Narrowed one.spot (all one.source) (few one.source)

  wide-joins : (width : ℕ) (joins : List (TypedJoin S)) → Each At (joined_spots width joins condition) → Each (IsWideJoin all) joins
  wide-joins width [] each = tt
  wide-joins width (join ∷ joins) each = (each.0.wide, wide-joins (width_behind join.kind width join.width) joins each.1)

  -- one join and those behind it
  module _ (width : ℕ) (lefts : List Frame) (join : TypedJoin S) (joins : List (TypedJoin S)) (wide : Wide width lefts) (join_wide : Wide join.width (all join.source))
      (each : Each (IsWideJoin all) joins) (test : Frame → Bool) where
    abbrev here : JoinKind → List Frame → List Frame
    here which rights = joined width join.width (on_rows join.on) which lefts rights

    abbrev rights : List Frame
    rights = all join.source

    abbrev to : ℕ
    to = width + join.width

    -- what the rows of the join's own source have to meet, by the conditions of a kind of join
    abbrev Needed : JoinKind → Type 0
    Needed which =
        (frame : Frame) → IsWide join.width frame
        → all_true (own width to (known_right which (conjuncts_of join.on) (known joins condition))) (nulls width ++ frame) ≡ true
        → test frame ≡ true

    -- on a row beside a left row they are what they are beside NULLs
    beside-nulls : (conditions : List TypedExpr) (left right : Frame) → IsWide width left
        → all_true (own width to conditions) (left ++ right) ≡ all_true (own width to conditions) (nulls width ++ right)
    beside-nulls conditions left right e =
        looks-behind width to (all_true (own width to conditions)) (own-looks width to conditions) left (nulls width) right
        (e ∙ sym (length-nulls width)) (omega (arith, e))

    by-on : Needed kind.Left → (left right : Frame) → IsWide width left → IsWide join.width right → on_rows join.on left right ≡ true → test right ≡ true
    by-on needed left right e f h =
        needed right f
        (sym (beside-nulls (conjuncts_of join.on) left right e)
        ∙ own-true width to (conjuncts_of join.on) (left ++ right) (sym (met-by-conjuncts join.on (left ++ right)) ∙ h))

    all-needed : Needed kind.Right → filter test rights ≡ rights
    all-needed needed =
        filter-all test rights (each-more (IsWide join.width) (λ frame. test frame ≡ true) (λ frame e. needed frame e refl) rights join_wide)

    -- behind an INNER join: those of ON hold of each row, and what stands later may be tested there
    module _ (needed : Needed kind.Inner) where
      abbrev later : List TypedExpr
      later = known joins condition

      abbrev wanted : Frame → Bool
      wanted = all_true (own width to (conjuncts_of join.on ++ later))

      abbrev at_end : List Frame → List Frame
      at_end frames = ends all views condition to frames joins

      tested : (some : List Frame) → filter (all_true (own width to later)) (here kind.Inner some) ≡ filter wanted (here kind.Inner some)
      tested some =
          filter-same (all_true (own width to later)) wanted (here kind.Inner some)
          (each-more (λ frame. all_true (own width to (conjuncts_of join.on)) frame ≡ true) (λ frame. all_true (own width to later) frame ≡ wanted frame)
          (λ frame h. sym (own-append width to (conjuncts_of join.on) later frame ∙ ap (λ b. b && all_true (own width to later) frame) h))
          (here kind.Inner some) (inner-meets width to width join.width join.on lefts some))

      may-be-tested : (some : List Frame) → Wide join.width some → at_end (filter wanted (here kind.Inner some)) ≡ at_end (here kind.Inner some)
      may-be-tested some some_wide =
          ap at_end (sym (tested some))
          ∙ reached all views condition width to joins to (here kind.Inner some) (omega arith)
          (joined-is-wide width join.width (on_rows join.on) kind.Inner lefts some wide some_wide) each

      by-wanted : (left right : Frame) → IsWide width left → IsWide join.width right → wanted (left ++ right) ≡ true → test right ≡ true
      by-wanted left right e f h = needed right f (sym (beside-nulls (conjuncts_of join.on ++ later) left right e) ∙ h)

      inner-end : at_end (here kind.Inner (filter test rights)) ≡ at_end (here kind.Inner rights)
      inner-end =
          sym (may-be-tested (filter test rights) (each-filter (IsWide join.width) test rights join_wide))
          ∙ ap at_end (inner-same width join.width (on_rows join.on) test wanted lefts rights wide join_wide by-wanted)
          ∙ may-be-tested rights join_wide

    pub join-same : (which : JoinKind) → Needed which
        → ends all views condition (width_behind which width join.width) (here which (filter test rights)) joins
        ≡ ends all views condition (width_behind which width join.width) (here which rights) joins
    join-same kind.Inner needed = inner-end needed
    join-same kind.Left needed =
        ap (λ frames. ends all views condition (width + join.width) frames joins)
        (left-same width join.width (on_rows join.on) test lefts rights wide join_wide (by-on needed))
    join-same kind.Right needed =
        ap (λ some. ends all views condition (width + join.width) (here kind.Right some) joins) (all-needed needed)
    join-same kind.Full needed =
        ap (λ some. ends all views condition (width + join.width) (here kind.Full some) joins) (all-needed needed)
    join-same kind.LeftSemi needed =
        ap (λ frames. ends all views condition width frames joins)
        (semi-same width join.width (on_rows join.on) test lefts rights wide join_wide (by-on needed))

  narrow-joins : (joins : List (TypedJoin S)) (width : ℕ) (lefts : List Frame) → Wide width lefts → Each At (joined_spots width joins condition)
      → ends few views condition width lefts joins ≡ ends all views condition width lefts joins
  narrow-joins [] width lefts wide each = refl
  narrow-joins (join ∷ joins) width lefts wide each =
      let narrowed = each.0 in
      let spot = spot_at width join.width (known_right join.kind (conjuncts_of join.on) (known joins condition)) in
      narrow-joins joins (width_behind join.kind width join.width) (joined width join.width (on_rows join.on) join.kind lefts (few join.source))
      (joined-is-wide width join.width (on_rows join.on) join.kind lefts (few join.source) wide
      (narrowed-wide spot (all join.source) (few join.source) narrowed)) each.1
      ∙ ap (λ some. ends all views condition (width_behind join.kind width join.width) (joined width join.width (on_rows join.on) join.kind lefts some) joins)
      narrowed.left
      ∙ join-same width lefts join joins wide narrowed.wide (wide-joins (width_behind join.kind width join.width) joins each.1) narrowed.test join.kind narrowed.needed

  -- the first source too
  first-and-joins : (width : ℕ) (source : S) (joins : List (TypedJoin S)) → Narrowed (spot_at 0 width (known joins condition)) (all source) (few source)
      → Each At (joined_spots width joins condition)
      → ends few views condition width (few source) joins ≡ ends all views condition width (all source) joins
  first-and-joins width source joins narrowed each =
      let test = narrowed.test in
      let frames = all source in
      let known_first : Frame → Bool = all_true (own 0 (0 + width) (known joins condition)) in
      let less : 0 + width ≤ width = omega arith in
      let wide_joins : Each (IsWideJoin all) joins = wide-joins width joins each in
      narrow-joins joins width (few source) (narrowed-wide (spot_at 0 width (known joins condition)) frames (few source) narrowed) each
      ∙ ap (λ some. ends all views condition width some joins) narrowed.left
      ∙ sym (reached all views condition 0 (0 + width) joins width (filter test frames) less (each-filter (IsWide width) test frames narrowed.wide) wide_joins)
      ∙ ap (λ some. ends all views condition width some joins)
      (filter-weaker test known_first frames
      (each-more (IsWide width) (λ frame. known_first frame ≡ true → test frame ≡ true) (λ frame e h. narrowed.needed frame e h) frames narrowed.wide))
      ∙ reached all views condition 0 (0 + width) joins width frames less narrowed.wide wide_joins

-- ---- queries

module _ {S : Type 0} (all few : S → List Frame) where
  abbrev Here : Placed S → Type 0
  Here one = Narrowed one.spot (all one.source) (few one.source)

  from-same : (from : Option (TypedFrom S)) (condition : Option TypedExpr) → Each Here (from_spots from condition)
      → filter (is_met condition) (frames_from few from) ≡ filter (is_met condition) (frames_from all from)
  from-same None condition each = refl
  from-same (Some from) condition each = first-and-joins all few from.laterals condition from.width from.source from.joins each.0 each.1

  selected-same : (select : TypedSelect S) → Each Here (select_spots select) → selected few select ≡ selected all select
  selected-same select each =
      ap (λ frames. kept select.distinct (shown select.items select.groups frames)) (from-same select.from select.filter each)

  abbrev with_more : TypedUnion S → List Row → List Row → List Row
  with_more next found more = if next.all then found ++ more else distinct same_row (found ++ more)

  united-same : (found : List Row) (unions : List (TypedUnion S)) → Each Here (flat_map union_spots unions) → united few found unions ≡ united all found unions
  united-same found [] each = refl
  united-same found (next ∷ unions) each =
      ap (λ more. united few (with_more next found more) unions)
      (selected-same next.select (each-front Here (select_spots next.select) (flat_map union_spots unions) each))
      ∙ united-same (with_more next found (selected all next.select)) unions (each-behind Here (select_spots next.select) (flat_map union_spots unions) each)

  pub query-same : (query : TypedQuery S) → Each (λ (one : Placed S). Narrowed one.spot (all one.source) (few one.source)) (query_spots query)
      → query_rows few query ≡ query_rows all query
  query-same query each =
      ap (λ rows. limited query.limit (ordered query.order rows))
      (ap (λ found. united few found query.unions)
      (selected-same query.select (each-front Here (select_spots query.select) (flat_map union_spots query.unions) each))
      ∙ united-same (selected all query.select) query.unions (each-behind Here (select_spots query.select) (flat_map union_spots query.unions) each))
