-- Rows in front of joins that fail what is known of them may be left out: at the end the same rows are there.
use Rattle.std.proofs.Common.{if◌then◌else◌, ◌≡◌, ℕ, ◌+◌, ◌≤◌, Bool, true, false, ◌&&◌, ◌||◌, List, [], ◌∷◌, ◌++◌, filter, Option, refl, sym, ap, ◌∙◌, subst, arith, le_trans, true≢false}
use Rattle.std.specs.List.{list_any}
use Rattle.std.proofs.lemmas.List.Elements.{filter-append}
use Rattle.std.proofs.lemmas.List.Folds.{list_all-append}
use Rattle.hv_expr.specs.declared.tree.TypedExpr.{TypedExpr}
use Rattle.hv_law_expr.specs.Places.{looks_only}
use Rattle.hv_typing.specs.declared.tree.JoinKind.{JoinKind}
use Rattle.hv_typing.specs.declared.tree.JoinKind.TheVariants as kind
use Rattle.hv_typing.specs.declared.tree.TypedJoin.{TypedJoin}
use Rattle.hv_typing.specs.declared.tree.TypedLateral.{TypedLateral}
use Rattle.hv_typing.specs.Joins as pairs
use Rattle.hv_typing.specs.Rows.{Frame, is_true, is_met, joined, joined_with, width_behind, viewed}
use Rattle.hv_rewrite.specs.Conditions.{conjuncts_of, all_true, within}
use Rattle.hv_rewrite.specs.Reach.{passes, met_behind, known}
use Rattle.hv_rewrite.proofs.Lists.{Each, each-every, each-more, each-both, each-map, each-flat, each-filter, each-passing, all-each, each-all, both-true, filter-all, filter-weaker}
use Rattle.hv_rewrite.proofs.Sides.{Looks, looks-condition, looks-front, looks-all}
use Rattle.hv_rewrite.proofs.Truths.{met-by-conjuncts}
use Rattle.hv_rewrite.proofs.Grown.{Steady, grown, joined-grown, joined-passes, viewed-passes}
use Rattle.hv_rewrite.proofs.WideRows.{Wide, IsWide, wide-enough, joined-is-wide}

abbrev pub on_rows : Option TypedExpr → Frame → Frame → Bool
on_rows on left right = is_met on (left ++ right)

pub behind-wider : (which : JoinKind) (left_width right_width : ℕ) → left_width ≤ width_behind which left_width right_width
behind-wider kind.Inner left_width right_width = omega arith
behind-wider kind.Left left_width right_width = omega arith
behind-wider kind.Right left_width right_width = omega arith
behind-wider kind.Full left_width right_width = omega arith
behind-wider kind.LeftSemi left_width right_width = omega arith

some-one : {X : Type 0} (p : X → Bool) (xs : List X) → list_any p xs ≡ true → (x : X) × (p x ≡ true)
some-one p [] h = absurd (true≢false (sym h))
some-one {X = X} p (x ∷ xs) h = by (p x) refl h (some-one p xs)
  where
    by : (b : Bool) → p x ≡ b → (b || list_any p xs) ≡ true → (list_any p xs ≡ true → (y : X) × (p y ≡ true)) → (y : X) × (p y ≡ true)
    by true e h rest = (x, e)
    by false e h rest = rest h

-- ---- the conditions that look at some places alone

module _ (from low : ℕ) where
  abbrev pub own : List TypedExpr → List TypedExpr
  own conditions = filter (looks_only (within from low)) conditions

  pub own-looks : (conditions : List TypedExpr) → Looks (within from low) (all_true (own conditions))
  own-looks conditions =
      looks-all (within from low) (own conditions)
      (each-passing (λ condition. Looks (within from low) (is_true condition)) (looks_only (within from low)) (looks-condition (within from low)) conditions)

  pub own-steady : (conditions : List TypedExpr) → Steady low (all_true (own conditions))
  own-steady conditions left more wide = looks-front from low (all_true (own conditions)) (own-looks conditions) left more wide

  pub own-true : (conditions : List TypedExpr) (frame : Frame) → all_true conditions frame ≡ true → all_true (own conditions) frame ≡ true
  own-true conditions frame h =
      each-all (λ condition. is_true condition frame) (own conditions)
      (each-filter (λ condition. is_true condition frame ≡ true) (looks_only (within from low)) conditions
      (all-each (λ condition. is_true condition frame) conditions h))

  pub own-append : (first later : List TypedExpr) (frame : Frame)
      → all_true (own (first ++ later)) frame ≡ (all_true (own first) frame && all_true (own later) frame)
  own-append first later frame =
      ap (λ conditions. all_true conditions frame) (filter-append (looks_only (within from low)) first later)
      ∙ list_all-append (λ condition. is_true condition frame) (own first) (own later)

  pub own-both : (first later : List TypedExpr) (frame : Frame) → all_true (own first) frame ≡ true → all_true (own later) frame ≡ true
      → all_true (own (first ++ later)) frame ≡ true
  own-both first later frame h i =
      own-append first later frame ∙ both-true (all_true (own first) frame) (all_true (own later) frame) h i

  -- ---- each row behind a join meets these of its ON

  abbrev Meets : List TypedExpr → Frame → Type 0
  Meets conditions frame = all_true (own conditions) frame ≡ true

  module _ (left_width right_width : ℕ) (on : Option TypedExpr) where
    matched : (left right : Frame) → on_rows on left right ≡ true → Meets (conjuncts_of on) (left ++ right)
    matched left right h = own-true (conjuncts_of on) (left ++ right) (sym (met-by-conjuncts on (left ++ right)) ∙ h)

    pub inner-meets : (lefts rights : List Frame)
        → Each (λ frame. all_true (own (conjuncts_of on)) frame ≡ true) (joined left_width right_width (on_rows on) kind.Inner lefts rights)
    inner-meets lefts rights =
        subst (Each (Meets (conjuncts_of on))) (sym (joined-grown left_width right_width (on_rows on) kind.Inner refl lefts rights))
        (each-flat (Meets (conjuncts_of on)) (grown left_width right_width (on_rows on) kind.Inner rights) lefts
        (each-every (λ left. Each (Meets (conjuncts_of on)) (grown left_width right_width (on_rows on) kind.Inner rights left))
        (λ left. each-map (Meets (conjuncts_of on)) (λ right. left ++ right) (filter (on_rows on left) rights)
        (each-passing (λ right. Meets (conjuncts_of on) (left ++ right)) (on_rows on left) (matched left) rights)) lefts))

    module _ (enough : low ≤ left_width) where
      semi-one : (rights : List Frame) (left : Frame) → pairs.is_matched (on_rows on) rights left ≡ true → IsWide left_width left
          → Meets (conjuncts_of on) left
      semi-one rights left h wide =
          let found : (right : Frame) × (on_rows on left right ≡ true) = some-one (on_rows on left) rights h in
          sym (own-steady (conjuncts_of on) left found.0 (omega (arith, enough, wide))) ∙ matched left found.0 found.1

      semi-meets : (lefts rights : List Frame) → Wide left_width lefts
          → Each (Meets (conjuncts_of on)) (joined left_width right_width (on_rows on) kind.LeftSemi lefts rights)
      semi-meets lefts rights wide =
          each-both (λ left. pairs.is_matched (on_rows on) rights left ≡ true) (IsWide left_width) (Meets (conjuncts_of on)) (semi-one rights)
          (filter (pairs.is_matched (on_rows on) rights) lefts)
          (each-passing (λ left. pairs.is_matched (on_rows on) rights left ≡ true) (pairs.is_matched (on_rows on) rights) (λ left h. h) lefts)
          (each-filter (IsWide left_width) (pairs.is_matched (on_rows on) rights) lefts wide)

      pub joined-meets : (which : JoinKind) (lefts rights : List Frame) → Wide left_width lefts
          → Each (λ frame. all_true (own (met_behind which (conjuncts_of on))) frame ≡ true) (joined left_width right_width (on_rows on) which lefts rights)
      joined-meets kind.Inner lefts rights wide = inner-meets lefts rights
      joined-meets kind.Left lefts rights wide =
          each-every (Meets []) (λ frame. refl) (joined left_width right_width (on_rows on) kind.Left lefts rights)
      joined-meets kind.Right lefts rights wide =
          each-every (Meets []) (λ frame. refl) (joined left_width right_width (on_rows on) kind.Right lefts rights)
      joined-meets kind.Full lefts rights wide =
          each-every (Meets []) (λ frame. refl) (joined left_width right_width (on_rows on) kind.Full lefts rights)
      joined-meets kind.LeftSemi lefts rights wide = semi-meets lefts rights wide

-- ---- the rows at the end

abbrev pub IsWideJoin : {S : Type 0} → (S → List Frame) → TypedJoin S → Type 0
IsWideJoin rows join = Wide join.width (rows join.source)

module _ {S : Type 0} (rows : S → List Frame) (views : List TypedLateral) (condition : Option TypedExpr) where
  abbrev pub ends : ℕ → List Frame → List (TypedJoin S) → List Frame
  ends width lefts joins = filter (is_met condition) (viewed views (joined_with rows width lefts joins))

  module _ (from low : ℕ) where
    abbrev reaching : List (TypedJoin S) → List TypedExpr
    reaching joins = own from low (known joins condition)

    -- without joins
    at-end : (width : ℕ) (lefts : List Frame) → low ≤ width → Wide width lefts → ends width (filter (all_true (reaching [])) lefts) [] ≡ ends width lefts []
    at-end width lefts less wide =
        ap (filter (is_met condition))
        (viewed-passes low (all_true (reaching [])) (own-steady from low (conjuncts_of condition)) views lefts (wide-enough width low less lefts wide))
        ∙ filter-weaker (all_true (reaching [])) (is_met condition) (viewed views lefts)
        (each-every (λ frame. is_met condition frame ≡ true → all_true (reaching []) frame ≡ true)
        (λ frame h. own-true from low (conjuncts_of condition) frame (sym (met-by-conjuncts condition frame) ∙ h)) (viewed views lefts))

    nothing-known : (width : ℕ) (lefts : List Frame) (joins : List (TypedJoin S)) → ends width (filter (all_true []) lefts) joins ≡ ends width lefts joins
    nothing-known width lefts joins = ap (λ kept. ends width kept joins) (filter-all (all_true []) lefts (each-every (λ frame. all_true [] frame ≡ true) (λ frame. refl) lefts))

    -- in front of one join more
    module _ (width : ℕ) (lefts : List Frame) (join : TypedJoin S) (joins : List (TypedJoin S)) (less : low ≤ width) (wide : Wide width lefts)
        (join_wide : IsWideJoin rows join)
        (later : (kept : List Frame) → Wide (width_behind join.kind width join.width) kept
        → ends (width_behind join.kind width join.width) (filter (all_true (reaching joins)) kept) joins
        ≡ ends (width_behind join.kind width join.width) kept joins) where
      abbrev met : List TypedExpr
      met = met_behind join.kind (conjuncts_of join.on)

      abbrev behind : List Frame
      behind = joined width join.width (on_rows join.on) join.kind lefts (rows join.source)

      abbrev known_here : List TypedExpr
      known_here = own from low (met ++ known joins condition)

      behind-wide : Wide (width_behind join.kind width join.width) behind
      behind-wide = joined-is-wide width join.width (on_rows join.on) join.kind lefts (rows join.source) wide join_wide

      weaker : Each (λ frame. all_true (reaching joins) frame ≡ true → all_true known_here frame ≡ true) behind
      weaker =
          each-more (λ frame. all_true (own from low met) frame ≡ true) (λ frame. all_true (reaching joins) frame ≡ true → all_true known_here frame ≡ true)
          (λ frame h i. own-both from low met (known joins condition) frame h i) behind
          (joined-meets from low width join.width join.on less join.kind lefts (rows join.source) wide)

      through : passes join.kind ≡ true → ends width (filter (all_true known_here) lefts) (join ∷ joins) ≡ ends width lefts (join ∷ joins)
      through passing =
          ap (λ kept. ends (width_behind join.kind width join.width) kept joins)
          (joined-passes width join.width (on_rows join.on) join.kind passing low (all_true known_here) (own-steady from low (met ++ known joins condition))
          lefts (rows join.source) (wide-enough width low less lefts wide))
          ∙ sym (later (filter (all_true known_here) behind) (each-filter (IsWide (width_behind join.kind width join.width)) (all_true known_here) behind behind-wide))
          ∙ ap (λ kept. ends (width_behind join.kind width join.width) kept joins) (filter-weaker (all_true known_here) (all_true (reaching joins)) behind weaker)
          ∙ later behind behind-wide

      pub in-front : ends width (filter (all_true (reaching (join ∷ joins))) lefts) (join ∷ joins) ≡ ends width lefts (join ∷ joins)
      in-front = by (passes join.kind) refl
        where
          by : (b : Bool) → passes join.kind ≡ b
              → ends width (filter (all_true (own from low (if b then met ++ known joins condition else []))) lefts) (join ∷ joins) ≡ ends width lefts (join ∷ joins)
          by true e = through e
          by false e = nothing-known width lefts (join ∷ joins)

    -- what is known of rows in front of joins may be tested there
    pub reached : (joins : List (TypedJoin S)) (width : ℕ) (lefts : List Frame) → low ≤ width → Wide width lefts → Each (IsWideJoin rows) joins
        → ends width (filter (all_true (own from low (known joins condition))) lefts) joins ≡ ends width lefts joins
    reached [] width lefts less wide each = at-end width lefts less wide
    reached (join ∷ joins) width lefts less wide each =
        in-front width lefts join joins less wide each.0
        (λ kept kept_wide. reached joins (width_behind join.kind width join.width) kept
        (le_trans less (behind-wider join.kind width join.width)) kept_wide each.1)
