-- The first row that two source rows match.
use Rattle.std.proofs.Common.{◌≡◌, ◌≤◌, Bool, true, false, cond, List, [], ◌∷◌, length, Option, Some, None, refl, ap, subst, arith}
use Rattle.std.specs.List.{AllByRecursion}
use Rattle.hv_typing.specs.hv_expr.specs.declared.tree.TypedExpr.{TypedExpr}
use Rattle.hv_typing.specs.hv_logic.specs.declared.effect.Found.{Found}
use Rattle.hv_typing.specs.Joins.{first_two}
use Rattle.hv_typing.specs.Rows.{Frame}
use Rattle.hv_meaning.specs.Merging.{its_match, is_twice, first_twice}
use Rattle.hv_meaning.specs.MergeLaws.{matches_of, MatchesOnce, IsFirstTwice, FirstIsNamed, NoneMatchTwice}

two-there : (frames : List Frame) → is_twice (first_two frames) ≡ true → 2 ≤ length frames
two-there [] e = cc
two-there (frame ∷ []) e = cc
two-there (frame ∷ other ∷ frames) e = omega arith

one-there : (frames : List Frame) → is_twice (first_two frames) ≡ false → length frames ≤ 1
one-there [] e = omega arith
one-there (frame ∷ []) e = omega arith
one-there (frame ∷ other ∷ frames) e = cc

module _ (on : Option TypedExpr) (sources : List Frame) where
  behind-one : (other : Found) (rows : List Found) (found : Found) → MatchesOnce on sources other → IsFirstTwice on sources rows found
      → IsFirstTwice on sources (other ∷ rows) found
  behind-one other rows found once is = record {
    before = other ∷ is.before;
    behind = is.behind;
    stands = ap (λ (l : List Found). other ∷ l) is.stands;
    twice = is.twice;
    first = (once, is.first);
  }

  named-by : (other : Found) (rows : List Found) (found : Found) (b : Bool) → is_twice (its_match on sources other) ≡ b
      → (first_twice on sources rows ≡ Some found → IsFirstTwice on sources rows found) → cond b (Some other) (first_twice on sources rows) ≡ Some found
      → IsFirstTwice on sources (other ∷ rows) found
  named-by other rows found true is more e =
      let same : other ≡ found = cc in
      subst (IsFirstTwice on sources (other ∷ rows)) same (record {
        before = [];
        behind = rows;
        stands = refl;
        twice = two-there (matches_of on sources other) is;
        first = tt;
      })
  named-by other rows found false is more e = behind-one other rows found (one-there (matches_of on sources other) is) (more e)

  named : (rows : List Found) (found : Found) → first_twice on sources rows ≡ Some found → IsFirstTwice on sources rows found
  unfolding first_twice
  named [] found e = cc
  named (other ∷ rows) found e = named-by other rows found (is_twice (its_match on sources other)) refl (named rows found) e

  none-by : (other : Found) (rows : List Found) (b : Bool) → is_twice (its_match on sources other) ≡ b
      → (first_twice on sources rows ≡ None → AllByRecursion (MatchesOnce on sources) rows) → cond b (Some other) (first_twice on sources rows) ≡ None
      → AllByRecursion (MatchesOnce on sources) (other ∷ rows)
  none-by other rows true is more e = cc
  none-by other rows false is more e = (one-there (matches_of on sources other) is, more e)

  none : (rows : List Found) → first_twice on sources rows ≡ None → AllByRecursion (MatchesOnce on sources) rows
  unfolding first_twice
  none [] e = tt
  none (other ∷ rows) e = none-by other rows (is_twice (its_match on sources other)) refl (none rows) e

pub first-is-named : FirstIsNamed
first-is-named = named

pub none-match-twice : NoneMatchTwice
none-match-twice = none
