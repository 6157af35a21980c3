-- What others may add between two steps, nothing or anything, and what they may do to the house.
use Rattle.std.specs.Prelude.{◌≡◌, ◌≤◌, ℕ, List, [], ◌∷◌, ◌++◌, refl}
use Rattle.std.proofs.Common.{sym, subst, append-nil, le_refl, true≢false, ◌∙◌, arith}
use Rattle.hv_trail.specs.declared.trail.TrailItem.{TrailItem}
use Rattle.hv_trail.specs.Steps.{HouseSeen}
use Rattle.hv_actor.specs.Acting.{IsLater, AreRows, Nothing, Anything}

nothing_more : (xs ys : List TrailItem) → xs ≡ [] → ys ≡ [] → xs ++ ys ≡ []
nothing_more [] [] e f = refl
nothing_more [] (y ∷ ys) e f = f
nothing_more (x ∷ xs) ys e f = absurd (cc)

pub nothing_rows : AreRows Nothing
nothing_rows = record { none = refl; more = nothing_more }

pub anything_rows : AreRows Anything
anything_rows = record { none = tt; more = λ xs ys a b. tt }

-- a house goes on where nothing is done to it
pub later_itself : {D : Type 0} (faults : D → ℕ) (house : HouseSeen D) → IsLater faults house house
later_itself faults house = record {
  added = [];
  trail = sym (append-nil house.trail);
  rest = record { start = refl; opened = refl; limits = refl };
  count = le_refl (faults house.shelf);
  closed = λ e. e;
  starved = λ e. e;
  rises = λ was is fed. absurd (true≢false (sym is ∙ was));
}

pub untouched_goes_on : {D H : Type 0} (faults : D → ℕ) (seen : H → HouseSeen D) (before now : H) → now ≡ before
    → IsLater faults (seen before) (seen now)
untouched_goes_on faults seen before now e = subst (λ house. IsLater faults (seen before) (seen house)) (sym e)
    (later_itself faults (seen before))

-- who may add two items in a step may add one
pub one_of_two : 1 ≤ 2
one_of_two = omega arith
