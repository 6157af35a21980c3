-- Rows that do for all, and rows that are all kept.
use Rattle.std.proofs.Common.{◌≡◌, true, false, true≢false, List, [], ◌∷◌, filter, Option, None, Some, is_some, refl, ap}
use Rattle.hv_value.specs.declared.row.Row.{Row}
use Rattle.hv_order.specs.declared.Front.{Front}
use Rattle.hv_order.specs.First.{IsEnough, first_ordered}

-- all rows do
pub all_do : (front : Option Front) (rows all : List Row) → rows ≡ all → IsEnough front rows all
all_do None rows all same = same
all_do (Some front) rows all same = ap (first_ordered front.keys.now front.count) same

pub filter_all : {A : Type 0} (xs : List A) → xs ≡ filter (λ x. true) xs
filter_all [] = refl
filter_all (x ∷ xs) = ap (λ l. x ∷ l) (filter_all xs)

pub is_none : {A : Type 0} (found : Option A) → is_some found ≡ false → found ≡ None
is_none None h = refl
is_none (Some x) h = absurd (true≢false h)
