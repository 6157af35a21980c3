-- A list sorted by an order, with and without items that tie.
use Rattle.std.specs.Prelude.{List, [], ◌∷◌}
use Rattle.std.specs.declared.cmp.Ordering.{Ordering}
use Rattle.std.specs.declared.cmp.Ordering.TheVariants.{Less, Equal, Greater}

module _ {X : Type 0} (cmp : X → X → Ordering) where
  abbrev pub placed_by : Ordering → X → X → List X → List X → List X
  placed_by Greater x y later put = y ∷ put
  placed_by Less x y later put = x ∷ y ∷ later
  placed_by Equal x y later put = x ∷ y ∷ later

  -- x put into a sorted list
  abbrev pub put_by : X → List X → List X
  put_by x [] = x ∷ []
  put_by x (y ∷ ys) = placed_by (cmp x y) x y ys (put_by x ys)

  abbrev pub sorted_by : List X → List X
  sorted_by [] = []
  sorted_by (x ∷ xs) = put_by x (sorted_by xs)

  abbrev pub merged_by : Ordering → X → X → List X → List X → List X
  merged_by Greater x y later put = y ∷ put
  merged_by Less x y later put = x ∷ y ∷ later
  merged_by Equal x y later put = y ∷ later

  -- x put into a rising list, where nothing stands there that ties with it
  abbrev pub merge_by : X → List X → List X
  merge_by x [] = x ∷ []
  merge_by x (y ∷ ys) = merged_by (cmp x y) x y ys (merge_by x ys)

  -- the items in rising order, one of those that tie
  abbrev pub rising_by : List X → List X
  rising_by [] = []
  rising_by (x ∷ xs) = merge_by x (rising_by xs)
