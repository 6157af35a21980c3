-- What stands in a list, and lists in which no two items tie.
use Rattle.std.specs.Prelude.{◌≡◌, ◌≢◌, ◌⊎◌, List, [], ◌∷◌}
use Rattle.std.specs.declared.cmp.Ordering.{Ordering}
use Rattle.std.specs.declared.cmp.Ordering.TheVariants.{Equal}
use Rattle.std.specs.List.{AllByRecursion}

abbrev pub IsIn : {A : Type 0} → A → List A → Type 0
IsIn x [] = ⊥
IsIn x (y ∷ ys) = (y ≡ x) ⊎ IsIn x ys

abbrev pub HasNoTies : {A : Type 0} → (A → A → Ordering) → List A → Type 0
HasNoTies cmp [] = Unit {0}
HasNoTies cmp (x ∷ xs) = AllByRecursion (λ y. cmp x y ≢ Equal) xs × HasNoTies cmp xs
