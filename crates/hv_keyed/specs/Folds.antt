-- What a fold over each group gives, in the order in which the keys first come.
use Rattle.std.specs.Prelude.{Bool, List, [], ◌∷◌, ◌++◌, map, fold, if◌then◌else◌}
use Rattle.hv_typing.specs.Grouped.{members, keys_in}

-- what is kept, with the start of a new key
abbrev pub with_new : {A : Type 0} → A → Bool → List A → List A
with_new start added kept = if added then kept ++ start ∷ [] else kept

module _ {K : Type 0} (same : K → K → Bool) {R : Type 0} (key : R → K) {A : Type 0} (start : A) (step : A → R → A) where
  -- what a fold over one group gives
  abbrev pub folded : List R → K → A
  folded rows k = fold step start (members same key rows k)

  abbrev pub folds : List R → List A
  folds rows = map (folded rows) (keys_in same key rows)

-- the fold that keeps the rows themselves
abbrev pub added : {R : Type 0} → List R → R → List R
added rows row = rows ++ row ∷ []
