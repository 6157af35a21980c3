-- The source's columns behind the target's.
use Rattle.std.proofs.Common.{◌≡◌, List, [], ◌∷◌, ◌++◌, length, map, drop, refl}

pub behind_target : {A B : Type 0} (f : A → B) (columns : List A) (more : List B) → drop (length columns) (map f columns ++ more) ≡ more
behind_target f [] more = refl
behind_target f (column ∷ columns) more = behind_target f columns more
