-- GROUP BY and DISTINCT over lists: one group for each key, in the order in which the keys first come; a group has
-- its rows in their order.
-- Source: Hive Language Manual, GROUP BY and Select.
use Rattle.std.specs.Prelude.{Bool, List, [], ◌∷◌, ◌++◌, map, filter, fold, if◌then◌else◌}
use Rattle.std.specs.List.{list_any}

module _ {K : Type 0} (same : K → K → Bool) where
  abbrev pub keep_new : List K → K → List K
  keep_new keys key = if list_any (same key) keys then keys else keys ++ key ∷ []

  -- each once, where it first comes
  abbrev pub distinct : List K → List K
  distinct = fold keep_new []

  module _ {R : Type 0} (key_of : R → K) where
    -- the rows of one key
    abbrev pub members : List R → K → List R
    members rows key = filter (λ row. same key (key_of row)) rows

    abbrev pub keys_in : List R → List K
    keys_in rows = distinct (map key_of rows)

    abbrev pub groups : List R → List (List R)
    groups rows = map (members rows) (keys_in rows)
