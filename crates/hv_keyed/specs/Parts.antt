-- Groups that were made of parts of the rows, put together in the order of the parts.
use Rattle.std.specs.Prelude.{ℕ, Bool, not, List, [], ◌∷◌, ◌++◌, map, fold, set, get_or, Option, None, Some, if◌then◌else◌}
use Rattle.std.specs.List.{list_any, position_or_len}
use Rattle.hv_typing.specs.Grouped.{keep_new, keys_in}
use Rattle.hv_keyed.specs.Folds.{folded, folds}

-- a key beside what is kept of it, if that is there
abbrev pub with_value : {K A : Type 0} → K → Option A → List (K × A)
with_value key None = []
with_value key (Some value) = (key, value) ∷ []

-- what is kept of a key: behind all where the key is new, else put together with what is kept of it
abbrev pub put_beside : {A : Type 0} → (A → A → A) → Bool → ℕ → A → List A → List A
put_beside merge added place value kept = if added then kept ++ value ∷ [] else set kept place (merge (get_or kept place value) value)

module _ {K A : Type 0} (same : K → K → Bool) (merge : A → A → A) where
  -- keys with what is kept of each, and one group more
  abbrev pub put_group : List K × List A → K × A → List K × List A
  put_group so_far group = (
    keep_new same so_far.0 group.0,
    put_beside merge (not (list_any (same group.0) so_far.0)) (position_or_len (same group.0) so_far.0) group.1 so_far.1,
  )

  abbrev pub put_groups : List K × List A → List (K × A) → List K × List A
  put_groups so_far groups = fold put_group so_far groups

module _ {K : Type 0} (same : K → K → Bool) {R : Type 0} (key : R → K) {A : Type 0} (start : A) (step : A → R → A) where
  -- the keys of rows, and what is kept of each
  abbrev pub kept_of : List R → List K × List A
  kept_of rows = (keys_in same key rows, folds same key start step rows)

  -- a key with what is kept of it
  abbrev pub group_at : List R → K → K × A
  group_at rows k = (k, folded same key start step rows k)

  abbrev pub groups_in : List R → List (K × A)
  groups_in rows = map (group_at rows) (keys_in same key rows)
