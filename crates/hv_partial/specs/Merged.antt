-- What is kept of two parts of a group, put together, and groups of parts of the rows.
use Rattle.std.specs.Prelude.{◌≡◌, List, [], ◌∷◌, ◌++◌, fold, Option, None, Some}
use Rattle.hv_value.specs.declared.value.Value.{Value}
use Rattle.hv_value.specs.declared.row.Row.{Row}
use Rattle.hv_expr.specs.declared.tree.TypedExpr.{TypedExpr}
use Rattle.hv_typing.specs.Rows.{Frame, key_of, same_row}
use Rattle.hv_keyed.specs.Parts.{kept_of, groups_in, put_groups}
use Rattle.hv_eval.specs.Accumulating.{merged}
use Rattle.hv_partial.specs.declared.sum.Sum.{Sum}
use Rattle.hv_partial.specs.Sums.{function_of}
use Rattle.hv_partial.specs.Kept.{summed, summed_more}

abbrev pub or_first : Option Frame → Option Frame → Option Frame
or_first None later = later
or_first (Some first) later = Some first

abbrev pub each_merged : List Sum → List Value → List Value → List Value
each_merged [] values others = []
each_merged (sum ∷ sums) [] others = []
each_merged (sum ∷ sums) (kept ∷ values) [] = []
each_merged (sum ∷ sums) (kept ∷ values) (other ∷ others) = merged (function_of sum) kept other ∷ each_merged sums values others

-- what is kept of rows, and of later ones
unfoldable pub summed_merged : List Sum → Option Frame × List Value → Option Frame × List Value → Option Frame × List Value
summed_merged sums kept other = (or_first kept.0 other.0, each_merged sums kept.1 other.1)

-- the keys of rows, and what is kept of each
abbrev pub keys_and_sums : List Sum → List TypedExpr → List Frame → List Row × List (Option Frame × List Value)
keys_and_sums sums keys rows = kept_of same_row (key_of keys) (summed sums []) (summed_more sums) rows

-- each key with what is kept of it
abbrev pub groups_kept : List Sum → List TypedExpr → List Frame → List (Row × (Option Frame × List Value))
groups_kept sums keys rows = groups_in same_row (key_of keys) (summed sums []) (summed_more sums) rows

-- put behind the groups of any rows, the groups of parts of `rows` give those of all
abbrev pub AreGroupsOf : List Sum → List TypedExpr → List Frame → List (Row × (Option Frame × List Value)) → Type 0
AreGroupsOf sums keys rows groups =
    (before : List Frame) → put_groups same_row (summed_merged sums) (keys_and_sums sums keys before) groups ≡ keys_and_sums sums keys (before ++ rows)

-- put behind what is kept of any rows, what is kept of parts of `rows` gives what is kept of all
abbrev pub AreSumsOf : List Sum → List Frame → List (Option Frame × List Value) → Type 0
AreSumsOf sums rows parts = (before : List Frame) → fold (summed_merged sums) (summed sums before) parts ≡ summed sums (before ++ rows)
