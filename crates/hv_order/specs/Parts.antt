-- Rows that are dealt into lists, and lists that are put behind one another.
use Rattle.std.specs.Prelude.{Bool, true, not, List, [], ◌∷◌, flat_map, Option, None, Some, IfOk, IsSorted, Result}
use Rattle.std.specs.Global.{Vec}
use Rattle.std.specs.Ordering.{is_lt}
use Rattle.hv_base.specs.declared.failure.NoMemory.{NoMemory}
use Rattle.hv_value.specs.declared.row.Row.{Row}
use Rattle.hv_typing.specs.declared.tree.SortKey.{SortKey}
use Rattle.hv_typing.specs.Order.{order_cmp}

-- the rows of all lists
abbrev pub rows_in : List (Vec Row) → List Row
rows_in lists = flat_map (λ (list : Vec Row). list.items) lists

-- whether the first row of a list may stand behind the last of the one before it
abbrev pub seam_holds : List SortKey → Option Row → Option Row → Bool
seam_holds keys None first = true
seam_holds keys (Some last) None = true
seam_holds keys (Some last) (Some first) = not (is_lt (order_cmp keys first last))

-- each answer that is a list is sorted
abbrev pub AllSorted : List SortKey → List (Result (Vec Row) NoMemory) → Type 0
AllSorted keys [] = Unit {0}
AllSorted keys (answer ∷ answers) = IfOk answer (λ list. IsSorted (order_cmp keys) list.items) × AllSorted keys answers
