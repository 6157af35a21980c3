use Rattle.std.proofs.Common.{◌≡◌, take, drop, vec_len}
use Rattle.hv_logic.specs.Rows.{found_cmp}
use Rattle.hv_base.specs.Sorting.{sorted_by}
use Rattle.hv_logic.proofs.found.sort_found.Given as goal

abbrev pub invariant-loop-found : goal.invariant-loop-found
invariant-loop-found l = record {
  rest : l.rows.items ≡ take (vec_len l.rows) l.initial.rows.items;
  put : l.sorted.items ≡ sorted_by found_cmp (drop (vec_len l.rows) l.initial.rows.items);
}

abbrev pub decreases-loop-found : goal.decreases-loop-found
decreases-loop-found l = vec_len l.rows
