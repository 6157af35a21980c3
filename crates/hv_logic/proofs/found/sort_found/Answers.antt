-- The last row that is left is put before those behind it.
use Rattle.std.proofs.Common.{ap, sym, ◌∙◌, vec_len}
use Rattle.hv_logic.specs.Rows.{found_cmp}
use Rattle.hv_base.specs.Sorting.{put_by}
use Rattle.hv_logic.proofs.Steps.{popped_rest, popped_put}
use Rattle.hv_logic.proofs.found.sort_found.Goals as goal

pub loop-found-preserved : goal.loop-found-preserved
loop-found-preserved c =
    let next = sym c.in-Some.ensures.cases in
    let front = popped_rest c.args.rows.items c.loop-found.rows.items c.pop.new.self.items (vec_len c.pop.new.self)
    (vec_len c.loop-found.rows) next c.loop-found.invariant.rest c.pop.ensures.rest in
    record {
      rest = front;
      put = c.in_ok-put.ensures ∙ ap (put_by found_cmp c.in-Some.found) c.loop-found.invariant.put
          ∙ popped_put found_cmp c.args.rows.items c.loop-found.rows.items c.pop.new.self.items (vec_len c.pop.new.self)
          (vec_len c.loop-found.rows) c.in-Some.found next c.loop-found.invariant.rest front c.in-Some.ensures.items;
    }
