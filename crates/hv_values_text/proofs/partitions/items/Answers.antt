use Rattle.std.proofs.Common.{◌≡◌, Some, rules, arith, sym, ◌∙◌}
use Rattle.std.proofs.lemmas.Grind.{common_steps}
use Rattle.hv_values_text.specs.Ways.{item, items}
use Rattle.hv_values_text.proofs.Joined.{part_same}
use Rattle.hv_values_text.proofs.Known.{rows_first, rows_more}
use Rattle.hv_values_text.proofs.Turns.{begins, goes_on, advances, stops, runs_out}
use Rattle.hv_values_text.proofs.partitions.items.Goals.{else-loop-turn-test, then-loop-turn-test+then-not-sees}
use Rattle.hv_values_text.proofs.partitions.items.Goals as goal

pub loop-turn-init : goal.loop-turn-init
unfolding items
loop-turn-init c = record {
  part = rows_first c.in_ok-item.ensures.part c.in_ok-found.ensures;
  known = begins item c.args.cursor.now _ _ c.in_ok-item.ensures.known c.left-turn-end.ensures;
}

pub returns-in_err-item-2-clause-known : goal.returns-in_err-item-2-clause-known
returns-in_err-item-2-clause-known c =
    let e = goes_on item (items c.args.cursor.now) _ _ _ _ _
    c.loop-turn-test.true c.loop-turn.invariant.known c.sees.ensures c.if-not-sees.false c.pass.ensures in
    first_of (search rules, grind (arith, common_steps))

pub loop-turn-preserved : goal.loop-turn-preserved
loop-turn-preserved c = record {
  part = rows_more c.loop-turn.invariant.part (sym c.sees.ensures ∙ c.if-not-sees.false, c.pass.ensures) c.in_ok-item-2.ensures.part c.in_ok-push.ensures.items;
  known = advances item (items c.args.cursor.now) _ _ _ _ _ _
      c.loop-turn-test.true c.loop-turn.invariant.known c.sees.ensures c.if-not-sees.false c.pass.ensures c.in_ok-item-2.ensures.known;
}

pub returns-clause-part : goal.returns-clause-part
returns-clause-part c = part_same c.loop-turn.invariant.part c.from_vec.ensures

pub returns-clause-known : goal.returns-clause-known
returns-clause-known c =
    let whole = items c.args.cursor.now in
    let e : whole ≡ Some c.loop-turn.cursor = elim c.loop-turn-test.branch [
      | else-loop-turn-test w ↦ runs_out item whole _ _ _ w.loop-turn-test.false c.loop-turn.invariant.known
      | then-loop-turn-test+then-not-sees w ↦ stops item whole _ _ _ _
          w.loop-turn-test.true c.loop-turn.invariant.known w.sees.ensures w.if-not-sees.true
    ] in
    e
