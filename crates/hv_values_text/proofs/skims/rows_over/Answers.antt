use Rattle.std.proofs.Common.{◌≡◌, Some, rules, arith, sym, ◌∙◌}
use Rattle.std.proofs.lemmas.Grind.{common_steps}
use Rattle.hv_values_text.specs.Ways.{row, rows}
use Rattle.hv_values_text.proofs.Turns.{begins, goes_on, advances, stops, runs_out}
use Rattle.hv_values_text.proofs.Without.{first_row, next_row}
use Rattle.hv_values_text.proofs.skims.rows_over.Goals as goal

pub loop-turn-init : goal.loop-turn-init
unfolding rows
loop-turn-init c = record {
  part = first_row c.in_ok-row_over.ensures.part;
  known = begins row c.args.cursor.now _ _ c.in_ok-row_over.ensures.known c.left-turn-end.ensures;
}

pub returns-in_err-row_over-2-clause-known : goal.returns-in_err-row_over-2-clause-known
returns-in_err-row_over-2-clause-known c =
    let e = goes_on row (rows c.args.cursor.now) _ _ _ _ _
    c.loop-turn-test.true c.loop-turn.invariant.known c.sees.ensures c.if-not-sees.false c.pass.ensures in
    first_of (search rules, grind (arith, common_steps))

pub loop-turn-preserved : goal.loop-turn-preserved
loop-turn-preserved c = record {
  part = next_row c.loop-turn.invariant.part (sym c.sees.ensures ∙ c.if-not-sees.false, c.pass.ensures) c.in_ok-row_over-2.ensures.part;
  known = advances row (rows c.args.cursor.now) _ _ _ _ _ _
      c.loop-turn-test.true c.loop-turn.invariant.known c.sees.ensures c.if-not-sees.false c.pass.ensures c.in_ok-row_over-2.ensures.known;
}

pub returns-after-loop-turn-clause-known : goal.returns-after-loop-turn-clause-known
returns-after-loop-turn-clause-known c =
    let e : rows c.args.cursor.now ≡ Some c.loop-turn.cursor =
    runs_out row (rows c.args.cursor.now) _ _ _ c.loop-turn-test.false c.loop-turn.invariant.known in
    e

pub returns-then-not-sees-clause-known : goal.returns-then-not-sees-clause-known
returns-then-not-sees-clause-known c =
    let e : rows c.args.cursor.now ≡ Some c.loop-turn.cursor =
    stops row (rows c.args.cursor.now) _ _ _ _
    c.loop-turn-test.true c.loop-turn.invariant.known c.sees.ensures c.if-not-sees.true in
    e
