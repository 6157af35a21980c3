use Rattle.std.proofs.Common.{◌-◌, ◌∙◌, ap, arith, length, take}
use Rattle.hv_text.proofs.TextLemmas.{minus_zero, front_length, front_boundary, front_taken}
use Rattle.hv_text.proofs.characters.front.Goals as goal

pub overflow_sub-text : goal.overflow_sub-text
overflow_sub-text c =
    omega (arith, front_length c.args.text.now c.skip-behind.result.now c.args.count c.utf8.text c.skip-behind.utf8 c.skip-behind.ensures)

pub range-requires-clause-end_boundary : goal.range-requires-clause-end_boundary
range-requires-clause-end_boundary c =
    front_boundary c.args.text.now c.skip-behind.result.now c.args.count c.utf8.text c.skip-behind.utf8 c.skip-behind.ensures

pub returns : goal.returns
returns c =
    c.range.ensures.value
    ∙ ap (λ n. take n c.args.text.now) (minus_zero (length c.args.text.now - length c.skip-behind.result.now))
    ∙ front_taken c.args.text.now c.skip-behind.result.now c.args.count c.utf8.text c.skip-behind.utf8 c.skip-behind.ensures
