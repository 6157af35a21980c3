use Rattle.std.proofs.Common.{sym, ◌∙◌, arith}
use Rattle.std.specs.Prelude.{◌&&◌}
use Rattle.std.proofs.lemmas.Bool.{and_parts}
use Rattle.hv_queue.proofs.SetLemmas.{digits-few, digits-some, thousandths-some, thousandths-none}
use Rattle.hv_queue.proofs.digits.thousandths_by.Goals as goal

pub number_of-requires : goal.number_of-requires
number_of-requires c =
    let parts = and_parts c.are_digits-first.result c.are_digits-second.result (sym c.both.ensures ∙ c.if-both.true) in
    let few = digits-few 3 c.args.whole.now (sym c.are_digits-first.ensures ∙ parts.0) in
    omega (arith, few)

pub padded-requires-clause-some : goal.padded-requires-clause-some
padded-requires-clause-some c =
    let parts = and_parts c.are_digits-first.result c.are_digits-second.result (sym c.both.ensures ∙ c.if-both.true) in
    digits-some 3 c.args.fraction.now (sym c.are_digits-second.ensures ∙ parts.1)

pub padded-requires-clause-few : goal.padded-requires-clause-few
padded-requires-clause-few c =
    let parts = and_parts c.are_digits-first.result c.are_digits-second.result (sym c.both.ensures ∙ c.if-both.true) in
    digits-few 3 c.args.fraction.now (sym c.are_digits-second.ensures ∙ parts.1)

pub returns-then-both : goal.returns-then-both
returns-then-both c =
    let tested = (λ i. sym c.are_digits-first.ensures i && sym c.are_digits-second.ensures i) ∙ sym c.both.ensures ∙ c.if-both.true in
    thousandths-some c.args.whole.now c.args.fraction.now c.number_of.result c.padded.result tested c.number_of.ensures.is c.padded.ensures.is

pub returns-else-both : goal.returns-else-both
returns-else-both c =
    let tested = (λ i. sym c.are_digits-first.ensures i && sym c.are_digits-second.ensures i) ∙ sym c.both.ensures ∙ c.if-both.false in
    thousandths-none c.args.whole.now c.args.fraction.now tested
