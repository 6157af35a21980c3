use Rattle.std.proofs.Common.{◌≡◌, ℕ, ◌+◌, ◌*◌, drop, get_or, arith, rules, ap, ◌∙◌}
use Rattle.std.specs.Char.{digit_value}
use Rattle.std.specs.Str.Parse.{digits_value_after}
use Rattle.std.proofs.lemmas.Str.{digit_value_digit}
use Rattle.std.proofs.lemmas.Str.Parse.{digit_at}
use Rattle.hv_lex.proofs.Figures.{value_grows, value_more}
use Rattle.hv_lex.proofs.numbers.value_of.Goals as goal

pub returns-then-value-gt922337203685477580 : goal.returns-then-value-gt922337203685477580
returns-then-value-gt922337203685477580 c = λ small.
    let digits = c.args.digits.now in
    let i = c.loop-digit.digit-index in
    let step = value_more digits c.loop-digit.value i c.loop-digit-test.true in
    let grows = value_grows (c.loop-digit.value * 10 + digit_value (get_or digits i 0)) (drop (i + 1) digits) in
    omega (arith, step, grows, c.loop-digit.invariant.0)

pub overflow_sub-digit : goal.overflow_sub-digit
overflow_sub-digit c =
    let digit = digit_at c.args.digits.now c.loop-digit.digit-index c.requires c.loop-digit-test.true in
    search rules

pub loop-digit-preserved : goal.loop-digit-preserved
loop-digit-preserved c =
    let digits = c.args.digits.now in
    let i = c.loop-digit.digit-index in
    let range = digit_at digits i c.requires c.loop-digit-test.true in
    let worth = digit_value_digit (get_or digits i 0) range in
    let same : digit_value (get_or digits i 0) ≡ c.from.result = omega (arith, worth) in
    let step = value_more digits c.loop-digit.value i c.loop-digit-test.true in (
      c.loop-digit.invariant.0 ∙ step
          ∙ ap (λ (d : ℕ). digits_value_after 10 (c.loop-digit.value * 10 + d) (drop (i + 1) digits)) same,
      omega (arith, range),
    )
