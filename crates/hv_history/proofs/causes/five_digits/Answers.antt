use Rattle.std.proofs.Common.{◌≡◌, ◌/◌, ◌%◌, ◌∙◌, arith}
use Rattle.std.proofs.lemmas.Fmt.{decimal_digit}
use Rattle.hv_history.proofs.causes.five_digits.Goals as goal

pub returns : goal.returns
returns c =
    let one : c.args.number / 1 ≡ c.args.number = omega arith in
    let first = decimal_digit (c.args.number / 10000 % 10) (omega arith) in
    let second = decimal_digit (c.args.number / 1000 % 10) (omega arith) in
    let third = decimal_digit (c.args.number / 100 % 10) (omega arith) in
    let fourth = decimal_digit (c.args.number / 10 % 10) (omega arith) in
    let fifth = decimal_digit (c.args.number % 10) (omega arith) in
    c.in_ok-format.ensures.ok ∙ simp (first, second, third, fourth, fifth, one)
