use Rattle.std.proofs.Common.{sym, ◌∙◌, arith}
use Rattle.hv_queue.proofs.SetLemmas.{digits-few}
use Rattle.hv_queue.proofs.digits.whole_thousandths.Goals as goal

pub number_of-requires : goal.number_of-requires
number_of-requires c =
    let few = digits-few 3 c.args.text.now (sym c.are_digits.ensures ∙ c.if-are_digits.true) in
    omega (arith, few)
