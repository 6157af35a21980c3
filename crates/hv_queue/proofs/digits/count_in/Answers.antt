use Rattle.std.proofs.Common.{sym, ◌∙◌}
use Rattle.hv_queue.proofs.SetLemmas.{digits-few}
use Rattle.hv_queue.proofs.digits.count_in.Goals as goal

pub number_of-requires : goal.number_of-requires
number_of-requires c = digits-few 6 c.args.text.now (sym c.are_digits.ensures ∙ c.if-are_digits.true)
