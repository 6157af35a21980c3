use Rattle.std.proofs.Common.{sym, subst}
use Rattle.hv_base.specs.Refusals.{IsNumbered}
use Rattle.hv_base.proofs.RefusalLemmas.{numbered}
use Rattle.hv_base.proofs.refusal.Refusal.of_number.Goals as goal

pub returns : goal.returns
returns c = subst (λ f. IsNumbered f c.args.number) (sym c.first_of.ensures) (numbered c.args.number)
