use Rattle.hv_eval.proofs.Accumulators.{splits}
use Rattle.hv_eval.proofs.accumulate.parts_are_the_whole.Goals as goal

pub returns : goal.returns
returns c = splits
