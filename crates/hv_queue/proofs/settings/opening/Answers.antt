use Rattle.std.proofs.Common.{ap}
use Rattle.hv_history.specs.State.{Openings}
use Rattle.hv_queue.proofs.settings.opening.Goals as goal

pub returns : goal.returns
returns c = ap (λ (o : Openings). o.last) c.openings.ensures.openings
