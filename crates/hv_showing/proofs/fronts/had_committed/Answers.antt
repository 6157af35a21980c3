use Rattle.std.proofs.Common.{ap, ◌∙◌}
use Rattle.hv_showing.specs.Fronts.{is_done}
use Rattle.hv_showing.proofs.fronts.had_committed.Goals as goal

pub returns : goal.returns
returns c = c.is_done.ensures ∙ ap is_done c.stood.ensures
