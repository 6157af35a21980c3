use Rattle.std.proofs.Common.{ap, ◌∙◌}
use Rattle.hv_showing.specs.Jobs.{is_going}
use Rattle.hv_showing.proofs.jobs.was_open.Goals as goal

pub returns : goal.returns
returns c = c.is_going.ensures ∙ ap is_going c.stood.ensures
