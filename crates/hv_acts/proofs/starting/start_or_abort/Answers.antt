use Rattle.hv_acts.proofs.Starts.{none-held}
use Rattle.hv_acts.proofs.starting.start_or_abort.Goals as goal

pub start_blocked-requires-clause-held : goal.start_blocked-requires-clause-held
start_blocked-requires-clause-held g c = (c.holder.ensures.held c.in-Some.by).0 c.in-Some.is

pub start_unheld-requires-clause-unheld : goal.start_unheld-requires-clause-unheld
start_unheld-requires-clause-unheld g c by held = none-held c.holder.result by _ c.in-None.is (c.holder.ensures.held by) held
