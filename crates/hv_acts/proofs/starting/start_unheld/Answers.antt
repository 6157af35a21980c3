use Rattle.hv_acts.proofs.Notes.{no-true}
use Rattle.hv_acts.proofs.starting.start_unheld.Goals as goal

pub start_full-requires-clause-full : goal.start_full-requires-clause-full
start_full-requires-clause-full g c = c.waits_in_full.ensures.full.0 c.if-waits_in_full.true

pub start_free-requires-clause-room : goal.start_free-requires-clause-room
start_free-requires-clause-room g c full = no-true c.waits_in_full.result c.if-waits_in_full.false (c.waits_in_full.ensures.full.1 full)
