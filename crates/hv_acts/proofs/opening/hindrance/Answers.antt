use Rattle.hv_acts.proofs.Begins.{held-by, held-free}
use Rattle.hv_acts.proofs.opening.hindrance.Goals as goal

pub returns-in-Waiting : goal.returns-in-Waiting
returns-in-Waiting g c = record { hindered = held-by c.args.house.now c.args.tree.now c.check.result c.in-Waiting.blocker c.check.ensures.state c.in-Waiting.is }

pub returns-in-Granted : goal.returns-in-Granted
returns-in-Granted g c = record { hindered = (c.next_place.ensures.place, held-free c.args.house.now c.args.tree.now c.check.result c.check.ensures.state c.in-Granted.is) }
