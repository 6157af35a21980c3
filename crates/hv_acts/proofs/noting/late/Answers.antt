use Rattle.hv_acts.proofs.Notes.{late-ended, late-open, open-by}
use Rattle.hv_acts.proofs.noting.late.Goals as goal

pub returns-in-Ended : goal.returns-in-Ended
returns-in-Ended g c = record { late = late-ended c.args.house.now c.args.txn c.book.result.now.entries c.in-Ended.at c.state_of.result c.book.ensures.entries c.state_of.ensures.state c.in-Ended.is }

pub returns-in-Unknown : goal.returns-in-Unknown
returns-in-Unknown g c = record { late = late-open c.args.house.now c.args.txn c.book.result.now.entries c.state_of.result c.book.ensures.entries c.state_of.ensures.state (open-by c.state_of.result _ c.in-Unknown.is tt) }

pub returns-in-Running : goal.returns-in-Running
returns-in-Running g c = record { late = late-open c.args.house.now c.args.txn c.book.result.now.entries c.state_of.result c.book.ensures.entries c.state_of.ensures.state (open-by c.state_of.result _ c.in-Running.is tt) }
