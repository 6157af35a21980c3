use Rattle.hv_acts.proofs.Notes.{next-some, next-none}
use Rattle.hv_acts.proofs.giving.next_id.Goals as goal

pub returns-in-Some : goal.returns-in-Some
returns-in-Some g c = record { next = next-some c.args.house.now c.args.table c.next_write.result c.in-Some.write c.in-Some.is c.next_write.ensures.next }

pub returns-in-None : goal.returns-in-None
returns-in-None g c = record { next = next-none c.args.house.now c.args.table c.next_write.result c.in-None.is c.next_write.ensures.next }
