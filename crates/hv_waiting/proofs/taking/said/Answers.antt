use Rattle.hv_waiting.proofs.Ends.{ended-says}
use Rattle.hv_waiting.proofs.taking.said.Goals as goal

pub returns-in-Ended-clause-said : goal.returns-in-Ended-clause-said
returns-in-Ended-clause-said c = ended-says c.args.found c.in-Ended.done c.reply_from.result c.in-Ended.is c.reply_from.ensures.reply
