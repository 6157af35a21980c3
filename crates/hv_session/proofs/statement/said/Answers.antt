use Rattle.hv_session.proofs.Statements.{ended-said}
use Rattle.hv_session.proofs.statement.said.Goals as goal

pub returns-in-Ended-clause-said : goal.returns-in-Ended-clause-said
returns-in-Ended-clause-said c = ended-said c.args.found c.in-Ended.done c.reply_from.result c.in-Ended.is c.reply_from.ensures.reply
