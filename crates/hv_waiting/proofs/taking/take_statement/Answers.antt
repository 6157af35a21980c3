use Rattle.std.proofs.Common.{inr}
use Rattle.hv_session.specs.Taking.{asked_of}
use Rattle.hv_waiting.proofs.Ends.{text-replies, text-lacks}
use Rattle.hv_waiting.proofs.taking.take_statement.Goals as goal

pub returns-in_ok-memory_reply-in-Err-clause-takes : goal.returns-in_ok-memory_reply-in-Err-clause-takes
returns-in_ok-memory_reply-in-Err-clause-takes g c =
    text-replies g.D.Shelf.told g.D.Shelf.faults g.W.Actor.between g.met.W.Actor.rows g.W.Actor.meanwhile (asked_of c.args.asking)
    (g.W.Actor.own c.args.actor.now) (g.W.Actor.house c.args.actor.now) c.in_ok-memory_reply-in-Err.field-0 c.requires.running (inr c.in_ok-memory_reply-in-Err.ensures.line)

pub returns-in_err-memory_reply-in-Err-clause-halts : goal.returns-in_err-memory_reply-in-Err-clause-halts
returns-in_err-memory_reply-in-Err-clause-halts g c =
    text-lacks g.D.Shelf.told g.D.Shelf.faults g.W.Actor.between g.met.W.Actor.rows g.W.Actor.meanwhile (asked_of c.args.asking)
    (g.W.Actor.own c.args.actor.now) (g.W.Actor.house c.args.actor.now) c.requires.running c.from_residual.result c.from_residual.ensures.1
