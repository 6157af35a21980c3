use Rattle.hv_waiting.proofs.taking.take_in_turn.Goals as goal

pub returns-clause-takes : goal.returns-clause-takes
returns-clause-takes g c = c.take_text-reply.ensures.takes

pub returns-clause-halts : goal.returns-clause-halts
returns-clause-halts g c = c.take_text-reply.ensures.halts
