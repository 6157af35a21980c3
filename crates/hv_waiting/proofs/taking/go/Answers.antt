use Rattle.hv_waiting.proofs.taking.go.Goals as goal

pub returns-clause-goes : goal.returns-clause-goes
returns-clause-goes g c = c.go_to_end-found.ensures.goes

pub returns-clause-answered : goal.returns-clause-answered
returns-clause-answered g c = c.go_to_end-found.ensures.answered
