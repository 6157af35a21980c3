use Rattle.tests_seats.proofs.statements.end_one.Goals as goal

pub finish-requires-clause-running : goal.finish-requires-clause-running
finish-requires-clause-running g c = c.requires.way.1.running

pub finish-requires-clause-can : goal.finish-requires-clause-can
finish-requires-clause-can g c = (c.requires.way.0, c.requires.way.1.was)
