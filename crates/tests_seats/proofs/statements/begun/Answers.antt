use Rattle.tests_seats.proofs.statements.begun.Goals as goal

pub returns-in-Ok-clause-way : goal.returns-in-Ok-clause-way
returns-in-Ok-clause-way g c =
    c.started.ensures.way (record { session = c.args.session; number = 0; text = c.args.text }) c.args.tree c.in-Ok.ensures.waits.1
