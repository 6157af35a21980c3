use Rattle.tests_seats.proofs.statements.say_each.Given as goal

abbrev pub invariant-loop-words : goal.invariant-loop-words
invariant-loop-words g l = g.W.Actor.keeps l.actor
