use Rattle.tests_house.proofs.calls.start.Given as goal

abbrev pub ghost-start : goal.ghost-start
ghost-start g a = a.self.now.limits
