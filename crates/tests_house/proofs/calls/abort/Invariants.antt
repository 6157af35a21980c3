use Rattle.tests_house.proofs.calls.abort.Given as goal

abbrev pub ghost-abort : goal.ghost-abort
ghost-abort g a = a.self.now.limits
