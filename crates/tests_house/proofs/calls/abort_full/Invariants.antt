use Rattle.tests_house.proofs.calls.abort_full.Given as goal

abbrev pub ghost-fits : goal.ghost-fits
ghost-fits g a = a.self.now.limits

abbrev pub ghost-abort : goal.ghost-abort
ghost-abort g a = a.self.now.limits
