use Rattle.tests_house.proofs.changes.put_one.Given as goal

abbrev pub ghost-put : goal.ghost-put
ghost-put g a = a.self.now.limits
