use Rattle.tests_house.proofs.calls.create.Given as goal

abbrev pub ghost-create : goal.ghost-create
ghost-create g a = a.self.now.limits
