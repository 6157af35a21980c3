use Rattle.tests_house.proofs.ending.commit.Given as goal

abbrev pub ghost-commit : goal.ghost-commit
ghost-commit g a = a.self.now.limits
