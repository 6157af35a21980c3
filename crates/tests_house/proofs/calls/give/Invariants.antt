use Rattle.tests_house.proofs.calls.give.Given as goal

abbrev pub ghost-write_id : goal.ghost-write_id
ghost-write_id g a = a.self.now.limits
