use Rattle.tests_house.proofs.calls.begin.Given as goal

abbrev pub ghost-can_begin : goal.ghost-can_begin
ghost-can_begin g a = a.self.now.limits

abbrev pub ghost-check : goal.ghost-check
ghost-check g a = a.self.now.limits

abbrev pub ghost-begin : goal.ghost-begin
ghost-begin g a = a.self.now.limits
