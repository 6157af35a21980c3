use Rattle.tests_house.proofs.calls.drop_open.Given as goal

abbrev pub ghost-drop_table : goal.ghost-drop_table
ghost-drop_table g a = a.self.now.limits
