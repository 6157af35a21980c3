use Rattle.tests_house.proofs.calls.open.Given as goal

abbrev pub ghost-open_txn : goal.ghost-open_txn
ghost-open_txn g a = a.self.now.limits
