use Rattle.hv_house.proofs.house.House.open_txn.Given as goal

abbrev pub ghost-note_opened : goal.ghost-note_opened
ghost-note_opened g a = g.limits
