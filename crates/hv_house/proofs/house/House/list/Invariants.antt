use Rattle.hv_house.proofs.house.House.list.Given as goal

abbrev pub ghost-files_at : goal.ghost-files_at
ghost-files_at g a = g.limits
