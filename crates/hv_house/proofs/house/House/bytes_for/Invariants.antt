use Rattle.hv_house.proofs.house.House.bytes_for.Given as goal

abbrev pub ghost-file_at : goal.ghost-file_at
ghost-file_at g a = g.limits
