use Rattle.hv_seated.specs.Seats.{fixed_of}
use Rattle.tests_seats.proofs.apart.work.Given as goal

abbrev pub ghosts-sit : goal.ghosts-sit
ghosts-sit g a = record { fixed = fixed_of a.seat }
