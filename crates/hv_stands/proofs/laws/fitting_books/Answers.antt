use Rattle.hv_stands.proofs.Fitting.{fitting-sound, fronts-fit, one-more-fits, fitting-room}
use Rattle.hv_stands.proofs.laws.fitting_books.Goals as goal

pub returns : goal.returns
returns c = record { sound = fitting-sound; fronts = fronts-fit; more = one-more-fits; room = fitting-room }
