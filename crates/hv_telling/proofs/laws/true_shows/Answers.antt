use Rattle.hv_telling.proofs.Told.{true-shown, opens-told}
use Rattle.hv_telling.proofs.Opens.{whole-opens}
use Rattle.hv_telling.proofs.laws.true_shows.Goals as goal

pub returns : goal.returns
returns g c = record { shown = true-shown; whole = whole-opens; opens = opens-told }
