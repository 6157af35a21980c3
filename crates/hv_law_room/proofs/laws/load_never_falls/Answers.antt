use Rattle.hv_law_room.proofs.Loads.{never-falls}
use Rattle.hv_law_room.proofs.laws.load_never_falls.Goals as goal

pub returns : goal.returns
returns c = record { law = never-falls }
