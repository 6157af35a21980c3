use Rattle.hv_trail.proofs.WorkedRows.{first-places, second-places}
use Rattle.hv_trail.proofs.worked.worked_places.Goals as goal

pub returns : goal.returns
returns c = record { first = first-places; second = second-places }
