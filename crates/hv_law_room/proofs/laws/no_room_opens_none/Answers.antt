use Rattle.hv_law_room.proofs.Loads.{no-room}
use Rattle.hv_law_room.proofs.laws.no_room_opens_none.Goals as goal

pub returns : goal.returns
returns c = record { law = no-room }
