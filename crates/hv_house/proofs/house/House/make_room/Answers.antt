use Rattle.std.proofs.Common.{[], ◌∷◌, arith}
use Rattle.hv_house.proofs.Journals.{few_bytes, can_put}
use Rattle.hv_house.proofs.house.House.make_room.Goals as goal

pub records_length-requires-clause-short : goal.records_length-requires-clause-short
records_length-requires-clause-short g c = omega (arith, few_bytes (c.args.entry.now ∷ []) (c.requires.small, tt))

pub records_length-requires-clause-can : goal.records_length-requires-clause-can
records_length-requires-clause-can g c = can_put (c.args.entry.now ∷ []) (c.requires.small, tt)
