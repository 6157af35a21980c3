use Rattle.std.proofs.Common.{rules, refl}
use Rattle.hv_house.proofs.Lengths.{short_start}
use Rattle.hv_house.proofs.house.House.note_start.Goals as goal

pub note_entry-requires : goal.note_entry-requires
note_entry-requires g c κs within = (search rules, (c.requires.1.0, (refl, (short_start c.args.txn 0, (c.requires.1.1, tt)))))
