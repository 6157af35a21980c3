use Rattle.std.proofs.Common.{rules, refl}
use Rattle.hv_house.specs.House.{entries_of}
use Rattle.hv_house.proofs.Lengths.{short_given}
use Rattle.hv_house.proofs.Naming.{given-next}
use Rattle.hv_house.proofs.house.House.give.Goals as goal

pub note_entry-requires : goal.note_entry-requires
note_entry-requires g c κs within =
    let fits = given-next g.limits (entries_of c.args.self.now) c.args.txn c.args.table c.in-Some.write.0 c.in-Some.ensures.next c.requires.1.1.1 in
    (search rules, (c.requires.1.0, (refl, (short_given c.args.txn c.args.table c.in-Some.write, (fits, tt)))))
