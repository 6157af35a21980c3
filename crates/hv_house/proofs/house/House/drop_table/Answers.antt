use Rattle.std.proofs.Common.{rules, refl}
use Rattle.hv_house.specs.House.{entries_of}
use Rattle.hv_house.proofs.Lengths.{short_drop}
use Rattle.hv_house.proofs.Naming.{drop-fits}
use Rattle.hv_house.proofs.house.House.drop_table.Goals as goal

pub note_last-requires : goal.note_last-requires
note_last-requires g c κs within =
    let fits = drop-fits (entries_of c.args.self.now) c.args.txn c.args.table c.requires.1.1 in
    (search rules, (c.requires.1.0, (refl, (short_drop c.args.txn c.args.table, (fits, tt)))))
