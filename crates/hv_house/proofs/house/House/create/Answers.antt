use Rattle.std.proofs.Common.{rules, refl, length, ◌+◌}
use Rattle.hv_house.specs.House.{entries_of}
use Rattle.hv_house.proofs.Lengths.{short_create}
use Rattle.hv_house.proofs.Naming.{create-fits, number-of, ok-as, err-as}
use Rattle.hv_house.proofs.house.House.create.Goals as goal

pub note_last-requires : goal.note_last-requires
note_last-requires g c κs within =
    let fits =
    create-fits (entries_of c.args.self.now) c.args.txn (length c.tables.result.now)
    (number-of c.tables.result.now c.book.result.now.entries (entries_of c.args.self.now) c.tables.ensures.tables c.book.ensures.entries) c.requires.1.1
    in
    (search rules, (c.requires.1.0, (refl, (short_create c.args.txn (record { 0 = length c.tables.result.now + 1 }), (fits, tt)))))

pub returns-in-Ok-clause-not_open : goal.returns-in-Ok-clause-not_open
returns-in-Ok-clause-not_open g c = λ at. ok-as c.in-Ok.field-0 _ _ _ (c.in-Ok.ensures.not_open at)

pub returns-in-Err-clause-not_open : goal.returns-in-Err-clause-not_open
returns-in-Err-clause-not_open g c = λ at. err-as c.in-Err.fault _ _ (c.in-Err.ensures.not_open at)
