use Rattle.hv_house.specs.House.{entries_of, IsReadyWithin, IsNoted}
use Rattle.hv_house.proofs.Ready.{room-for, on-ok, noted-ready}
use Rattle.hv_house.proofs.house.House.note.Goals as goal

pub add-requires-clause-room : goal.add-requires-clause-room
add-requires-clause-room g c = room-for g.limits (entries_of c.args.self.now) c.args.entry c.requires.1.0.within c.requires.1.0.fit c.requires.1.1.1.1.0

pub returns-clause-ready : goal.returns-clause-ready
returns-clause-ready g c =
    on-ok c.add.result (IsNoted g.D.Shelf.told c.args.entry c.args.self.now c.add.new.self) (IsReadyWithin g.limits g.D.Shelf.told c.add.new.self)
    (λ noted. noted-ready g.limits g.D.Shelf.told c.args.self.now c.add.new.self c.args.entry noted c.add.ensures.marks.limits c.requires.1.1.1.1.0 c.requires.1.0) c.add.ensures.noted
