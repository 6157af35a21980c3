use Rattle.hv_waiting.proofs.Waits.{texts-there, way-there}
use Rattle.hv_waiting.proofs.starting.in_way.Goals as goal

pub who_is_ahead-requires : goal.who_is_ahead-requires
who_is_ahead-requires g c = record {
  texts = texts-there g.D.Shelf.told c.args.house.now c.requires.ready c.book.result.now.entries c.book.ensures.entries;
}

pub returns : goal.returns
returns g c = record {
  way = λ by. way-there c.args.house.now c.book.result.now.entries c.book.ensures.entries c.args.txn by c.who_is_ahead.result (c.who_is_ahead.ensures.way by);
}
