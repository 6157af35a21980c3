use Rattle.hv_session.specs.hv_beginning.specs.hv_steps.specs.hv_table_reader.specs.hv_acts.specs.hv_telling.specs.hv_house.proofs.Hards.{opened_shuts}
use Rattle.tests_seats.proofs.house.opened_whole.Goals as goal

pub returns-in-Ok : goal.returns-in-Ok
returns-in-Ok g c = record {
  whole = c.opened_is_whole.ensures.whole g.D.Shelf.told c.args.store c.in-Ok.house c.in-Ok.ensures.ready c.in-Ok.ensures.opened c.in-Ok.ensures.over c.in-Ok.ensures.whole;
  hard = opened_shuts g.D.Shelf.hard c.args.store c.in-Ok.house c.in-Ok.ensures.over c.in-Ok.ensures.ready.kept.running c.in-Ok.ensures.hard_later;
}
