use Rattle.std.proofs.Common.{[], Ok, sym, ◌∙◌}
use Rattle.hv_session.specs.hv_beginning.specs.hv_steps.specs.hv_table_reader.specs.hv_acts.specs.Told.{trail_in}
use Rattle.hv_session.specs.hv_beginning.specs.hv_steps.specs.hv_table_reader.specs.hv_acts.proofs.Readings.{reader-lasts}
use Rattle.hv_session.specs.hv_beginning.specs.hv_steps.specs.hv_table_reader.proofs.Moments.{behind-adds}
use Rattle.hv_session.specs.hv_beginning.specs.hv_steps.proofs.SeenRows.{found-as}
use Rattle.tests_house.proofs.seeing.rows_of.Goals as goal

pub find_table-requires-clause-place : goal.find_table-requires-clause-place
find_table-requires-clause-place g c = c.requires.reader.has

pub read_rows-requires-clause-running : goal.read_rows-requires-clause-running
read_rows-requires-clause-running g c = (c.in_ok-info.ensures.looks c.args.way.txn).running

pub read_rows-requires-clause-reads : goal.read_rows-requires-clause-reads
read_rows-requires-clause-reads g c =
    let before = g.W.Actor.house c.args.actor.now in
    let now = g.W.Actor.house c.find_table.new.actor in
    let found =
    found-as (trail_in now) c.args.way.txn c.args.way.place c.args.name.now (Ok c.in_ok-info.field-0) c.in_ok-info.ensures.book c.in_ok-info.ensures.found
    (reader-lasts (trail_in before) (trail_in now)
    (behind-adds g.D.Shelf.faults g.W.Actor.between (g.W.Actor.own c.args.actor.now) (g.W.Actor.own c.find_table.new.actor) before now []
    (c.in_ok-info.ensures.looks c.args.way.txn).adds).front c.args.way.txn c.args.way.place c.args.name.now c.requires.reader) in
    (found.reads c.in-Some.info c.in-Some.is).reads

pub read_rows-requires-clause-named : goal.read_rows-requires-clause-named
read_rows-requires-clause-named g c = record { name = c.args.name.now; named = sym c.in-Some.is ∙ c.in_ok-info.ensures.found }
