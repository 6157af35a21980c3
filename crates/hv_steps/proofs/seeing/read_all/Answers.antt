use Rattle.std.proofs.Common.{◌≡◌, [], length, refl, sym, arith, rules}
use Rattle.std.specs.Prelude.{slice_get, Some}
use Rattle.std.proofs.lemmas.List.{take_all}
use Rattle.std.proofs.lemmas.Option.{slice_get_read}
use Rattle.hv_table_reader.specs.hv_acts.specs.Told.{trail_in}
use Rattle.hv_steps.specs.Wanting.{needs_in}
use Rattle.hv_steps.proofs.Joining.{adds-front}
use Rattle.hv_steps.proofs.Looks.{reads-none, reads-next, reads-all, looks-failed, looks-behind}
use Rattle.hv_steps.proofs.SeenRows.{found-lasts, found-at}
use Rattle.hv_steps.proofs.seeing.read_all.Goals as goal

pub loop-i-init : goal.loop-i-init
loop-i-init g c = (
  c.requires.keeps,
  reads-none g.D.Shelf.told g.D.Shelf.faults g.W.Actor.between g.met.W.Actor.rows (g.W.Actor.own c.args.actor.now) (g.W.Actor.house c.args.actor.now)
      c.args.way.txn c.args.way.place c.requires.place (needs_in c.args.studied.now) c.args.studied.now.infos.items
      c.new-rows.result.items (search rules) c.requires.running,
)

pub read_next-requires : goal.read_next-requires
read_next-requires g c =
    let own = g.W.Actor.own c.args.actor.now in
    let first = g.W.Actor.house c.args.actor.now in
    let own' = g.W.Actor.own c.loop-i.actor in
    let now = g.W.Actor.house c.loop-i.actor in
    let sees = c.loop-i.invariant.1 in
    let infos = c.args.studied.now.infos.items in
    let at : slice_get infos c.loop-i.i ≡ Some c.index.result.now =
    slice_get_read infos (length infos) c.loop-i.i c.index.result.now refl (omega (arith, c.loop-i-test.true, c.len-i-end.ensures)) c.index.ensures in
    record {
      keeps = c.loop-i.invariant.0;
      running = sees.running;
      at = at;
      found = found-at (trail_in now) c.args.way.txn c.args.way.place infos c.loop-i.i c.index.result.now
          (found-lasts (trail_in first) (trail_in now)
          (adds-front g.D.Shelf.faults g.W.Actor.between g.met.W.Actor.rows own own' first now [] sees.adds) c.args.way.txn c.args.way.place infos c.requires.found) at;
    }

pub loop-i-preserved : goal.loop-i-preserved
loop-i-preserved g c = (
  c.in_ok-read_next.ensures.keeps,
  reads-next g.D.Shelf.told g.D.Shelf.faults g.W.Actor.between g.met.W.Actor.rows (g.W.Actor.own c.args.actor.now) (g.W.Actor.house c.args.actor.now)
      c.args.way.txn c.args.way.place c.requires.place (needs_in c.args.studied.now) c.args.studied.now.infos.items
      (g.W.Actor.own c.loop-i.actor) (g.W.Actor.own c.read_next.new.actor) (g.W.Actor.house c.loop-i.actor) (g.W.Actor.house c.read_next.new.actor)
      c.loop-i.i c.index.result.now c.loop-i.rows.items c.read_next.new.rows.items
      c.loop-i.invariant.1 (omega (arith, c.loop-i-test.true, c.len-i-end.ensures)) (sym c.index.ensures)
      c.in_ok-read_next.ensures.looks.adds c.in_ok-read_next.ensures.looks.running c.in_ok-read_next.ensures.rows,
)

pub returns-in_err-read_next-clause-looks : goal.returns-in_err-read_next-clause-looks
returns-in_err-read_next-clause-looks g c =
    let own = g.W.Actor.own c.args.actor.now in
    let own' = g.W.Actor.own c.loop-i.actor in
    let own'' = g.W.Actor.own c.read_next.new.actor in
    let first = g.W.Actor.house c.args.actor.now in
    let before = g.W.Actor.house c.loop-i.actor in
    let now = g.W.Actor.house c.read_next.new.actor in
    looks-behind g.D.Shelf.told g.D.Shelf.faults g.W.Actor.between g.met.W.Actor.rows g.W.Actor.meanwhile c.args.way.txn own own' own'' first before now _
    c.loop-i.invariant.1.adds
    (looks-failed g.D.Shelf.told g.D.Shelf.faults g.W.Actor.between g.met.W.Actor.rows g.W.Actor.meanwhile c.args.way.txn own' own'' before now
    c.in_err-read_next.field-0.0 c.from_residual.result c.from_residual.ensures.1 c.in_err-read_next.ensures.looks)

pub returns-clause-rows : goal.returns-clause-rows
returns-clause-rows g c =
    let infos = c.args.studied.now.infos.items in
    reads-all g.D.Shelf.told g.D.Shelf.faults g.W.Actor.between g.met.W.Actor.rows (g.W.Actor.own c.args.actor.now) (g.W.Actor.house c.args.actor.now)
    c.args.way.txn c.args.way.place c.requires.place (needs_in c.args.studied.now) infos (g.W.Actor.own c.loop-i.actor) (g.W.Actor.house c.loop-i.actor) c.loop-i.i
    c.loop-i.rows.items c.loop-i.invariant.1 (take_all c.loop-i.i infos (omega (arith, c.loop-i-test.false, c.len-i-end.ensures)))
