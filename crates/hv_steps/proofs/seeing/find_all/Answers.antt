use Rattle.std.proofs.Common.{◌≡◌, [], List, length, take, refl, sym, ap, ◌∙◌, arith, rules}
use Rattle.std.specs.Prelude.{slice_get}
use Rattle.std.proofs.lemmas.List.{take_all}
use Rattle.std.proofs.lemmas.Option.{slice_get_read}
use Rattle.hv_locks.specs.declared.table.Lock.{Lock}
use Rattle.hv_logic.specs.Names.{names_in}
use Rattle.hv_table_reader.specs.hv_acts.specs.Told.{trail_in}
use Rattle.hv_steps.proofs.Joining.{adds-none, adds-front}
use Rattle.hv_steps.proofs.Looks.{finds-none, finds-next, finds-all, looks-lack, looks-failed, looks-behind}
use Rattle.hv_steps.proofs.Unseen.{way-place, way-reader}
use Rattle.hv_steps.proofs.seeing.find_all.Goals as goal

pub loop-i-init : goal.loop-i-init
loop-i-init g c = (
  c.requires.keeps,
  finds-none g.D.Shelf.told g.D.Shelf.faults g.W.Actor.between g.met.W.Actor.rows (g.W.Actor.own c.args.actor.now) (g.W.Actor.house c.args.actor.now)
      c.args.way.txn c.args.way.place c.in_ok-names.names.items
      (way-place (trail_in (g.W.Actor.house c.args.actor.now)) c.requires.was.0 c.args.way c.args.tree.now c.requires.was.1)
      c.new-infos.result.items (search rules) c.requires.running,
)

pub find_next-requires : goal.find_next-requires
find_next-requires g c =
    let own = g.W.Actor.own c.args.actor.now in
    let first = g.W.Actor.house c.args.actor.now in
    let own' = g.W.Actor.own c.loop-i.actor in
    let now = g.W.Actor.house c.loop-i.actor in
    let sees = c.loop-i.invariant.1 in
    record {
      keeps = c.loop-i.invariant.0;
      running = sees.running;
      reader = way-reader (trail_in first) (trail_in now) c.requires.was.0 c.args.way c.args.tree.now c.loop-i.i c.index.result.now c.requires.was.1
          (adds-front g.D.Shelf.faults g.W.Actor.between g.met.W.Actor.rows own own' first now [] sees.adds)
          (ap (λ (locks : List Lock). slice_get locks c.loop-i.i) (sym c.in_ok-names.ensures.names)
          ∙ slice_get_read c.in_ok-names.names.items (length c.in_ok-names.names.items) c.loop-i.i c.index.result.now refl
          (omega (arith, c.loop-i-test.true, c.len-i-end.ensures)) c.index.ensures);
    }

pub loop-i-preserved : goal.loop-i-preserved
loop-i-preserved g c = (
  c.in_ok-find_next.ensures.keeps,
  finds-next g.D.Shelf.told g.D.Shelf.faults g.W.Actor.between g.met.W.Actor.rows (g.W.Actor.own c.args.actor.now) (g.W.Actor.house c.args.actor.now)
      c.args.way.txn c.args.way.place c.in_ok-names.names.items
      (way-place (trail_in (g.W.Actor.house c.args.actor.now)) c.requires.was.0 c.args.way c.args.tree.now c.requires.was.1)
      (g.W.Actor.own c.loop-i.actor) (g.W.Actor.own c.find_next.new.actor) (g.W.Actor.house c.loop-i.actor) (g.W.Actor.house c.find_next.new.actor)
      c.loop-i.i c.index.result.now c.loop-i.infos.items c.find_next.new.infos.items
      c.loop-i.invariant.1 (omega (arith, c.loop-i-test.true, c.len-i-end.ensures)) (sym c.index.ensures)
      c.in_ok-find_next.ensures.looks.adds c.in_ok-find_next.ensures.looks.running c.in_ok-find_next.ensures.infos,
)

pub returns-in_err-names-clause-looks : goal.returns-in_err-names-clause-looks
returns-in_err-names-clause-looks g c =
    let own = g.W.Actor.own c.args.actor.now in
    let house = g.W.Actor.house c.args.actor.now in
    looks-lack g.D.Shelf.told g.D.Shelf.faults g.W.Actor.between g.met.W.Actor.rows g.W.Actor.meanwhile c.args.way.txn own own house house
    c.from_residual.result c.from_residual.ensures.1 (adds-none g.D.Shelf.faults g.W.Actor.between g.met.W.Actor.rows own house) c.requires.running

pub returns-in_err-find_next-clause-looks : goal.returns-in_err-find_next-clause-looks
returns-in_err-find_next-clause-looks g c =
    let own = g.W.Actor.own c.args.actor.now in
    let own' = g.W.Actor.own c.loop-i.actor in
    let own'' = g.W.Actor.own c.find_next.new.actor in
    let first = g.W.Actor.house c.args.actor.now in
    let before = g.W.Actor.house c.loop-i.actor in
    let now = g.W.Actor.house c.find_next.new.actor in
    looks-behind g.D.Shelf.told g.D.Shelf.faults g.W.Actor.between g.met.W.Actor.rows g.W.Actor.meanwhile c.args.way.txn own own' own'' first before now _
    c.loop-i.invariant.1.adds
    (looks-failed g.D.Shelf.told g.D.Shelf.faults g.W.Actor.between g.met.W.Actor.rows g.W.Actor.meanwhile c.args.way.txn own' own'' before now
    c.in_err-find_next.field-0.0 c.from_residual-in_err-find_next.result c.from_residual-in_err-find_next.ensures.1 c.in_err-find_next.ensures.looks)

pub returns-clause-infos : goal.returns-clause-infos
returns-clause-infos g c =
    let own = g.W.Actor.own c.args.actor.now in
    let first = g.W.Actor.house c.args.actor.now in
    let own' = g.W.Actor.own c.loop-i.actor in
    let now = g.W.Actor.house c.loop-i.actor in
    let names = c.in_ok-names.names.items in
    let all : take c.loop-i.i names ≡ names = take_all c.loop-i.i names (omega (arith, c.loop-i-test.false, c.len-i-end.ensures)) in
    finds-all g.D.Shelf.told g.D.Shelf.faults g.W.Actor.between g.met.W.Actor.rows own first c.args.way.txn c.args.way.place names
    (way-place (trail_in first) c.requires.was.0 c.args.way c.args.tree.now c.requires.was.1) own' now c.loop-i.i c.loop-i.infos.items (names_in c.args.tree.now)
    c.loop-i.invariant.1 (all ∙ c.in_ok-names.ensures.names)

pub returns-clause-found : goal.returns-clause-found
returns-clause-found g c = c.loop-i.invariant.1.sees.1
