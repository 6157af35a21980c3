use Rattle.std.proofs.Common.{true, refl, ap, List, Ok, []}
use Rattle.std.specs.List.{flat_map}
use Rattle.hv_rowfile.specs.declared.record.Rec.{Rec}
use Rattle.hv_table_rows.specs.Reading.{deleted_with, deleted_in}
use Rattle.hv_acts.specs.Told.{seen_in}
use Rattle.hv_table_reader.proofs.Files.{reads-on, reads-start, reads-done, damage-up}
use Rattle.hv_table_reader.proofs.TableLooks.{looks-none, looked, looks-then, looks-up, looks-lacks}
use Rattle.hv_table_reader.proofs.Moments.{behind-adds}
use Rattle.hv_table_reader.proofs.reading.read_deleted.Goals as goal

pub loop-file-init : goal.loop-file-init
loop-file-init g c = (
  c.requires.keeps,
  looks-none g.D.Shelf.told g.D.Shelf.faults g.W.Actor.between g.W.Actor.meanwhile c.args.by g.met.W.Actor.rows (g.W.Actor.own c.args.actor.now) (g.W.Actor.house c.args.actor.now)
      c.requires.running,
  λ o steady. reads-start o true [] (deleted_in c.args.list.now) c.new-rows.result.items c.args.counts.now.items c.new-rows.ensures.items c.requires.none refl,
)

pub loop-file-preserved : goal.loop-file-preserved
loop-file-preserved g c =
    let file = c.file-item.result in
    let first = g.W.Actor.house c.args.actor.now in
    let before = g.W.Actor.house c.loop-file.actor in
    let now = g.W.Actor.house c.read_file.new.actor in
    let own = g.W.Actor.own c.args.actor.now in
    let own' = g.W.Actor.own c.loop-file.actor in
    let own'' = g.W.Actor.own c.read_file.new.actor in
    let so_far = c.loop-file.invariant.1 in (
      c.in_ok-recs.ensures.keeps,
      looks-then g.D.Shelf.told g.D.Shelf.faults g.W.Actor.between g.W.Actor.meanwhile c.args.by g.met.W.Actor.rows own own' own'' first before now (Ok tt) so_far
          (looked g.D.Shelf.told g.D.Shelf.faults g.W.Actor.between g.W.Actor.meanwhile c.args.by own' own'' before now c.in_ok-recs.recs c.in_ok-recs.ensures.looks),
      reads-on g.D.Shelf.told c.args.by (seen_in first) (seen_in before) (behind-adds g.D.Shelf.faults g.W.Actor.between own own' first before [] so_far.adds) true c.args.taken.now
          c.loop-file.file-index file c.loop-file-test.true c.file-item.is (deleted_in c.args.list.now) c.loop-file.rows.items
          (flat_map (deleted_with c.args.list.now file.place.partition) c.deref.result.now) c.push_all_deleted.new.gone.items c.loop-file.counts.items c.read_file.new.counts.items
          c.in_ok-recs.recs.items c.loop-file.invariant.2 c.in_ok-recs.ensures.recs
          (ap (λ (recs : List Rec). flat_map (deleted_with c.args.list.now file.place.partition) recs) c.deref.ensures.value) c.in_ok-push_all_deleted.ensures
          c.in_ok-recs.ensures.counted,
    )

pub returns-in_err-recs-clause-damage : goal.returns-in_err-recs-clause-damage
returns-in_err-recs-clause-damage g c =
    let first = g.W.Actor.house c.args.actor.now in
    let before = g.W.Actor.house c.loop-file.actor in
    damage-up g.D.Shelf.told c.args.by (seen_in first) (seen_in before)
    (behind-adds g.D.Shelf.faults g.W.Actor.between (g.W.Actor.own c.args.actor.now) (g.W.Actor.own c.loop-file.actor) first before [] c.loop-file.invariant.1.adds) true c.args.taken.now
    c.loop-file.file-index c.file-item.result c.loop-file-test.true c.file-item.is c.from_residual.result c.in_err-recs.field-0.0 c.from_residual.ensures.1 c.in_err-recs.ensures.damage

pub returns-in_err-recs-clause-looks : goal.returns-in_err-recs-clause-looks
returns-in_err-recs-clause-looks g c =
    let own = g.W.Actor.own c.args.actor.now in
    let own' = g.W.Actor.own c.loop-file.actor in
    let own'' = g.W.Actor.own c.read_file.new.actor in
    let first = g.W.Actor.house c.args.actor.now in
    let before = g.W.Actor.house c.loop-file.actor in
    let now = g.W.Actor.house c.read_file.new.actor in
    looks-then g.D.Shelf.told g.D.Shelf.faults g.W.Actor.between g.W.Actor.meanwhile c.args.by g.met.W.Actor.rows own own' own'' first before now c.from_residual.result
    c.loop-file.invariant.1
    (looks-up g.D.Shelf.told g.D.Shelf.faults g.W.Actor.between g.W.Actor.meanwhile c.args.by own' own'' before now c.in_err-recs.field-0.0 c.from_residual.result
    c.from_residual.ensures.1 c.in_err-recs.ensures.looks)

pub returns-in_err-push_all_deleted-clause-looks : goal.returns-in_err-push_all_deleted-clause-looks
returns-in_err-push_all_deleted-clause-looks g c =
    let own = g.W.Actor.own c.args.actor.now in
    let own' = g.W.Actor.own c.loop-file.actor in
    let own'' = g.W.Actor.own c.read_file.new.actor in
    let first = g.W.Actor.house c.args.actor.now in
    let before = g.W.Actor.house c.loop-file.actor in
    let now = g.W.Actor.house c.read_file.new.actor in
    looks-lacks g.D.Shelf.told g.D.Shelf.faults g.W.Actor.between g.W.Actor.meanwhile c.args.by own own'' first now c.from_residual-in_err-push_all_deleted.result
    (looks-then g.D.Shelf.told g.D.Shelf.faults g.W.Actor.between g.W.Actor.meanwhile c.args.by g.met.W.Actor.rows own own' own'' first before now (Ok tt) c.loop-file.invariant.1
    (looked g.D.Shelf.told g.D.Shelf.faults g.W.Actor.between g.W.Actor.meanwhile c.args.by own' own'' before now c.in_ok-recs.recs c.in_ok-recs.ensures.looks))
    c.from_residual-in_err-push_all_deleted.ensures.1

pub returns-clause-counts : goal.returns-clause-counts
returns-clause-counts g c = λ o steady.
    (reads-done o true c.args.taken.now c.loop-file.file-index (deleted_in c.args.list.now) c.loop-file.rows.items c.loop-file.counts.items c.loop-file-test.false
    c.loop-file.auto.file-index-end (c.loop-file.invariant.2 o steady)).counted

pub returns-clause-rows : goal.returns-clause-rows
returns-clause-rows g c = λ o steady.
    (reads-done o true c.args.taken.now c.loop-file.file-index (deleted_in c.args.list.now) c.loop-file.rows.items c.loop-file.counts.items c.loop-file-test.false
    c.loop-file.auto.file-index-end (c.loop-file.invariant.2 o steady)).reads
