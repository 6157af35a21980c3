use Rattle.std.proofs.Common.{◌≡◌, false, refl, ap, ◌∙◌, Ok, []}
use Rattle.std.specs.List.{flat_map}
use Rattle.hv_route.specs.Partitions.{partition_values}
use Rattle.hv_table_rows.specs.Reading.{found_with, left_of, left_in}
use Rattle.hv_acts.specs.Told.{seen_in}
use Rattle.hv_table_reader.proofs.Files.{reads-on, reads-start, reads-done, damage-up}
use Rattle.hv_table_reader.proofs.TableLooks.{looks-none, looked, looks-then, looks-up, looks-lacks}
use Rattle.hv_table_reader.proofs.Moments.{behind-adds}
use Rattle.hv_table_reader.proofs.reading.read_left.Goals as goal

pub loop-file-preserved : goal.loop-file-preserved
loop-file-preserved g c =
    let parts = c.args.info.now.shape.parts in
    let gone = c.args.gone.now in
    let list = c.args.list.now in
    let file = c.file-item.result in
    let recs = c.in_ok-recs.recs.items in
    let partition = c.turn.new.self in
    let first = g.W.Actor.house c.args.actor.now in
    let before = g.W.Actor.house c.loop-file.actor in
    let now = g.W.Actor.house c.read_file.new.actor in
    let own = g.W.Actor.own c.args.actor.now in
    let own' = g.W.Actor.own c.loop-file.actor in
    let own'' = g.W.Actor.own c.read_file.new.actor in
    let so_far = c.loop-file.invariant.2 in
    let values : partition.values ≡ partition_values parts partition.text =
    c.in_ok-turn.ensures.values ∙ ap (λ columns. partition_values columns partition.text) c.as_slice-parts.ensures in
    let text : partition.text ≡ file.place.partition = c.in_ok-turn.ensures.text in (
      values,
      c.in_ok-recs.ensures.keeps,
      looks-then g.D.Shelf.told g.D.Shelf.faults g.W.Actor.between g.W.Actor.meanwhile c.args.by g.met.W.Actor.rows own own' own'' first before now (Ok tt) so_far
          (looked g.D.Shelf.told g.D.Shelf.faults g.W.Actor.between g.W.Actor.meanwhile c.args.by own' own'' before now c.in_ok-recs.recs c.in_ok-recs.ensures.looks),
      reads-on g.D.Shelf.told c.args.by (seen_in first) (seen_in before) (behind-adds g.D.Shelf.faults g.W.Actor.between own own' first before [] so_far.adds) false c.args.taken.now
          c.loop-file.file-index file c.loop-file-test.true c.file-item.is (left_in list gone c.args.info.now.shape) c.loop-file.rows.items
          (left_of gone (flat_map (found_with list partition.text partition.values) recs)) c.push_rows.new.rows.items c.loop-file.counts.items c.read_file.new.counts.items recs
          c.loop-file.invariant.3 c.in_ok-recs.ensures.recs
          (ap (λ vs. left_of gone (flat_map (found_with list partition.text vs) recs)) values
          ∙ ap (λ t. left_of gone (flat_map (found_with list t (partition_values parts t)) recs)) text)
          c.in_ok-push_rows.ensures c.in_ok-recs.ensures.counted,
    )

pub returns-in_err-recs-clause-damage : goal.returns-in_err-recs-clause-damage
returns-in_err-recs-clause-damage g c =
    let first = g.W.Actor.house c.args.actor.now in
    let before = g.W.Actor.house c.loop-file.actor in
    damage-up g.D.Shelf.told c.args.by (seen_in first) (seen_in before)
    (behind-adds g.D.Shelf.faults g.W.Actor.between (g.W.Actor.own c.args.actor.now) (g.W.Actor.own c.loop-file.actor) first before [] c.loop-file.invariant.2.adds) false c.args.taken.now
    c.loop-file.file-index c.file-item.result c.loop-file-test.true c.file-item.is c.from_residual-in_err-recs.result c.in_err-recs.field-0.0 c.from_residual-in_err-recs.ensures.1
    c.in_err-recs.ensures.damage

pub returns-in_err-recs-clause-looks : goal.returns-in_err-recs-clause-looks
returns-in_err-recs-clause-looks g c =
    let own = g.W.Actor.own c.args.actor.now in
    let own' = g.W.Actor.own c.loop-file.actor in
    let own'' = g.W.Actor.own c.read_file.new.actor in
    let first = g.W.Actor.house c.args.actor.now in
    let before = g.W.Actor.house c.loop-file.actor in
    let now = g.W.Actor.house c.read_file.new.actor in
    looks-then g.D.Shelf.told g.D.Shelf.faults g.W.Actor.between g.W.Actor.meanwhile c.args.by g.met.W.Actor.rows own own' own'' first before now c.from_residual-in_err-recs.result
    c.loop-file.invariant.2
    (looks-up g.D.Shelf.told g.D.Shelf.faults g.W.Actor.between g.W.Actor.meanwhile c.args.by own' own'' before now c.in_err-recs.field-0.0 c.from_residual-in_err-recs.result
    c.from_residual-in_err-recs.ensures.1 c.in_err-recs.ensures.looks)

pub returns-in_err-turn-clause-looks : goal.returns-in_err-turn-clause-looks
returns-in_err-turn-clause-looks g c =
    let own = g.W.Actor.own c.args.actor.now in
    let own' = g.W.Actor.own c.loop-file.actor in
    let own'' = g.W.Actor.own c.read_file.new.actor in
    let first = g.W.Actor.house c.args.actor.now in
    let before = g.W.Actor.house c.loop-file.actor in
    let now = g.W.Actor.house c.read_file.new.actor in
    looks-lacks g.D.Shelf.told g.D.Shelf.faults g.W.Actor.between g.W.Actor.meanwhile c.args.by own own'' first now c.from_residual-in_err-turn.result
    (looks-then g.D.Shelf.told g.D.Shelf.faults g.W.Actor.between g.W.Actor.meanwhile c.args.by g.met.W.Actor.rows own own' own'' first before now (Ok tt) c.loop-file.invariant.2
    (looked g.D.Shelf.told g.D.Shelf.faults g.W.Actor.between g.W.Actor.meanwhile c.args.by own' own'' before now c.in_ok-recs.recs c.in_ok-recs.ensures.looks))
    c.from_residual-in_err-turn.ensures.1

pub returns-in_err-push_rows-clause-looks : goal.returns-in_err-push_rows-clause-looks
returns-in_err-push_rows-clause-looks g c =
    let own = g.W.Actor.own c.args.actor.now in
    let own' = g.W.Actor.own c.loop-file.actor in
    let own'' = g.W.Actor.own c.read_file.new.actor in
    let first = g.W.Actor.house c.args.actor.now in
    let before = g.W.Actor.house c.loop-file.actor in
    let now = g.W.Actor.house c.read_file.new.actor in
    looks-lacks g.D.Shelf.told g.D.Shelf.faults g.W.Actor.between g.W.Actor.meanwhile c.args.by own own'' first now c.from_residual-in_err-push_rows.result
    (looks-then g.D.Shelf.told g.D.Shelf.faults g.W.Actor.between g.W.Actor.meanwhile c.args.by g.met.W.Actor.rows own own' own'' first before now (Ok tt) c.loop-file.invariant.2
    (looked g.D.Shelf.told g.D.Shelf.faults g.W.Actor.between g.W.Actor.meanwhile c.args.by own' own'' before now c.in_ok-recs.recs c.in_ok-recs.ensures.looks))
    c.from_residual-in_err-push_rows.ensures.1

pub returns-clause-counts : goal.returns-clause-counts
returns-clause-counts g c = λ o steady.
    (reads-done o false c.args.taken.now c.loop-file.file-index (left_in c.args.list.now c.args.gone.now c.args.info.now.shape) c.loop-file.rows.items c.loop-file.counts.items
    c.loop-file-test.false c.loop-file.auto.file-index-end (c.loop-file.invariant.3 o steady)).counted

pub returns-clause-rows : goal.returns-clause-rows
returns-clause-rows g c = λ o steady.
    (reads-done o false c.args.taken.now c.loop-file.file-index (left_in c.args.list.now c.args.gone.now c.args.info.now.shape) c.loop-file.rows.items c.loop-file.counts.items
    c.loop-file-test.false c.loop-file.auto.file-index-end (c.loop-file.invariant.3 o steady)).reads

pub loop-file-init : goal.loop-file-init
loop-file-init g c = (
  c.in_ok-partition.ensures.values ∙ ap (λ columns. partition_values columns c.in_ok-partition.partition.text) c.as_slice-parts.ensures,
  c.requires.keeps,
  looks-none g.D.Shelf.told g.D.Shelf.faults g.W.Actor.between g.W.Actor.meanwhile c.args.by g.met.W.Actor.rows (g.W.Actor.own c.args.actor.now) (g.W.Actor.house c.args.actor.now)
      c.requires.running,
  λ o steady. reads-start o false [] (left_in c.args.list.now c.args.gone.now c.args.info.now.shape) c.new-rows.result.items c.args.counts.now.items c.new-rows.ensures.items
      c.requires.none refl,
)

pub returns-in_err-of-clause-looks : goal.returns-in_err-of-clause-looks
returns-in_err-of-clause-looks g c =
    let own = g.W.Actor.own c.args.actor.now in
    let first = g.W.Actor.house c.args.actor.now in
    looks-lacks g.D.Shelf.told g.D.Shelf.faults g.W.Actor.between g.W.Actor.meanwhile c.args.by own own first first c.from_residual.result
    (looks-none g.D.Shelf.told g.D.Shelf.faults g.W.Actor.between g.W.Actor.meanwhile c.args.by g.met.W.Actor.rows own first c.requires.running)
    c.from_residual.ensures.1

pub returns-in_err-partition-clause-looks : goal.returns-in_err-partition-clause-looks
returns-in_err-partition-clause-looks g c =
    let own = g.W.Actor.own c.args.actor.now in
    let first = g.W.Actor.house c.args.actor.now in
    looks-lacks g.D.Shelf.told g.D.Shelf.faults g.W.Actor.between g.W.Actor.meanwhile c.args.by own own first first c.from_residual-in_err-partition.result
    (looks-none g.D.Shelf.told g.D.Shelf.faults g.W.Actor.between g.W.Actor.meanwhile c.args.by g.met.W.Actor.rows own first c.requires.running)
    c.from_residual-in_err-partition.ensures.1
