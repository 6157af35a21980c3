use Rattle.std.proofs.Common.{true, take, Option}
use Rattle.hv_shelf.specs.Disk.{Store}
use Rattle.hv_table_rows.specs.Reading.{deleted_in}
use Rattle.hv_acts.specs.Told.{seen_in}
use Rattle.hv_table_reader.specs.Tables.{HasLookedOver}
use Rattle.hv_table_reader.specs.Steady.{AreSteady}
use Rattle.hv_table_reader.proofs.Files.{ReadsUpTo}
use Rattle.hv_table_reader.proofs.reading.read_deleted.Given as goal
use Rattle.hv_actor.specs.Acting.{among, known}

abbrev pub invariant-loop-file : goal.invariant-loop-file
invariant-loop-file g l =
    g.W.Actor.keeps l.actor
    × HasLookedOver (among g.D.Shelf.told g.D.Shelf.faults g.W.Actor.between g.W.Actor.meanwhile) l.fn.by
    (known (g.W.Actor.own l.fn.actor) (g.W.Actor.house l.fn.actor)) (known (g.W.Actor.own l.actor) (g.W.Actor.house l.actor))
    × ((o : Option Store) → AreSteady g.D.Shelf.told o l.fn.by (seen_in (g.W.Actor.house l.fn.actor)) l.taken
    → ReadsUpTo o true (take l.file-index l.taken) (deleted_in l.list) l.rows.items l.counts.items)
