use Rattle.std.proofs.Common.{◌≡◌, List, take, map, Ok}
use Rattle.hv_rowfile.specs.declared.record.Rec.{Rec}
use Rattle.hv_choosing.specs.declared.listing.DirFile.{DirFile}
use Rattle.hv_actor.specs.Acting.{among, known}
use Rattle.hv_job_acts.specs.hv_acts.specs.Told.{trail_in}
use Rattle.hv_job_acts.specs.hv_acts.specs.hv_telling.specs.Telling.{IsToldHouse}
use Rattle.hv_compact.specs.Compacting.{Works}
use Rattle.hv_compact.specs.Gathering.{taken_in}
use Rattle.hv_compact.specs.Reading.{AreFilesOf, ReadsEach}
use Rattle.hv_compact.proofs.Gets.{items_in}
use Rattle.hv_compact.proofs.reading.read_bucket.Given as goal

abbrev pub invariant-loop-file : goal.invariant-loop-file
invariant-loop-file g l =
    g.W.Actor.keeps l.actor
    × Works {T = Unit {0}} (among g.D.Shelf.told g.D.Shelf.faults g.W.Actor.between g.W.Actor.meanwhile) l.task.job
    (known (g.W.Actor.own l.fn.actor) (g.W.Actor.house l.fn.actor)) (known (g.W.Actor.own l.actor) (g.W.Actor.house l.actor)) (Ok tt)
    × AreFilesOf l.deletes l.bucket (items_in l.read.items)
    × ((recs_of : DirFile → List Rec) → IsToldHouse g.D.Shelf.told (g.W.Actor.house l.fn.actor).house
    → ReadsEach (trail_in (g.W.Actor.house l.fn.actor)) l.task.job l.deletes recs_of l.files
    → items_in l.read.items ≡ map recs_of (taken_in l.task.kind l.bucket (take l.file-index l.files)))
