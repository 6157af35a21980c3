use Rattle.std.proofs.Common.{refl, ap, IsErrOf}
use Rattle.hv_shelf.specs.declared.fault.ShelfFault.TheVariants as shelf
use Rattle.hv_table_rows.specs.Putting.{bytes_of}
use Rattle.hv_trail.specs.declared.trail.Reader.TheVariants.{Txn}
use Rattle.hv_trail.specs.Steps.{Put}
use Rattle.hv_house.specs.Steps.{outcome_of}
use Rattle.hv_house.proofs.Readings.{gains-behind}
use Rattle.hv_house.proofs.Putting.{put-ends, idle-ends}
use Rattle.hv_house.proofs.Hards.{soft_step, left_step}
use Rattle.hv_house.proofs.house.House.put.Goals as goal

pub returns-in-Ok-clause-put : goal.returns-in-Ok-clause-put
returns-in-Ok-clause-put g c =
    put-ends g.limits g.D.Shelf.told g.D.Shelf.faults (Txn c.args.by) c.args.place (bytes_of c.args.file.now) c.args.self.now c.keep_put.new.self c.requires.1.0
    c.put_file-done.new.shelf c.put_file-done.result c.keep_put.result c.keep_put.ensures.shelf c.keep_put.ensures.result
    c.put_file-done.ensures.put c.put_file-done.ensures.torn c.put_file-done.ensures.no_memory c.put_file-done.ensures.cause
    (gains-behind (Put (Txn c.args.by) c.args.place (bytes_of c.args.file.now)) (outcome_of c.keep_put.result) c.args.self.now
    (record {
      start = c.args.self.now.start;
      shelf = c.put_file-done.new.shelf;
      place = c.args.self.now.place;
      buffer = c.args.self.now.buffer;
      trail = c.reserve_mark.new.self;
      limits = c.args.self.now.limits;
    })
    c.keep_put.new.self refl refl c.reserve_mark.ensures.entries c.reserve_mark.ensures.marks c.reserve_mark.ensures.opened refl c.reserve_mark.ensures.closed
    c.reserve_mark.ensures.starved (c.keep_put.ensures.gains (bytes_of c.args.file.now)))

pub returns-in-Err-clause-put : goal.returns-in-Err-clause-put
returns-in-Err-clause-put g c =
    idle-ends g.limits g.D.Shelf.told g.D.Shelf.faults (Txn c.args.by) c.args.place (bytes_of c.args.file.now) c.args.self.now
    (record {
      start = c.args.self.now.start;
      shelf = c.args.self.now.shelf;
      place = c.args.self.now.place;
      buffer = c.args.self.now.buffer;
      trail = c.reserve_mark.new.self;
      limits = c.args.self.now.limits;
    })
    c.requires.1.0 refl refl refl c.reserve_mark.ensures.entries c.reserve_mark.ensures.marks c.reserve_mark.ensures.opened refl c.reserve_mark.ensures.closed
    c.reserve_mark.ensures.starved

pub returns-in-Ok-clause-hard : goal.returns-in-Ok-clause-hard
returns-in-Ok-clause-hard g c =
    soft_step (IsErrOf c.put_file-done.result shelf.Failed) (IsErrOf c.put_file-done.result shelf.Failed) _ _ _ _ _ _ _ _ (λ failed. failed) c.reserve_mark.ensures.closed
    (ap g.D.Shelf.hard c.keep_put.ensures.shelf) c.put_file-done.ensures.hard c.keep_put.ensures.last

pub returns-in-Err-clause-hard : goal.returns-in-Err-clause-hard
returns-in-Err-clause-hard g c = left_step (g.D.Shelf.hard c.args.self.now.shelf) _ _ c.reserve_mark.ensures.closed
