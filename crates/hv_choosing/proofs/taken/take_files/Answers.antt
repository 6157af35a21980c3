use Rattle.std.proofs.Common.{true, false, length}
use Rattle.hv_dirs.specs.Choice.{sight_of}
use Rattle.hv_choosing.specs.Taken.{files_taken}
use Rattle.hv_choosing.proofs.Turns.{begun, turned, named-behind}
use Rattle.hv_choosing.proofs.taken.take_files.Goals as goal

pub loop-turn-init : goal.loop-turn-init
loop-turn-init c = (
  begun false c.args.list.now c.args.files.now c.new.result.items c.new.ensures.items,
  begun true c.args.list.now c.args.files.now c.new-2.result.items c.new-2.ensures.items,
  c.requires,
)

pub loop-turn-preserved : goal.loop-turn-preserved
loop-turn-preserved c = (
  turned false (sight_of c.args.list.now) (length c.args.files.now) c.loop-turn._turn c.loop-turn.rest.now c.split_at.result.0.now c.split_at.result.1.now
      c.loop-turn.taken.inserts.items c.take_run.new.taken.inserts.items (files_taken false c.args.list.now c.args.files.now) c.run_length.result c.loop-turn-test.true
      c.run_length.ensures.value c.split_at.ensures.front c.split_at.ensures.back c.in_ok-take_run.ensures.inserts c.loop-turn.invariant.0,
  turned true (sight_of c.args.list.now) (length c.args.files.now) c.loop-turn._turn c.loop-turn.rest.now c.split_at.result.0.now c.split_at.result.1.now
      c.loop-turn.taken.deletes.items c.take_run.new.taken.deletes.items (files_taken true c.args.list.now c.args.files.now) c.run_length.result c.loop-turn-test.true
      c.run_length.ensures.value c.split_at.ensures.front c.split_at.ensures.back c.in_ok-take_run.ensures.deletes c.loop-turn.invariant.1,
  named-behind c.run_length.result c.loop-turn.rest.now c.split_at.result.1.now c.split_at.ensures.back c.loop-turn.invariant.2,
)
