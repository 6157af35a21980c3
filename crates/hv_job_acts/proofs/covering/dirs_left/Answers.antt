use Rattle.hv_history.specs.State.{state_of}
use Rattle.hv_job_acts.proofs.Left.{left-init, left-next, left-end}
use Rattle.hv_job_acts.proofs.covering.dirs_left.Goals as goal

pub loop-name-init : goal.loop-name-init
loop-name-init c = λ j at.
    left-init (state_of c.args.book.now.entries) j c.args.table c.args.partition.now c.args.names.now c.new-dirs.result.items c.new-dirs.ensures.items

pub loop-name-preserved : goal.loop-name-preserved
loop-name-preserved c = λ j at.
    left-next (state_of c.args.book.now.entries) j c.args.table c.args.partition.now c.args.names.now c.loop-name.name-index c.name-item.result
    c.loop-name.dirs.items c.put_dir.new.dirs.items c.loop-name-test.true c.name-item.is (c.loop-name.invariant j at) (c.in_ok-put_dir.ensures j at)

pub returns : goal.returns
returns c = λ j at.
    left-end (state_of c.args.book.now.entries) j c.args.table c.args.partition.now c.args.names.now c.loop-name.name-index c.loop-name.dirs.items
    c.loop-name-test.false c.loop-name.auto.name-index-end (c.loop-name.invariant j at)
