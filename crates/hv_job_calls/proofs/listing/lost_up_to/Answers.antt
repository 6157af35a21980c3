use Rattle.std.proofs.Common.{arith}
use Rattle.hv_job_calls.proofs.ListedJobs.{lost-next, lost-all}
use Rattle.hv_job_calls.proofs.listing.lost_up_to.Goals as goal

pub loop-write-preserved : goal.loop-write-preserved
loop-write-preserved c =
    lost-next c.args.mark c.args.lost.now c.loop-write.write-index c.loop-write.exceptions.items c.push_lost.new.exceptions.items c.loop-write-test.true
    c.loop-write.invariant c.in_ok-push_lost.ensures

pub returns : goal.returns
returns c =
    lost-all c.args.mark c.args.lost.now c.loop-write.write-index c.loop-write.exceptions.items
    (omega (arith, c.loop-write-test.false, c.loop-write.auto.write-index-end)) c.loop-write.invariant
