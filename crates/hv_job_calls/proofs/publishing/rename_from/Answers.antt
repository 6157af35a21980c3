use Rattle.std.proofs.Common.{arith}
use Rattle.hv_job_calls.proofs.Renaming.{renamed-next, renamed-all, stageable-at}
use Rattle.hv_job_calls.proofs.publishing.rename_from.Goals as goal

pub push_renaming-requires : goal.push_renaming-requires
push_renaming-requires c = record {
  named = stageable-at c.args.job.0 c.args.dirs.now c.loop-dir.dir-index c.dir-item.result c.requires.named c.loop-dir-test.true c.dir-item.is;
}

pub loop-dir-preserved : goal.loop-dir-preserved
loop-dir-preserved c =
    renamed-next c.args.job.0 c.args.dirs.now c.loop-dir.dir-index c.dir-item.result c.loop-dir.renamings.items c.push_renaming.new.renamings.items
    c.loop-dir-test.true c.dir-item.is c.loop-dir.invariant c.in_ok-push_renaming.ensures

pub returns : goal.returns
returns c = record {
  renamings =
      renamed-all c.args.job.0 c.args.dirs.now c.loop-dir.dir-index c.loop-dir.renamings.items
      (omega (arith, c.loop-dir-test.false, c.loop-dir.auto.dir-index-end)) c.loop-dir.invariant;
}
