use Rattle.std.proofs.Common.{arith}
use Rattle.hv_history.specs.State.{state_of, numbered}
use Rattle.hv_job_acts.specs.Work.{free_room}
use Rattle.hv_job_acts.proofs.Aborted.{within-all, lost-same}
use Rattle.hv_job_acts.proofs.asking.is_lost.Goals as goal

pub returns : goal.returns
returns c =
    lost-same (state_of c.args.book.now.entries) c.args.write free_room (numbered (state_of c.args.book.now.entries).tables c.args.table) c.forgot_fits.result
    (within-all c.args.book.now.entries c.requires.fit free_room (omega arith)) c.forgot_fits.ensures.fits
