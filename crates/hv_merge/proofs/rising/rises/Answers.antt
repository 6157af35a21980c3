use Rattle.hv_merge.proofs.RisingLemmas.{decides}
use Rattle.std.proofs.Common.{None}
use Rattle.hv_merge.proofs.rising.rises.Goals as goal

pub returns : goal.returns
returns c = decides None c.args.recs.now c.all_rise.result c.all_rise.ensures
