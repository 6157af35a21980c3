use Rattle.hv_kept.proofs.KnownLemmas.{forget_known}
use Rattle.hv_kept.proofs.names.forget.Goals as goal

pub returns : goal.returns
returns c = record {
  known = λ before now step known. forget_known c.args.table c.args.kept.now c.remove.new.self before now c.remove.ensures.updates.0 step known;
}
