use Rattle.hv_kept.proofs.KnownLemmas.{keep_either}
use Rattle.hv_kept.proofs.names.keep.Goals as goal

pub returns : goal.returns
returns c = record {
  known = λ told known one.
      keep_either c.args.table c.args.names c.args.kept.now c.insert.new.self told c.insert.result c.insert.ensures.updates c.insert.ensures.err known one;
}
