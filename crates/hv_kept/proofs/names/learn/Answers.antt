use Rattle.hv_kept.proofs.KnownLemmas.{listed_known}
use Rattle.hv_kept.proofs.names.learn.Goals as goal

pub returns-in-Ok : goal.returns-in-Ok
returns-in-Ok c = record {
  known = λ told is known.
      c.keep.ensures.known told known
      (listed_known c.args.table c.args.places.now c.in-Ok.names told c.in-Ok.ensures.names is);
}
