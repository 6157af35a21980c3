use Rattle.hv_kept.proofs.KnownLemmas.{told_list}
use Rattle.hv_kept.proofs.settling.settle_list.Goals as goal

pub returns-in-Ok : goal.returns-in-Ok
returns-in-Ok c = record {
  known = λ told listed known.
      c.learn.ensures.known told
      (told_list c.args.listed.now c.in-Ok.places (λ v. v.items) told c.args.table c.deref.result.now c.in-Ok.is c.deref.ensures.value listed)
      known;
}
