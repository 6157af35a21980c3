use Rattle.hv_job_fits.proofs.AskLemmas.{same-law, either-law}
use Rattle.hv_job_fits.proofs.asking.has_asker.Goals as goal

pub returns : goal.returns
returns c = record {
  asks = same-law _ c.either.result _ c.either.ensures (either-law c.args.by _ c.is_asker-asker.result c.is_asker-asker.ensures.asks);
}
