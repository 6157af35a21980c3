use Rattle.hv_files.proofs.CauseLemmas.{hard_where}
use Rattle.hv_files.proofs.counts.Counts.hard_device.Goals as goal

pub returns-in-Err-clause-cause : goal.returns-in-Err-clause-cause
returns-in-Err-clause-cause g c = hard_where _ _ _ _ _ c.raise_hard.ensures.cause
