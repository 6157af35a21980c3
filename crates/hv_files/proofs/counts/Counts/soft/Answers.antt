use Rattle.hv_files.proofs.CauseLemmas.{soft_where}
use Rattle.hv_files.proofs.counts.Counts.soft.Goals as goal

pub returns-in-Err-Device-clause-cause : goal.returns-in-Err-Device-clause-cause
returns-in-Err-Device-clause-cause g c = soft_where _ _ _ _ _ c.raise_soft.ensures.cause
