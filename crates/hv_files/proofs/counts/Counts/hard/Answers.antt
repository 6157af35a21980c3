use Rattle.hv_files.proofs.CauseLemmas.{hard_where}
use Rattle.hv_files.proofs.counts.Counts.hard.Goals as goal

pub returns-in-Err-Device-clause-cause : goal.returns-in-Err-Device-clause-cause
returns-in-Err-Device-clause-cause g c = hard_where _ _ _ _ _ c.raise_hard.ensures.cause
