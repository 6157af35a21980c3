use Rattle.hv_finals.proofs.CallLemmas.{fine, lacking}
use Rattle.hv_finals.proofs.looking.keep_if.Goals as goal

pub returns-in-Ok-clause-unfailed : goal.returns-in-Ok-clause-unfailed
returns-in-Ok-clause-unfailed c = λ is. fine _ is

pub returns-in-Err-clause-unfailed : goal.returns-in-Err-clause-unfailed
returns-in-Err-clause-unfailed c = λ is. lacking is
