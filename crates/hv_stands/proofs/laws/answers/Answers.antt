use Rattle.hv_stands.proofs.Answered.{commits-answer, creates-answer, drops-answer, aborts-answer, waiting-aborts-answer, answers-stay}
use Rattle.hv_stands.proofs.laws.answers.Goals as goal

pub returns : goal.returns
returns c = record { commits = commits-answer; creates = creates-answer; drops = drops-answer; aborts = aborts-answer; waiting = waiting-aborts-answer; stay = answers-stay }
