use Rattle.hv_recovery.proofs.Answered.{refused_text}
use Rattle.hv_recovery.proofs.Skims.{said-same, runs-so}
use Rattle.hv_recovery.proofs.reading.tree_beside.Goals as goal

pub returns-in-Ok-clause-tree : goal.returns-in-Ok-clause-tree
returns-in-Ok-clause-tree c = rw c.in-Opened.is (said-same c.in-Opened.text c.in-Ok.tree c.in-Ok.ensures.tree)

pub returns-in-Ok-clause-statement : goal.returns-in-Ok-clause-statement
returns-in-Ok-clause-statement c = rw c.in-Opened.is (runs-so c.in-Opened.text c.in-Ok.tree c.in-Ok.ensures.tree)

pub returns-in-Ok-clause-handed : goal.returns-in-Ok-clause-handed
returns-in-Ok-clause-handed c = rw c.in-Opened.is (runs-so c.in-Opened.text c.in-Ok.tree c.in-Ok.ensures.tree)

pub returns-in-Err-clause-bad : goal.returns-in-Err-clause-bad
returns-in-Err-clause-bad c = rw (c.refusal.ensures, c.in-Opened.is) (refused_text c.in-Opened.text c.args.at c.in-Err.fault c.in-Err.ensures.fault)
