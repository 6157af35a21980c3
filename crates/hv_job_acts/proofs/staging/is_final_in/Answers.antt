use Rattle.std.proofs.Common.{ap, ◌∙◌}
use Rattle.hv_history.specs.State.{state_of}
use Rattle.hv_job_acts.specs.Staging.{is_final_for}
use Rattle.hv_job_acts.proofs.staging.is_final_in.Goals as goal

pub returns-in-Some : goal.returns-in-Some
returns-in-Some c = c.is_final_of.ensures ∙ ap (is_final_for (state_of c.args.book.now.entries) c.args.merge c.args.name.now) c.in-Some.ensures

pub returns-in-None : goal.returns-in-None
returns-in-None c = ap (is_final_for (state_of c.args.book.now.entries) c.args.merge c.args.name.now) c.in-None.ensures
