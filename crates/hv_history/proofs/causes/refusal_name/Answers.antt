use Rattle.std.proofs.Common.{Some, None, refl, ◌∙◌}
use Rattle.hv_history.proofs.RefusalNames.{found-name, no-name}
use Rattle.hv_history.proofs.causes.refusal_name.Goals as goal

pub returns-in-Some : goal.returns-in-Some
returns-in-Some c = c.name.ensures ∙ found-name (Some c.in-Some.refusal) c.in-Some.refusal c.args.number refl c.in-Some.ensures

pub returns-in-None : goal.returns-in-None
returns-in-None c = no-name None c.args.number refl c.in-None.ensures
