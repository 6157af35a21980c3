use Rattle.std.proofs.Common.{Ok, sym, ap, ◌∙◌}
use Rattle.hv_session.specs.hv_beginning.specs.hv_steps.specs.declared.ready.Reply.{Reply}
use Rattle.hv_program.specs.Beside.{quietly}
use Rattle.hv_program.proofs.action.quietly.Goals as goal

pub returns-in-Ok : goal.returns-in-Ok
returns-in-Ok c = ap (λ (reply : Reply). Ok reply) c.nothing.ensures ∙ sym (ap quietly c.in-Ok.is)
