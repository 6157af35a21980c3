use Rattle.std.proofs.Common.{◌≡◌, ◌∙◌}
use Rattle.hv_program.specs.Lines.{script_line}
use Rattle.hv_program.proofs.Refusing.{said-line}
use Rattle.hv_program.proofs.program.refused_script.Goals as goal

pub returns-in-Ok-clause-said : goal.returns-in-Ok-clause-said
unfolding script_line
returns-in-Ok-clause-said g c =
    let line : c.as_bytes.result.now ≡ script_line c.args.line = c.as_bytes.ensures.value ∙ c.in-Ok.ensures.ok in
    said-line 8 _ _ _ _ _ _ _ line c.said.ensures.said
