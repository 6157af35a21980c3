use Rattle.std.proofs.Common.{◌≡◌, ◌∙◌}
use Rattle.hv_program.specs.Lines.{journal_line}
use Rattle.hv_program.proofs.Refusing.{said-line}
use Rattle.hv_program.proofs.program.bad_journal.Goals as goal

pub returns-in-Ok-clause-said : goal.returns-in-Ok-clause-said
unfolding journal_line
returns-in-Ok-clause-said g c =
    let line : c.as_bytes.result.now ≡ journal_line c.args.at = c.as_bytes.ensures.value ∙ c.in-Ok.ensures.ok in
    said-line 6 _ _ _ _ _ _ _ line c.said.ensures.said
