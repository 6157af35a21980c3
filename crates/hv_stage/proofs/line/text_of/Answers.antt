use Rattle.std.proofs.Common.{ap, ◌∙◌}
use Rattle.serde_json.specs.Written.{has_float, compact_text}
use Rattle.hv_stage.proofs.Lines.{line-has-no-float, line-is}
use Rattle.hv_stage.proofs.line.text_of.Goals as goal

pub returns : goal.returns
returns c =
    c.in_ok-text.ensures.text (ap has_float c.in_ok-value.ensures ∙ line-has-no-float c.args.kinds.now)
    ∙ ap compact_text c.in_ok-value.ensures
    ∙ line-is c.args.kinds.now
