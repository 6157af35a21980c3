use Rattle.hv_parse_stmt.proofs.Cuts.{key_utf8, value_utf8}
use Rattle.hv_parse_stmt.proofs.setting.setting.Goals as goal

pub setting_by-requires-clause-key : goal.setting_by-requires-clause-key
setting_by-requires-clause-key c =
    key_utf8 c.args.text.now c.trimmed-key.result.now c.equals.result c.in-Some.place c.requires c.equals.ensures c.in-Some.is
    c.trimmed-key.ensures

pub setting_by-requires-clause-value : goal.setting_by-requires-clause-value
setting_by-requires-clause-value c =
    value_utf8 c.args.text.now c.trimmed-value.result.now c.equals.result c.in-Some.place c.requires c.equals.ensures c.in-Some.is
    c.trimmed-value.ensures
