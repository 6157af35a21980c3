use Rattle.std.proofs.Common.{sym, subst, ap, ◌∙◌, false}
use Rattle.std.specs.Str.{IsUtf8}
use Rattle.hv_grammar.specs.Settings.{behind_gaps}
use Rattle.hv_parse_stmt.proofs.Cuts.{set_utf8}
use Rattle.hv_parse_stmt.proofs.setting.read_set.Goals as goal

pub setting-requires : goal.setting-requires
setting-requires c = subst IsUtf8 (sym c.behind_word.ensures)
    (set_utf8 c.args.text.now c.behind_gaps-rest.result.now c.begins_with_set.result c.bytes.ensures.utf8
    (c.behind_gaps-rest.ensures ∙ ap (behind_gaps false) c.bytes.ensures.value)
    c.begins_with_set.ensures c.if-not-begins_with_set.false)
