-- What stands behind the gaps of the text stands behind those of the rest.
use Rattle.std.proofs.Common.{◌≡◌, false, length}
use Rattle.hv_grammar.specs.Settings.{behind_gaps}
use Rattle.hv_parse_stmt.proofs.setting.behind_gaps.Given as goal

abbrev pub invariant-loop-rest : goal.invariant-loop-rest
invariant-loop-rest l = behind_gaps false l.text ≡ behind_gaps l.comment l.rest

abbrev pub decreases-loop-rest : goal.decreases-loop-rest
decreases-loop-rest l = length l.rest
