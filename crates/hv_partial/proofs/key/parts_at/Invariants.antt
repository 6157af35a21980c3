use Rattle.std.proofs.Common.{◌≡◌, take}
use Rattle.hv_eval.specs.Frames.{values_at}
use Rattle.hv_partial.specs.Keys.{key_values}
use Rattle.hv_partial.proofs.key.parts_at.Given as goal

abbrev pub invariant-loop-expr : goal.invariant-loop-expr
invariant-loop-expr l = key_values l.parts.items ≡ values_at (take l.expr-index l.exprs) l.at
