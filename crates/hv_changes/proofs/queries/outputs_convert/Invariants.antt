use Rattle.std.proofs.Common.{◌≡◌, drop}
use Rattle.hv_typing.specs.Inserts.{outputs_convert}
use Rattle.hv_changes.proofs.queries.outputs_convert.Given as goal

abbrev pub invariant-loop-output : goal.invariant-loop-output
invariant-loop-output l = outputs_convert l.rest (drop l.output-index l.outputs) ≡ outputs_convert l.columns l.outputs
