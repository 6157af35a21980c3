use Rattle.std.proofs.Common.{◌≡◌, map, take}
use Rattle.serde_json.specs.Data.{string}
use Rattle.serde_json.specs.View.{view}
use Rattle.hv_typing.specs.StageLine.{stage_name}
use Rattle.hv_stage.proofs.line.names_of.Given as goal

abbrev pub invariant-loop-kind : goal.invariant-loop-kind
invariant-loop-kind l = map view l.names.items ≡ map (λ kind. string (stage_name kind)) (take l.kind-index l.kinds)
