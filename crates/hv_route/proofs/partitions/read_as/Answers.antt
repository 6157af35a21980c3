use Rattle.std.proofs.Common.{◌≡◌, IfOk, subst}
use Rattle.hv_value.specs.declared.value.Value.{Value}
use Rattle.hv_route.proofs.PartitionLemmas.{read_other}
use Rattle.hv_route.proofs.partitions.read_as.Goals as goal

pub returns-in_default : goal.returns-in_default
returns-in_default c =
    subst (λ (v : Value). IfOk c.convert.result (λ value. value ≡ v)) (read_other c.args.kind c.args.text c.in_default.not-Boolean) c.convert.ensures
