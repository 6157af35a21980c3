use Rattle.hv_ast.proofs.Layouts.{nothing_between_lem}
use Rattle.hv_ast.proofs.laws.nothing_between.Goals as goal

pub returns : goal.returns
returns c = nothing_between_lem
