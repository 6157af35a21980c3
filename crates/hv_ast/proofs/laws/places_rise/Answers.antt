use Rattle.hv_ast.proofs.Layouts.{places_rise_lem}
use Rattle.hv_ast.proofs.laws.places_rise.Goals as goal

pub returns : goal.returns
returns c = places_rise_lem
