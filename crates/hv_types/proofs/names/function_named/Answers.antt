use Rattle.std.proofs.Common.{rules}
use Rattle.hv_typing.specs.Calls.{functions}
use Rattle.hv_types.proofs.names.function_named.Goals as goal

pub returns : goal.returns
unfolding functions
returns c = search rules
