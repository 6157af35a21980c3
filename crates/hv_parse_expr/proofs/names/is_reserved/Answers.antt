use Rattle.std.proofs.Common.{rules}
use Rattle.hv_parse_expr.proofs.Reserved.{reserved_are_no_names}
use Rattle.hv_parse_expr.proofs.names.is_reserved.Goals as goal

pub returns : goal.returns
returns c = search (rules, reserved_are_no_names)
