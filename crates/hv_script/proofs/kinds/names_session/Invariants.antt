use Rattle.std.proofs.Common.{◌≡◌, drop}
use Rattle.std.specs.List.{list_all}
use Rattle.hv_script.specs.Kinds.{is_name_byte}
use Rattle.hv_script.proofs.kinds.names_session.Given as goal

abbrev pub invariant-loop-byte : goal.invariant-loop-byte
invariant-loop-byte l = list_all is_name_byte (drop l.byte-index l.name) ≡ list_all is_name_byte l.name
