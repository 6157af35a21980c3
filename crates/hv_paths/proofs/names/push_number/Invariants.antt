use Rattle.std.proofs.Common.{◌≡◌, ◌++◌, replicate, string_bytes}
use Rattle.hv_paths.specs.Names.{zero_digit}
use Rattle.hv_paths.proofs.names.push_number.Given as goal

abbrev pub invariant-loop : goal.invariant-loop
invariant-loop l =
    string_bytes l.name ≡ string_bytes l.initial.name ++ replicate l.counter zero_digit
