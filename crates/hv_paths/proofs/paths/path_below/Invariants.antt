-- From where the loop stands the names that are left lead to the same path.
use Rattle.std.proofs.Common.{◌≡◌, drop, map, string_bytes}
use Rattle.hv_paths.specs.Names.{path_below}
use Rattle.hv_paths.proofs.paths.path_below.Given as goal

abbrev pub invariant-loop-name : goal.invariant-loop-name
invariant-loop-name l =
    path_below (string_bytes l.path) (map string_bytes (drop l.name-index l.names))
    ≡ path_below (string_bytes l.initial.path) (map string_bytes l.names)
