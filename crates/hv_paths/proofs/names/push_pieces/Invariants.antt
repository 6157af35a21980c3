use Rattle.std.proofs.Common.{◌≡◌, ◌++◌, map, string_bytes}
use Rattle.hv_paths.specs.Names.{piece_name}
use Rattle.hv_paths.proofs.names.push_pieces.Given as goal

abbrev pub invariant-loop-piece : goal.invariant-loop-piece
invariant-loop-piece l =
    map string_bytes l.names.items
    ≡ map string_bytes l.initial.names.items ++ map (λ piece. piece_name piece.now) l.yielded
