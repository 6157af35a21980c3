-- What is looked up in all rows is looked up in those that are left.
use Rattle.std.proofs.Common.{◌≡◌, length, map}
use Rattle.hv_grammar.specs.Kinds.{look_up}
use Rattle.hv_grammar.proofs.kind.look_up.Given as goal

abbrev pub invariant-loop-rest : goal.invariant-loop-rest
invariant-loop-rest l =
    look_up (map (λ row. (row.0.now, row.1)) l.rows) l.other l.spelling
    ≡ look_up (map (λ row. (row.0.now, row.1)) l.rest) l.other l.spelling

abbrev pub decreases-loop-rest : goal.decreases-loop-rest
decreases-loop-rest l = length l.rest
