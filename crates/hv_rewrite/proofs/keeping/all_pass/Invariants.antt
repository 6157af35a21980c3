use Rattle.std.proofs.Common.{◌≡◌, drop}
use Rattle.std.specs.List.{list_all}
use Rattle.hv_eval.specs.Frames.{frame_values}
use Rattle.hv_rewrite.specs.Pruned.{passes_over, exprs_seen}
use Rattle.hv_rewrite.proofs.keeping.all_pass.Given as goal

abbrev pub invariant-loop-condition : goal.invariant-loop-condition
invariant-loop-condition l =
    list_all (passes_over l.places.from l.places.to (frame_values l.frame)) (exprs_seen (drop l.condition-index l.conditions))
    ≡ list_all (passes_over l.places.from l.places.to (frame_values l.frame)) (exprs_seen l.conditions)
