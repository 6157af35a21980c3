use Rattle.std.proofs.Common.{◌≡◌, map}
use Rattle.hv_merge.proofs.heads.queues.Given as goal

abbrev pub invariant-loop-file : goal.invariant-loop-file
invariant-loop-file l = map (λ head. head.items) l.heads.items ≡ map (λ file. file.items) l.yielded
