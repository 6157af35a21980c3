use Rattle.std.proofs.Common.{◌≡◌, ◌++◌, take}
use Rattle.std.specs.List.{flat_map}
use Rattle.hv_typing.specs.Stages.{build_of_join, source_stages}
use Rattle.hv_stage.proofs.stages.put_builds.Given as goal

abbrev pub invariant-loop-join : goal.invariant-loop-join
invariant-loop-join l = l.kinds.items ≡ l.initial.kinds.items ++ flat_map (build_of_join source_stages) (take l.join-index l.joins)
