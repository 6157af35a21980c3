use Rattle.std.proofs.Common.{take}
use Rattle.std.specs.List.{AllByRecursion}
use Rattle.hv_history.specs.State.{state_of}
use Rattle.hv_trail.specs.Kept.{trail_of}
use Rattle.hv_acts.specs.hv_telling.specs.hv_house.specs.House.{entries_of}
use Rattle.hv_job_acts.specs.Covering.{IsGoneName}
use Rattle.hv_job_acts.proofs.covering.all_gone.Given as goal

abbrev pub invariant-loop-name : goal.invariant-loop-name
invariant-loop-name g l =
    AllByRecursion (IsGoneName (trail_of l.house.trail) (state_of (entries_of l.house)) l.table l.partition) (take l.name-index l.names)
