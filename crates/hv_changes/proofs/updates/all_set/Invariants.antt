use Rattle.std.proofs.Common.{◌≡◌, take, drop, []}
use Rattle.hv_typing.specs.Updates.{kept, all_set}
use Rattle.hv_changes.proofs.updates.all_set.Given as goal

abbrev pub invariant-loop-i : goal.invariant-loop-i
invariant-loop-i l =
    all_set l.shape l.columns l.fields l.kinds (take l.i l.assignments) l.values (drop l.i l.assignments)
    ≡ all_set l.shape l.columns l.fields l.kinds [] (kept 0 l.kinds) l.assignments
