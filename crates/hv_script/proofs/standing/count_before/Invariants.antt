use Rattle.std.proofs.Common.{◌≡◌, ◌+◌, drop}
use Rattle.hv_script.specs.Actions.{place_of}
use Rattle.hv_script.proofs.standing.count_before.Given as goal

abbrev pub invariant-loop-place : goal.invariant-loop-place
invariant-loop-place l = l.place + place_of l.name (drop l.place l.names) ≡ place_of l.name l.names
