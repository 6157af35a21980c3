use Rattle.std.proofs.Common.{◌≡◌, ◌++◌, take, drop}
use Rattle.hv_program.specs.Keeping.{held_without, paused_in}
use Rattle.hv_program.proofs.held.let_go.Given as goal

abbrev pub invariant-loop-place : goal.invariant-loop-place
invariant-loop-place l =
    (paused_in l.session (drop l.place l.held.items) ≡ paused_in l.session l.initial.held.items)
    × ((take l.place l.held.items ++ held_without l.session (drop l.place l.held.items) ≡ held_without l.session l.initial.held.items)
    × (l.held.items ≡ l.initial.held.items))
