use Rattle.std.proofs.Common.{◌≡◌, false, ◌++◌, drop}
use Rattle.hv_dirs.specs.Candidates.{places_from}
use Rattle.hv_dirs.specs.Choice.{sight_of}
use Rattle.hv_dirs.proofs.choice.take_above.Given as goal

abbrev pub invariant-loop-candidate : goal.invariant-loop-candidate
invariant-loop-candidate l =
    l.places.items ++ places_from (sight_of l.list) l.top l.own (drop l.candidate-index l.candidates)
    ≡ places_from (sight_of l.list) l.base false l.candidates
