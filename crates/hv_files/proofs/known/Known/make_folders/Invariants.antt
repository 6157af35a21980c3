use Rattle.hv_files.specs.Acts.{Keeps}
use Rattle.hv_files.proofs.known.Known.make_folders.Given as goal

abbrev pub invariant-loop-name : goal.invariant-loop-name
invariant-loop-name g l =
    Keeps (g.S.System.did l.initial.system) (g.S.System.did l.system)
