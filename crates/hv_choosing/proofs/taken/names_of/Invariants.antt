use Rattle.std.proofs.Common.{◌≡◌, take}
use Rattle.hv_choosing.specs.Taken.{names_of}
use Rattle.hv_choosing.proofs.taken.names_of.Given as goal

abbrev pub invariant-loop-file : goal.invariant-loop-file
invariant-loop-file l = l.names.items ≡ names_of (take l.file-index l.run)
