use Rattle.std.proofs.Common.{◌≡◌, ◌++◌, filter, take}
use Rattle.hv_choosing.specs.Taken.{is_in_one}
use Rattle.hv_choosing.proofs.taken.push_files.Given as goal

abbrev pub invariant-loop-file : goal.invariant-loop-file
invariant-loop-file l = l.files.items ≡ l.initial.files.items ++ filter (is_in_one l.texts) (take l.file-index l.run)
