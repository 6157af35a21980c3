use Rattle.std.proofs.Common.{◌≡◌, drop}
use Rattle.std.specs.List.{list_all}
use Rattle.hv_counts.specs.Miscounts.{is_own_file}
use Rattle.hv_counts.proofs.miscount.are_own.Given as goal

abbrev pub invariant-loop-file : goal.invariant-loop-file
invariant-loop-file l = list_all is_own_file (drop l.file-index l.files) ≡ list_all is_own_file l.files
