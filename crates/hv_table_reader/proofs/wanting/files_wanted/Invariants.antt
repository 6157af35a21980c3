use Rattle.std.proofs.Common.{◌≡◌, take}
use Rattle.hv_table_rows.specs.Reading.{files_wanted}
use Rattle.hv_table_reader.proofs.wanting.files_wanted.Given as goal

abbrev pub invariant-loop-file : goal.invariant-loop-file
invariant-loop-file g l = l.kept.items ≡ files_wanted (g.P.Wants.picks l.wants) (take l.file-index l.files)
