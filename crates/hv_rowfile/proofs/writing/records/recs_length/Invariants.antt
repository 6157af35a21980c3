use Rattle.std.proofs.Common.{◌≡◌, length, take}
use Rattle.std.specs.List.{flat_map}
use Rattle.hv_rowfile.specs.Layout.{rec_spelling}
use Rattle.hv_rowfile.proofs.writing.records.recs_length.Given as goal

abbrev pub invariant-loop-rec : goal.invariant-loop-rec
invariant-loop-rec l = l.total ≡ length (flat_map rec_spelling (take l.rec-index l.recs))
