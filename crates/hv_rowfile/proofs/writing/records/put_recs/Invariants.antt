use Rattle.std.proofs.Common.{take}
use Rattle.std.specs.List.{flat_map, AllByRecursion}
use Rattle.hv_bytes.specs.Writing.{Appends}
use Rattle.hv_rowfile.specs.Layout.{rec_spelling, RecFits}
use Rattle.hv_rowfile.proofs.writing.records.put_recs.Given as goal

abbrev pub invariant-loop-rec : goal.invariant-loop-rec
invariant-loop-rec l = record {
  appended : Appends l.fn.out l.out (flat_map rec_spelling (take l.rec-index l.recs));
  fits : AllByRecursion RecFits (take l.rec-index l.recs);
}
