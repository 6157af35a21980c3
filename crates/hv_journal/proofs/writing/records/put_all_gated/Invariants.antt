use Rattle.std.proofs.Common.{take}
use Rattle.std.specs.List.{flat_map, AllByRecursion}
use Rattle.hv_bytes.specs.Writing.{Appends}
use Rattle.hv_history.specs.Journal.{HasRecord}
use Rattle.hv_journal.specs.Writing.{gated_record}
use Rattle.hv_journal.proofs.writing.records.put_all_gated.Given as goal

abbrev pub invariant-loop-entry : goal.invariant-loop-entry
invariant-loop-entry l = record {
  appended : Appends l.fn.out l.out (flat_map gated_record (take l.entry-index l.entries));
  has : AllByRecursion HasRecord (take l.entry-index l.entries);
}
