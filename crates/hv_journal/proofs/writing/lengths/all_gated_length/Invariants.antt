use Rattle.std.proofs.Common.{◌≡◌, length, take}
use Rattle.std.specs.List.{flat_map}
use Rattle.hv_journal.specs.Writing.{gated_record}
use Rattle.hv_journal.proofs.writing.lengths.all_gated_length.Given as goal

abbrev pub invariant-loop-entry : goal.invariant-loop-entry
invariant-loop-entry l = l.total ≡ length (flat_map gated_record (take l.entry-index l.entries))
