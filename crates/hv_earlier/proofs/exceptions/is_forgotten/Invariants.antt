use Rattle.std.proofs.Common.{◌≡◌, drop}
use Rattle.std.specs.List.{list_any}
use Rattle.hv_earlier.specs.Places.{is_forgot}
use Rattle.hv_earlier.proofs.exceptions.is_forgotten.Given as goal

abbrev pub invariant-loop-note : goal.invariant-loop-note
invariant-loop-note l = list_any (is_forgot l.spot l.write) (drop l.note-index l.forgotten) ≡ list_any (is_forgot l.spot l.write) l.forgotten
