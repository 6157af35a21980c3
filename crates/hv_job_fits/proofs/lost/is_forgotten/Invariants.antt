use Rattle.std.proofs.Common.{◌≡◌, drop}
use Rattle.std.specs.List.{list_any}
use Rattle.hv_job_fits.specs.Notes.{is_forgot}
use Rattle.hv_job_fits.proofs.lost.is_forgotten.Given as goal

abbrev pub invariant-loop-note : goal.invariant-loop-note
invariant-loop-note l =
    list_any (is_forgot l.position l.table l.write) (drop l.note-index l.forgotten) ≡ list_any (is_forgot l.position l.table l.write) l.forgotten
