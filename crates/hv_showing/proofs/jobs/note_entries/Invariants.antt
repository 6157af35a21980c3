use Rattle.std.proofs.Common.{◌≡◌, drop}
use Rattle.hv_showing.specs.Jobs.{jobs_over}
use Rattle.hv_showing.proofs.jobs.note_entries.Given as goal

abbrev pub invariant-loop-place : goal.invariant-loop-place
invariant-loop-place l = jobs_over l.place (drop l.place l.entries) l.notes.items ≡ jobs_over 0 l.entries l.fn.notes.items
