use Rattle.std.proofs.Common.{◌≡◌, map, take}
use Rattle.hv_job_acts.specs.Work.{is_live_note}
use Rattle.hv_job_acts.proofs.asking.live_of.Given as goal

abbrev pub invariant-loop-note : goal.invariant-loop-note
invariant-loop-note l = l.live.items ≡ map is_live_note (take l.note-index l.notes)
