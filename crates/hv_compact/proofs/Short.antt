-- What ends a compaction is a short entry.
use Rattle.std.proofs.Common.{◌≤◌, ◌+◌, ℕ, length, arith}
use Rattle.std.proofs.lemmas.List.{length-append}
use Rattle.hv_base.specs.declared.ids.JobId.{JobId}
use Rattle.hv_history.specs.declared.entry.Entry.TheVariants as entry
use Rattle.hv_history.specs.declared.entry.FilePlace.{FilePlace}
use Rattle.hv_history.specs.declared.entry.JobCause.TheVariants as cause
use Rattle.hv_history.specs.Spelling.{place_spelling}
use Rattle.hv_job_acts.specs.hv_acts.specs.hv_telling.specs.hv_house.specs.House.{IsSmall}
use Rattle.hv_bytes.proofs.Lengths.{length-four, length-eight, length-text}

pub short_read : (job : JobId) (count : ℕ) → IsSmall (entry.Failed job (cause.ReadFault count))
short_read job count = grind (arith, length-append, length-eight)

pub short_write : (job : JobId) (count : ℕ) → IsSmall (entry.Failed job (cause.WriteFault count))
short_write job count = grind (arith, length-append, length-eight)

pub short_gone : (job : JobId) → IsSmall (entry.Failed job cause.Gone)
short_gone job = grind (arith, length-append, length-eight)

pub short_memory : (job : JobId) → IsSmall (entry.Failed job cause.Memory)
short_memory job = grind (arith, length-append, length-eight)

pub short_damaged : (job : JobId) (place : FilePlace) → length place.partition + length place.dir ≤ 1000
    → IsSmall (entry.Failed job (cause.Damaged place))
unfolding place_spelling
short_damaged job place short = grind (arith, length-append, length-eight, length-four, length-text)
