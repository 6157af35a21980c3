-- A job that is given up for a call on files that failed has the mark of it.
use Rattle.std.specs.Prelude.{true, false, Some, List, Contains}
use Rattle.hv_base.specs.declared.ids.JobId.{JobId}
use Rattle.hv_history.specs.declared.entry.JobCause.{JobCause}
use Rattle.hv_history.specs.declared.entry.JobCause.TheVariants as cause
use Rattle.hv_trail.specs.declared.trail.Reader.TheVariants as reader
use Rattle.hv_trail.specs.declared.trail.TrailItem.{TrailItem}
use Rattle.hv_trail.specs.declared.trail.TrailItem.TheVariants.{Marked}
use Rattle.hv_trail.specs.declared.trail.Mark.TheVariants.{Broke}

abbrev pub HasJobMark : List TrailItem → JobId → JobCause → Type 0
HasJobMark trail job (cause.ReadFault count) = Contains trail (Marked (Broke (Some (reader.Job job)) false count))
HasJobMark trail job (cause.WriteFault count) = Contains trail (Marked (Broke (Some (reader.Job job)) true count))
HasJobMark trail job why = Unit {0}
