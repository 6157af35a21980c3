-- How a run of acts stops, and why a compaction is given up.
use Rattle.std.specs.Prelude.{◌≡◌, ◌⊎◌, ℕ, Bool, true, false, Option, Some, List}
use Rattle.hv_shelf.specs.Disk.{Store}
use Rattle.hv_history.specs.declared.entry.Entry.{Entry}
use Rattle.hv_history.specs.Legal.{profile}
use Rattle.hv_base.specs.declared.ids.JobId.{JobId}
use Rattle.hv_history.specs.declared.entry.Entry.TheVariants as entry
use Rattle.hv_history.specs.declared.entry.JobCause.{JobCause}
use Rattle.hv_history.specs.declared.entry.JobCause.TheVariants as cause
use Rattle.hv_trail.specs.declared.trail.Reader.TheVariants as reader
use Rattle.hv_trail.specs.Steps.{Call, Note, Put, Publish, Read, Starved, Step}
use Rattle.hv_actor.specs.Acting.{Setting}
use Rattle.hv_job_acts.specs.hv_acts.specs.declared.told.ToldHouse.{ToldHouse}
use Rattle.hv_job_acts.specs.hv_acts.specs.Told.{IsWholeOrClosed, seen_in, trail_in}
use Rattle.hv_job_acts.specs.hv_acts.specs.Going.{IsOpenHouse}
use Rattle.hv_job_acts.specs.hv_acts.specs.hv_telling.specs.hv_house.specs.Calls.{LacksRoom}
use Rattle.hv_job_acts.specs.hv_acts.specs.hv_telling.specs.hv_house.specs.House.{IsSmall}
use Rattle.hv_job_acts.specs.hv_acts.specs.hv_telling.specs.hv_house.specs.declared.fault.HouseFault.{HouseFault}
use Rattle.hv_job_acts.specs.hv_acts.specs.hv_telling.specs.hv_house.specs.declared.fault.HouseFault.TheVariants as house_fault
use Rattle.hv_job_acts.specs.hv_job_calls.specs.declared.fault.JobFault.{JobFault}
use Rattle.hv_job_acts.specs.hv_job_calls.specs.declared.fault.JobFault.TheVariants as fault
use Rattle.hv_job_acts.specs.declared.fault.JobActFault.{JobActFault}
use Rattle.hv_job_acts.specs.declared.fault.JobActFault.TheVariants as act
use Rattle.hv_job_acts.specs.Going.{IsShutFor}
use Rattle.hv_job_acts.specs.Marked.{HasJobMark}
use Rattle.hv_compact.specs.declared.fault.RunFault.{RunFault}
use Rattle.hv_compact.specs.declared.fault.RunFault.TheVariants as run
use Rattle.hv_compact.specs.declared.fault.Stop.{Stop}
use Rattle.hv_compact.specs.declared.fault.Stop.TheVariants as stop

-- ---- what an act's refusal comes to

-- of a fault that keeps a count, by whether it was to put a file
abbrev pub cause_of : Bool → ℕ → JobCause
cause_of true count = cause.WriteFault count
cause_of false count = cause.ReadFault count

abbrev pub house_stop : Bool → HouseFault → Stop
house_stop put house_fault.Store = stop.Run run.Store
house_stop put house_fault.NoMemory = stop.GiveUp cause.Memory
house_stop put (house_fault.Failed count) = stop.GiveUp (cause_of put count)

abbrev pub call_stop : Bool → JobFault → Stop
call_stop put fault.Gone = stop.GiveUp cause.Gone
call_stop put (fault.Full entries) = stop.Run (run.Full entries)
call_stop put fault.NotFound = stop.Run run.NoMemory
call_stop put (fault.Needed txn) = stop.Run run.NoMemory
call_stop put (fault.StillListed dir) = stop.Run run.NoMemory
call_stop put (fault.Working job) = stop.Run run.NoMemory
call_stop put fault.Starved = stop.Run run.NoMemory
call_stop put (fault.House why) = house_stop put why

abbrev pub act_stop : Bool → JobActFault → Stop
act_stop put act.Unfit = stop.Run run.NoMemory
act_stop put (act.Broken broke count) = stop.GiveUp (cause_of broke count)
act_stop put (act.Call why) = call_stop put why

-- where nothing is given up
abbrev pub stop_run : Stop → RunFault
stop_run (stop.GiveUp why) = run.NoMemory
stop_run (stop.Run why) = why

abbrev pub act_run : JobActFault → RunFault
act_run why = stop_run (act_stop false why)

-- ---- calls for this job, and for an initiator

abbrev pub IsAsking : Call → Type 0
IsAsking (Note (entry.Asked job table partition kind by)) = by ≡ 0
IsAsking call = ⊥

abbrev pub IsOfJob : JobId → Call → Type 0
IsOfJob job (Note (entry.Empty one)) = one ≡ job
IsOfJob job (Note (entry.Failed one why)) = one ≡ job
IsOfJob job (Publish renames (entry.Published one low high mark)) = one ≡ job
IsOfJob job (Put by place bytes) = by ≡ reader.Job job
IsOfJob job (Read by) = by ≡ Some (reader.Job job)
IsOfJob job call = ⊥

abbrev pub IsPicking : Call → Type 0
IsPicking (Note (entry.Picked job watermark)) = Unit {0}
IsPicking call = ⊥

-- ---- what holds where it stops

-- the last call, a publication, found the house open, and memory lacked between its renamings: that closed it, and nothing was added
pub record IsStarvedNow {D : Type 0} (told : D → Option Store) (faults : D → ℕ) (now : ToldHouse D) : Type 0 where
  pub house : ToldHouse D
  pub kept : IsWholeOrClosed told house.house
  pub was : IsOpenHouse house
  pub call : Call
  pub step : Step told faults call Starved (seen_in house) (seen_in now)

-- where it stops for want of room, there is none for so many of the load more
abbrev pub IsFullFor : ℕ → List Entry → RunFault → Type 0
IsFullFor more book (run.Full entries) = LacksRoom profile book more entries
IsFullFor more book why = Unit {0}

-- a job that was taken up has room for its end
abbrev pub IsAtWork : RunFault → Type 0
IsAtWork (run.Full entries) = ⊥
IsAtWork why = Unit {0}

abbrev pub RunsOut : {D : Type 0} → Setting D (ToldHouse D) → (Call → Type 0) → ToldHouse D → RunFault → Type 0
RunsOut setting Of now run.Store = IsShutFor setting Of now
RunsOut setting Of now (run.Full entries) = IsOpenHouse now
RunsOut setting Of now run.NoMemory = IsOpenHouse now ⊎ IsStarvedNow setting.told setting.faults now

-- the job may be given up for this cause
pub record MayGiveUp {D : Type 0} (now : ToldHouse D) (job : JobId) (why : JobCause) : Type 0 where
  pub running : IsOpenHouse now
  pub small : IsSmall (entry.Failed job why)
  pub marked : HasJobMark (trail_in now) job why

abbrev pub StopsSo : {D : Type 0} → Setting D (ToldHouse D) → JobId → ToldHouse D → Stop → Type 0
StopsSo setting job now (stop.GiveUp why) = MayGiveUp now job why
StopsSo setting job now (stop.Run why) = RunsOut setting (IsOfJob job) now why
