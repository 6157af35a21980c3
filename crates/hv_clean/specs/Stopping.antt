-- What a refusal of a cleaner's act comes to.
use Rattle.hv_job_acts.specs.hv_acts.specs.hv_telling.specs.hv_house.specs.declared.fault.HouseFault.{HouseFault}
use Rattle.hv_job_acts.specs.hv_acts.specs.hv_telling.specs.hv_house.specs.declared.fault.HouseFault.TheVariants as house_fault
use Rattle.hv_job_acts.specs.hv_job_calls.specs.declared.fault.JobFault.{JobFault}
use Rattle.hv_job_acts.specs.hv_job_calls.specs.declared.fault.JobFault.TheVariants as fault
use Rattle.hv_job_acts.specs.declared.fault.JobActFault.{JobActFault}
use Rattle.hv_job_acts.specs.declared.fault.JobActFault.TheVariants as act
use Rattle.hv_clean.specs.declared.fault.PassFault.{PassFault}
use Rattle.hv_clean.specs.declared.fault.PassFault.TheVariants as run
use Rattle.hv_clean.specs.declared.stopping.Refused.{Refused}
use Rattle.hv_clean.specs.declared.stopping.Refused.TheVariants as refused_as

abbrev pub house_refused : HouseFault → Refused
house_refused house_fault.Store = refused_as.Stop run.Store
house_refused house_fault.NoMemory = refused_as.Stop run.NoMemory
house_refused (house_fault.Failed count) = refused_as.Failed

abbrev pub call_refused : JobFault → Refused
call_refused fault.Gone = refused_as.Over
call_refused (fault.Full entries) = refused_as.Stop (run.Full entries)
call_refused fault.NotFound = refused_as.Over
call_refused (fault.Needed txn) = refused_as.Needed
call_refused (fault.StillListed dir) = refused_as.Listed
call_refused (fault.Working job) = refused_as.Over
call_refused fault.Starved = refused_as.Stop run.NoMemory
call_refused (fault.House why) = house_refused why

abbrev pub refusal_of : JobActFault → Refused
refusal_of act.Unfit = refused_as.Over
refusal_of (act.Broken put count) = refused_as.Over
refusal_of (act.Call why) = call_refused why

abbrev pub stop_of : Refused → PassFault
stop_of (refused_as.Stop why) = why
stop_of refused_as.Failed = run.NoMemory
stop_of refused_as.Needed = run.NoMemory
stop_of refused_as.Listed = run.NoMemory
stop_of refused_as.Over = run.NoMemory

abbrev pub stopped : JobActFault → PassFault
stopped why = stop_of (refusal_of why)
