-- A write id that is forgotten: where its table's listing failed nothing else was done.
use Rattle.std.specs.Prelude.{None, List, Result, Ok, Err}
use Rattle.hv_base.specs.declared.ids.TableId.{TableId}
use Rattle.hv_base.specs.declared.ids.WriteId.{WriteId}
use Rattle.hv_history.specs.declared.entry.Entry.TheVariants as entry
use Rattle.hv_trail.specs.declared.trail.TrailItem.{TrailItem}
use Rattle.hv_trail.specs.Steps.{Call, Note, Read, gains}
use Rattle.hv_acts.specs.hv_telling.specs.hv_house.specs.declared.fault.HouseFault.TheVariants as house_fault
use Rattle.hv_job_calls.specs.declared.fault.JobFault.TheVariants as fault
use Rattle.hv_job_acts.specs.declared.fault.JobActFault.{JobActFault}
use Rattle.hv_job_acts.specs.declared.fault.JobActFault.TheVariants as act
use Rattle.hv_job_acts.specs.Answers.{act_call, answer_outcome}

abbrev pub why_to_forget : TableId → WriteId → JobActFault → Call
why_to_forget table write (act.Call (fault.House (house_fault.Failed count))) = Read None
why_to_forget table write (act.Call (fault.House house_fault.Store)) = Note (entry.Forgot table write)
why_to_forget table write (act.Call (fault.House house_fault.NoMemory)) = Note (entry.Forgot table write)
why_to_forget table write why = act_call (Note (entry.Forgot table write)) why

abbrev pub call_to_forget : TableId → WriteId → Result (Unit {0}) JobActFault → Call
call_to_forget table write (Ok done) = Note (entry.Forgot table write)
call_to_forget table write (Err why) = why_to_forget table write why

abbrev pub adds_forgotten : TableId → WriteId → Result (Unit {0}) JobActFault → List TrailItem
adds_forgotten table write answer = gains (call_to_forget table write answer) (answer_outcome answer)
