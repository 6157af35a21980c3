-- What is asked of a house's book alone.
use Rattle.std.specs.Prelude.{List, Result, Ok, Err}
use Rattle.hv_history.specs.declared.entry.Entry.{Entry}
use Rattle.hv_acts.specs.hv_telling.specs.hv_house.specs.declared.fault.HouseFault.TheVariants as house_fault
use Rattle.hv_job_calls.specs.declared.fault.JobFault.TheVariants as fault
use Rattle.hv_job_acts.specs.declared.fault.JobActFault.{JobActFault}
use Rattle.hv_job_acts.specs.declared.fault.JobActFault.TheVariants as act

-- memory lacked
abbrev pub IsLack : JobActFault → Type 0
IsLack (act.Call (fault.House house_fault.NoMemory)) = Unit {0}
IsLack why = ⊥

abbrev pub AnswersSo : {T : Type 0} → (List Entry → T → Type 0) → List Entry → Result T JobActFault → Type 0
AnswersSo Says book (Ok answer) = Says book answer
AnswersSo Says book (Err why) = IsLack why
