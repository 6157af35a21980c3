-- How many items an act adds at most, by what it answers: one.
use Rattle.std.specs.Prelude.{◌≤◌, List, [], length, Option, Some, None, Result, Ok, Err}
use Rattle.std.proofs.Common.{le_trans, arith}
use Rattle.hv_base.specs.declared.ids.JobId.{JobId}
use Rattle.hv_base.specs.declared.ids.TableId.{TableId}
use Rattle.hv_base.specs.declared.ids.WriteId.{WriteId}
use Rattle.hv_shelf.specs.declared.place.Place.{Place}
use Rattle.hv_shelf.specs.declared.place.DirAt.{DirAt}
use Rattle.hv_history.specs.declared.entry.Entry.{Entry}
use Rattle.hv_history.specs.declared.entry.Entry.TheVariants as entry
use Rattle.hv_trail.specs.declared.trail.Reader.{Reader}
use Rattle.hv_trail.specs.declared.trail.TrailItem.{TrailItem}
use Rattle.hv_trail.specs.Steps.{Call, Note, Remove, Read, Done, most_items}
use Rattle.hv_trail.proofs.StepLaws.{gains-few}
use Rattle.hv_acts.specs.hv_telling.specs.hv_house.specs.declared.fault.HouseFault.TheVariants as house_fault
use Rattle.hv_job_calls.specs.declared.fault.JobFault.TheVariants as fault
use Rattle.hv_job_acts.specs.declared.fault.JobActFault.{JobActFault}
use Rattle.hv_job_acts.specs.declared.fault.JobActFault.TheVariants as act
use Rattle.hv_job_acts.specs.declared.staging.Publication.{Publication}
use Rattle.hv_job_acts.specs.Answers.{act_call, act_outcome, adds_by}
use Rattle.hv_job_acts.specs.Asking.{adds_found}
use Rattle.hv_job_acts.specs.Doing.{adds_staged, adds_published}
use Rattle.hv_job_acts.specs.Forgetting.{why_to_forget, adds_forgotten}

abbrev AtMostOne : List TrailItem → Type 0
AtMostOne items = length items ≤ 1

pub few_none : AtMostOne []
few_none = omega arith

-- ---- where the call is given by the act

-- a refusal's call has no more items
behind : (call : Call) (why : JobActFault) → most_items call ≤ 1 → most_items (act_call call why) ≤ 1
behind call act.Unfit one = omega arith
behind call (act.Broken put count) one = omega arith
behind call (act.Call fault.Gone) one = omega arith
behind call (act.Call (fault.Full entries)) one = omega arith
behind call (act.Call fault.NotFound) one = omega arith
behind call (act.Call (fault.Needed txn)) one = omega arith
behind call (act.Call (fault.StillListed dir)) one = omega arith
behind call (act.Call (fault.Working job)) one = omega arith
behind call (act.Call fault.Starved) one = one
behind call (act.Call (fault.House why)) one = one

few_by : {T : Type 0} (call : Call) → most_items call ≤ 1 → (answer : Result T JobActFault)
    → AtMostOne (adds_by call answer)
few_by call one (Ok x) = le_trans (gains-few call Done) one
few_by call one (Err why) = le_trans (gains-few (act_call call why) (act_outcome why)) (behind call why one)

pub few_note : {T : Type 0} (event : Entry) (answer : Result T JobActFault) → AtMostOne (adds_by (Note event) answer)
few_note event answer = few_by (Note event) (omega arith) answer

pub few_read : {T : Type 0} (by : Option Reader) (answer : Result T JobActFault) → AtMostOne (adds_by (Read by) answer)
few_read by answer = few_by (Read by) (omega arith) answer

pub few_remove : {T : Type 0} (dir : DirAt) (answer : Result T JobActFault)
    → AtMostOne (adds_by (Remove None dir) answer)
few_remove dir answer = few_by (Remove None dir) (omega arith) answer

-- ---- the others

pub few_found : {T : Type 0} (event : T → Entry) (answer : Result (Option T) JobActFault)
    → AtMostOne (adds_found event answer)
few_found event (Ok (Some found)) = omega arith
few_found event (Ok None) = omega arith
few_found event (Err why) = omega arith

pub few_published : (job : JobId) (answer : Result Publication JobActFault) → AtMostOne (adds_published job answer)
few_published job (Ok found) = omega arith
few_published job (Err why) = omega arith

pub few_staged : (job : JobId) (answer : Result Place JobActFault) → AtMostOne (adds_staged job answer)
few_staged job (Ok place) = omega arith
few_staged job (Err act.Unfit) = omega arith
few_staged job (Err (act.Broken put count)) = omega arith
few_staged job (Err (act.Call fault.Gone)) = omega arith
few_staged job (Err (act.Call (fault.Full entries))) = omega arith
few_staged job (Err (act.Call fault.NotFound)) = omega arith
few_staged job (Err (act.Call (fault.Needed txn))) = omega arith
few_staged job (Err (act.Call (fault.StillListed dir))) = omega arith
few_staged job (Err (act.Call (fault.Working other))) = omega arith
few_staged job (Err (act.Call fault.Starved)) = omega arith
few_staged job (Err (act.Call (fault.House house_fault.Store))) = omega arith
few_staged job (Err (act.Call (fault.House house_fault.NoMemory))) = omega arith
few_staged job (Err (act.Call (fault.House (house_fault.Failed count)))) = omega arith

-- it notes its entry, or lists, or only asks
one_to_forget : (table : TableId) (write : WriteId) (why : JobActFault) → most_items (why_to_forget table write why) ≤ 1
one_to_forget table write act.Unfit = omega arith
one_to_forget table write (act.Broken put count) = omega arith
one_to_forget table write (act.Call fault.Gone) = omega arith
one_to_forget table write (act.Call (fault.Full entries)) = omega arith
one_to_forget table write (act.Call fault.NotFound) = omega arith
one_to_forget table write (act.Call (fault.Needed txn)) = omega arith
one_to_forget table write (act.Call (fault.StillListed dir)) = omega arith
one_to_forget table write (act.Call (fault.Working job)) = omega arith
one_to_forget table write (act.Call fault.Starved) = omega arith
one_to_forget table write (act.Call (fault.House house_fault.Store)) = omega arith
one_to_forget table write (act.Call (fault.House house_fault.NoMemory)) = omega arith
one_to_forget table write (act.Call (fault.House (house_fault.Failed count))) = omega arith

pub few_forgotten : (table : TableId) (write : WriteId) (answer : Result (Unit {0}) JobActFault)
    → AtMostOne (adds_forgotten table write answer)
few_forgotten table write (Ok done) = gains-few (Note (entry.Forgot table write)) Done
few_forgotten table write (Err why) =
    le_trans (gains-few (why_to_forget table write why) (act_outcome why)) (one_to_forget table write why)
