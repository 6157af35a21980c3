-- What an act adds is what its step gains, by its answer alone.
use Rattle.std.proofs.Common.{◌≡◌, ℕ, Option, Some, None, Result, Ok, Err, List, [], refl}
use Rattle.hv_base.specs.declared.ids.JobId.{JobId}
use Rattle.hv_base.specs.declared.ids.TableId.{TableId}
use Rattle.hv_shelf.specs.declared.place.Place.{Place}
use Rattle.hv_dirs.specs.declared.names.DirName.{DirName}
use Rattle.hv_history.specs.declared.entry.Entry.{Entry}
use Rattle.hv_history.specs.State.{State, state_of}
use Rattle.hv_trail.specs.declared.trail.Renaming.{Renaming}
use Rattle.hv_trail.specs.Steps.{Note, Publish, gains}
use Rattle.hv_acts.specs.hv_telling.specs.hv_house.specs.declared.fault.HouseFault.TheVariants as house_fault
use Rattle.hv_job_calls.specs.declared.fault.JobFault.TheVariants as fault
use Rattle.hv_job_calls.specs.Refusals.{picking, publishing_of}
use Rattle.hv_job_calls.specs.Staging.{renamings_of}
use Rattle.hv_job_acts.specs.declared.fault.JobActFault.{JobActFault}
use Rattle.hv_job_acts.specs.declared.fault.JobActFault.TheVariants as act
use Rattle.hv_job_acts.specs.declared.noting.AskedJob.{AskedJob}
use Rattle.hv_job_acts.specs.declared.noting.PickedJob.{PickedJob}
use Rattle.hv_job_acts.specs.declared.staging.Publication.{Publication}
use Rattle.hv_job_acts.specs.Answers.{act_call, act_outcome, answer_outcome}
use Rattle.hv_job_acts.specs.Asking.{asked_due, asked_entry, call_to_ask, adds_found, picked_entry, call_to_pick}
use Rattle.hv_job_acts.specs.Doing.{call_to_stage, adds_staged, call_to_publish, adds_published}

-- a refusal adds nothing
note-none : (event : Entry) (why : JobActFault) → gains (act_call (Note event) why) (act_outcome why) ≡ []
note-none event act.Unfit = refl
note-none event (act.Broken put count) = refl
note-none event (act.Call fault.Gone) = refl
note-none event (act.Call (fault.Full entries)) = refl
note-none event (act.Call fault.NotFound) = refl
note-none event (act.Call (fault.Needed txn)) = refl
note-none event (act.Call (fault.StillListed dir)) = refl
note-none event (act.Call (fault.Working job)) = refl
note-none event (act.Call fault.Starved) = refl
note-none event (act.Call (fault.House house_fault.Store)) = refl
note-none event (act.Call (fault.House house_fault.NoMemory)) = refl
note-none event (act.Call (fault.House (house_fault.Failed count))) = refl

pub asked-adds : (book : List Entry) (table : TableId) (partition : List ℕ) (answer : Result (Option AskedJob) JobActFault)
    → gains (call_to_ask book table partition answer) (answer_outcome answer) ≡ adds_found (asked_entry table partition) answer
asked-adds book table partition (Ok (Some found)) = refl
asked-adds book table partition (Ok None) = refl
asked-adds book table partition (Err why) = note-none (asked_due book table partition) why

pub picked-adds : (book : List Entry) (answer : Result (Option PickedJob) JobActFault)
    → gains (call_to_pick book answer) (answer_outcome answer) ≡ adds_found picked_entry answer
picked-adds book (Ok (Some found)) = refl
picked-adds book (Ok None) = refl
picked-adds book (Err why) = note-none (picking book) why

publish-none : (renamings : List Renaming) (event : Entry) (why : JobActFault) → gains (act_call (Publish renamings event) why) (act_outcome why) ≡ []
publish-none renamings event act.Unfit = refl
publish-none renamings event (act.Broken put count) = refl
publish-none renamings event (act.Call fault.Gone) = refl
publish-none renamings event (act.Call (fault.Full entries)) = refl
publish-none renamings event (act.Call fault.NotFound) = refl
publish-none renamings event (act.Call (fault.Needed txn)) = refl
publish-none renamings event (act.Call (fault.StillListed dir)) = refl
publish-none renamings event (act.Call (fault.Working job)) = refl
publish-none renamings event (act.Call fault.Starved) = refl
publish-none renamings event (act.Call (fault.House house_fault.Store)) = refl
publish-none renamings event (act.Call (fault.House house_fault.NoMemory)) = refl
publish-none renamings event (act.Call (fault.House (house_fault.Failed count))) = refl

pub published-adds : (book : List Entry) (job : JobId) (answer : Result Publication JobActFault)
    → gains (call_to_publish book job answer) (answer_outcome answer) ≡ adds_published job answer
published-adds book job (Ok found) = refl
published-adds book job (Err why) = publish-none (renamings_of (state_of book) job.0) (publishing_of book job) why

pub staged-adds : (state : State) (job : JobId) (name : DirName) (bucket : ℕ) (bytes : List ℕ) (answer : Result Place JobActFault)
    → gains (call_to_stage state job name bucket bytes answer) (answer_outcome answer) ≡ adds_staged job answer
staged-adds state job name bucket bytes (Ok place) = refl
staged-adds state job name bucket bytes (Err act.Unfit) = refl
staged-adds state job name bucket bytes (Err (act.Broken put count)) = refl
staged-adds state job name bucket bytes (Err (act.Call fault.Gone)) = refl
staged-adds state job name bucket bytes (Err (act.Call (fault.Full entries))) = refl
staged-adds state job name bucket bytes (Err (act.Call fault.NotFound)) = refl
staged-adds state job name bucket bytes (Err (act.Call (fault.Needed txn))) = refl
staged-adds state job name bucket bytes (Err (act.Call (fault.StillListed dir))) = refl
staged-adds state job name bucket bytes (Err (act.Call (fault.Working other))) = refl
staged-adds state job name bucket bytes (Err (act.Call fault.Starved)) = refl
staged-adds state job name bucket bytes (Err (act.Call (fault.House house_fault.Store))) = refl
staged-adds state job name bucket bytes (Err (act.Call (fault.House house_fault.NoMemory))) = refl
staged-adds state job name bucket bytes (Err (act.Call (fault.House (house_fault.Failed count)))) = refl
