-- How many items an act adds at most, by what it answers: one, and a beginning two.
use Rattle.std.specs.Prelude.{◌≤◌, ℕ, Bool, true, false, Some, List, [], length, Result, Ok, Err}
use Rattle.std.proofs.Common.{le_refl, arith}
use Rattle.hv_base.specs.declared.ids.TxnId.{TxnId}
use Rattle.hv_base.specs.declared.ids.TableId.{TableId}
use Rattle.hv_base.specs.declared.ids.Touch.{Touch}
use Rattle.hv_shelf.specs.declared.place.Place.{Place}
use Rattle.hv_history.specs.declared.entry.Entry.{Entry}
use Rattle.hv_trail.specs.declared.trail.Reader.TheVariants.{Txn}
use Rattle.hv_trail.specs.declared.trail.TrailItem.{TrailItem}
use Rattle.hv_telling.specs.hv_house.specs.declared.fault.HouseFault.{HouseFault}
use Rattle.hv_telling.specs.hv_house.specs.declared.fault.HouseFault.TheVariants as fault
use Rattle.hv_telling.specs.hv_house.specs.declared.listing.GetFault.{GetFault}
use Rattle.hv_telling.specs.hv_house.specs.declared.listing.GetFault.TheVariants as get_fault
use Rattle.hv_telling.specs.hv_house.specs.Steps.{broken_by}
use Rattle.hv_acts.specs.declared.opening.Begun.{Begun}
use Rattle.hv_acts.specs.declared.giving.Given.{Given}
use Rattle.hv_acts.specs.declared.giving.Given.TheVariants as given
use Rattle.hv_acts.specs.declared.compacting.AskFor.{AskFor}
use Rattle.hv_acts.specs.declared.compacting.AskedFor.{AskedFor}
use Rattle.hv_acts.specs.declared.compacting.AskedFor.TheVariants as found
use Rattle.hv_acts.specs.declared.committing.Committed.{Committed}
use Rattle.hv_acts.specs.declared.committing.Committed.TheVariants as committed
use Rattle.hv_acts.specs.declared.starting.Started.{Started}
use Rattle.hv_acts.specs.declared.starting.Started.TheVariants as started
use Rattle.hv_acts.specs.declared.fault.BeginFault.{BeginFault}
use Rattle.hv_acts.specs.declared.fault.ActFault.{ActFault}
use Rattle.hv_acts.specs.declared.fault.ActFault.TheVariants as act
use Rattle.hv_acts.specs.Answers.{adds_entry}
use Rattle.hv_acts.specs.Beginning.{adds_beginning}
use Rattle.hv_acts.specs.Starting.{adds_started}
use Rattle.hv_acts.specs.Giving.{adds_given}
use Rattle.hv_acts.specs.Committing.{adds_commit}
use Rattle.hv_acts.specs.Requesting.{adds_request}
use Rattle.hv_acts.specs.Compacting.{adds_job}
use Rattle.hv_acts.specs.Putting.{adds_file}
use Rattle.hv_acts.specs.Reading.{adds_listing, adds_getting}

abbrev AtMostOne : List TrailItem → Type 0
AtMostOne items = length items ≤ 1

pub few_none : AtMostOne []
few_none = omega arith

-- ---- entries

pub few_entry : {T : Type 0} (event : T → Entry) (answer : Result T ActFault) → AtMostOne (adds_entry event answer)
few_entry event (Ok x) = omega arith
few_entry event (Err why) = omega arith

pub few_beginning : (session : List ℕ) (number : ℕ) (text : List ℕ) (answer : Result Begun BeginFault)
    → length (adds_beginning session number text answer) ≤ 2
few_beginning session number text (Ok start) = le_refl 2
few_beginning session number text (Err why) = omega arith

pub few_started : (txn : TxnId) (answer : Result Started ActFault) → AtMostOne (adds_started txn answer)
few_started txn (Ok (started.At place)) = omega arith
few_started txn (Ok (started.Aborted aborted)) = omega arith
few_started txn (Err why) = omega arith

pub few_given : (txn : TxnId) (table : TableId) (answer : Result Given ActFault)
    → AtMostOne (adds_given txn table answer)
few_given txn table (Ok (given.Id write)) = omega arith
few_given txn table (Ok (given.Aborted aborted)) = omega arith
few_given txn table (Err why) = omega arith

pub few_commit : (txn : TxnId) (wrote : List Touch) (answer : Result Committed ActFault)
    → AtMostOne (adds_commit txn wrote answer)
few_commit txn wrote (Ok (committed.At place)) = omega arith
few_commit txn wrote (Ok (committed.Aborted aborted)) = omega arith
few_commit txn wrote (Err why) = omega arith

pub few_request : (by txn : TxnId) (answer : Result Bool ActFault) → AtMostOne (adds_request by txn answer)
few_request by txn (Ok true) = omega arith
few_request by txn (Ok false) = omega arith
few_request by txn (Err why) = omega arith

pub few_job : (asked : AskFor) (answer : Result AskedFor ActFault) → AtMostOne (adds_job asked answer)
few_job asked (Ok (found.Job job)) = omega arith
few_job asked (Ok found.Busy) = omega arith
few_job asked (Ok (found.Aborted aborted)) = omega arith
few_job asked (Err why) = omega arith

-- ---- marks

few_broken : (by : TxnId) (put : Bool) (why : HouseFault) → AtMostOne (broken_by (Some (Txn by)) put why)
few_broken by put fault.Store = omega arith
few_broken by put fault.NoMemory = omega arith
few_broken by put (fault.Failed count) = omega arith

pub few_file : (by : TxnId) (place : Place) (answer : Result (Unit {0}) ActFault)
    → AtMostOne (adds_file by place answer)
few_file by place (Ok done) = omega arith
few_file by place (Err (act.Ended at)) = omega arith
few_file by place (Err (act.Full entries)) = omega arith
few_file by place (Err (act.Held holder)) = omega arith
few_file by place (Err (act.Broken put count)) = omega arith
few_file by place (Err act.Unfit) = omega arith
few_file by place (Err (act.House fault.Store)) = omega arith
few_file by place (Err (act.House fault.NoMemory)) = omega arith
few_file by place (Err (act.House (fault.Failed count))) = omega arith

pub few_listing : {T : Type 0} (by : TxnId) (answer : Result T ActFault) → AtMostOne (adds_listing by answer)
few_listing by (Ok x) = omega arith
few_listing by (Err (act.Ended at)) = omega arith
few_listing by (Err (act.Full entries)) = omega arith
few_listing by (Err (act.Held holder)) = omega arith
few_listing by (Err (act.Broken put count)) = omega arith
few_listing by (Err act.Unfit) = omega arith
few_listing by (Err (act.House why)) = few_broken by false why

pub few_getting : {T : Type 0} (by : TxnId) (answer : Result T GetFault) → AtMostOne (adds_getting by answer)
few_getting by (Ok x) = omega arith
few_getting by (Err (get_fault.NotOpen at)) = omega arith
few_getting by (Err get_fault.NotFound) = omega arith
few_getting by (Err (get_fault.House why)) = few_broken by false why
