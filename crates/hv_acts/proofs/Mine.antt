-- Whose it is what an act adds: all of it is its own transaction's, its marks too.
use Rattle.std.proofs.Common.{◌≡◌, ℕ, Bool, true, false, Some, None, List, [], ◌∷◌, ◌++◌, Result, Ok, Err, refl, sym, subst}
use Rattle.std.specs.List.{AllByRecursion}
use Rattle.hv_base.specs.declared.ids.TxnId.{TxnId}
use Rattle.hv_base.specs.declared.ids.TableId.{TableId}
use Rattle.hv_base.specs.declared.ids.Touch.{Touch}
use Rattle.hv_shelf.specs.declared.place.Place.{Place}
use Rattle.hv_history.specs.declared.entry.Entry.{Entry}
use Rattle.hv_history.specs.declared.entry.Entry.TheVariants as entry
use Rattle.hv_history.specs.declared.entry.Cause.{Cause}
use Rattle.hv_history.specs.declared.entry.Cause.TheVariants as cause
use Rattle.hv_stands.specs.Running.{adder_of}
use Rattle.hv_trail.specs.declared.trail.Reader.TheVariants.{Txn}
use Rattle.hv_trail.specs.declared.trail.TrailItem.{TrailItem}
use Rattle.hv_trail.specs.declared.trail.TrailItem.TheVariants.{Noted}
use Rattle.hv_trail.specs.Own.{IsOf}
use Rattle.hv_telling.specs.hv_house.specs.declared.fault.HouseFault.{HouseFault}
use Rattle.hv_telling.specs.hv_house.specs.declared.fault.HouseFault.TheVariants as fault
use Rattle.hv_telling.specs.hv_house.specs.Steps.{broken_by}
use Rattle.hv_acts.specs.declared.fault.ActFault.{ActFault}
use Rattle.hv_acts.specs.declared.fault.ActFault.TheVariants as act
use Rattle.hv_acts.specs.declared.giving.Given.{Given}
use Rattle.hv_acts.specs.declared.giving.Given.TheVariants as given
use Rattle.hv_acts.specs.declared.compacting.AskFor.{AskFor}
use Rattle.hv_acts.specs.declared.compacting.AskedFor.{AskedFor}
use Rattle.hv_acts.specs.declared.compacting.AskedFor.TheVariants as found
use Rattle.hv_acts.specs.declared.committing.Committed.{Committed}
use Rattle.hv_acts.specs.declared.committing.Committed.TheVariants as committed
use Rattle.hv_acts.specs.declared.starting.Started.{Started}
use Rattle.hv_acts.specs.declared.starting.Started.TheVariants as started
use Rattle.hv_acts.specs.Answers.{adds_entry}
use Rattle.hv_acts.specs.Giving.{adds_given, GiveAnswers}
use Rattle.hv_acts.specs.Committing.{adds_commit, CommitAnswers}
use Rattle.hv_acts.specs.Starting.{adds_started, IsInItsWay, StartOrAbortAnswers}
use Rattle.hv_acts.specs.Putting.{adds_file}
use Rattle.hv_acts.specs.Requesting.{adds_request}
use Rattle.hv_acts.specs.Compacting.{adds_job, AskAnswers}

-- ---- lists of items

pub all-mine : (by : ℕ) (xs ys : List TrailItem) → AllByRecursion (IsOf by) xs → AllByRecursion (IsOf by) ys → AllByRecursion (IsOf by) (xs ++ ys)
all-mine by [] ys first more = more
all-mine by (x ∷ xs) ys first more = (first.0, all-mine by xs ys first.1 more)

-- ---- entries

same-number : (a b : ℕ) → Some a ≡ Some b → a ≡ b
same-number a b e = let both : Some a ≡ Some b = e in cc

-- who adds an entry is whose it is
pub noted-mine : (txn : ℕ) (event : Entry) → adder_of event ≡ Some txn → IsOf txn (Noted event)
noted-mine txn (entry.Opened other session number text) e = same-number other.0 txn e
noted-mine txn (entry.Abort other (cause.Request by)) e = same-number by.0 txn e
noted-mine txn (entry.Asked job table partition kind by) e = same-number by txn e
noted-mine txn event e = e

-- one entry, or none
pub entry-mine : {T : Type 0} (txn : ℕ) (event : T → Entry) → ((x : T) → adder_of (event x) ≡ Some txn) → (result : Result T ActFault)
    → AllByRecursion (IsOf txn) (adds_entry event result)
entry-mine txn event whose (Ok x) = (noted-mine txn (event x) (whose x), tt)
entry-mine txn event whose (Err why) = tt

pub given-mine : (trail : List TrailItem) (txn : TxnId) (table : TableId) (result : Result Given ActFault) → GiveAnswers trail txn table result
    → AllByRecursion (IsOf txn.0) (adds_given txn table result)
given-mine trail txn table (Ok (given.Id write)) is = (refl, tt)
given-mine trail txn table (Ok (given.Aborted aborted)) is =
    (subst (λ (why : Cause). IsOf txn.0 (Noted (entry.Abort txn why))) (sym is.cause_is) refl, tt)
given-mine trail txn table (Err why) is = tt

pub commit-mine : (trail : List TrailItem) (txn : TxnId) (wrote : List Touch) (name : List ℕ) (places : List Place) (result : Result Committed ActFault)
    → CommitAnswers trail txn wrote name places result → AllByRecursion (IsOf txn.0) (adds_commit txn wrote result)
commit-mine trail txn wrote name places (Ok (committed.At place)) is = (refl, tt)
commit-mine trail txn wrote name places (Ok (committed.Aborted aborted)) is =
    (subst (λ (why : Cause). IsOf txn.0 (Noted (entry.Abort txn why))) (sym is.cause_is) refl, tt)
commit-mine trail txn wrote name places (Err why) is = tt

way-mine : (trail : List TrailItem) (txn : TxnId) (why : Cause) → IsInItsWay trail txn why → IsOf txn.0 (Noted (entry.Abort txn why))
way-mine trail txn (cause.Blocked holder) is = refl
way-mine trail txn cause.Full is = refl
way-mine trail txn why is = absurd is

pub started-mine : (trail : List TrailItem) (txn : TxnId) (result : Result Started ActFault) → StartOrAbortAnswers trail txn result
    → AllByRecursion (IsOf txn.0) (adds_started txn result)
started-mine trail txn (Ok (started.At place)) is = (refl, tt)
started-mine trail txn (Ok (started.Aborted aborted)) is = (way-mine trail txn aborted.cause is.1, tt)
started-mine trail txn (Err why) is = tt

-- what it asks for is its own
pub request-mine : (by txn : TxnId) (result : Result Bool ActFault) → AllByRecursion (IsOf by.0) (adds_request by txn result)
request-mine by txn (Ok true) = (refl, tt)
request-mine by txn (Ok false) = tt
request-mine by txn (Err why) = tt

-- so is the job that it asks for
pub job-mine : (trail : List TrailItem) (asked : AskFor) (result : Result AskedFor ActFault) → AskAnswers trail asked result
    → AllByRecursion (IsOf asked.by.0) (adds_job asked result)
job-mine trail asked (Ok (found.Job job)) is = (refl, tt)
job-mine trail asked (Ok found.Busy) is = tt
job-mine trail asked (Ok (found.Aborted aborted)) is =
    (subst (λ (why : Cause). IsOf asked.by.0 (Noted (entry.Abort asked.by why))) (sym is.full.cause_is) refl, tt)
job-mine trail asked (Err why) is = tt

-- ---- marks

pub broken-mine : (by : TxnId) (put : Bool) (why : HouseFault) → AllByRecursion (IsOf by.0) (broken_by (Some (Txn by)) put why)
broken-mine by put (fault.Failed count) = (refl, tt)
broken-mine by put fault.Store = tt
broken-mine by put fault.NoMemory = tt

pub file-mine : (by : TxnId) (place : Place) (result : Result (Unit {0}) ActFault) → AllByRecursion (IsOf by.0) (adds_file by place result)
file-mine by place (Ok done) = (refl, tt)
file-mine by place (Err (act.Ended at)) = tt
file-mine by place (Err (act.Full entries)) = tt
file-mine by place (Err (act.Held holder)) = tt
file-mine by place (Err (act.Broken put count)) = tt
file-mine by place (Err act.Unfit) = tt
file-mine by place (Err (act.House (fault.Failed count))) = (refl, tt)
file-mine by place (Err (act.House fault.Store)) = tt
file-mine by place (Err (act.House fault.NoMemory)) = tt
