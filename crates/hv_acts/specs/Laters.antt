-- A house on which an act was done goes on: its store's count of faults didn't fall, and rose where the act closed it.
use Rattle.std.specs.Prelude.{◌≡◌, ◌≤◌, ◌||◌, ℕ, Bool, true, false, Option, List, Result, Ok, Err, IfErr}
use Rattle.std.proofs.Common.{true≢false, sym, ◌∙◌, arith}
use Rattle.std.specs.Global.{Vec}
use Rattle.hv_base.specs.Faults.{Rose}
use Rattle.hv_base.specs.declared.ids.TxnId.{TxnId}
use Rattle.hv_base.specs.declared.ids.TableId.{TableId}
use Rattle.hv_base.specs.declared.ids.Touch.{Touch}
use Rattle.hv_shelf.specs.Disk.{Store}
use Rattle.hv_ast.specs.declared.statement.Show.{Show}
use Rattle.hv_counts.specs.declared.due.Due.{Due}
use Rattle.hv_history.specs.declared.entry.Entry.{Entry}
use Rattle.hv_history.specs.declared.shown.Shown.{Shown}
use Rattle.hv_logic.specs.declared.catalog.TableInfo.{TableInfo}
use Rattle.hv_stands.specs.Running.{Asking}
use Rattle.hv_trail.specs.Steps.{HouseSeen, Call, Note, Commit, Ask, Done, Closed, Refused, Failed, MayEnd, Counts, shuts, Step}
use Rattle.hv_actor.specs.Acting.{IsLater}
use Rattle.hv_actor.specs.Stepping.{still_open, step_later}
use Rattle.hv_telling.specs.hv_house.specs.declared.fault.HouseFault.{HouseFault}
use Rattle.hv_telling.specs.hv_house.specs.declared.fault.HouseFault.TheVariants as fault
use Rattle.hv_telling.specs.hv_house.specs.declared.listing.GetFault.{GetFault}
use Rattle.hv_telling.specs.hv_house.specs.declared.listing.GetFault.TheVariants as get_fault
use Rattle.hv_telling.specs.hv_house.specs.Listing.{get_outcome}
use Rattle.hv_telling.specs.hv_house.specs.Steps.{fault_outcome}
use Rattle.hv_acts.specs.declared.opening.Begun.{Begun}
use Rattle.hv_acts.specs.declared.starting.Started.{Started}
use Rattle.hv_acts.specs.declared.giving.Given.{Given}
use Rattle.hv_acts.specs.declared.committing.Committed.{Committed}
use Rattle.hv_acts.specs.declared.compacting.AskFor.{AskFor}
use Rattle.hv_acts.specs.declared.compacting.AskedFor.{AskedFor}
use Rattle.hv_acts.specs.declared.ending.EndTold.{EndTold}
use Rattle.hv_acts.specs.declared.fault.BeginFault.{BeginFault}
use Rattle.hv_acts.specs.declared.fault.BeginFault.TheVariants as hindered
use Rattle.hv_acts.specs.declared.fault.ActFault.{ActFault}
use Rattle.hv_acts.specs.declared.fault.ActFault.TheVariants as act
use Rattle.hv_acts.specs.Answers.{act_outcome, call_behind, answer_call, answer_outcome, FaultLeaves, WhyLeaves, AnswerLeaves, FaultRises, WhyRises}
use Rattle.hv_acts.specs.Beginning.{begin_call, begin_outcome, BeginLeaves}
use Rattle.hv_acts.specs.Waiting.{next_opened, OpenLeaves}
use Rattle.hv_acts.specs.Starting.{to_start, call_to_start}
use Rattle.hv_acts.specs.Giving.{to_give, call_to_give}
use Rattle.hv_acts.specs.Committing.{call_to_commit}
use Rattle.hv_acts.specs.Requesting.{requested, call_to_request}
use Rattle.hv_acts.specs.Compacting.{to_ask, call_to_ask}
use Rattle.hv_acts.specs.Reading.{IsFindWhy, FindAnswers, GetLeaves, GetRises}
use Rattle.hv_acts.specs.Counting.{CountAnswers}
use Rattle.hv_acts.specs.Showing.{ShowAnswers}
use Rattle.hv_acts.specs.Ending.{EndAnswers}

module _ {D : Type 0} (told : D → Option Store) (faults : D → ℕ) where
  -- what doesn't close an open house doesn't leave it closed
  stays-open : (before now : HouseSeen D) → now.closed ≡ before.closed || false → before.closed ≡ false
      → now.closed ≡ true
      → Rose (faults before.shelf) (faults now.shelf)
  stays-open before now closed was is = absurd (still_open before.closed now.closed closed was is)

  -- ---- what closed an open house let the count of faults rise

  pub fault-rises : (txn : ℕ) (why : HouseFault) (before now : HouseSeen D)
      → FaultLeaves told faults txn before now why
      → now.closed ≡ before.closed || shuts (fault_outcome why) → before.closed ≡ false → now.closed ≡ true
      → Rose (faults before.shelf) (faults now.shelf)
  fault-rises txn fault.Store before now leaves closed was is = (leaves was).1
  fault-rises txn fault.NoMemory before now leaves closed was is = stays-open before now closed was is
  fault-rises txn (fault.Failed count) before now leaves closed was is = stays-open before now closed was is

  pub why-rises : (txn : ℕ) (why : ActFault) (before now : HouseSeen D) → WhyLeaves told faults txn before now why
      → now.closed ≡ before.closed || shuts (act_outcome why) → before.closed ≡ false → now.closed ≡ true
      → Rose (faults before.shelf) (faults now.shelf)
  why-rises txn (act.Ended at) before now leaves closed was is = stays-open before now closed was is
  why-rises txn (act.Full entries) before now leaves closed was is = stays-open before now closed was is
  why-rises txn (act.Held by) before now leaves closed was is = stays-open before now closed was is
  why-rises txn (act.Broken put count) before now leaves closed was is = stays-open before now closed was is
  why-rises txn act.Unfit before now leaves closed was is = stays-open before now closed was is
  why-rises txn (act.House why) before now leaves closed was is = fault-rises txn why before now leaves closed was is

  pub answer-rises : {T : Type 0} (txn : ℕ) (result : Result T ActFault) (before now : HouseSeen D)
      → AnswerLeaves told faults txn before now result
      → now.closed ≡ before.closed || shuts (answer_outcome result) → before.closed ≡ false → now.closed ≡ true
      → Rose (faults before.shelf) (faults now.shelf)
  answer-rises txn (Ok x) before now leaves closed was is = stays-open before now closed was is
  answer-rises txn (Err why) before now leaves closed was is = why-rises txn why before now leaves closed was is

  pub begin-rises : (asking : Asking) (result : Result Begun BeginFault) (before now : HouseSeen D)
      → BeginLeaves told faults asking before now result
      → now.closed ≡ before.closed || shuts (begin_outcome result) → before.closed ≡ false → now.closed ≡ true
      → Rose (faults before.shelf) (faults now.shelf)
  begin-rises asking (Ok start) before now leaves closed was is = stays-open before now closed was is
  begin-rises asking (Err (hindered.Held by)) before now leaves closed was is = stays-open before now closed was is
  begin-rises asking (Err (hindered.Full entries)) before now leaves closed was is =
      stays-open before now closed was is
  begin-rises asking (Err (hindered.House fault.Store)) before now leaves closed was is = (leaves was).1
  begin-rises asking (Err (hindered.House fault.NoMemory)) before now leaves closed was is =
      stays-open before now closed was is
  begin-rises asking (Err (hindered.House (fault.Failed count))) before now leaves closed was is = absurd leaves

  pub open-rises : (asking : Asking) (result : Result TxnId ActFault) (before now : HouseSeen D)
      → OpenLeaves told faults asking before now result
      → now.closed ≡ before.closed || shuts (answer_outcome result) → before.closed ≡ false → now.closed ≡ true
      → Rose (faults before.shelf) (faults now.shelf)
  open-rises asking (Ok txn) before now leaves closed was is = stays-open before now closed was is
  open-rises asking (Err (act.Ended at)) before now leaves closed was is = stays-open before now closed was is
  open-rises asking (Err (act.Full entries)) before now leaves closed was is = stays-open before now closed was is
  open-rises asking (Err (act.Held by)) before now leaves closed was is = stays-open before now closed was is
  open-rises asking (Err (act.Broken put count)) before now leaves closed was is = stays-open before now closed was is
  open-rises asking (Err act.Unfit) before now leaves closed was is = stays-open before now closed was is
  open-rises asking (Err (act.House fault.Store)) before now leaves closed was is = (leaves was).1
  open-rises asking (Err (act.House fault.NoMemory)) before now leaves closed was is =
      stays-open before now closed was is
  open-rises asking (Err (act.House (fault.Failed count))) before now leaves closed was is =
      stays-open before now closed was is

  -- ---- the count of faults doesn't fall

  fault_up : (why : HouseFault) (before now : HouseSeen D)
      → Counts (fault_outcome why) (faults before.shelf) (faults now.shelf) → FaultRises faults before why
      → faults before.shelf ≤ faults now.shelf
  fault_up fault.Store before now counts rises = counts
  fault_up fault.NoMemory before now counts rises = counts
  fault_up (fault.Failed count) before now counts rises = omega (arith, counts.0, rises)

  why_up : (why : ActFault) (before now : HouseSeen D)
      → Counts (act_outcome why) (faults before.shelf) (faults now.shelf) → WhyRises faults before why
      → faults before.shelf ≤ faults now.shelf
  why_up (act.Ended at) before now counts rises = counts
  why_up (act.Full entries) before now counts rises = counts
  why_up (act.Held by) before now counts rises = counts
  why_up (act.Broken put count) before now counts rises = counts
  why_up act.Unfit before now counts rises = counts
  why_up (act.House why) before now counts rises = fault_up why before now counts rises

  -- a call that makes none meets no fault of files
  no_fault : (call : Call) → ((count : ℕ) → MayEnd call (Failed count) → ⊥) → (why : ActFault) (before : HouseSeen D)
      → MayEnd (call_behind call why) (act_outcome why) → WhyRises faults before why
  no_fault call never (act.Ended at) before may = tt
  no_fault call never (act.Full entries) before may = tt
  no_fault call never (act.Held by) before may = tt
  no_fault call never (act.Broken put count) before may = tt
  no_fault call never act.Unfit before may = tt
  no_fault call never (act.House fault.Store) before may = tt
  no_fault call never (act.House fault.NoMemory) before may = tt
  no_fault call never (act.House (fault.Failed count)) before may = absurd (never count may)

  -- ---- how a call ended

  done_later : (call : Call) (before now : HouseSeen D) → Step told faults call Done before now
      → IsLater faults before now
  done_later call before now step = step_later told faults call Done before now step step.counts
      (stays-open before now step.closed)

  refused_later : (call : Call) (before now : HouseSeen D) → Step told faults call Refused before now
      → IsLater faults before now
  refused_later call before now step = step_later told faults call Refused before now step step.counts
      (stays-open before now step.closed)

  why_later : (call : Call) (txn : ℕ) (why : ActFault) (before now : HouseSeen D)
      → Step told faults call (act_outcome why) before now → WhyLeaves told faults txn before now why
      → WhyRises faults before why
      → IsLater faults before now
  why_later call txn why before now step leaves rises =
      step_later told faults call (act_outcome why) before now step (why_up why before now step.counts rises)
      (why-rises txn why before now leaves step.closed)

  behind_later : (call : Call) → ((count : ℕ) → MayEnd call (Failed count) → ⊥)
      → (txn : ℕ) (why : ActFault) (before now : HouseSeen D)
      → Step told faults (call_behind call why) (act_outcome why) before now → WhyLeaves told faults txn before now why
      → IsLater faults before now
  behind_later call never txn why before now step leaves =
      why_later (call_behind call why) txn why before now step leaves (no_fault call never why before step.may)

  -- ---- acts that note

  pub note_later : {T : Type 0} (event : Entry) (txn : ℕ) (answer : Result T ActFault) (before now : HouseSeen D)
      → Step told faults (answer_call (Note event) answer) (answer_outcome answer) before now
      → AnswerLeaves told faults txn before now answer → IsLater faults before now
  note_later event txn (Ok x) before now step leaves = done_later (Note event) before now step
  note_later event txn (Err why) before now step leaves =
      behind_later (Note event) (λ count may. may) txn why before now step leaves

  pub begin_later : (asking : Asking) (answer : Result Begun BeginFault) (before now : HouseSeen D)
      → Step told faults (begin_call before.trail asking.session asking.number asking.text answer)
      (begin_outcome answer) before now
      → BeginLeaves told faults asking before now answer → IsLater faults before now
  begin_later asking (Ok start) before now step leaves = done_later _ before now step
  begin_later asking (Err (hindered.Held by)) before now step leaves = refused_later _ before now step
  begin_later asking (Err (hindered.Full entries)) before now step leaves = refused_later _ before now step
  begin_later asking (Err (hindered.House fault.Store)) before now step leaves =
      step_later told faults _ Closed before now step step.counts
      (begin-rises asking (Err (hindered.House fault.Store)) before now leaves step.closed)
  begin_later asking (Err (hindered.House fault.NoMemory)) before now step leaves = refused_later _ before now step
  begin_later asking (Err (hindered.House (fault.Failed count))) before now step leaves = absurd leaves

  pub open_later : (asking : Asking) (answer : Result TxnId ActFault) (before now : HouseSeen D)
      → Step told faults
      (answer_call (Note (next_opened before.trail asking.session asking.number asking.text)) answer)
      (answer_outcome answer) before now
      → OpenLeaves told faults asking before now answer → IsLater faults before now
  open_later asking (Ok txn) before now step leaves = done_later _ before now step
  open_later asking (Err why) before now step leaves =
      let opened : Call = Note (next_opened before.trail asking.session asking.number asking.text) in
      step_later told faults (call_behind opened why) (act_outcome why) before now step
      (why_up why before now step.counts (no_fault opened (λ count may. may) why before step.may))
      (open-rises asking (Err why) before now leaves step.closed)

  pub start_later : (txn : TxnId) (answer : Result Started ActFault) (before now : HouseSeen D)
      → Step told faults (call_to_start before.trail txn answer) (answer_outcome answer) before now
      → AnswerLeaves told faults txn.0 before now answer → IsLater faults before now
  start_later txn (Ok found) before now step leaves = done_later _ before now step
  start_later txn (Err why) before now step leaves =
      behind_later (Note (to_start before.trail txn)) (λ count may. may) txn.0 why before now step leaves

  pub give_later : (txn : TxnId) (table : TableId) (answer : Result Given ActFault) (before now : HouseSeen D)
      → Step told faults (call_to_give before.trail txn table answer) (answer_outcome answer) before now
      → AnswerLeaves told faults txn.0 before now answer → IsLater faults before now
  give_later txn table (Ok found) before now step leaves = done_later _ before now step
  give_later txn table (Err why) before now step leaves =
      behind_later (Note (to_give before.trail txn table)) (λ count may. may) txn.0 why before now step leaves

  pub ask_later : (asked : AskFor) (answer : Result AskedFor ActFault) (before now : HouseSeen D)
      → Step told faults (call_to_ask before.trail asked answer) (answer_outcome answer) before now
      → AnswerLeaves told faults asked.by.0 before now answer → IsLater faults before now
  ask_later asked (Ok found) before now step leaves = done_later _ before now step
  ask_later asked (Err why) before now step leaves =
      behind_later (Note (to_ask before.trail asked)) (λ count may. may) asked.by.0 why before now step leaves

  pub commit_later : (txn : TxnId) (wrote : List Touch) (answer : Result Committed ActFault) (before now : HouseSeen D)
      → Step told faults (call_to_commit txn wrote answer) (answer_outcome answer) before now
      → AnswerLeaves told faults txn.0 before now answer → IsLater faults before now
  commit_later txn wrote (Ok found) before now step leaves = done_later _ before now step
  commit_later txn wrote (Err why) before now step leaves =
      behind_later (Commit txn wrote) (λ count may. may) txn.0 why before now step leaves

  pub request_later : (by txn : TxnId) (answer : Result Bool ActFault) (before now : HouseSeen D)
      → Step told faults (call_to_request by txn answer) (answer_outcome answer) before now
      → AnswerLeaves told faults by.0 before now answer → IsLater faults before now
  request_later by txn (Ok found) before now step leaves = done_later _ before now step
  request_later by txn (Err why) before now step leaves =
      behind_later (Note (requested by txn)) (λ count may. may) by.0 why before now step leaves

  -- ---- acts of files

  pub file_later : {T : Type 0} (call : Call) (txn : ℕ) (answer : Result T ActFault) (before now : HouseSeen D)
      → Step told faults (answer_call call answer) (answer_outcome answer) before now
      → AnswerLeaves told faults txn before now answer → IfErr answer (WhyRises faults before)
      → IsLater faults before now
  file_later call txn (Ok x) before now step leaves rises = done_later call before now step
  file_later call txn (Err why) before now step leaves rises =
      why_later (call_behind call why) txn why before now step leaves rises

  pub list_later : {T : Type 0} (call : Call) (txn : ℕ) (answer : Result T ActFault) (before now : HouseSeen D)
      → Step told faults call (answer_outcome answer) before now
      → AnswerLeaves told faults txn before now answer → IfErr answer (WhyRises faults before)
      → IsLater faults before now
  list_later call txn (Ok x) before now step leaves rises = done_later call before now step
  list_later call txn (Err why) before now step leaves rises = why_later call txn why before now step leaves rises

  pub get_later : {T : Type 0} (call : Call) (txn : ℕ) (answer : Result T GetFault) (before now : HouseSeen D)
      → Step told faults call (get_outcome answer) before now
      → GetLeaves told faults txn before now answer → IfErr answer (GetRises faults before) → IsLater faults before now
  get_later call txn (Ok x) before now step leaves rises = done_later call before now step
  get_later call txn (Err (get_fault.NotOpen at)) before now step leaves rises = refused_later call before now step
  get_later call txn (Err get_fault.NotFound) before now step leaves rises = done_later call before now step
  get_later call txn (Err (get_fault.House why)) before now step leaves rises =
      step_later told faults call (fault_outcome why) before now step (fault_up why before now step.counts rises)
      (fault-rises txn why before now leaves step.closed)

  -- ---- acts that only ask

  asked_later : (why : ActFault) (before now : HouseSeen D) → IsFindWhy before.closed why
      → Step told faults Ask (act_outcome why) before now
      → IsLater faults before now
  asked_later (act.Ended at) before now is step = absurd is
  asked_later (act.Full entries) before now is step = absurd is
  asked_later (act.Held by) before now is step = absurd is
  asked_later (act.Broken put count) before now is step = absurd is
  asked_later act.Unfit before now is step = absurd is
  asked_later (act.House fault.Store) before now is step =
      step_later told faults Ask Closed before now step step.counts (λ was shut. absurd (true≢false (sym is ∙ was)))
  asked_later (act.House fault.NoMemory) before now is step = refused_later Ask before now step
  asked_later (act.House (fault.Failed count)) before now is step = absurd is

  pub find_later : (place : ℕ) (name : List ℕ) (answer : Result (Option TableInfo) ActFault) (before now : HouseSeen D)
      → Step told faults Ask (answer_outcome answer) before now → FindAnswers before place name answer
      → IsLater faults before now
  find_later place name (Ok found) before now step does = done_later Ask before now step
  find_later place name (Err why) before now step does = asked_later why before now does step

  pub count_later : (place : ℕ) (table : TableId) (answer : Result (Vec Due) ActFault) (before now : HouseSeen D)
      → Step told faults Ask (answer_outcome answer) before now → CountAnswers before place table answer
      → IsLater faults before now
  count_later place table (Ok dues) before now step does = done_later Ask before now step
  count_later place table (Err why) before now step does = asked_later why before now does step

  pub show_later : (place : ℕ) (what : Show) (answer : Result (Option Shown) ActFault) (before now : HouseSeen D)
      → Step told faults Ask (answer_outcome answer) before now → ShowAnswers before place what answer
      → IsLater faults before now
  show_later place what (Ok shown) before now step does = done_later Ask before now step
  show_later place what (Err why) before now step does = asked_later why before now does step

  pub tell_later : (txn : TxnId) (answer : Result (Option EndTold) ActFault) (before now : HouseSeen D)
      → Step told faults Ask (answer_outcome answer) before now → EndAnswers before txn answer
      → IsLater faults before now
  tell_later txn (Ok told_end) before now step does = done_later Ask before now step
  tell_later txn (Err why) before now step does = asked_later why before now does step
