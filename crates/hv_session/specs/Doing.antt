-- A statement from its text to its end, over any actor: what its own acts add, and what is replied.
-- Source: Hive Transactions (snapshots, locks, first committer wins); where a statement may be held is this project's profile.
use Rattle.std.specs.List.{AllByRecursion}
use Rattle.std.specs.Prelude.{◌≡◌, ◌⊎◌, ℕ, Bool, true, false, Option, Some, None, List, [], ◌++◌, length, Result, Ok, Err, IfOk, IfErr}
use Rattle.hv_shelf.specs.Disk.{Store}
use Rattle.hv_base.specs.declared.gate.Stage.{Stage}
use Rattle.hv_base.specs.declared.gate.Stage.TheVariants as stage
use Rattle.hv_ast.specs.declared.statement.Stmt.{Stmt}
use Rattle.hv_built.specs.Running.{Runs}
use Rattle.hv_logic.specs.declared.meaning.Meaning.{Meaning}
use Rattle.hv_logic.specs.declared.meaning.Meaning.TheVariants.{Refused, Plain}
use Rattle.hv_history.specs.declared.entry.Entry.{Entry}
use Rattle.hv_history.specs.declared.entry.Cause.TheVariants as cause
use Rattle.hv_history.specs.Answers.{cause_text}
use Rattle.hv_history.specs.State.{state_of}
use Rattle.hv_history.specs.Legal.{HasRoom, profile}
use Rattle.hv_stands.specs.Running.{Asking}
use Rattle.hv_trail.specs.declared.trail.TrailItem.{TrailItem}
use Rattle.hv_beginning.specs.hv_steps.specs.hv_table_reader.specs.hv_acts.specs.hv_telling.specs.hv_house.specs.declared.fault.HouseFault.{HouseFault}
use Rattle.hv_beginning.specs.hv_steps.specs.hv_table_reader.specs.hv_acts.specs.declared.told.ToldHouse.{ToldHouse}
use Rattle.hv_beginning.specs.hv_steps.specs.hv_table_reader.specs.hv_acts.specs.Told.{trail_in, book_in}
use Rattle.hv_beginning.specs.hv_steps.specs.declared.ready.Way.{Way}
use Rattle.hv_beginning.specs.hv_steps.specs.declared.ready.Ready.{Ready}
use Rattle.hv_beginning.specs.hv_steps.specs.hv_table_reader.specs.hv_acts.specs.hv_telling.specs.Telling.{IsToldHouse}
use Rattle.hv_beginning.specs.hv_steps.specs.declared.ready.Reply.{Reply}
use Rattle.hv_beginning.specs.hv_steps.specs.declared.reply.Done.{Done}
use Rattle.hv_beginning.specs.hv_steps.specs.declared.reply.Done.TheVariants as done
use Rattle.hv_beginning.specs.hv_steps.specs.declared.reply.Opened.{Opened}
use Rattle.hv_beginning.specs.hv_steps.specs.declared.reply.Opened.TheVariants as opened
use Rattle.hv_beginning.specs.hv_steps.specs.declared.reply.Prepared.TheVariants as prepared
use Rattle.hv_session.specs.declared.paused.Point.{Point}
use Rattle.hv_session.specs.declared.paused.Point.TheVariants as point
use Rattle.hv_session.specs.declared.paused.Paused.{Paused}
use Rattle.hv_session.specs.declared.paused.Carried.{Carried}
use Rattle.hv_session.specs.declared.paused.Carried.TheVariants as carried
use Rattle.hv_session.specs.declared.paused.Taken.{Taken}
use Rattle.hv_session.specs.declared.paused.Taken.TheVariants as taken
use Rattle.hv_session.specs.Lines.{IsLine, IsTextLine, IsFullLine}
use Rattle.hv_beginning.specs.hv_steps.specs.Ending.{HasReplied}
use Rattle.hv_beginning.specs.hv_steps.specs.Going.{faults_in, Goes, GainsSome, WasOnWay, WasOpened, IsGoneSo}
use Rattle.hv_beginning.specs.hv_steps.specs.Requests.{IsAskIn}
use Rattle.hv_beginning.specs.hv_steps.specs.Phases.{HasBegun, HasNotBegun, AbortsFor, EndsBehind, IsUntoldDamage, ComesTo, PreparesAsked, PreparesTo, CanConclude, ConcludesSo, Concludes, AnswersTruly, HaltsBeginning}
use Rattle.hv_actor.specs.Acting.{Setting, Moment}

-- ---- how a started statement ends

-- what it added up to its end: the aborts that it asked for, and what it prepared behind them
abbrev pub ReadiesTo : {D : Type 0} → ToldHouse D → Way → Stmt → Meaning → Ready → List Entry → Type 0
ReadiesTo now way said meaning ready added =
    (asks : List Entry) × (first : List Entry) × (added ≡ asks ++ first) × AllByRecursion (IsAskIn now way said) asks
    × PreparesTo way.txn.0 meaning ready first
    × ((asks ≡ []) ⊎ (meaning ≡ Plain))

-- one of this meaning: on the way, or by what it was ready for
abbrev pub EndsFrom : {D : Type 0} → ToldHouse D → Way → Stmt → Meaning → Done → List Entry → Type 0
EndsFrom now way said meaning found added =
    PreparesAsked way.txn.0 now (IsAskIn now way said) meaning (prepared.Ended found) added
    ⊎ ((ready : Ready) × (first : List Entry) × ReadiesTo now way said meaning ready first
    × EndsBehind way.txn.0 now first (ConcludesSo way.txn.0 now ready) found added)

-- one of this tree: since its tables couldn't be seen, or as it means over the tables at its snapshot
abbrev pub EndsAs : {D : Type 0} → (D → Option Store) → ToldHouse D → Way → Stmt → Done → List Entry → Type 0
EndsAs told now way said found added =
    AbortsFor way.txn.0 now [] (IsUntoldDamage told now) found added
    ⊎ ((meaning : Meaning) × ComesTo told now way said meaning × EndsFrom now way said meaning found added)

-- ---- one that is held

-- What it comes to waits, unless it is refused; what it is ready for waits.
abbrev pub IsUnrefused : Meaning → Type 0
IsUnrefused (Refused why) = ⊥
IsUnrefused meaning = Unit {0}

-- how far it has come: what it added behind its Start, and what is known of it whatever others add
abbrev pub StandsAt : {D : Type 0} → (D → Option Store) → ToldHouse D → Way → Stmt → Point → List Entry → Type 0
StandsAt told now way said point.Started added = added ≡ []
StandsAt told now way said (point.Meant meaning) added = (added ≡ []) × ComesTo told now way said meaning
    × IsUnrefused meaning
StandsAt told now way said (point.Ready ready) added =
    (meaning : Meaning) × ComesTo told now way said meaning × ReadiesTo now way said meaning ready added
    × CanConclude told now way ready.end ready.text

-- it can be done to its end, whatever others add
abbrev pub CanGoOn : {D : Type 0} → (D → Option Store) → ToldHouse D → Way → Stmt → Point → Type 0
CanGoOn told now way said point.Started = (asking : Asking) × WasOnWay (trail_in now) asking way said
CanGoOn told now way said (point.Meant meaning) = (asking : Asking) × WasOnWay (trail_in now) asking way said
    × ComesTo told now way said meaning
CanGoOn told now way said (point.Ready ready) = WasOpened (trail_in now) way.txn.0
    × CanConclude told now way ready.end ready.text

abbrev pub CanFinish : {D : Type 0} → (D → Option Store) → ToldHouse D → Paused → Type 0
CanFinish told now paused = CanGoOn told now paused.way paused.tree paused.point

abbrev pub CanFinishSome : {D : Type 0} → (D → Option Store) → ToldHouse D → Carried → Type 0
CanFinishSome told now (carried.Kept paused) = CanFinish told now paused
CanFinishSome told now found = Unit {0}

-- how it ends from there
abbrev pub EndsFromPoint : {D : Type 0} → (D → Option Store) → ToldHouse D → Way → Stmt → Point → Done → List Entry
    → Type 0
EndsFromPoint told now way said point.Started found added = EndsAs told now way said found added
EndsFromPoint told now way said (point.Meant meaning) found added = EndsFrom now way said meaning found added
EndsFromPoint told now way said (point.Ready ready) found added = Concludes way.txn.0 now ready found added

abbrev pub Finishes : {D : Type 0} → (D → Option Store) → ToldHouse D → Paused → Done → List Entry → Type 0
Finishes told now paused found added = EndsFromPoint told now paused.way paused.tree paused.point found added

-- ---- its reply

-- its own, or what is told of the end that others made
abbrev pub reply_from : Done → Reply
reply_from (done.Replied reply) = reply
reply_from (done.Gone reply) = reply

abbrev pub replied_of : Result Done HouseFault → Result Reply HouseFault
replied_of (Ok found) = Ok (reply_from found)
replied_of (Err why) = Err why

-- one that was held replies as it ends from there; or others had ended it, and nothing was added
abbrev pub FinishesSo : {D : Type 0} → (D → Option Store) → ToldHouse D → Paused → Reply → List Entry → Type 0
FinishesSo told now paused reply added =
    ((found : Done) × Finishes told now paused found added × (reply ≡ reply_from found))
    ⊎ ((added ≡ []) × IsGoneSo (trail_in now) paused.way.txn.0 reply)

-- in a told house the reply is its transaction's answer, unless others have ended it
abbrev pub RepliesTruly : {D : Type 0} → ℕ → ToldHouse D → Reply → Type 0
RepliesTruly txn now reply = HasReplied (book_in now) txn reply.text reply.refused reply.ended
    ⊎ IsGoneSo (trail_in now) txn reply

-- ---- a started statement that goes on

-- where it was to be held, there it is
abbrev pub IsAtPlace : Stage → Point → Type 0
IsAtPlace stage.Start point.Started = Unit {0}
IsAtPlace stage.Read (point.Meant meaning) = Unit {0}
IsAtPlace stage.Commit (point.Ready ready) = Unit {0}
IsAtPlace hold other = ⊥

-- a hold that a script may ask for
abbrev pub IsHold : Option Stage → Type 0
IsHold None = Unit {0}
IsHold (Some stage.Start) = Unit {0}
IsHold (Some stage.Read) = Unit {0}
IsHold (Some stage.Commit) = Unit {0}
IsHold (Some other) = ⊥

abbrev pub carried_of : Result Done HouseFault → Result Carried HouseFault
carried_of (Ok found) = Ok (carried.Ended found)
carried_of (Err why) = Err why

abbrev pub is_refused : Meaning → Bool
is_refused (Refused why) = true
is_refused meaning = false

-- ---- a started statement that goes to its end, or to its hold

-- it ended before the place where it was to be held: where its text was refused or its tables couldn't be seen; or before its commit
abbrev pub EndsBefore : {D : Type 0} → (D → Option Store) → ToldHouse D → Way → Stmt → Option Stage → Done → List Entry
    → Type 0
EndsBefore told now way said None found added = EndsAs told now way said found added
EndsBefore told now way said (Some stage.Read) found added =
    AbortsFor way.txn.0 now [] (IsUntoldDamage told now) found added
    ⊎ ((meaning : Meaning) × ComesTo told now way said meaning × (IsUnrefused meaning → ⊥)
    × EndsFrom now way said meaning found added)
EndsBefore told now way said (Some stage.Commit) found added =
    AbortsFor way.txn.0 now [] (IsUntoldDamage told now) found added
    ⊎ ((meaning : Meaning) × ComesTo told now way said meaning
    × PreparesAsked way.txn.0 now (IsAskIn now way said) meaning (prepared.Ended found) added)
EndsBefore told now way said (Some other) found added = ⊥

-- what is to be carried: a statement of this tree, to its end or to where it is to be held
pub record Course : Type 0 where
  pub said : Stmt
  pub hold : Option Stage

abbrev pub up_to : Stmt → Option Stage → Course
up_to said hold = record { said = said; hold = hold }

abbrev pub GoesOnTo : {D : Type 0} → (D → Option Store) → ToldHouse D → Asking → Way → Course → Carried → List Entry
    → Type 0
GoesOnTo told now asking way course (carried.Ended found) added = EndsBefore told now way course.said course.hold found
    added
GoesOnTo told now asking way course (carried.Kept paused) added =
    (stage : Stage) × (course.hold ≡ Some stage) × IsAtPlace stage paused.point × (paused.way ≡ way)
    × (paused.tree ≡ course.said)
    × WasOnWay (trail_in now) asking way course.said × StandsAt told now way course.said paused.point added
GoesOnTo told now asking way course (carried.Full entries) added = ⊥
GoesOnTo told now asking way course carried.NoMemory added = ⊥

-- in a told house the reply to one that has ended is its transaction's answer
abbrev pub CarriedTruly : {D : Type 0} → ℕ → ToldHouse D → Carried → Type 0
CarriedTruly txn now (carried.Ended found) = AnswersTruly txn now found
CarriedTruly txn now found = Unit {0}

-- all that is promised of one that goes on to its end or its hold
pub record GoesToHold {D : Type 0} (setting : Setting D (ToldHouse D)) (way : Way) (course : Course)
    (before now : Moment (ToldHouse D))
    (result : Result Carried HouseFault) : Type 0 where
  pub goes : (asking : Asking) → WasOnWay (trail_in before.house) asking way course.said
      → Goes setting (faults_in setting.faults before.house) way.txn.0 before now
      (GoesOnTo setting.told now.house asking way course) result
  pub truly : IsToldHouse setting.told before.house.house → IfOk result (CarriedTruly way.txn.0 now.house)

-- ---- all of it

-- nothing was opened, for want of room or of memory; or it was opened and has ended before its Start
abbrev pub NeverStarted : {D : Type 0} → ToldHouse D → ToldHouse D → Asking → Stmt → Carried → List Entry → Type 0
NeverStarted before now asking said (carried.Ended found) added = HasNotBegun before now asking said found added
NeverStarted before now asking said (carried.Full entries) added =
    (added ≡ []) × (entries ≡ length (book_in now)) × (HasRoom profile (state_of (book_in now)) 2 → ⊥)
NeverStarted before now asking said carried.NoMemory added = added ≡ []
NeverStarted before now asking said (carried.Kept paused) added = ⊥

-- it was begun, and behind its Start stands what brought it to its hold or its end; or it never started
pub record HasGoneOn {D : Type 0} (told : D → Option Store) (before now : ToldHouse D) (asking : Asking)
    (course : Course) (found : Carried)
    (added : List Entry) : Type 0 where
  pub way : Way
  pub first : List Entry
  pub rest : List Entry
  pub added_is : added ≡ first ++ rest
  pub begun : HasBegun before now asking course.said way first
  pub goes : GoesOnTo told now asking way course found rest
  pub truly : IsToldHouse told now.house → CarriedTruly way.txn.0 now found

abbrev pub Takes : {D : Type 0} → (D → Option Store) → ToldHouse D → ToldHouse D → Asking → Course → Carried
    → List Entry → Type 0
Takes told before now asking course found added =
    HasGoneOn told before now asking course found added ⊎ NeverStarted before now asking course.said found added

-- all that is promised of a statement that is taken up
pub record GoesTaking {D : Type 0} (setting : Setting D (ToldHouse D)) (asking : Asking) (course : Course)
    (before now : Moment (ToldHouse D))
    (result : Result Carried HouseFault) : Type 0 where
  pub takes : IfOk result (λ found. GainsSome setting.faults setting.between (faults_in setting.faults before.house)
      before now
      (Takes setting.told before.house now.house asking course found))
  pub halts : IfErr result (HaltsBeginning setting asking before now)

-- one that was begun is on its way
abbrev pub WasStarted : List TrailItem → Stmt → Opened → Type 0
WasStarted trail said (opened.Started way) = (asking : Asking) × WasOnWay trail asking way said
WasStarted trail said found = Unit {0}

-- ---- a text that is taken up

-- what is replied then: to one that wasn't opened that there was no room or no memory
abbrev pub RepliesLine : (Reply → Type 0) → Taken → Type 0
RepliesLine Is answer = (reply : Reply) × (answer ≡ taken.Replied reply) × Is reply

abbrev pub IsSaidFor : Carried → Taken → Type 0
IsSaidFor (carried.Ended found) answer = answer ≡ taken.Replied (reply_from found)
IsSaidFor (carried.Kept paused) answer = answer ≡ taken.Kept paused
IsSaidFor (carried.Full entries) answer = RepliesLine IsFullLine answer
IsSaidFor carried.NoMemory answer = RepliesLine (IsLine (cause_text None cause.Memory)) answer

-- where it was never opened, memory may lack for that
abbrev pub WasNeverOpened : Carried → Type 0
WasNeverOpened (carried.Full entries) = Unit {0}
WasNeverOpened carried.NoMemory = Unit {0}
WasNeverOpened found = ⊥

-- its text doesn't run, or memory lacked to read it; or a statement of it was carried so far
abbrev pub TakesText : {D : Type 0} → (D → Option Store) → ToldHouse D → ToldHouse D → Asking → Option Stage → Taken
    → List Entry → Type 0
TakesText told before now asking hold answer added =
    ((added ≡ []) × RepliesLine (IsTextLine asking.text) answer)
    ⊎ ((said : Stmt) × (found : Carried) × Runs asking.text said
    × Takes told before now asking (up_to said hold) found added × IsSaidFor found answer)

abbrev pub CanFinishTaken : {D : Type 0} → (D → Option Store) → ToldHouse D → Taken → Type 0
CanFinishTaken told now (taken.Kept paused) = CanFinish told now paused
CanFinishTaken told now (taken.Replied reply) = Unit {0}
