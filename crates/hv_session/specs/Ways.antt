-- What a part of a statement's way comes to where nobody else acts on the house: what is noted by it, and what stands behind it.
-- Source: Hive Transactions; that each act is one hold of the house is this project's profile.
use Rattle.std.specs.Prelude.{◌≡◌, ◌⊎◌, ℕ, ◌+◌, ◌<◌, Option, List, [], ◌∷◌, ◌++◌, length, Result, Err, IfOk, IfErr}
use Rattle.hv_base.specs.declared.gate.Stage.{Stage}
use Rattle.hv_shelf.specs.Disk.{Store}
use Rattle.hv_ast.specs.declared.statement.Stmt.{Stmt}
use Rattle.hv_history.specs.declared.entry.Entry.{Entry}
use Rattle.hv_history.specs.declared.entry.Cause.{Cause}
use Rattle.hv_history.specs.State.{state_of}
use Rattle.hv_history.specs.Legal.{Fits, load, profile}
use Rattle.hv_stands.specs.Running.{Asking, next_number, opening, starting, IsUnderWay}
use Rattle.hv_trail.specs.declared.trail.TrailItem.{TrailItem}
use Rattle.hv_law_next.specs.Order.{AllInOrder}
use Rattle.hv_actor.specs.Acting.{IsAlone, among, known}
use Rattle.hv_beginning.specs.hv_steps.specs.hv_table_reader.specs.hv_acts.specs.hv_telling.specs.hv_house.specs.declared.fault.HouseFault.{HouseFault}
use Rattle.hv_beginning.specs.hv_steps.specs.hv_table_reader.specs.hv_acts.specs.hv_telling.specs.hv_house.specs.declared.house.House.{House}
use Rattle.hv_beginning.specs.hv_steps.specs.hv_table_reader.specs.hv_acts.specs.hv_telling.specs.hv_house.specs.Faults.{FileCause}
use Rattle.hv_beginning.specs.hv_steps.specs.hv_table_reader.specs.hv_acts.specs.hv_telling.specs.hv_house.specs.House.{entries_of, Leaves, BeginFits, beginning_of}
use Rattle.hv_beginning.specs.hv_steps.specs.hv_table_reader.specs.hv_acts.specs.hv_telling.specs.hv_house.specs.Asking.{CanBegin}
use Rattle.hv_beginning.specs.hv_steps.specs.hv_table_reader.specs.hv_acts.specs.hv_telling.specs.Telling.{IsWhole, IsToldHouse, StillOpens}
use Rattle.hv_beginning.specs.hv_steps.specs.hv_table_reader.specs.hv_acts.specs.declared.told.ToldHouse.{ToldHouse}
use Rattle.hv_beginning.specs.hv_steps.specs.hv_table_reader.specs.hv_acts.specs.Told.{IsWholeOrClosed}
use Rattle.hv_beginning.specs.hv_steps.specs.declared.ready.Reply.{Reply}
use Rattle.hv_beginning.specs.hv_steps.specs.declared.ready.Way.{Way}
use Rattle.hv_beginning.specs.hv_steps.specs.declared.reply.Done.{Done}
use Rattle.hv_beginning.specs.hv_steps.specs.declared.reply.Done.TheVariants as done
use Rattle.hv_beginning.specs.hv_steps.specs.declared.reply.Opened.{Opened}
use Rattle.hv_beginning.specs.hv_steps.specs.declared.reply.Opened.TheVariants as opened
use Rattle.hv_session.specs.declared.paused.Carried.{Carried}
use Rattle.hv_session.specs.declared.paused.Carried.TheVariants as carried
use Rattle.hv_session.specs.declared.paused.Taken.{Taken}
use Rattle.hv_beginning.specs.hv_steps.specs.Ending.{AddsOf, HasStopped, HasReplied, IsUndamaged, aborting}
use Rattle.hv_session.specs.Alone.{AddsNothing}
use Rattle.hv_beginning.specs.hv_steps.specs.Going.{IsOpenHouse, faults_in, Goes, GainsSome}
use Rattle.hv_beginning.specs.hv_steps.specs.Phases.{Begins, HaltsBeginning, BegunBy}
use Rattle.hv_session.specs.Doing.{Course}
use Rattle.hv_session.specs.Taking.{EndsBefore, HoldsAt, IsAtPlace, IsHeld, IsTrulyHeld, WentThrough, IsKept, IsKeptIn, IsTakenAs, IsFinished, IsWhyNot}

-- nobody else acts on the house: others add nothing to its trail, and do nothing to it
pub record ActsAlone {D : Type 0} (between : List TrailItem → Type 0)
    (meanwhile : ToldHouse D → ToldHouse D → Type 0) : Type 0 where
  pub nothing : AddsNothing between
  pub alone : IsAlone meanwhile

-- ---- whatever is told

-- a part that was done: the house is whole, and the book went on by entries of this transaction
pub record IsDone {D : Type 0} (told : D → Option Store) (faults : D → ℕ) (txn : ℕ)
    (before now : House D) : Type 0 where
  pub whole : IsWhole told now
  pub added : AddsOf txn (faults before.shelf) (faults now.shelf) (entries_of before) (entries_of now)

-- and one that was done or not: where it wasn't, the store of a told house opens again
pub record IsPart {D T : Type 0} (told : D → Option Store) (faults : D → ℕ) (txn : ℕ) (before now : House D)
    (result : Result T HouseFault) : Type 0 where
  pub done : IfOk result (λ _. IsDone told faults txn before now)
  pub start : now.start ≡ before.start
  pub stopped : IfErr result (λ why. HasStopped told txn why before now)
  pub opens : IsToldHouse told before → IfErr result (λ _. StillOpens told now)
  pub cause : FileCause (faults before.shelf) (faults now.shelf) result

-- somebody asked for the statement, and it is under way
abbrev pub IsOnWay : List Entry → Way → Stmt → Type 0
IsOnWay book way said = (asking : Asking) × IsUnderWay book asking way.txn.0 way.place said []

-- ---- a started statement that ends

-- nobody else ended it
abbrev pub IsOwnEnd : Done → Type 0
IsOwnEnd (done.Replied reply) = Unit {0}
IsOwnEnd (done.Gone reply) = ⊥

abbrev pub IsFinishedAs : List Entry → List Entry → ℕ → Done → Type 0
IsFinishedAs before now txn (done.Replied reply) = IsFinished before now txn reply.text reply.refused reply.ended
IsFinishedAs before now txn (done.Gone reply) = ⊥

-- all that is promised of one that was to end; in a told house as its text means
pub record EndsAlone {D : Type 0} (told : D → Option Store) (faults : D → ℕ) (txn : ℕ) (before now : House D)
    (result : Result Done HouseFault) : Type 0 where
  pub part : IsPart told faults txn before now result
  pub own : IfOk result IsOwnEnd
  pub truly : IsToldHouse told before → IfOk result (IsFinishedAs (entries_of before) (entries_of now) txn)

-- and what it replies
abbrev pub IsFinishedSo : List Entry → List Entry → ℕ → Reply → Type 0
IsFinishedSo before now txn reply = IsFinished before now txn reply.text reply.refused reply.ended

-- all that is promised of one that was held, and that another statement may have stopped
pub record FinishesAlone {D : Type 0} (told : D → Option Store) (faults : D → ℕ) (txn : ℕ) (before now : House D)
    (result : Result Reply HouseFault) : Type 0 where
  pub part : IsPart told faults txn before now result
  pub truly : IsToldHouse told before → IfOk result (IsFinishedSo (entries_of before) (entries_of now) txn)

-- ---- where it is held

-- what was added comes in the order of its way
abbrev pub AddsInOrder : List Entry → List Entry → Type 0
AddsInOrder before now = (added : List Entry) × (now ≡ before ++ added) × AllInOrder (state_of before) added

-- it came to the place where it was to be held, or ended before that
abbrev pub IsInTime : Option Stage → ℕ → List Entry → Carried → Type 0
IsInTime hold txn added (carried.Ended found) = IsOwnEnd found × EndsBefore hold txn (starting txn ∷ added)
IsInTime hold txn added (carried.Kept paused) = (paused.way.txn.0 ≡ txn) × HoldsAt hold txn (starting txn ∷ added)
    × IsAtPlace hold paused.point
IsInTime hold txn added (carried.Full entries) = ⊥
IsInTime hold txn added carried.NoMemory = ⊥

pub record GoesInTime (hold : Option Stage) (txn : ℕ) (before now : List Entry) (found : Carried) : Type 0 where
  pub added : List Entry
  pub book : now ≡ before ++ added
  pub in_time : IsInTime hold txn added found

-- what stands of it there
abbrev pub StandsHeld : List Entry → Asking → Carried → Type 0
StandsHeld now asking (carried.Kept paused) = IsHeld now asking paused
StandsHeld now asking found = Unit {0}

abbrev pub StandsTruly : List Entry → List Entry → ℕ → Carried → Type 0
StandsTruly before now txn (carried.Ended found) = IsFinishedAs before now txn found
StandsTruly before now txn (carried.Kept paused) = IsTrulyHeld now paused × AddsInOrder before now
StandsTruly before now txn (carried.Full entries) = ⊥
StandsTruly before now txn carried.NoMemory = ⊥

-- a started statement, and its course
pub record OnCourse : Type 0 where
  pub way : Way
  pub course : Course

abbrev pub on_course : Way → Course → OnCourse
on_course way course = record { way = way; course = course }

-- all that is promised of a started statement that was to go on to its end or its hold
pub record GoesAlone {D : Type 0} (told : D → Option Store) (faults : D → ℕ) (on : OnCourse) (before now : House D)
    (result : Result Carried HouseFault) : Type 0 where
  pub part : IsPart told faults on.way.txn.0 before now result
  pub goes : IfOk result (GoesInTime on.course.hold on.way.txn.0 (entries_of before) (entries_of now))
  pub stands : (asking : Asking)
      → IsUnderWay (entries_of before) asking on.way.txn.0 on.way.place on.course.said []
      → IfOk result (StandsHeld (entries_of now) asking)
  pub truly : IsToldHouse told before → IfOk result (StandsTruly (entries_of before) (entries_of now) on.way.txn.0)

-- ---- its beginning

-- it began at once, under the next number
pub record HasStarted (before now : List Entry) (asking : Asking) (said : Stmt) (way : Way) : Type 0 where
  pub txn_is : way.txn.0 ≡ next_number before
  pub place_is : way.place ≡ length before + 1
  pub can : CanBegin profile before said
  pub book : now ≡ before ++ beginning_of before asking

-- it could not begin, and was opened and aborted, for what stood in its way or for want of memory
pub record IsTurnedAway (before now : List Entry) (asking : Asking) (said : Stmt) (found : Done) : Type 0 where
  pub why : Cause
  pub is : IsWhyNot before said why
  pub book : now ≡ before ++ opening before asking ∷ aborting (next_number before) why ∷ []
  pub own : IsOwnEnd found
  pub undamaged : IsUndamaged (aborting (next_number before) why)
  pub in_order : AllInOrder (state_of before) (opening before asking ∷ aborting (next_number before) why ∷ [])

-- and that is its answer
abbrev pub IsAnswered : List Entry → ℕ → Done → Type 0
IsAnswered now txn (done.Replied reply) = HasReplied now txn reply.text reply.refused reply.ended
IsAnswered now txn (done.Gone reply) = ⊥

-- there is no room for its opening and its end
pub record IsUnopened (before now : List Entry) : Type 0 where
  pub book : now ≡ before
  pub lacks : profile.entries < load (state_of before) + 2

abbrev pub BeginsSo : List Entry → List Entry → Asking → Stmt → Opened → Type 0
BeginsSo before now asking said (opened.Started way) = HasStarted before now asking said way
BeginsSo before now asking said (opened.Full entries) = IsUnopened before now
BeginsSo before now asking said opened.NoMemory = now ≡ before
BeginsSo before now asking said (opened.Ended found) = IsTurnedAway before now asking said found
    × IsAnswered now (next_number before) found

-- The run stopped where the statement was to be opened and started at once: the journal reads to the book, or where the store failed,
-- to the book or to it with just these two entries, which fit.
pub record StopsAtBeginning {D : Type 0} (told : D → Option Store) (asking : Asking) (why : HouseFault)
    (before now : House D) : Type 0 where
  pub book : entries_of now ≡ entries_of before
  pub fits : BeginFits (entries_of before) asking
  pub leaves : Leaves why (beginning_of (entries_of before) asking) (told now.shelf) (entries_of now)

-- It stopped where the statement was to be opened alone: the journal reads to the book, or where the store failed, to the book or to it with
-- the Opened, which fits.
pub record StopsAtOpening {D : Type 0} (told : D → Option Store) (asking : Asking) (why : HouseFault)
    (before now : House D) : Type 0 where
  pub book : entries_of now ≡ entries_of before
  pub fits : Fits profile (state_of (entries_of before)) (opening (entries_of before) asking)
  pub leaves : Leaves why (opening (entries_of before) asking ∷ []) (told now.shelf) (entries_of now)

abbrev pub StopsTaken : {D : Type 0} → (D → Option Store) → Asking → HouseFault → House D → House D → Type 0
StopsTaken told asking why before now =
    ((stopped : HasStopped told (next_number (entries_of before)) why before now) × BegunBy asking stopped.added)
    ⊎ StopsAtBeginning told asking why before now ⊎ StopsAtOpening told asking why before now

-- ---- one that is taken up

-- a statement was taken up, or the run stopped in that
pub record IsTaking {D T : Type 0} (told : D → Option Store) (faults : D → ℕ) (asking : Asking) (before now : House D)
    (result : Result T HouseFault) : Type 0 where
  pub done : IfOk result (λ _. IsDone told faults (next_number (entries_of before)) before now)
  pub start : now.start ≡ before.start
  pub stopped : IfErr result (λ why. StopsTaken told asking why before now)
  pub opens : IsToldHouse told before → IfErr result (λ _. StillOpens told now)
  pub cause : FileCause (faults before.shelf) (faults now.shelf) result

-- what stands of it whatever is told
abbrev pub IsCarriedIn : List Entry → List Entry → Asking → Carried → Type 0
IsCarriedIn before now asking (carried.Ended found) = IsOwnEnd found
IsCarriedIn before now asking (carried.Kept paused) = (paused.way.txn.0 ≡ next_number before) × IsHeld now asking paused
IsCarriedIn before now asking (carried.Full entries) = IsUnopened before now
IsCarriedIn before now asking carried.NoMemory = now ≡ before

-- and in a told house
abbrev pub EndsThrough : List Entry → List Entry → Asking → Option Stage → Done → Type 0
EndsThrough before now asking hold (done.Replied reply) = WentThrough before now asking hold reply.text reply.refused
    reply.ended
EndsThrough before now asking hold (done.Gone reply) = ⊥

abbrev pub IsCarriedAs : List Entry → List Entry → Asking → Option Stage → Carried → Type 0
IsCarriedAs before now asking hold (carried.Ended found) = EndsThrough before now asking hold found
IsCarriedAs before now asking hold (carried.Kept paused) = IsKept before now asking hold paused
IsCarriedAs before now asking hold (carried.Full entries) = Unit {0}
IsCarriedAs before now asking hold carried.NoMemory = Unit {0}

-- who asks for a statement, and where it is to be held
pub record AskedUpTo : Type 0 where
  pub asking : Asking
  pub hold : Option Stage

abbrev pub asked_up_to : Asking → Option Stage → AskedUpTo
asked_up_to asking hold = record { asking = asking; hold = hold }

-- all that is promised of a statement of a tree that is carried to its end or its hold
pub record CarriesAlone {D : Type 0} (told : D → Option Store) (faults : D → ℕ) (asked : AskedUpTo)
    (before now : House D) (result : Result Carried HouseFault) : Type 0 where
  pub taking : IsTaking told faults asked.asking before now result
  pub held : IfOk result (IsCarriedIn (entries_of before) (entries_of now) asked.asking)
  pub truly : IsToldHouse told before
      → IfOk result (IsCarriedAs (entries_of before) (entries_of now) asked.asking asked.hold)

-- and of one that is taken up
pub record TakesAlone {D : Type 0} (told : D → Option Store) (faults : D → ℕ) (asked : AskedUpTo)
    (before now : House D) (result : Result Taken HouseFault) : Type 0 where
  pub taking : IsTaking told faults asked.asking before now result
  pub held : IfOk result (IsKeptIn (entries_of before) (entries_of now) asked.asking)
  pub truly : IsToldHouse told before
      → IfOk result (IsTakenAs (entries_of before) (entries_of now) asked.asking asked.hold)

-- ---- what the parts over an actor promise then

-- nothing is said of what it adds
abbrev pub Anyhow : {T : Type 0} → T → List Entry → Type 0
Anyhow x added = Unit {0}

-- a part of a started statement is one over a house alone, whatever it answers and adds
abbrev pub PartsAlone : {D : Type 0} → Type 0 → (D → Option Store) → (D → ℕ) → (List TrailItem → Type 0)
    → (ToldHouse D → ToldHouse D → Type 0) → Type 0
PartsAlone {D = D} T told faults between meanwhile =
    (txn : ℕ) (own own' : List ℕ) (before now : ToldHouse D) (result : Result T HouseFault)
    → IsOpenHouse before → IsWholeOrClosed told now.house
    → Goes (among told faults between meanwhile) (faults_in faults before) txn (known own before) (known own' now)
    (Anyhow {T = T}) result
    → IsPart told faults txn before.house now.house result

-- a statement begins at once where it can, and else is turned away for what stood in its way
abbrev pub BeginsAlone : {D : Type 0} → (D → Option Store) → (D → ℕ) → (List TrailItem → Type 0) → Type 0
BeginsAlone {D = D} told faults between =
    (asking : Asking) (said : Stmt) (own own' : List ℕ) (before now : ToldHouse D) (found : Opened)
    → IsWhole told before.house → IsWholeOrClosed told now.house
    → GainsSome faults between (faults_in faults before) (known own before) (known own' now)
    (Begins before now asking said found)
    → BeginsSo (entries_of before.house) (entries_of now.house) asking said found

-- and where the run stops in that
abbrev pub HaltsAlone : {D : Type 0} → Type 0 → (D → Option Store) → (D → ℕ) → (List TrailItem → Type 0)
    → (ToldHouse D → ToldHouse D → Type 0) → Type 0
HaltsAlone {D = D} T told faults between meanwhile =
    (asking : Asking) (own own' : List ℕ) (before now : ToldHouse D) (why : HouseFault)
    → IsOpenHouse before → IsWholeOrClosed told now.house
    → HaltsBeginning (among told faults between meanwhile) asking (known own before) (known own' now) why
    → IsTaking {T = T} told faults asking before.house now.house (Err why)
