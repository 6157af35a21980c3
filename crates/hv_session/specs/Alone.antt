-- What the parts of a statement's way promise where nobody else acts: all that the same parts over a house alone promise.
-- Source: Hive Transactions; that each act is one hold of the house is this project's profile.
use Rattle.std.specs.Prelude.{◌≡◌, ◌⊎◌, ℕ, ◌≤◌, Option, Some, List, [], ◌∷◌, ◌++◌, take}
use Rattle.hv_shelf.specs.Disk.{Store}
use Rattle.hv_ast.specs.declared.statement.Stmt.{Stmt}
use Rattle.hv_logic.specs.declared.meaning.Meaning.{Meaning}
use Rattle.hv_history.specs.declared.entry.Entry.{Entry}
use Rattle.hv_history.specs.declared.entry.Cause.{Cause}
use Rattle.hv_history.specs.declared.entry.Cause.TheVariants as cause
use Rattle.hv_stands.specs.Running.{Asking, meant, IsUnderWay, IsWaiting}
use Rattle.hv_trail.specs.declared.trail.TrailItem.{TrailItem}
use Rattle.hv_beginning.specs.hv_steps.specs.hv_table_reader.specs.hv_acts.specs.hv_telling.specs.hv_house.specs.declared.fault.HouseFault.{HouseFault}
use Rattle.hv_beginning.specs.hv_steps.specs.hv_table_reader.specs.hv_acts.specs.hv_telling.specs.hv_house.specs.House.{entries_of}
use Rattle.hv_beginning.specs.hv_steps.specs.hv_table_reader.specs.hv_acts.specs.hv_telling.specs.Telling.{IsToldHouse, IsWhole, StillOpens}
use Rattle.hv_beginning.specs.hv_steps.specs.hv_table_reader.specs.hv_acts.specs.declared.told.ToldHouse.{ToldHouse}
use Rattle.hv_beginning.specs.hv_steps.specs.hv_table_reader.specs.hv_acts.specs.Told.{IsWholeOrClosed}
use Rattle.hv_beginning.specs.hv_steps.specs.Ending.{aborting, IsAborted, HasReplied, HasStopped, NamesLast, EndedNamesLast, AddsAsked, CanEnd, IsPreparedIn, IsTrulyPrepared}
use Rattle.hv_beginning.specs.hv_steps.specs.Ending as ending
use Rattle.hv_beginning.specs.hv_steps.specs.declared.ready.Reply.{Reply}
use Rattle.hv_beginning.specs.hv_steps.specs.declared.ready.Ready.{Ready}
use Rattle.hv_beginning.specs.hv_steps.specs.declared.ready.Way.{Way}
use Rattle.hv_beginning.specs.hv_steps.specs.declared.reply.Done.{Done}
use Rattle.hv_beginning.specs.hv_steps.specs.declared.reply.Done.TheVariants as done
use Rattle.hv_beginning.specs.hv_steps.specs.declared.reply.Outcome.{Outcome}
use Rattle.hv_beginning.specs.hv_steps.specs.declared.reply.Outcome.TheVariants as outcome
use Rattle.hv_beginning.specs.hv_steps.specs.declared.reply.Prepared.{Prepared}
use Rattle.hv_beginning.specs.hv_steps.specs.Going.{faults_in, IsOpenHouse, AddsOwn, Gains, Halts}
use Rattle.hv_beginning.specs.hv_steps.specs.Phases.{AbortsFor, IsUntoldDamage, Sees, Concludes, Prepares, AnswersTruly}
use Rattle.hv_actor.specs.Acting.{among, known}

-- others add nothing between
abbrev pub AddsNothing : (List TrailItem → Type 0) → Type 0
AddsNothing between = (xs : List TrailItem) → between xs → xs ≡ []

-- ---- what was added

-- the book gained just these, what the house was opened over stands, and the store's count of faults didn't fall
pub record HasGained {D : Type 0} (faults : D → ℕ) (before now : ToldHouse D) (added : List Entry) : Type 0 where
  pub book : entries_of now.house ≡ entries_of before.house ++ added
  pub start : now.house.start ≡ before.house.start
  pub later : faults_in faults before ≤ faults_in faults now

abbrev pub AddsAlone : {D : Type 0} → (D → ℕ) → (List TrailItem → Type 0) → Type 0
AddsAlone {D = D} faults between =
    (by : ℕ) (own own' : List ℕ) (before now : ToldHouse D) (added : List Entry)
    → AddsOwn faults between by (known own before) (known own' now) added
    → HasGained faults before now added

abbrev pub OpenIsWhole : {D : Type 0} → (D → Option Store) → Type 0
OpenIsWhole {D = D} told = (now : ToldHouse D) → IsOpenHouse now → IsWholeOrClosed told now.house
    → IsWhole told now.house

-- ---- the run stops

abbrev pub StopsAlone : {D : Type 0} → (D → Option Store) → (D → ℕ) → (List TrailItem → Type 0)
    → (ToldHouse D → ToldHouse D → Type 0) → Type 0
StopsAlone {D = D} told faults between meanwhile =
    (txn : ℕ) (own own' : List ℕ) (before now : ToldHouse D) (why : HouseFault) → IsWholeOrClosed told now.house
    → Halts (among told faults between meanwhile) txn (known own before) (known own' now) why
    → HasStopped told txn why before.house now.house

abbrev pub OpensAlone : {D : Type 0} → (D → Option Store) → (D → ℕ) → (List TrailItem → Type 0)
    → (ToldHouse D → ToldHouse D → Type 0) → Type 0
OpensAlone {D = D} told faults between meanwhile =
    (txn : ℕ) (own own' : List ℕ) (before now : ToldHouse D) (why : HouseFault) → IsWholeOrClosed told now.house
    → Halts (among told faults between meanwhile) txn (known own before) (known own' now) why
    → IsToldHouse told before.house → StillOpens told now.house

-- ---- an abort

-- nobody else ended it: it was aborted for such a cause or for want of memory, by the book's last entry, and this is its reply
pub record IsAbortedAlone {D : Type 0} (txn : ℕ) (Causes : Cause → Type 0) (before now : ToldHouse D)
    (found : Done) : Type 0 where
  pub reply : Reply
  pub is : found ≡ done.Replied reply
  pub why : Cause
  pub caused : Causes why ⊎ (why ≡ cause.Memory)
  pub book : entries_of now.house ≡ entries_of before.house ++ aborting txn why ∷ []
  pub replied : HasReplied (entries_of now.house) txn reply.text reply.refused reply.ended
  pub last : NamesLast (entries_of now.house) reply

pub record IsRefusedAlone {D : Type 0} (txn : ℕ) (why : Cause) (before now : ToldHouse D) (found : Done) : Type 0 where
  pub reply : Reply
  pub is : found ≡ done.Replied reply
  pub aborted : IsAborted txn why (entries_of before.house) (entries_of now.house)
  pub replied : HasReplied (entries_of now.house) txn reply.text reply.refused reply.ended
  pub last : NamesLast (entries_of now.house) reply

abbrev pub RefusesAlone : {D : Type 0} → (D → Option Store) → (D → ℕ) → (List TrailItem → Type 0) → Type 0
RefusesAlone {D = D} told faults between =
    (asking : Asking) (said : Stmt) (place : ℕ) (given : List (ℕ × ℕ)) (low txn : ℕ) (own own' : List ℕ)
    (before now : ToldHouse D) (why : Cause) (found : Done)
    → IsUnderWay (entries_of before.house) asking txn place said given → IsWholeOrClosed told now.house
    → Gains faults between low txn (known own before) (known own' now)
    (AbortsFor txn now [] (λ cause. cause ≡ why) found)
    → IsRefusedAlone txn why before now found

-- one that waits for its Start isn't ended by others either
abbrev pub RefusesWaiting : {D : Type 0} → (D → Option Store) → (D → ℕ) → (List TrailItem → Type 0) → Type 0
RefusesWaiting {D = D} told faults between =
    (asking : Asking) (said : Stmt) (low txn : ℕ) (own own' : List ℕ) (before now : ToldHouse D) (why : Cause)
    (found : Done)
    → IsWaiting (entries_of before.house) asking txn said → IsWholeOrClosed told now.house
    → Gains faults between low txn (known own before) (known own' now)
    (AbortsFor txn now [] (λ cause. cause ≡ why) found)
    → IsRefusedAlone txn why before now found

-- ---- what it sees

-- nothing was noted, and it means this, which can be ended; or it was aborted for a fault by which its tables couldn't be seen
abbrev pub SeesSo : {D : Type 0} → (D → Option Store) → Way → Stmt → ToldHouse D → ToldHouse D → Outcome → Type 0
SeesSo told way said before now (outcome.Means meaning) =
    (entries_of now.house ≡ entries_of before.house) × CanEnd (entries_of now.house) meaning
    × (IsToldHouse told before.house → meant (take way.place (entries_of now.house)) said ≡ Some meaning)
SeesSo told way said before now (outcome.Ended found) = IsAbortedAlone way.txn.0 (IsUntoldDamage told now) before now
    found

abbrev pub SeesAlone : {D : Type 0} → (D → Option Store) → (D → ℕ) → (List TrailItem → Type 0) → Type 0
SeesAlone {D = D} told faults between =
    (asking : Asking) (said : Stmt) (way : Way) (low : ℕ) (own own' : List ℕ) (before now : ToldHouse D)
    (found : Outcome)
    → IsUnderWay (entries_of before.house) asking way.txn.0 way.place said [] → IsWholeOrClosed told now.house
    → Gains faults between low way.txn.0 (known own before) (known own' now) (Sees told now way said found)
    → SeesSo told way said before now found

-- ---- its end

-- it ended by its commit or its Create, by the abort for a conflict, or for want of memory: by the book's last entry
pub record IsConcludedAlone {D : Type 0} (faults : D → ℕ) (txn low : ℕ) (before now : ToldHouse D)
    (found : Done) : Type 0 where
  pub reply : Reply
  pub is : found ≡ done.Replied reply
  pub added : ending.Concludes txn low (faults_in faults now) (entries_of before.house) (entries_of now.house)
  pub last : NamesLast (entries_of now.house) reply
  pub answered : AnswersTruly txn now found → HasReplied (entries_of now.house) txn reply.text reply.refused reply.ended

abbrev pub ConcludesAlone : {D : Type 0} → (D → Option Store) → (D → ℕ) → (List TrailItem → Type 0) → Type 0
ConcludesAlone {D = D} told faults between =
    (asking : Asking) (said : Stmt) (place : ℕ) (given : List (ℕ × ℕ)) (low txn : ℕ) (own own' : List ℕ)
    (before now : ToldHouse D) (ready : Ready) (found : Done)
    → IsUnderWay (entries_of before.house) asking txn place said given → IsWholeOrClosed told now.house
    → Gains faults between low txn (known own before) (known own' now) (Concludes txn now ready found)
    → IsConcludedAlone faults txn low before now found

-- ---- all but its end

-- a started statement: who asks for it, its tree, and its way
pub record OnItsWay : Type 0 where
  pub asking : Asking
  pub said : Stmt
  pub way : Way

abbrev pub on_its_way : Asking → Stmt → Way → OnItsWay
on_its_way asking said way = record { asking = asking; said = said; way = way }

-- it is ready, and can be ended behind what was noted for it; or it has ended, by the book's last entry, and this is its answer
pub record IsPreparedAlone {D : Type 0} (faults : D → ℕ) (one : OnItsWay) (meaning : Meaning) (before now : ToldHouse D)
    (found : Prepared) : Type 0 where
  pub prepares : ending.Prepares one.way.txn.0 (faults_in faults before) (faults_in faults now)
      (entries_of before.house) (entries_of now.house) found
  pub stands : IsPreparedIn (entries_of now.house) one.asking one.way.txn.0 one.way.place one.said found
  pub truly : meant (take one.way.place (entries_of before.house)) one.said ≡ Some meaning
      → IsTrulyPrepared (entries_of now.house) one.asking one.way.txn.0 one.way.place one.said found
  pub last : EndedNamesLast (entries_of now.house) found
  pub asked : AddsAsked meaning (entries_of before.house) (entries_of now.house)

abbrev pub PreparesAlone : {D : Type 0} → (D → Option Store) → (D → ℕ) → (List TrailItem → Type 0) → Type 0
PreparesAlone {D = D} told faults between =
    (asking : Asking) (said : Stmt) (way : Way) (own own' : List ℕ) (before now : ToldHouse D) (meaning : Meaning)
    (found : Prepared)
    → IsUnderWay (entries_of before.house) asking way.txn.0 way.place said [] → CanEnd (entries_of before.house) meaning
    → IsWholeOrClosed told now.house
    → Gains faults between (faults_in faults before) way.txn.0 (known own before) (known own' now)
    (Prepares way.txn.0 now meaning found)
    → IsPreparedAlone faults (on_its_way asking said way) meaning before now found
