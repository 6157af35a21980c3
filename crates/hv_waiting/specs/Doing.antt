-- A statement from its text to its end that waits for its locks, over any actor: what its own acts add, and what is replied.
-- Source: Hive Transactions (snapshots, locks, first committer wins).
use Rattle.std.specs.Prelude.{◌≡◌, ◌⊎◌, None, Option, List, [], ◌++◌, length, Result, Ok, Err, IfOk, IfErr}
use Rattle.hv_shelf.specs.Disk.{Store}
use Rattle.hv_ast.specs.declared.statement.Stmt.{Stmt}
use Rattle.hv_built.specs.Running.{Runs}
use Rattle.hv_history.specs.declared.entry.Entry.{Entry}
use Rattle.hv_history.specs.declared.entry.Cause.TheVariants as cause
use Rattle.hv_history.specs.Answers.{cause_text}
use Rattle.hv_history.specs.State.{state_of}
use Rattle.hv_history.specs.Legal.{HasRoom, profile}
use Rattle.hv_stands.specs.Running.{Asking}
use Rattle.hv_actor.specs.Acting.{Setting, Moment}
use Rattle.hv_session.specs.hv_beginning.specs.hv_steps.specs.hv_table_reader.specs.hv_acts.specs.hv_telling.specs.hv_house.specs.declared.fault.HouseFault.{HouseFault}
use Rattle.hv_session.specs.hv_beginning.specs.hv_steps.specs.hv_table_reader.specs.hv_acts.specs.hv_telling.specs.Telling.{IsToldHouse}
use Rattle.hv_session.specs.hv_beginning.specs.hv_steps.specs.hv_table_reader.specs.hv_acts.specs.declared.told.ToldHouse.{ToldHouse}
use Rattle.hv_session.specs.hv_beginning.specs.hv_steps.specs.hv_table_reader.specs.hv_acts.specs.Told.{book_in}
use Rattle.hv_session.specs.hv_beginning.specs.hv_steps.specs.declared.ready.Reply.{Reply}
use Rattle.hv_session.specs.hv_beginning.specs.hv_steps.specs.declared.ready.Way.{Way}
use Rattle.hv_session.specs.hv_beginning.specs.hv_steps.specs.declared.reply.Done.{Done}
use Rattle.hv_session.specs.hv_beginning.specs.hv_steps.specs.Going.{faults_in, GainsSome}
use Rattle.hv_session.specs.hv_beginning.specs.hv_steps.specs.Phases.{AnswersTruly, HaltsBeginning}
use Rattle.hv_session.specs.Doing.{EndsAs, reply_from}
use Rattle.hv_session.specs.Lines.{IsLine, IsTextLine, IsFullLine}
use Rattle.hv_waiting.specs.declared.passed.Passed.{Passed}
use Rattle.hv_waiting.specs.declared.passed.Passed.TheVariants as passed
use Rattle.hv_waiting.specs.Beginnings.{StartedInTurn, EndedUnstarted}

-- it started in its turn, and behind its Start stands what brought it to its end; in a told house its reply is its transaction's answer
pub record WentInTurn {D : Type 0} (told : D → Option Store) (before now : ToldHouse D) (asking : Asking) (said : Stmt)
    (found : Done)
    (added : List Entry) : Type 0 where
  pub way : Way
  pub first : List Entry
  pub rest : List Entry
  pub added_is : added ≡ first ++ rest
  pub begun : StartedInTurn before now asking said way first
  pub goes : EndsAs told now way said found rest
  pub truly : IsToldHouse told now.house → AnswersTruly way.txn.0 now found

abbrev pub PassesInTurn : {D : Type 0} → (D → Option Store) → ToldHouse D → ToldHouse D → Asking → Stmt → Passed
    → List Entry → Type 0
PassesInTurn told before now asking said (passed.Ended found) added =
    WentInTurn told before now asking said found added ⊎ EndedUnstarted before now asking said found added
PassesInTurn told before now asking said (passed.Full entries) added =
    (added ≡ []) × (entries ≡ length (book_in now)) × (HasRoom profile (state_of (book_in now)) 2 → ⊥)
PassesInTurn told before now asking said passed.NoMemory added = added ≡ []

abbrev pub passed_of : Result Done HouseFault → Result Passed HouseFault
passed_of (Ok found) = Ok (passed.Ended found)
passed_of (Err why) = Err why

-- all that is promised of it
pub record TakesInTurn {D : Type 0} (setting : Setting D (ToldHouse D)) (asking : Asking) (said : Stmt)
    (before now : Moment (ToldHouse D))
    (result : Result Passed HouseFault) : Type 0 where
  pub takes : IfOk result (λ found. GainsSome setting.faults setting.between (faults_in setting.faults before.house)
      before now
      (PassesInTurn setting.told before.house now.house asking said found))
  pub halts : IfErr result (HaltsBeginning setting asking before now)

-- what is replied then: to one that wasn't opened that there was no room or no memory
abbrev pub IsSaidTo : Passed → Reply → Type 0
IsSaidTo (passed.Ended found) reply = reply ≡ reply_from found
IsSaidTo (passed.Full entries) reply = IsFullLine reply
IsSaidTo passed.NoMemory reply = IsLine (cause_text None cause.Memory) reply

-- where it was never opened, memory may lack for that
abbrev pub WasUnopened : Passed → Type 0
WasUnopened (passed.Ended found) = ⊥
WasUnopened (passed.Full entries) = Unit {0}
WasUnopened passed.NoMemory = Unit {0}

-- its text doesn't run, or memory lacked to read it; or a statement of it passed so
abbrev pub RepliesInTurn : {D : Type 0} → (D → Option Store) → ToldHouse D → ToldHouse D → Asking → Reply → List Entry
    → Type 0
RepliesInTurn told before now asking reply added =
    ((added ≡ []) × IsTextLine asking.text reply)
    ⊎ ((said : Stmt) × (found : Passed) × Runs asking.text said
    × PassesInTurn told before now asking said found added × IsSaidTo found reply)
