-- A session's statements, one after another, over any actor: what its own acts added for each, and its replies.
-- Source: Hive Transactions (a session's statements are done in order).
use Rattle.std.specs.Prelude.{◌≡◌, ◌≤◌, ℕ, List, [], ◌∷◌, length}
use Rattle.hv_stands.specs.Running.{Asking}
use Rattle.hv_actor.specs.Acting.{Setting, Moment}
use Rattle.hv_session.specs.declared.asking.Asking.{Asking as Handed}
use Rattle.hv_session.specs.hv_beginning.specs.hv_steps.specs.hv_table_reader.specs.hv_acts.specs.declared.told.ToldHouse.{ToldHouse}
use Rattle.hv_session.specs.hv_beginning.specs.hv_steps.specs.hv_table_reader.specs.hv_acts.specs.hv_telling.specs.hv_house.specs.declared.fault.HouseFault.{HouseFault}
use Rattle.hv_session.specs.hv_beginning.specs.hv_steps.specs.declared.ready.Reply.{Reply}
use Rattle.hv_session.specs.hv_beginning.specs.hv_steps.specs.Going.{faults_in, GainsSome}
use Rattle.hv_session.specs.hv_beginning.specs.hv_steps.specs.Phases.{HaltsBeginning}
use Rattle.hv_waiting.specs.Doing.{RepliesInTurn}

-- what is handed over for a statement is no longer than a session takes
pub record IsShort (handed : Handed) : Type 0 where
  pub text : length handed.text ≤ 32768
  pub session : length handed.session ≤ 32

-- one statement was done to its reply
abbrev pub SaysOne : {D : Type 0} → Setting D (ToldHouse D) → Moment (ToldHouse D) → Moment (ToldHouse D) → Asking
    → Reply → Type 0
SaysOne setting before now asking reply =
    GainsSome setting.faults setting.between (faults_in setting.faults before.house) before now
    (RepliesInTurn setting.told before.house now.house asking reply)

-- each of these, one behind the other
abbrev pub SaysAll : {D : Type 0} → Setting D (ToldHouse D) → Moment (ToldHouse D) → Moment (ToldHouse D) → List Asking
    → List Reply → Type 0
SaysAll setting before now [] [] = now ≡ before
SaysAll {D = D} setting before now (asking ∷ askings) (reply ∷ replies) =
    (between : Moment (ToldHouse D)) × SaysOne setting before between asking reply
    × SaysAll setting between now askings replies
SaysAll setting before now _ _ = ⊥

-- the run stopped in the statement behind those that have a reply
abbrev pub StopsSaying : {D : Type 0} → Setting D (ToldHouse D) → Moment (ToldHouse D) → Moment (ToldHouse D)
    → List Asking → List Reply → HouseFault → Type 0
StopsSaying setting before now [] replies why = ⊥
StopsSaying setting before now (asking ∷ askings) [] why = HaltsBeginning setting asking before now why
StopsSaying {D = D} setting before now (asking ∷ askings) (reply ∷ replies) why =
    (between : Moment (ToldHouse D)) × SaysOne setting before between asking reply
    × StopsSaying setting between now askings replies why
