-- Where a session's statements stand in a book that went on behind them, by the numbers of entries before and behind each.
use Rattle.std.specs.Prelude.{◌≡◌, ◌⊎◌, ◌≤◌, ◌<◌, ℕ, true, Some, None, List, [], ◌∷◌, length, slice_get, take}
use Rattle.hv_history.specs.declared.entry.Entry.{Entry}
use Rattle.hv_history.specs.declared.entry.Entry.TheVariants.{Opened}
use Rattle.hv_history.specs.declared.entry.Cause.TheVariants as cause
use Rattle.hv_history.specs.Answers.{cause_text}
use Rattle.hv_history.specs.State.{state_of}
use Rattle.hv_history.specs.Legal.{HasRoom, profile}
use Rattle.hv_stands.specs.Running.{Asking}
use Rattle.hv_actor.specs.Acting.{Setting, Moment}
use Rattle.hv_session.specs.Faults.{IsFaultLine}
use Rattle.hv_session.specs.hv_beginning.specs.hv_steps.specs.hv_table_reader.specs.hv_acts.specs.hv_telling.specs.Telling.{IsToldHouse}
use Rattle.hv_session.specs.hv_beginning.specs.hv_steps.specs.hv_table_reader.specs.hv_acts.specs.declared.told.ToldHouse.{ToldHouse}
use Rattle.hv_session.specs.hv_beginning.specs.hv_steps.specs.hv_table_reader.specs.hv_acts.specs.Told.{book_in}
use Rattle.hv_meta.specs.declared.facts.TxnState.TheVariants as standing
use Rattle.hv_meta.specs.States.{state_in}
use Rattle.hv_session.specs.hv_beginning.specs.hv_steps.specs.hv_table_reader.specs.hv_acts.specs.Ending.{told_at}
use Rattle.hv_session.specs.hv_beginning.specs.hv_steps.specs.declared.ready.Reply.{Reply}
use Rattle.hv_session.specs.hv_beginning.specs.hv_steps.specs.Ending.{HasReplied}
use Rattle.hv_session.specs.hv_beginning.specs.hv_steps.specs.Going.{end_reply}
use Rattle.hv_saying.specs.Saying.{SaysAll}
use Rattle.hv_saying.specs.Owning.{GoesOnTo}

-- a statement's own Opened stands at this place, as this transaction's
abbrev pub IsOpenedThere : List Entry → Asking → ℕ → ℕ → Type 0
IsOpenedThere book asking txn place =
    slice_get book place ≡ Some (Opened (record { 0 = txn }) asking.session asking.number asking.text)

-- where: it was opened between these numbers of entries, and the entry that ended it stands before the second one
pub record WasOpenedWithin (low high : ℕ) (book : List Entry) (asking : Asking) (txn end : ℕ) : Type 0 where
  pub place : ℕ
  pub behind : low ≤ place
  pub opened : IsOpenedThere book asking txn place
  pub early : place < end
  pub before : end < high

-- it ended by its own entry, and the reply is its transaction's answer
pub record WasAnswered (low high : ℕ) (book : List Entry) (asking : Asking) (reply : Reply) : Type 0 where
  pub txn : ℕ
  pub end : ℕ
  pub within : WasOpenedWithin low high book asking txn end
  pub ended : reply.ended ≡ Some end
  pub answered : HasReplied book txn reply.text reply.refused (Some end)

-- others ended it, and the reply is what is told of their entry
pub record WasGone (low high : ℕ) (book : List Entry) (asking : Asking) (reply : Reply) : Type 0 where
  pub txn : ℕ
  pub end : ℕ
  pub within : WasOpenedWithin low high book asking txn end
  pub gone : state_in (state_of book) txn ≡ standing.Ended end
  pub told : reply ≡ end_reply (told_at book end)

-- What is replied to one that wasn't opened: its text's fault; that there was no room, at the second number of entries; or that memory
-- lacked.
abbrev pub WasUnanswered : ℕ → List Entry → Asking → Reply → Type 0
WasUnanswered high book asking reply =
    IsFaultLine asking.text reply.text
    ⊎ ((HasRoom profile (state_of (take high book)) 2 → ⊥) × (reply.text ≡ cause_text None cause.Full))
    ⊎ (reply.text ≡ cause_text None cause.Memory)

pub record WasUnopened (high : ℕ) (book : List Entry) (asking : Asking) (reply : Reply) : Type 0 where
  pub unended : reply.ended ≡ None
  pub refusal : reply.refused ≡ true
  pub why : WasUnanswered high book asking reply

-- where it was opened the reply names the entry that ended it
abbrev pub IsSaid : ℕ → ℕ → List Entry → Asking → Reply → Type 0
IsSaid low high book asking reply =
    WasAnswered low high book asking reply ⊎ (WasGone low high book asking reply ⊎ WasUnopened high book asking reply)

-- several, one behind the other
abbrev pub AreSaid : ℕ → ℕ → List Entry → List Asking → List Reply → Type 0
AreSaid low high book [] [] = low ≤ high
AreSaid low high book (asking ∷ askings) (reply ∷ replies) =
    (between : ℕ) × (low ≤ between) × IsSaid low between book asking reply × AreSaid between high book askings replies
AreSaid low high book _ _ = ⊥

-- What was said over a house of which the store tells stands so in every book that fits and begins with what was seen then.
abbrev pub SaidStays : {D : Type 0} → Setting D (ToldHouse D) → Type 0
SaidStays {D = D} setting =
    (before now : Moment (ToldHouse D)) (askings : List Asking) (replies : List Reply) (book : List Entry)
    → SaysAll setting before now askings replies → IsToldHouse setting.told now.house.house
    → GoesOnTo (book_in now.house) book
    → AreSaid (length (book_in before.house)) (length (book_in now.house)) book askings replies
