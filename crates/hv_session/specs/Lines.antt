-- What is printed for a statement that was never opened.
use Rattle.std.specs.Prelude.{◌≡◌, ◌⊎◌, ℕ, None, true, List}
use Rattle.hv_history.specs.declared.entry.Cause.TheVariants as cause
use Rattle.hv_history.specs.Answers.{cause_text}
use Rattle.hv_beginning.specs.hv_steps.specs.declared.ready.Reply.{Reply}
use Rattle.hv_session.specs.Faults.{IsFaultLine}

-- the reply is a refusal of this line
pub record IsLine (wanted : List ℕ) (reply : Reply) : Type 0 where
  pub line_is : reply.text ≡ wanted
  pub unended : reply.ended ≡ None
  pub refusal : reply.refused ≡ true

-- the reply to a text that is refused: its fault's line
pub record IsRefusalLine (text : List ℕ) (reply : Reply) : Type 0 where
  pub fault : IsFaultLine text reply.text
  pub unended : reply.ended ≡ None
  pub refusal : reply.refused ≡ true

-- or that memory lacked
abbrev pub IsTextLine : List ℕ → Reply → Type 0
IsTextLine text reply = IsRefusalLine text reply ⊎ IsLine (cause_text None cause.Memory) reply

-- there is no room, or no memory
abbrev pub IsFullLine : Reply → Type 0
IsFullLine reply = IsLine (cause_text None cause.Full) reply ⊎ IsLine (cause_text None cause.Memory) reply
