-- What the actions of a script do, one after another: how the book goes on by each, which statements are held behind it, and
-- what is printed.
use Rattle.std.specs.Prelude.{◌≡◌, ◌⊎◌, ℕ, ◌+◌, ◌<◌, Bool, true, false, ◌||◌, if◌then◌else◌, nat_eq, Option, Some, None, List, [], ◌∷◌, ◌++◌, length, codes, Contains}
use Rattle.std.specs.Cmp.Lexicographic.{pointwise}
use Rattle.hv_base.specs.declared.gate.Stage.{Stage}
use Rattle.hv_script.specs.declared.actions.Action.{Action}
use Rattle.hv_script.specs.declared.actions.Action.TheVariants as action
use Rattle.hv_script.specs.declared.actions.Statement.{Statement}
use Rattle.hv_ast.specs.declared.statement.Stmt.{Stmt}
use Rattle.hv_built.specs.Running.{Runs, IsRefused}
use Rattle.hv_history.specs.declared.entry.Entry.{Entry}
use Rattle.hv_history.specs.declared.entry.Entry.TheVariants.{Opened}
use Rattle.hv_history.specs.declared.entry.Cause.TheVariants as cause
use Rattle.hv_history.specs.State.{meaning, state_of}
use Rattle.hv_history.specs.Legal.{Of, load, profile}
use Rattle.hv_history.specs.Answers.{line, cause_text}
use Rattle.hv_stands.specs.Running.{Asking, next_number, opening, AreOf}
use Rattle.hv_law_next.specs.Order.{AllInOrder}
use Rattle.hv_law_next.specs.Carrying.{IsAtHold, HasAskedAt}
use Rattle.hv_session.specs.hv_beginning.specs.hv_steps.specs.Ending.{HasReplied}
use Rattle.hv_session.specs.Faults.{IsFaultLine}
use Rattle.hv_session.specs.hv_beginning.specs.hv_steps.specs.hv_table_reader.specs.hv_acts.specs.hv_telling.specs.hv_house.specs.Asking.{CanBegin}
use Rattle.hv_session.specs.Taking.{StartsIfItCan, EndsBefore, HoldsAt}
use Rattle.hv_program.specs.Change.{Change, from_to}
use Rattle.hv_program.specs.Background.{IsCompacting, IsCleaning, Compacts, Cleans}
use Rattle.hv_program.specs.Beside.{AddsBeside}

-- ---- where a run stands between two actions

-- a statement that is held: its session, and its transaction
pub record Waiting : Type 0 where
  pub session : List ℕ
  pub txn : ℕ

pub record Standing : Type 0 where
  pub book : List Entry
  pub waiting : List Waiting

abbrev pub is_session : List ℕ → Waiting → Bool
is_session name waiting = pointwise nat_eq waiting.session name

-- the first that waits in that session
abbrev pub waiting_in : List ℕ → List Waiting → Option Waiting
waiting_in name [] = None
waiting_in name (first ∷ more) = if is_session name first then Some first else waiting_in name more

-- those that wait without it
abbrev pub without : List ℕ → List Waiting → List Waiting
without name [] = []
without name (first ∷ more) = if is_session name first then more else first ∷ without name more

abbrev pub asking_of : Statement → Asking
asking_of statement = record { session = statement.session.name; number = statement.number; text = statement.text }

-- ---- replies, by the books of the run: the one that it began with, and the one that it leaves

-- the statement was opened as a transaction, behind those of an earlier run, and the reply is its answer: what the text means at its
-- snapshot, or its refusal
pub record IsAnswerIn (books : Change (List Entry)) (asking : Asking) (txn : ℕ) (reply : List ℕ)
    (refused : Bool) : Type 0 where
  pub own : length (state_of books.was).transactions < txn
  pub was_opened : Contains books.now (Opened (record { 0 = txn }) asking.session asking.number asking.text)
  pub ended : Option ℕ
  pub answered : HasReplied books.now txn reply refused ended

-- the text is refused, and its line is the reply
pub record IsFaultIn (text reply : List ℕ) (refused : Bool) : Type 0 where
  pub fault : IsFaultLine text reply
  pub refusal : refused ≡ true

-- there was no room for it, or no memory, and the reply says so
pub record IsLineOf (reply wanted : List ℕ) (refused : Bool) : Type 0 where
  pub line_is : reply ≡ wanted
  pub refusal : refused ≡ true

-- ---- one action

-- It went on to its end at once: as a transaction that started where it could, whose entries come in the order of its way, and that ended
-- then, before the place where it was to be held.
pub record WentOn (books step : Change (List Entry)) (asking : Asking) (hold : Option Stage) (reply : List ℕ)
    (refused : Bool) : Type 0 where
  pub added : List Entry
  pub goes : step.now ≡ step.was ++ opening step.was asking ∷ added
  pub tree : Stmt
  pub runs : Runs asking.text tree
  pub starts : StartsIfItCan step.was tree (next_number step.was) added
  pub of_it : AreOf (next_number step.was) added
  pub in_time : EndsBefore hold (next_number step.was) added
  pub is_answer : IsAnswerIn books asking (next_number step.was) reply refused
  pub answered_then : HasReplied step.now (next_number step.was) reply refused is_answer.ended
  pub in_order : AllInOrder (state_of step.was) (opening step.was asking ∷ added)

abbrev pub RepliesAtOnce : Change (List Entry) → Change (List Entry) → Asking → Option Stage → List ℕ → Bool → Type 0
RepliesAtOnce books step asking hold reply refused =
    WentOn books step asking hold reply refused
    ⊎ ((step.now ≡ step.was) × IsRefused asking.text × IsFaultIn asking.text reply refused)
    ⊎ ((step.now ≡ step.was) × (profile.entries < load (state_of step.was) + 2)
    × IsLineOf reply (cause_text None cause.Full) refused)
    ⊎ ((step.now ≡ step.was) × IsLineOf reply (cause_text None cause.Memory) refused)

-- It is held: its transaction is open, and nothing is printed. Its entries come in the order of its way, and none is left that comes before
-- its hold: before its commit it has asked for all aborts that its text lists.
pub record IsHeldNow (books : Change (List Entry)) (before now : List Entry) (asking : Asking)
    (hold : Option Stage) : Type 0 where
  pub added : List Entry
  pub goes : now ≡ before ++ opening before asking ∷ added
  pub tree : Stmt
  pub runs : Runs asking.text tree
  pub can : CanBegin profile before tree
  pub at_hold : HoldsAt hold (next_number before) added
  pub own : length (state_of books.was).transactions < next_number before
  pub was_opened : Contains books.now (opening before asking)
  pub in_order : AllInOrder (state_of before) (opening before asking ∷ added)
  pub up_to_hold : Of (state_of now) (next_number before)
      (λ transaction. IsAtHold hold transaction.given (meaning transaction)
      × HasAskedAt hold (state_of now) (next_number before) transaction)

pub record Replies (books : Change (List Entry)) (step : Change Standing) (asking : Asking) (hold : Option Stage)
    (output : List ℕ) (refused : Bool) : Type 0 where
  pub goes : RepliesAtOnce books (from_to step.was.book step.now.book) asking hold output refused
  pub waiting_same : step.now.waiting ≡ step.was.waiting

pub record IsPutOff (books : Change (List Entry)) (step : Change Standing) (asking : Asking) (hold : Option Stage)
    (output : List ℕ) (refused : Bool) : Type 0 where
  pub goes : IsHeldNow books step.was.book step.now.book asking hold
  pub waits : step.now.waiting
      ≡ step.was.waiting ++ record { session = asking.session; txn = next_number step.was.book } ∷ []
  pub nothing : output ≡ []
  pub accepted : refused ≡ false

-- a statement that was held went on to its end, by entries of its transaction alone, in the order of its way; none where another statement had
-- asked for its abort, and that is its reply
pub record GoesOnHeld (books : Change (List Entry)) (before now : List Entry) (txn : ℕ) (reply : List ℕ)
    (refused : Bool) : Type 0 where
  pub added : List Entry
  pub goes : now ≡ before ++ added
  pub of_it : AreOf txn added
  pub own : length (state_of books.was).transactions < txn
  pub ended : Option ℕ
  pub answered : HasReplied books.now txn reply refused ended
  pub answered_then : HasReplied now txn reply refused ended
  pub in_order : AllInOrder (state_of before) added

-- the release of a session: its statement that waits goes on; where none does, nothing happens
abbrev pub ReleasesOne : Change (List Entry) → Standing → Standing → List ℕ → Option Waiting → List ℕ → Bool → Type 0
ReleasesOne books before now name None output refused = (now ≡ before) × (output ≡ []) × (refused ≡ false)
ReleasesOne books before now name (Some waiting) output refused =
    GoesOnHeld books before.book now.book waiting.txn output refused × (now.waiting ≡ without name before.waiting)

-- Entries of such a kind were added, just these, and nothing else happened: those that wait wait on, and nothing is printed.
pub record DoneBeside (Of : Entry → Type 0) (Adds : List Entry → List Entry → Type 0) (before now : Standing)
    (output : List ℕ) (refused : Bool) : Type 0 where
  pub beside : AddsBeside Of before.book now.book
  pub adds : Adds before.book now.book
  pub waiting_same : now.waiting ≡ before.waiting
  pub nothing : output ≡ []
  pub accepted : refused ≡ false

abbrev pub session_line : List ℕ → List ℕ
session_line name = line (codes "-- session " ++ name)

-- by one action the run stands there, and this is printed
abbrev pub IsDone : Change (List Entry) → Standing → Standing → Action → List ℕ → Bool → Type 0
IsDone books before now (action.Announce session) output refused = (now ≡ before) × (output ≡ session_line session.name)
    × (refused ≡ false)
IsDone books before now action.Barrier output refused = (now ≡ before) × (output ≡ []) × (refused ≡ false)
IsDone books before now (action.Run statement) output refused =
    Replies books (from_to before now) (asking_of statement) statement.hold output refused
    ⊎ IsPutOff books (from_to before now) (asking_of statement) statement.hold output refused
IsDone books before now (action.Release session) output refused =
    ReleasesOne books before now session.name (waiting_in session.name before.waiting) output refused
IsDone books before now action.Compact output refused = DoneBeside IsCompacting Compacts before now output refused
IsDone books before now action.Clean output refused = DoneBeside IsCleaning Cleans before now output refused

-- and by several, one after another
abbrev pub AreDone : Change (List Entry) → Standing → Standing → List Action → List ℕ → Bool → Type 0
AreDone books before now [] output refused = (now ≡ before) × (output ≡ []) × (refused ≡ false)
AreDone books before now (first ∷ more) output refused =
    (between : Standing) × (reply : List ℕ) × (rest : List ℕ) × (this : Bool) × (later : Bool)
    × IsDone books before between first reply this × AreDone books between now more rest later
    × (output ≡ reply ++ rest) × (refused ≡ this || later)

-- ---- one statement of a session after another

-- no statement of its session waits where an action opens one
abbrev pub IsInTurn : Standing → Action → Type 0
IsInTurn before (action.Announce session) = Unit {0}
IsInTurn before (action.Run statement) = waiting_in statement.session.name before.waiting ≡ None
IsInTurn before (action.Release session) = Unit {0}
IsInTurn before action.Compact = Unit {0}
IsInTurn before action.Clean = Unit {0}
IsInTurn before action.Barrier = Unit {0}

-- and so it was before each of these actions, as they were done: the last statement of the session had ended
abbrev pub AreInTurn : (books : Change (List Entry)) (before now : Standing) (actions : List Action) (output : List ℕ)
    (refused : Bool)
    → AreDone books before now actions output refused → Type 0
AreInTurn books before now [] output refused done = Unit {0}
AreInTurn books before now (first ∷ more) output refused done =
    IsInTurn before first × AreInTurn books done.0 now more done.2 done.4 done.6
