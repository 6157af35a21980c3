-- How a statement is taken up, held and ended, beside others that are open: what is added to the book, and what is replied.
-- Source: Hive Transactions (snapshots, locks, first committer wins); where a statement may be held is this project's profile.
use Rattle.std.specs.Prelude.{◌≡◌, ◌⊎◌, ℕ, ◌+◌, ◌<◌, Bool, true, Option, Some, None, List, [], ◌∷◌, ◌++◌, length, take}
use Rattle.std.specs.List.{AllByRecursion}
use Rattle.hv_base.specs.declared.gate.Stage.{Stage}
use Rattle.hv_base.specs.declared.gate.Stage.TheVariants as stage
use Rattle.hv_ast.specs.declared.statement.Stmt.{Stmt}
use Rattle.hv_built.specs.Running.{Runs}
use Rattle.hv_logic.specs.declared.meaning.Meaning.{Meaning}
use Rattle.hv_history.specs.declared.entry.Entry.{Entry}
use Rattle.hv_history.specs.declared.entry.Entry.TheVariants as entry
use Rattle.hv_history.specs.declared.entry.Cause.{Cause}
use Rattle.hv_history.specs.declared.entry.Cause.TheVariants as cause
use Rattle.hv_history.specs.declared.state.Ending.TheVariants.{Aborted}
use Rattle.hv_history.specs.State.{meaning, state_of}
use Rattle.hv_history.specs.Legal.{Of, HasAsked, load, profile}
use Rattle.hv_history.specs.Answers.{cause_text}
use Rattle.hv_stands.specs.Running.{Asking, next_number, opening, starting, AreOf, meant, IsUnderWay}
use Rattle.hv_law_next.specs.Order.{AllInOrder}
use Rattle.hv_law_next.specs.Carrying.{IsAtHold, HasAskedAt}
use Rattle.hv_beginning.specs.hv_steps.specs.Ending.{IsUndamaged, IsAskBy, AddsNoneOrOne, AddsAbort, CanEnd, EndCanBeNoted, EndIsTrue, aborting, asking_for, HasReplied}
use Rattle.hv_beginning.specs.hv_steps.specs.hv_table_reader.specs.hv_acts.specs.hv_telling.specs.hv_house.specs.Asking.{holder_against, CanBegin}
use Rattle.hv_session.specs.Doing.{IsUnrefused}
use Rattle.hv_session.specs.Faults.{IsFaultLine}
use Rattle.hv_session.specs.declared.asking.Asking.{Asking as Handed}
use Rattle.hv_session.specs.declared.paused.Point.{Point}
use Rattle.hv_session.specs.declared.paused.Point.TheVariants as point
use Rattle.hv_session.specs.declared.paused.Paused.{Paused}
use Rattle.hv_session.specs.declared.paused.Taken.{Taken}
use Rattle.hv_session.specs.declared.paused.Taken.TheVariants as taken

-- ---- who asks for it

-- what the book keeps of it
abbrev pub asked_of : Handed → Asking
asked_of handed = record { session = handed.session; number = handed.number; text = handed.text }

-- ---- whether it starts

-- Why a statement of this tree can't start behind this book: this transaction is the lowest that holds a lock against it; or none holds
-- one, and there is no room. Where memory lacked to say so, that is said.
abbrev pub IsWhyNot : List Entry → Stmt → Cause → Type 0
IsWhyNot book tree (cause.Blocked holder) = holder_against book tree ≡ Some holder.0
IsWhyNot book tree cause.Full = (holder_against book tree ≡ None) × (profile.entries < load (state_of book) + 3)
IsWhyNot book tree cause.Memory = CanBegin profile book tree → ⊥
IsWhyNot book tree why = ⊥

-- behind its Opened stands its Start where it can start, and else just its abort, for what stands in its way
abbrev pub StartsIfItCan : List Entry → Stmt → ℕ → List Entry → Type 0
StartsIfItCan book tree txn added =
    (CanBegin profile book tree × ((rest : List Entry) × (added ≡ starting txn ∷ rest)))
    ⊎ ((why : Cause) × IsWhyNot book tree why × (added ≡ aborting txn why ∷ []))

-- ---- where it may be held, and which ends come before that

-- an abort by which a statement ends before it is held where its files are read: for its text, for a read that failed, or for memory
abbrev pub EndsEarly : Cause → Type 0
EndsEarly (cause.Refused number) = Unit {0}
EndsEarly (cause.ReadFault count) = Unit {0}
EndsEarly (cause.Damaged place) = Unit {0}
EndsEarly cause.Memory = Unit {0}
EndsEarly why = ⊥

-- behind its Opened stands just an abort: it never started
abbrev pub NeverStarted : ℕ → List Entry → Type 0
NeverStarted txn added = (why : Cause) × (added ≡ entry.Abort (record { 0 = txn }) why ∷ [])

-- it started, and behind its Start stands just this abort
abbrev pub AbortedAtOnce : ℕ → (Cause → Type 0) → List Entry → Type 0
AbortedAtOnce txn P added =
    (why : Cause) × P why × (added ≡ entry.Start (record { 0 = txn }) 0 ∷ entry.Abort (record { 0 = txn }) why ∷ [])

-- or behind what it asked for, and its write id
abbrev pub AbortedBehind : ℕ → List Entry → Type 0
AbortedBehind txn added =
    (asks : List Entry) × (more : List Entry) × AllByRecursion (IsAskBy txn) asks × AddsAbort txn more
    × (added ≡ starting txn ∷ (asks ++ more))

-- what may stand behind the Opened of a statement that ended before the place where it was to be held
abbrev pub EndsBefore : Option Stage → ℕ → List Entry → Type 0
EndsBefore None txn added = Unit {0}
EndsBefore (Some stage.Start) txn added = NeverStarted txn added
EndsBefore (Some stage.Read) txn added = NeverStarted txn added ⊎ AbortedAtOnce txn EndsEarly added
EndsBefore (Some stage.Commit) txn added = NeverStarted txn added ⊎ AbortedBehind txn added
EndsBefore (Some other) txn added = ⊥

abbrev pub HasJustStarted : ℕ → List Entry → Type 0
HasJustStarted txn added = added ≡ entry.Start (record { 0 = txn }) 0 ∷ []

-- it has asked for the aborts that its text lists, and has its write id where it needs one
abbrev pub HasReadied : ℕ → List Entry → Type 0
HasReadied txn added =
    (asks : List Entry) × (first : List Entry) × AllByRecursion (IsAskBy txn) asks × AddsNoneOrOne txn first
    × (added ≡ starting txn ∷ (asks ++ first))

-- and behind that of one that is held
abbrev pub HoldsAt : Option Stage → ℕ → List Entry → Type 0
HoldsAt (Some stage.Start) txn added = HasJustStarted txn added
HoldsAt (Some stage.Read) txn added = HasJustStarted txn added
HoldsAt (Some stage.Commit) txn added = HasReadied txn added
HoldsAt other txn added = ⊥

-- ---- a statement that is held

-- where it was to be held, there it is
abbrev pub IsAtPlace : Option Stage → Point → Type 0
IsAtPlace (Some stage.Start) point.Started = Unit {0}
IsAtPlace (Some stage.Read) (point.Meant meaning) = Unit {0}
IsAtPlace (Some stage.Commit) (point.Ready ready) = Unit {0}
IsAtPlace hold other = ⊥

-- its transaction is under way; before its commit it has no write id
abbrev pub HasNone : Point → List (ℕ × ℕ) → Type 0
HasNone (point.Ready ready) given = Unit {0}
HasNone other given = given ≡ []

-- what it comes to can be ended, and its end can be noted
abbrev pub CanEndAt : List Entry → ℕ → List (ℕ × ℕ) → Point → Type 0
CanEndAt book txn given point.Started = Unit {0}
CanEndAt book txn given (point.Meant meaning) = CanEnd book meaning
CanEndAt book txn given (point.Ready ready) = EndCanBeNoted book txn given ready.end

abbrev pub WaitsUnrefused : Point → Type 0
WaitsUnrefused (point.Meant meaning) = IsUnrefused meaning
WaitsUnrefused other = Unit {0}

pub record IsHeld (book : List Entry) (asking : Asking) (paused : Paused) : Type 0 where
  pub given : List (ℕ × ℕ)
  pub under_way : IsUnderWay book asking paused.way.txn.0 paused.way.place paused.tree given
  pub none : HasNone paused.point given
  pub can : CanEndAt book paused.way.txn.0 given paused.point
  pub unrefused : WaitsUnrefused paused.point

abbrev pub IsHeldBySome : List Entry → Paused → Type 0
IsHeldBySome book paused = (asking : Asking) × IsHeld book asking paused

abbrev pub PointIsTrue : Option Meaning → List (ℕ × ℕ) → Point → Type 0
PointIsTrue meaning given point.Started = Unit {0}
PointIsTrue meaning given (point.Meant found) = meaning ≡ Some found
PointIsTrue meaning given (point.Ready ready) = EndIsTrue meaning given ready.end ready.text

-- where it is ready it has asked for all aborts that its text lists
abbrev pub HasAskedAtPoint : List Entry → ℕ → Point → Type 0
HasAskedAtPoint book txn (point.Ready ready) = Of (state_of book) txn
    (λ transaction. HasAsked (state_of book) txn transaction (meaning transaction))
HasAskedAtPoint book txn other = Unit {0}

-- and, in a told house, it has come to what its text means
pub record IsTrulyHeld (book : List Entry) (paused : Paused) : Type 0 where
  pub asking : Asking
  pub held : IsHeld book asking paused
  pub truly : PointIsTrue (meant (take paused.way.place book) paused.tree) held.given paused.point
  pub asked : HasAskedAtPoint book paused.way.txn.0 paused.point

-- another statement has asked for the abort of this transaction, by the entry that stands here
pub record WasStopped (book : List Entry) (txn : ℕ) : Type 0 where
  pub by : ℕ
  pub front : List Entry
  pub rest : List Entry
  pub book_is : book ≡ front ++ asking_for by txn ∷ rest
  pub ended : Of (state_of book) txn (λ t. t.ending ≡ Some (Aborted (length front) (cause.Request (record { 0 = by }))))

-- ---- what a statement that was taken up comes to, in a told house

-- It went through the book as a transaction, whose answer is the reply. It started at once where it could, and its entries come in the
-- order of its way.
pub record WentThrough (before now : List Entry) (asking : Asking) (hold : Option Stage) (reply : List ℕ)
    (refused : Bool) (ended : Option ℕ) : Type 0 where
  pub added : List Entry
  pub book : now ≡ before ++ opening before asking ∷ added
  pub tree : Stmt
  pub runs : Runs asking.text tree
  pub starts : StartsIfItCan before tree (next_number before) added
  pub of_it : AreOf (next_number before) added
  pub in_time : EndsBefore hold (next_number before) added
  pub undamaged : AllByRecursion IsUndamaged added
  pub answered : HasReplied now (next_number before) reply refused ended
  pub in_order : AllInOrder (state_of before) (opening before asking ∷ added)

-- its text is refused: nothing was noted, and the reply is its fault's line
pub record IsNoStatement (before now : List Entry) (text reply : List ℕ) (refused : Bool)
    (ended : Option ℕ) : Type 0 where
  pub book : now ≡ before
  pub unended : ended ≡ None
  pub is_refused : refused ≡ true
  pub fault : IsFaultLine text reply

-- there is no room for its opening and its end
pub record IsFull (before now : List Entry) (reply : List ℕ) (refused : Bool) (ended : Option ℕ) : Type 0 where
  pub book : now ≡ before
  pub unended : ended ≡ None
  pub lacks : profile.entries < load (state_of before) + 2
  pub is_refused : refused ≡ true
  pub line : reply ≡ cause_text None cause.Full

-- memory lacked before its opening
pub record LacksMemory (before now : List Entry) (reply : List ℕ) (refused : Bool) (ended : Option ℕ) : Type 0 where
  pub book : now ≡ before
  pub unended : ended ≡ None
  pub is_refused : refused ≡ true
  pub line : reply ≡ cause_text None cause.Memory

abbrev pub IsReplied : List Entry → List Entry → Asking → Option Stage → List ℕ → Bool → Option ℕ → Type 0
IsReplied before now asking hold reply refused ended =
    WentThrough before now asking hold reply refused ended ⊎ IsNoStatement before now asking.text reply refused ended
    ⊎ IsFull before now reply refused ended ⊎ LacksMemory before now reply refused ended

-- it is held, with its transaction open: nothing is left of it that comes before its hold
pub record IsKept (before now : List Entry) (asking : Asking) (hold : Option Stage) (paused : Paused) : Type 0 where
  pub added : List Entry
  pub book : now ≡ before ++ opening before asking ∷ added
  pub txn_is : paused.way.txn.0 ≡ next_number before
  pub runs : Runs asking.text paused.tree
  pub can : CanBegin profile before paused.tree
  pub at_hold : HoldsAt hold (next_number before) added
  pub truly : IsTrulyHeld now paused
  pub in_order : AllInOrder (state_of before) (opening before asking ∷ added)
  pub up_to_hold : Of (state_of now) (next_number before)
      (λ transaction. IsAtHold hold transaction.given (meaning transaction)
      × HasAskedAt hold (state_of now) (next_number before) transaction)

abbrev pub IsTakenAs : List Entry → List Entry → Asking → Option Stage → Taken → Type 0
IsTakenAs before now asking hold (taken.Replied reply) = IsReplied before now asking hold reply.text reply.refused
    reply.ended
IsTakenAs before now asking hold (taken.Kept paused) = IsKept before now asking hold paused

-- what stands of one that is held whatever is told
abbrev pub IsKeptIn : List Entry → List Entry → Asking → Taken → Type 0
IsKeptIn before now asking (taken.Replied reply) = Unit {0}
IsKeptIn before now asking (taken.Kept paused) = (paused.way.txn.0 ≡ next_number before) × IsHeld now asking paused

-- a started statement went on to its end, by entries of it alone, in order, none of which says that a file is damaged
pub record IsFinished (before now : List Entry) (txn : ℕ) (reply : List ℕ) (refused : Bool)
    (ended : Option ℕ) : Type 0 where
  pub added : List Entry
  pub book : now ≡ before ++ added
  pub of_it : AreOf txn added
  pub undamaged : AllByRecursion IsUndamaged added
  pub answered : HasReplied now txn reply refused ended
  pub in_order : AllInOrder (state_of before) added
