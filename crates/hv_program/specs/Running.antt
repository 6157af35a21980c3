-- What the actions of a script have done, one after another.
use Rattle.std.specs.Prelude.{◌≡◌, ◌⊎◌, ℕ, ◌<◌, ◌≤◌, Bool, Option, Some, None, List, [], ◌∷◌, ◌++◌, length, option_map, IsSomeAnd}
use Rattle.std.specs.List.{AllByRecursion}
use Rattle.hv_base.specs.Told.{Moves}
use Rattle.hv_base.specs.Sink.{Gains, GainsPart}
use Rattle.hv_shelf.specs.Disk.{Store}
use Rattle.hv_history.specs.declared.entry.Entry.{Entry}
use Rattle.hv_history.specs.declared.entry.Entry.TheVariants as entry
use Rattle.hv_history.specs.State.{state_of}
use Rattle.hv_history.specs.Legal.{AllFit, IsLegal, IsLegalFrom, profile}
use Rattle.hv_history.specs.Journal.{Reads}
use Rattle.hv_script.specs.declared.actions.Action.{Action}
use Rattle.hv_script.specs.declared.actions.Action.TheVariants as action
use Rattle.hv_script.specs.declared.actions.Statement.{Statement}
use Rattle.hv_stands.specs.Running.{next_number, AreOf}
use Rattle.hv_session.specs.hv_beginning.specs.hv_steps.specs.hv_table_reader.specs.hv_acts.specs.hv_telling.specs.hv_house.specs.declared.fault.HouseFault.{HouseFault}
use Rattle.hv_session.specs.hv_beginning.specs.hv_steps.specs.hv_table_reader.specs.hv_acts.specs.hv_telling.specs.hv_house.specs.declared.fault.HouseFault.TheVariants as fault
use Rattle.hv_session.specs.hv_beginning.specs.hv_steps.specs.hv_table_reader.specs.hv_acts.specs.hv_telling.specs.hv_house.specs.House.{BeginFits, beginning_of, IsFaithful, Leaves}
use Rattle.hv_session.specs.hv_beginning.specs.hv_steps.specs.hv_table_reader.specs.hv_acts.specs.hv_telling.specs.Telling.{OpensLater}
use Rattle.hv_session.specs.hv_beginning.specs.hv_steps.specs.hv_table_reader.specs.hv_acts.specs.Meant.{IsNoEnd}
use Rattle.hv_session.specs.hv_beginning.specs.hv_steps.specs.Phases.{BegunBy}
use Rattle.hv_session.specs.Doing.{IsHold}
use Rattle.hv_program.specs.declared.stop.Stop.{Stop}
use Rattle.hv_program.specs.declared.stop.Stop.TheVariants as stop
use Rattle.hv_program.specs.Change.{Change, from_to}
use Rattle.hv_program.specs.Background.{IsCompacting, IsCleaning}
use Rattle.hv_program.specs.Doing.{Waiting, Standing, waiting_in, asking_of, IsDone, AreDone}
use Rattle.hv_program.specs.Own.{Grows}

-- ---- which actions a session takes

pub record IsShort (statement : Statement) : Type 0 where
  pub text : length statement.text ≤ 32768
  pub session : length statement.session.name ≤ 32
  pub hold : IsHold statement.hold

abbrev pub IsFine : Action → Type 0
IsFine (action.Run statement) = IsShort statement
IsFine other = Unit {0}

-- ---- one action

-- what the run began with
abbrev pub beginning : List Entry → Standing
beginning start = record { book = start; waiting = [] }

-- a transaction behind those of that book
abbrev pub IsLater : List Entry → Waiting → Type 0
IsLater start waiting = length (state_of start).transactions < waiting.txn

-- the run stands behind that book
pub record IsBehind (start : List Entry) (now : Standing) : Type 0 where
  pub grown : (more : List Entry) × (now.book ≡ start ++ more)
  pub later : AllByRecursion (IsLater start) now.waiting

-- the action was done, and this is its reply
pub record Acts (faults : Change ℕ) (before now : Standing) (action : Action) (reply : List ℕ)
    (refused : Bool) : Type 0 where
  pub grows : Grows faults.was faults.now before.book now.book
  pub done : (start : List Entry) → IsBehind start before
      → IsDone (from_to start now.book) before now action reply refused

-- the transaction of an action: of a statement the next one, and of a release that of the statement that waits
abbrev pub txn_of_waiting : Waiting → ℕ
txn_of_waiting waiting = waiting.txn

abbrev pub number_of : Standing → Action → Option ℕ
number_of standing (action.Announce session) = None
number_of standing action.Barrier = None
number_of standing (action.Run statement) = Some (next_number standing.book)
number_of standing (action.Release session) = option_map txn_of_waiting (waiting_in session.name standing.waiting)
number_of standing action.Compact = None
number_of standing action.Clean = None

-- entries of that transaction alone, and none where there is no transaction
abbrev pub AreOfSome : Option ℕ → List Entry → Type 0
AreOfSome None events = events ≡ []
AreOfSome (Some txn) events = AreOf txn events

-- or entries of compactions, or of cleaning, where the action is that
abbrev pub AreOfPass : Action → List Entry → Type 0
AreOfPass action.Compact events = AllByRecursion IsCompacting events
AreOfPass action.Clean events = AllByRecursion IsCleaning events
AreOfPass other events = ⊥

abbrev pub AreOfAction : Standing → Action → List Entry → Type 0
AreOfAction before action events = AreOfSome (number_of before action) events ⊎ AreOfPass action events

-- none of them ends that transaction
abbrev pub AreNoEnds : Option ℕ → List Entry → Type 0
AreNoEnds None events = Unit {0}
AreNoEnds (Some txn) events = AllByRecursion (IsNoEnd txn) events

-- what was noted of a statement's action, where anything was, begins with its Opened: of its session, with its number and its text
abbrev pub OpensOf : Action → List Entry → Type 0
OpensOf (action.Run statement) added = BegunBy (asking_of statement) added
OpensOf other added = Unit {0}

-- what was noted of an action fits behind the book, is legal where that is told, and doesn't end its transaction; of a pass it is entries of
-- that pass alone
pub record IsPartly (Told : Type 0) (before : Standing) (action : Action) (now : List Entry) : Type 0 where
  pub added : List Entry
  pub book : now ≡ before.book ++ added
  pub of_it : AreOfAction before action added
  pub fits : AllFit profile (state_of before.book) added
  pub legal : Told → IsLegalFrom profile (state_of before.book) added
  pub unended : AreNoEnds (number_of before action) added
  pub opens : OpensOf action added

-- the run stopped in this action: what was noted of it is legal behind the book, and doesn't end its transaction
pub record IsHalfway (before : Standing) (action : Action) (now : List Entry) : Type 0 where
  pub added : List Entry
  pub book : now ≡ before.book ++ added
  pub of_it : AreOfAction before action added
  pub legal : IsLegalFrom profile (state_of before.book) added
  pub unended : AreNoEnds (number_of before action) added
  pub opens : OpensOf action added

-- an Opened is that of the statement that was to be run: of its session, with its number and its text
abbrev pub OpensFor : Entry → Action → Type 0
OpensFor (entry.Opened txn session number text) (action.Run statement) =
    (session ≡ (asking_of statement).session) × (number ≡ (asking_of statement).number)
    × (text ≡ (asking_of statement).text)
OpensFor (entry.Opened txn session number text) other = ⊥
OpensFor event act = Unit {0}

abbrev pub IsOpenedFor : Action → Entry → Type 0
IsOpenedFor act event = OpensFor event act

-- the further entry that the journal may have, which fits behind the book
pub record IsFurther (before : Standing) (action : Action) (book further : List Entry) : Type 0 where
  pub of_it : AreOfSome (number_of before action) further
  pub opens : AllByRecursion (IsOpenedFor action) further
  pub few : length further ≤ 1
  pub fit : AllFit profile (state_of book) further

-- or where a statement was to be opened and started at once: just these two, which fit
pub record AreBeginning (before : Standing) (statement : Statement) (book further : List Entry) : Type 0 where
  pub same : book ≡ before.book
  pub fits : BeginFits before.book (asking_of statement)
  pub further_is : further ≡ beginning_of before.book (asking_of statement)

-- or one of a compaction, or of cleaning
pub record IsFurtherBeside (IsBeside : Entry → Type 0) (further : List Entry) : Type 0 where
  pub each : AllByRecursion IsBeside further
  pub few : length further ≤ 1

abbrev pub FollowsOf : Standing → Action → List Entry → List Entry → Type 0
FollowsOf before (action.Announce session) book further = ⊥
FollowsOf before (action.Run statement) book further = AreBeginning before statement book further
FollowsOf before (action.Release session) book further = ⊥
FollowsOf before action.Barrier book further = ⊥
FollowsOf before action.Compact book further = IsFurtherBeside IsCompacting further
FollowsOf before action.Clean book further = IsFurtherBeside IsCleaning further

abbrev pub AreFurther : Standing → Action → List Entry → List Entry → Type 0
AreFurther before action book further = IsFurther before action book further ⊎ FollowsOf before action book further

-- The journal reads to the book, and where the store failed, to the book or to the book and such further entries.
abbrev pub LeavesFurther : HouseFault → Option Store → Standing → Action → List Entry → Type 0
LeavesFurther why told before action now = (further : List Entry) × AreFurther before action now further
    × Leaves why further told now

-- the action wasn't done to its end
pub record Stops (Told : Type 0) (why : HouseFault) (told : Option Store) (before : Standing) (action : Action)
    (now : List Entry) : Type 0 where
  pub halfway : IsPartly Told before action now
  pub leaves : LeavesFurther why told before action now

-- ---- several

-- the run stands there by these actions, and their replies were written
pub record Prints (faults : Change ℕ) (start : List Entry) (now : Standing) (actions : List Action)
    (sinks : Change (Option (List ℕ))) (refused : Bool) : Type 0 where
  pub grows : Grows faults.was faults.now start now.book
  pub later : AllByRecursion (IsLater start) now.waiting
  pub output : List ℕ
  pub written : Moves (Gains output) sinks.was sinks.now
  pub are_done : AreDone (from_to start now.book) (beginning start) now actions output refused

abbrev pub PrintsAll : Change ℕ → List Entry → List Entry → List Action → Change (Option (List ℕ)) → Bool → Type 0
PrintsAll faults start book actions sinks refused =
    (waiting : List Waiting) × Prints faults start (record { book = book; waiting = waiting }) actions sinks refused

-- a front of the reply was written behind what was written before
abbrev pub EndsWithin : List ℕ → List ℕ → List ℕ → List ℕ → Type 0
EndsWithin output reply before now = GainsPart reply (before ++ output) now

-- the sink failed in the reply of this action
pub record CutsOff (faults : Change ℕ) (start book : List Entry) (actions : List Action)
    (sinks : Change (Option (List ℕ))) : Type 0 where
  pub front : List Action
  pub action : Action
  pub behind : List Action
  pub actions_are : actions ≡ front ++ action ∷ behind
  pub before : Standing
  pub waiting : List Waiting
  pub grows : Grows faults.was faults.now start book
  pub output : List ℕ
  pub refused : Bool
  pub are_done : AreDone (from_to start book) (beginning start) before front output refused
  pub reply : List ℕ
  pub this : Bool
  pub is_done : IsDone (from_to start book) before (record { book = book; waiting = waiting }) action reply this
  pub written : Moves (EndsWithin output reply) sinks.was sinks.now

-- the run stopped in this action, for this reason
pub record StopsIn (why : HouseFault) (told : Option Store) (faults : Change ℕ) (books : Change (List Entry))
    (actions : List Action) (sinks : Change (Option (List ℕ))) : Type 0 where
  pub front : List Action
  pub action : Action
  pub behind : List Action
  pub actions_are : actions ≡ front ++ action ∷ behind
  pub before : Standing
  pub grows : Grows faults.was faults.now books.was before.book
  pub legal : IsLegal profile before.book
  pub stops : Stops (Unit {0}) why told before action books.now
  pub output : List ℕ
  pub refused : Bool
  pub are_done : AreDone books (beginning books.was) before front output refused
  pub written : Moves (Gains output) sinks.was sinks.now

abbrev pub HasAll : List Entry → Store → Type 0
HasAll book store = Reads book store.journal × IsFaithful book store

-- the reasons for which a run stops, and what each leaves
abbrev pub Halts : Stop → Change ℕ → Change (List Entry) → List Action → Change (Option (List ℕ)) → Option Store
    → Type 0
Halts stop.Source faults books actions sinks told = ⊥
Halts stop.Sink faults books actions sinks told = CutsOff faults books.was books.now actions sinks
    × IsSomeAnd told (HasAll books.now)
Halts stop.Store faults books actions sinks told = StopsIn fault.Store told faults books actions sinks
    × IsSomeAnd told (OpensLater books.now)
Halts stop.NoMemory faults books actions sinks told = StopsIn fault.NoMemory told faults books actions sinks
    × IsSomeAnd told (OpensLater books.now)
