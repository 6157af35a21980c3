-- A statement on its way through the book, whatever other transactions are open beside it: it was opened, it has started, it
-- has ended. What is said of it stays true while entries of others follow.
use Rattle.std.specs.Prelude.{◌≡◌, ℕ, ◌+◌, ◌<◌, ◌≤◌, Bool, true, false, Option, Some, None, List, [], ◌∷◌, length, take}
use Rattle.std.specs.List.{AllByRecursion}
use Rattle.std.specs.FinMap as tree
use Rattle.hv_shelf.specs.declared.place.Place.{Place}
use Rattle.hv_shelf.specs.Disk.{Store, Tree}
use Rattle.hv_ast.specs.declared.statement.Stmt.{Stmt}
use Rattle.hv_history.specs.hv_built.specs.Running.{Runs}
use Rattle.hv_history.specs.hv_meaning.specs.hv_typing.specs.hv_logic.specs.declared.catalog.TableInfo.{TableInfo}
use Rattle.hv_history.specs.hv_meaning.specs.hv_typing.specs.hv_logic.specs.declared.effect.Effect.{Effect}
use Rattle.hv_history.specs.hv_meaning.specs.hv_typing.specs.hv_logic.specs.declared.meaning.Meaning.{Meaning}
use Rattle.hv_history.specs.declared.entry.Entry.{Entry}
use Rattle.hv_history.specs.declared.entry.Entry.TheVariants as entry
use Rattle.hv_history.specs.declared.entry.Cause.{Cause}
use Rattle.hv_history.specs.declared.entry.Cause.TheVariants as cause
use Rattle.hv_history.specs.declared.state.Ending.{Ending}
use Rattle.hv_history.specs.declared.state.Ending.TheVariants.{Aborted}
use Rattle.hv_history.specs.declared.state.Table.{Table}
use Rattle.hv_history.specs.declared.state.Snapshot.{Snapshot}
use Rattle.hv_history.specs.declared.state.Transaction.{Transaction}
use Rattle.hv_history.specs.State.{State, state_of, numbered, opened, means, written_by}
use Rattle.hv_history.specs.Answers.{answer}
use Rattle.hv_history.specs.Lasting.{txn_of}
use Rattle.hv_stands.specs.Files.{own_dir, file_at, IsEncoded}

-- ---- who asked for it

pub record Asking : Type 0 where
  pub session : List ℕ
  pub number : ℕ
  pub text : List ℕ

-- the number of the transaction that is opened next
abbrev pub next_number : List Entry → ℕ
next_number book = length (state_of book).transactions + 1

abbrev pub opening : List Entry → Asking → Entry
opening book asking = entry.Opened (record { 0 = next_number book }) asking.session asking.number asking.text

abbrev pub starting : ℕ → Entry
starting txn = entry.Start (record { 0 = txn }) 0

-- ---- whose an entry is: whose record it changes, and who adds it

abbrev pub owner_of : Entry → Option ℕ
owner_of (entry.Opened txn session number text) = Some txn.0
owner_of event = txn_of event

-- no abort that another transaction asks for
abbrev pub IsOwnCause : Cause → Type 0
IsOwnCause (cause.Request by) = ⊥
IsOwnCause why = Unit {0}

-- an abort that another transaction asks for is added by that one, and a job by the one that asks for it; 0 is nobody
abbrev pub adder_of : Entry → Option ℕ
adder_of (entry.Abort txn (cause.Request by)) = Some by.0
adder_of (entry.Asked job table partition kind by) = Some by
adder_of event = owner_of event

abbrev pub IsOf : ℕ → Entry → Type 0
IsOf txn event = adder_of event ≡ Some txn

abbrev pub AreOf : ℕ → List Entry → Type 0
AreOf txn events = AllByRecursion (IsOf txn) events

abbrev pub IsNotOf : ℕ → Entry → Type 0
IsNotOf txn event = owner_of event ≡ Some txn → ⊥

abbrev pub AreNotOf : ℕ → List Entry → Type 0
AreNotOf txn events = AllByRecursion (IsNotOf txn) events

-- ---- what it means: what its tree comes to in the state of the book at its snapshot

abbrev pub meant : List Entry → Stmt → Option Meaning
meant book tree = means (state_of book) (Some tree)

-- the snapshot at this place of a book
abbrev pub snapshot_at : List Entry → ℕ → Snapshot
snapshot_at book place =
    record { place = place; tables = (state_of (take place book)).tables; opened = length (state_of (take place book)).transactions }

-- ---- how far it has come

-- its transaction has these write ids, and is open
abbrev pub running : Asking → Option Meaning → Snapshot → List (ℕ × ℕ) → Transaction
running asking meaning snapshot given = record {
  session = asking.session;
  statements = record { number = asking.number; text = asking.text; meaning = meaning; wrote = [] } ∷ [];
  snapshot = Some snapshot;
  given = given;
  ending = None;
}

-- it was opened and hasn't started
pub record IsWaiting (book : List Entry) (asking : Asking) (txn : ℕ) (tree : Stmt) : Type 0 where
  pub runs : Runs asking.text tree
  pub here : numbered (state_of book).transactions txn ≡ Some (opened asking.session asking.number asking.text)

-- It has started: its snapshot was taken at this place of the book, and it means what its tree came to there. These write
-- ids were given to it.
pub record IsUnderWay (book : List Entry) (asking : Asking) (txn place : ℕ) (tree : Stmt) (given : List (ℕ × ℕ)) : Type 0 where
  pub runs : Runs asking.text tree
  pub early : place < length book
  pub here : numbered (state_of book).transactions txn
      ≡ Some (running asking (meant (take place book) tree) (snapshot_at book place) given)

abbrev pub is_abort : Option Ending → Bool
is_abort (Some (Aborted place cause)) = true
is_abort _ = false

abbrev pub is_refused_transaction : Option Transaction → Bool
is_refused_transaction None = false
is_refused_transaction (Some transaction) = is_abort transaction.ending

-- whether the transaction of that number was aborted
abbrev pub is_refused : State → ℕ → Bool
is_refused state txn = is_refused_transaction (numbered state.transactions txn)

-- it has ended: this is its answer, and whether that is a refusal
pub record HasAnswered (book : List Entry) (txn : ℕ) (reply : List ℕ) (refused : Bool) : Type 0 where
  pub answer_is : answer (state_of book) txn ≡ Some reply
  pub refusal : is_refused (state_of book) txn ≡ refused

-- ---- its files

-- the place is in an own directory of this write id, of either kind and any statement
pub record IsOfId (table write : ℕ) (place : Place) : Type 0 where
  pub table_is : place.table.0 ≡ table
  pub deletes : Bool
  pub statement : ℕ
  pub dir : place.dir ≡ own_dir deletes write statement

-- in the own directories of this write id stand just the files of this change, which can be read again
pub record HasPut (files : Tree) (info : TableInfo) (write : ℕ) (effect : Effect) : Type 0 where
  pub own : (place : Place) → IsOfId info.table.0 write place
      → tree.get files place ≡ file_at info.shape (written_by info.shape write 0 effect) place
  pub encoded : IsEncoded info.shape (written_by info.shape write 0 effect)

-- the place is in an own directory of a write id that was given
pub record IsGiven (tables : List Table) (place : Place) : Type 0 where
  pub table : Table
  pub named : numbered tables place.table.0 ≡ Some table
  pub write : ℕ
  pub first : 1 ≤ write
  pub last : write ≤ length table.owners
  pub own : IsOfId place.table.0 write place

-- the files of write ids that were given are as they were
abbrev pub KeepsGiven : List Table → Store → Store → Type 0
KeepsGiven tables before now = (place : Place) → IsGiven tables place → tree.get now.tree place ≡ tree.get before.tree place
