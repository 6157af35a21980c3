-- What is true of every longer book: what a transaction has it keeps, and what a table has.
use Rattle.std.specs.Prelude.{◌≡◌, ℕ, Option, Some, None, IsSomeAnd, List, [], ◌∷◌, ◌++◌}
use Rattle.hv_meaning.specs.hv_typing.specs.hv_logic.specs.declared.meaning.Meaning.{Meaning}
use Rattle.hv_history.specs.declared.entry.Entry.{Entry}
use Rattle.hv_history.specs.declared.entry.Entry.TheVariants as entry
use Rattle.hv_history.specs.declared.state.Table.{Table}
use Rattle.hv_history.specs.declared.state.Statement.{Statement}
use Rattle.hv_history.specs.declared.state.Snapshot.{Snapshot}
use Rattle.hv_history.specs.declared.state.Ending.{Ending}
use Rattle.hv_history.specs.declared.state.Transaction.{Transaction}
use Rattle.hv_history.specs.State.{State, numbered}

-- the same statement later: it means what it meant, once it has started
pub record StatementLater (before now : Statement) : Type 0 where
  pub number : now.number ≡ before.number
  pub text : now.text ≡ before.text
  pub meaning : (m : Meaning) → before.meaning ≡ Some m → now.meaning ≡ Some m

abbrev pub AllLater : List Statement → List Statement → Type 0
AllLater [] [] = Unit {0}
AllLater (before ∷ xs) (now ∷ ys) = StatementLater before now × AllLater xs ys
AllLater _ _ = ⊥

-- the list goes on
pub record IsFront {A : Type 0} (before now : List A) : Type 0 where
  pub more : List A
  pub is : now ≡ before ++ more

-- The same transaction later: its snapshot is fixed, its ids stay, and when it has ended nothing of it changes.
pub record Later (before now : Transaction) : Type 0 where
  pub session : now.session ≡ before.session
  pub statements : AllLater before.statements now.statements
  pub snapshot : (s : Snapshot) → before.snapshot ≡ Some s → now.snapshot ≡ Some s
  pub given : IsFront before.given now.given
  pub ending : (e : Ending) → before.ending ≡ Some e → now ≡ before

-- the same table later: its shape and its number stay, and more ids may be given and more be written
pub record TableLater (before now : Table) : Type 0 where
  pub info : now.info ≡ before.info
  pub owners : IsFront before.owners now.owners
  pub writes : IsFront before.writes now.writes
  pub forgotten : IsFront before.forgotten now.forgotten

-- each transaction and each table is there later
pub record GoesOn (before now : State) : Type 0 where
  pub transactions : (n : ℕ) (t : Transaction) → numbered before.transactions n ≡ Some t → IsSomeAnd (numbered now.transactions n) (Later t)
  pub tables : (n : ℕ) (t : Table) → numbered before.tables n ≡ Some t → IsSomeAnd (numbered now.tables n) (TableLater t)

-- the transaction that an entry is about
abbrev pub txn_of : Entry → Option ℕ
txn_of (entry.Start txn statement) = Some txn.0
txn_of (entry.Given txn table write) = Some txn.0
txn_of (entry.Commit txn wrote) = Some txn.0
txn_of (entry.Abort txn cause) = Some txn.0
txn_of (entry.Create txn table) = Some txn.0
txn_of (entry.Drop txn table) = Some txn.0
txn_of _ = None
