-- What holds of every state whose entries fit, whatever transactions are open: the tables are those that were made, by
-- their numbers; each write id has the transaction that it was given to, and each write is one of a transaction that has
-- committed.
use Rattle.std.specs.Prelude.{◌≡◌, ◌≢◌, ℕ, ◌+◌, ◌≤◌, Option, Some, None, List, [], ◌∷◌, length, map}
use Rattle.std.specs.List.{AllByRecursion}
use Rattle.std.specs.List.Sorted.{IsStrictlySortedBy}
use Rattle.hv_value.specs.declared.row.Row.{Row}
use Rattle.hv_history.specs.hv_meaning.specs.hv_typing.specs.hv_logic.specs.declared.catalog.Shape.{Shape}
use Rattle.hv_history.specs.hv_meaning.specs.hv_typing.specs.hv_logic.specs.declared.catalog.TableInfo.{TableInfo}
use Rattle.hv_history.specs.hv_meaning.specs.hv_typing.specs.hv_logic.specs.declared.effect.Effect.{Effect}
use Rattle.hv_history.specs.hv_meaning.specs.hv_typing.specs.hv_logic.specs.declared.meaning.Meaning.{Meaning}
use Rattle.hv_history.specs.hv_meaning.specs.hv_typing.specs.hv_logic.specs.declared.meaning.Meaning.TheVariants.{Change}
use Rattle.hv_history.specs.hv_meaning.specs.hv_typing.specs.hv_logic.specs.Rows.{found_cmp}
use Rattle.hv_history.specs.hv_meaning.specs.hv_typing.specs.Columns.{columns_of}
use Rattle.hv_history.specs.hv_meaning.specs.hv_route.specs.Back.{AreFlat}
use Rattle.hv_history.specs.hv_meaning.specs.hv_route.specs.Routes.{numbered_rows}
use Rattle.hv_history.specs.declared.state.Written.{Written}
use Rattle.hv_history.specs.declared.state.Statement.{Statement}
use Rattle.hv_history.specs.declared.state.Table.{Table}
use Rattle.hv_history.specs.declared.state.Ending.{Ending}
use Rattle.hv_history.specs.declared.state.Ending.TheVariants.{Committed}
use Rattle.hv_history.specs.declared.state.Transaction.{Transaction}
use Rattle.hv_history.specs.State.{State, numbered, given_in}
use Rattle.hv_history.specs.Legal.{IsStatement}
use Rattle.hv_stands.specs.Files.{ending_of}

-- the table at place k has the number first + k
abbrev pub NumberedFrom : ℕ → List Table → Type 0
NumberedFrom first [] = Unit {0}
NumberedFrom first (table ∷ tables) = (table.info.table.0 ≡ first) × NumberedFrom (first + 1) tables

-- ---- writes

-- the row has a value for every column, those of the partition columns behind those of the table's own
abbrev pub HasAllValues : Shape → Row → Type 0
HasAllValues shape row = length row.values ≡ length (columns_of shape)

-- a change of a table of this shape: its inserted rows as they stand there under its write id, and the rows that it deleted,
-- each once, in the order in which rows stand
pub record IsRoutedWrite (shape : Shape) (written : Written) : Type 0 where
  pub rows : List Row
  pub whole : AllByRecursion (HasAllValues shape) rows
  pub numbered : written.inserts ≡ numbered_rows shape written.write written.statement rows
  pub deletes : IsStrictlySortedBy found_cmp written.deletes

abbrev pub HasOther : ℕ → Written → Type 0
HasOther write other = other.write ≢ write

-- no two of these writes have one write id
abbrev pub AreApart : List Written → Type 0
AreApart [] = Unit {0}
AreApart (written ∷ writes) = AllByRecursion (HasOther written.write) writes × AreApart writes

-- in the order of their commits
pub record HasSoundWrites (table : Table) : Type 0 where
  pub each : AllByRecursion (IsRoutedWrite table.info.shape) table.writes
  pub apart : AreApart table.writes

-- no more write ids were given than there are entries
abbrev pub HasFewOwners : ℕ → Table → Type 0
HasFewOwners most table = length table.owners ≤ most

-- no partition column is an ARRAY
abbrev pub HasFlatParts : Table → Type 0
HasFlatParts table = AreFlat table.info.shape.parts

pub record AreSound (most : ℕ) (tables : List Table) : Type 0 where
  pub flat : AllByRecursion HasFlatParts tables
  pub in_order : NumberedFrom 1 tables
  pub few : AllByRecursion (HasFewOwners most) tables
  pub written : AllByRecursion HasSoundWrites tables

-- ---- transactions

abbrev pub info_in : Table → TableInfo
info_in table = table.info

-- a change of a table that has this description among these, by its number
pub record IsRoutedChange (infos : List TableInfo) (info : TableInfo) (effect : Effect) : Type 0 where
  pub here : numbered infos info.table.0 ≡ Some info
  pub whole : AllByRecursion (HasAllValues info.shape) effect.inserts
  pub deletes : IsStrictlySortedBy found_cmp effect.deletes

-- what a statement means changes one of these tables, where it changes one
abbrev pub ChangesAmong : List TableInfo → Option Meaning → Type 0
ChangesAmong infos (Some (Change info effect)) = IsRoutedChange infos info effect
ChangesAmong infos _ = Unit {0}

-- it has one statement
pub record IsSingle (infos : List TableInfo) (transaction : Transaction) : Type 0 where
  pub statement : Statement
  pub one : transaction.statements ≡ statement ∷ []
  pub text : IsStatement statement.text
  pub changes : ChangesAmong infos statement.meaning

abbrev pub given_of : Transaction → List (ℕ × ℕ)
given_of transaction = transaction.given

abbrev pub owners_of : Table → List ℕ
owners_of table = table.owners

-- the write id that one was given in a table, and the transaction that has a write id
abbrev pub given_among : Option (List (ℕ × ℕ)) → ℕ → Option ℕ
given_among None table = None
given_among (Some given) table = given_in table given

abbrev pub owner_among : Option (List ℕ) → ℕ → Option ℕ
owner_among None write = None
owner_among (Some owners) write = numbered owners write

-- a transaction has just the write ids that were given to it
pub record AreGiven (given : List (List (ℕ × ℕ))) (owners : List (List ℕ)) : Type 0 where
  pub has_owner : (txn table write : ℕ) → given_among (numbered given txn) table ≡ Some write → owner_among (numbered owners table) write ≡ Some txn
  pub is_given : (txn table write : ℕ) → owner_among (numbered owners table) write ≡ Some txn → given_among (numbered given txn) table ≡ Some write

-- the transaction has committed
abbrev pub IsDone : Option (Option Ending) → Type 0
IsDone (Some (Some (Committed place wrote))) = Unit {0}
IsDone _ = ⊥

abbrev pub IsOfCommitted : List (Option Ending) → List ℕ → Written → Type 0
IsOfCommitted endings owners written = (txn : ℕ) × (numbered owners written.write ≡ Some txn) × IsDone (numbered endings txn)

-- each write of a table is one of a transaction that has committed
abbrev pub AreOfCommitted : List (Option Ending) → Table → Type 0
AreOfCommitted endings table = AllByRecursion (IsOfCommitted endings table.owners) table.writes

-- ---- states

-- whatever jobs there are, and whichever ids were forgotten (of these: hv_law_jobs, and hv_law_made's `IsSoundBook`)
pub record IsSound (state : State) : Type 0 where
  pub tables : AreSound state.entries state.tables
  pub single : AllByRecursion (IsSingle (map info_in state.tables)) state.transactions
  pub given : AreGiven (map given_of state.transactions) (map owners_of state.tables)
  pub committed : AllByRecursion (AreOfCommitted (map ending_of state.transactions)) state.tables
