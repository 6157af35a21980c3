-- What the marks of a house's trail say of the files in its store: where an open transaction changes rows, and no call on files
-- failed for it, a file stands in its own directories just where it has a mark of one, and it is the file of its change.
-- Source: this project's profile.
use Rattle.std.specs.Prelude.{◌≡◌, ◌⊎◌, ℕ, Option, Some, None, List, [], ◌∷◌, Contains}
use Rattle.std.specs.List.{AllByRecursion}
use Rattle.std.specs.FinMap as tree
use Rattle.hv_shelf.specs.declared.place.Place.{Place}
use Rattle.hv_shelf.specs.Disk.{Tree}
use Rattle.hv_logic.specs.declared.catalog.TableInfo.{TableInfo}
use Rattle.hv_logic.specs.declared.effect.Effect.{Effect}
use Rattle.hv_logic.specs.declared.meaning.Meaning.TheVariants.{Change}
use Rattle.hv_route.specs.declared.files.OutFile.{OutFile}
use Rattle.hv_route.specs.Routes.{files_of}
use Rattle.hv_rowfile.specs.Layout.{file_spelling}
use Rattle.hv_history.specs.declared.state.Table.{Table}
use Rattle.hv_history.specs.declared.state.Transaction.{Transaction}
use Rattle.hv_history.specs.State.{State, numbered, meaning, written_by}
use Rattle.hv_history.specs.Legal.{Of}
use Rattle.hv_stands.specs.Files.{file_at, place_of_file}
use Rattle.hv_stands.specs.Running.{IsOfId}
use Rattle.hv_trail.specs.declared.trail.Reader.{Reader}
use Rattle.hv_trail.specs.declared.trail.Reader.TheVariants.{Txn}
use Rattle.hv_trail.specs.declared.trail.TrailItem.{TrailItem}
use Rattle.hv_trail.specs.Trail.{state_at, HasWritten, broken}

-- ---- who changes what

-- the transaction of that number, as one that makes marks
abbrev pub by_txn : ℕ → Reader
by_txn txn = Txn (record { 0 = txn })

-- it is open, means this change, and has just this write id, in the table that it changes
pub record ChangesBy (info : TableInfo) (effect : Effect) (write : ℕ) (transaction : Transaction) : Type 0 where
  pub unended : transaction.ending ≡ None
  pub means_it : meaning transaction ≡ Some (Change info effect)
  pub given_is : transaction.given ≡ (info.table.0, write) ∷ []

abbrev pub IsChanging : State → ℕ → TableInfo → Effect → ℕ → Type 0
IsChanging state txn info effect write = Of state txn (ChangesBy info effect write)

-- the place is in an own directory, of either kind and any statement, of a write id of that table that this transaction was given
pub record IsOwnPlace (tables : List Table) (txn : ℕ) (place : Place) : Type 0 where
  pub table : Table
  pub named : numbered tables place.table.0 ≡ Some table
  pub write : ℕ
  pub owner : numbered table.owners write ≡ Some txn
  pub own : IsOfId place.table.0 write place

-- ---- its files

-- the file of a change under a write id at a place, where it has one there
abbrev pub file_wanted : TableInfo → Effect → ℕ → Place → Option (List ℕ)
file_wanted info effect write place = file_at info.shape (written_by info.shape write 0 effect) place

-- What is wanted at the place stands there, or nothing does and there is no mark. Where nothing is wanted and nothing stands, it
-- is both.
abbrev pub IsMarkedAt : List TrailItem → ℕ → Place → Option (List ℕ) → Option (List ℕ) → Type 0
IsMarkedAt trail txn place wanted found = (found ≡ wanted) ⊎ ((HasWritten trail (by_txn txn) place → ⊥) × (found ≡ None))

-- Of each transaction that is changing rows, and for which no call on files failed, each place in its own directories is so; and
-- marks stand in own directories of the transactions that made them alone.
pub record MarksStandIn (state : State) (trail : List TrailItem) (files : Tree) : Type 0 where
  pub each : (txn : ℕ) (info : TableInfo) (effect : Effect) (write : ℕ)
      → IsChanging state txn info effect write → broken (by_txn txn) trail ≡ None
      → (place : Place) → IsOfId info.table.0 write place
      → IsMarkedAt trail txn place (file_wanted info effect write place) (tree.get files place)
  pub own : (txn : ℕ) (place : Place) → HasWritten trail (by_txn txn) place → IsOwnPlace state.tables txn place

abbrev pub MarksStand : List TrailItem → Tree → Type 0
MarksStand trail files = MarksStandIn (state_at trail) trail files

-- each file of the change has its mark
abbrev pub HasAllMarks : List TrailItem → ℕ → TableInfo → Effect → ℕ → Type 0
HasAllMarks trail txn info effect write =
    AllByRecursion (λ (file : OutFile). HasWritten trail (by_txn txn) (place_of_file info.table.0 write file)) (files_of info.shape write 0 effect)

-- all of an open change was put: what a statement keeps in mind between its last file and its commit
pub record IsWhollyPut (trail : List TrailItem) (txn : ℕ) (info : TableInfo) (effect : Effect) (write : ℕ) : Type 0 where
  pub changing : IsChanging (state_at trail) txn info effect write
  pub unbroken : broken (by_txn txn) trail ≡ None
  pub marks : HasAllMarks trail txn info effect write

-- the place is that of a file of this change under this write id, and these are the file's bytes
pub record IsFileOf (info : TableInfo) (effect : Effect) (write : ℕ) (place : Place) (bytes : List ℕ) : Type 0 where
  pub file : OutFile
  pub among : Contains (files_of info.shape write 0 effect) file
  pub place_is : place ≡ place_of_file info.table.0 write file
  pub bytes_are : bytes ≡ file_spelling file.deletes file.bucket file.recs
