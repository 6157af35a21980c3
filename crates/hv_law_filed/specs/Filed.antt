-- That the files of a statement stand, from its put to its commit, beside those of other statements and of compactions.
use Rattle.std.specs.Prelude.{◌≡◌, ℕ, ◌+◌, ◌<◌, Bool, true, Some, None, List, [], ◌∷◌, ◌++◌, length, take}
use Rattle.std.specs.List.{AllByRecursion}
use Rattle.std.specs.FinMap as tree
use Rattle.hv_base.specs.declared.ids.Touch.{Touch}
use Rattle.hv_shelf.specs.declared.place.Place.{Place}
use Rattle.hv_shelf.specs.Disk.{Tree}
use Rattle.hv_ast.specs.declared.statement.Stmt.{Stmt}
use Rattle.hv_logic.specs.declared.catalog.TableInfo.{TableInfo}
use Rattle.hv_logic.specs.declared.effect.Effect.{Effect}
use Rattle.hv_logic.specs.declared.meaning.Meaning.TheVariants.{Change}
use Rattle.hv_route.specs.Back.{AreHeld}
use Rattle.hv_route.specs.Routes.{files_of}
use Rattle.hv_history.specs.declared.entry.Entry.{Entry}
use Rattle.hv_history.specs.declared.entry.Entry.TheVariants as entry
use Rattle.hv_history.specs.declared.state.Table.{Table}
use Rattle.hv_history.specs.State.{State, state_of, numbered}
use Rattle.hv_history.specs.Legal.{Fits, profile}
use Rattle.hv_dirs.specs.Names.{write_end}
use Rattle.hv_stands.specs.Files.{own_dir, with_files}
use Rattle.hv_stands.specs.Laws.{HasFile}
use Rattle.hv_stands.specs.Running.{Asking, meant, IsUnderWay, IsOfId, HasPut}
use Rattle.hv_stands.specs.Statements.{AllFitting}
use Rattle.hv_law_made.specs.Standing.{Standing}
use Rattle.hv_law_made.specs.Entries.{IsSoundBook}

-- ---- its put

-- the write id that a live table gives next has no file yet
abbrev pub NewIdsHaveNoFile : Type 0
NewIdsHaveNoFile =
    (state : State) (files : Tree) (place : Place) (table : Table) (deletes : Bool) (statement : ℕ)
    → IsSoundBook state → state.entries + 1 < write_end → Standing state files → numbered state.tables place.table.0 ≡ Some table
    → table.is_live ≡ true → place.dir ≡ own_dir deletes (length table.owners + 1) statement → tree.get files place ≡ None

-- An own directory of the next write id is empty. Behind the Given and the files of a change there, just these stand there.
abbrev pub FilesArePut : Type 0
FilesArePut =
    (book : List Entry) (place : ℕ) (said : Stmt) (info : TableInfo) (effect : Effect) (table : Table) (files : Tree)
    → AllFitting book → length book + 1 < write_end → Standing (state_of book) files
    → meant (take place book) said ≡ Some (Change info effect)
    → numbered (state_of book).tables info.table.0 ≡ Some table → table.is_live ≡ true
    → AllByRecursion HasFile (files_of info.shape (length table.owners + 1) 0 effect) → AreHeld effect.inserts
    → HasPut (with_files files info.table.0 (length table.owners + 1) (files_of info.shape (length table.owners + 1) 0 effect))
    info (length table.owners + 1) effect

-- Whatever is put, or broken, in own directories of a write id of an open transaction, the files that the book makes stand.
abbrev pub PutsStand : Type 0
PutsStand =
    (book : List Entry) (asking : Asking) (txn place : ℕ) (said : Stmt) (table write : ℕ) (before now : Tree)
    → AllFitting book → length book < write_end → IsUnderWay book asking txn place said ((table, write) ∷ [])
    → ((other : Place) → (IsOfId table write other → ⊥) → tree.get now other ≡ tree.get before other)
    → Standing (state_of book) before → Standing (state_of book) now

-- ---- entries that ask nothing of the files

-- An entry that fits leaves the files standing, but for a commit of rows, and for what publishes, has cleaned, or forgets: an opening, a
-- start, a write id, an abort, other steps of jobs; and what ends a statement that was given no write id.
abbrev pub WritesNothing : ℕ → List (ℕ × ℕ) → Entry → Type 0
WritesNothing txn given (entry.Commit other wrote) = (other.0 ≡ txn) × (given ≡ [])
WritesNothing txn given (entry.Create other table) = (other.0 ≡ txn) × (given ≡ [])
WritesNothing txn given (entry.Drop other table) = (other.0 ≡ txn) × (given ≡ [])
WritesNothing txn given (entry.Published job low high mark) = ⊥
WritesNothing txn given (entry.Cleaned job) = ⊥
WritesNothing txn given (entry.Forgot table write) = ⊥
WritesNothing txn given event = Unit {0}

abbrev pub QuietEntriesStand : Type 0
QuietEntriesStand =
    (book : List Entry) (asking : Asking) (txn place : ℕ) (said : Stmt) (given : List (ℕ × ℕ)) (event : Entry) (files : Tree)
    → AllFitting book → Fits profile (state_of book) event → IsUnderWay book asking txn place said given → WritesNothing txn given event
    → Standing (state_of book) files → Standing (state_of (book ++ event ∷ [])) files

-- the same of entries that end nothing as committed, whoever's they are
abbrev pub CommitsNothing : Entry → Type 0
CommitsNothing (entry.Commit txn wrote) = ⊥
CommitsNothing (entry.Create txn table) = ⊥
CommitsNothing (entry.Drop txn table) = ⊥
CommitsNothing (entry.Published job low high mark) = ⊥
CommitsNothing (entry.Cleaned job) = ⊥
CommitsNothing (entry.Forgot table write) = ⊥
CommitsNothing event = Unit {0}

abbrev pub OtherEntriesStand : Type 0
OtherEntriesStand =
    (book : List Entry) (event : Entry) (files : Tree) → AllFitting book → Fits profile (state_of book) event → CommitsNothing event
    → Standing (state_of book) files → Standing (state_of (book ++ event ∷ [])) files

-- ---- its commit

-- a commit of rows, with its files
abbrev pub CommitsStand : Type 0
CommitsStand =
    (book : List Entry) (asking : Asking) (txn place : ℕ) (said : Stmt) (info : TableInfo) (effect : Effect) (write : ℕ) (wrote : List Touch) (files : Tree)
    → AllFitting book → length book < write_end → Fits profile (state_of book) (entry.Commit (record { 0 = txn }) wrote)
    → IsUnderWay book asking txn place said ((info.table.0, write) ∷ []) → meant (take place book) said ≡ Some (Change info effect)
    → HasPut files info write effect
    → Standing (state_of book) files → Standing (state_of (book ++ entry.Commit (record { 0 = txn }) wrote ∷ [])) files
