-- What an open transaction needs of the files: each that the book makes, in a directory that no compaction covers whose mark is at most the
-- transaction's number. It needs it till it ends, and till then nobody takes it away.
-- Source: Hive Transactions, compactor and cleaner.
use Rattle.std.specs.Prelude.{◌≡◌, ℕ, ◌<◌, ◌&&◌, nat_le, Bool, true, false, IsTrue, IsSome, Option, Some, None, List, ◌++◌, length}
use Rattle.std.specs.FinMap as tree
use Rattle.std.specs.List.{list_any}
use Rattle.hv_shelf.specs.declared.place.Place.{Place}
use Rattle.hv_shelf.specs.Disk.{Tree}
use Rattle.hv_rowfile.specs.declared.record.Rec.{Rec}
use Rattle.hv_dirs.specs.declared.names.DirName.{DirName}
use Rattle.hv_dirs.specs.Names.{write_end}
use Rattle.hv_history.specs.declared.entry.Entry.{Entry}
use Rattle.hv_history.specs.declared.state.Table.{Table}
use Rattle.hv_history.specs.declared.state.Transaction.{Transaction}
use Rattle.hv_history.specs.State.{State, Job, numbered, state_of}
use Rattle.hv_history.specs.Legal.{is_open}
use Rattle.hv_stands.specs.Statements.{AllFitting}
use Rattle.hv_jobs.specs.Covers.{covers}
use Rattle.hv_law_whole.specs.hv_law_made.specs.Made.{names_in, made_recs, is_named, is_spare, jobs_at}
use Rattle.hv_law_whole.specs.hv_law_made.specs.Standing.{HasFile, is_live_at, Standing}
use Rattle.hv_law_whole.specs.hv_law_made.specs.Entries.{IsSoundBook}

-- ---- the words

-- a published job's mark is at most that number
abbrev pub is_marked_by : ℕ → Option (ℕ × ℕ × ℕ) → Bool
is_marked_by txn None = false
is_marked_by txn (Some range) = nat_le range.2 txn

-- so that in place of what it covers the transaction of that number reads what it made
abbrev pub replaces : ℕ → DirName → Job → Bool
replaces txn name job = is_marked_by txn job.published && covers job name

abbrev pub is_replaced : ℕ → List Job → List ℕ → DirName → Bool
is_replaced txn jobs text name = is_named text name && list_any (replaces txn name) jobs

abbrev pub is_needless_in : State → ℕ → Place → Option Table → Bool
is_needless_in state txn place None = false
is_needless_in state txn place (Some table) =
    list_any (is_replaced txn (jobs_at state place) place.dir) (names_in table.writes (jobs_at state place))

-- it doesn't read what the book makes there
unfoldable pub is_needless : State → ℕ → Place → Bool
is_needless state txn place = is_needless_in state txn place (numbered state.tables place.table.0)

-- the book makes this file there, and the transaction may read it
pub record IsNeededBy (state : State) (txn : ℕ) (place : Place) (deletes : Bool) (recs : List Rec) : Type 0 where
  pub made : made_recs state place ≡ Some (deletes, recs)
  pub needed : is_needless state txn place ≡ false

-- ---- the laws

-- What an open transaction needs of a live table stands.
abbrev pub NeededStands : Type 0
NeededStands =
    (state : State) (files : Tree) (txn : ℕ) (transaction : Transaction) (place : Place) (deletes : Bool) (recs : List Rec)
    → IsSoundBook state → Standing state files → numbered state.transactions txn ≡ Some transaction → IsTrue (is_open transaction)
    → is_live_at state place ≡ true → IsNeededBy state txn place deletes recs → HasFile deletes place.bucket recs (tree.get files place)

-- It needs that whatever entries come: later compactions have greater marks, and what the book makes there is made.
abbrev pub NeedsLast : Type 0
NeedsLast =
    (book more : List Entry) (txn : ℕ) (place : Place) (deletes : Bool) (recs : List Rec)
    → AllFitting (book ++ more) → length (book ++ more) < write_end → IsSome (numbered (state_of book).transactions txn)
    → IsNeededBy (state_of book) txn place deletes recs → IsNeededBy (state_of (book ++ more)) txn place deletes recs

-- Nobody else may do without its directory: none that is past covers it.
abbrev pub NeededIsntSpare : Type 0
NeededIsntSpare =
    (state : State) (txn : ℕ) (transaction : Transaction) (place : Place) (deletes : Bool) (recs : List Rec)
    → numbered state.transactions txn ≡ Some transaction → IsTrue (is_open transaction)
    → IsNeededBy state txn place deletes recs → is_spare state place ≡ false
