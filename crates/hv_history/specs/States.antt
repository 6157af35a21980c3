-- What a book leaves: transactions, tables and jobs, each kind by number, and the openings. How a book comes to it is one fold (State).
-- Source: the Hive manual, Hive Transactions; how jobs and openings are numbered is this project's.
use Rattle.std.specs.Prelude.{ℕ, zero, suc, Bool, false, Option, None, List, [], slice_get}
use Rattle.hv_history.specs.declared.entry.JobKind.{JobKind}
use Rattle.hv_history.specs.declared.entry.JobCause.{JobCause}
use Rattle.hv_history.specs.declared.state.Table.{Table}
use Rattle.hv_history.specs.declared.state.Transaction.{Transaction}

-- A compaction job, with what it was asked, and each step that it made: `asked` is the place of its Asked, and `ended` that of
-- the first entry that ended its work, which is a Published, an Empty or a Failed.
pub record Job : Type 0 where
  pub table : ℕ
  pub partition : List ℕ
  pub kind : JobKind
  pub by : ℕ
  pub asked : ℕ
  pub watermark : Option ℕ
  pub published : Option (ℕ × ℕ × ℕ)
  pub is_empty : Bool
  pub is_cleaned : Bool
  pub failure : Option JobCause
  pub ended : Option ℕ

-- The openings of the store: how many there were, where the last one's Boot stands, whether only Losts came behind it,
-- and which counts of faults were kept since.
pub record Openings : Type 0 where
  pub count : ℕ
  pub last : Option ℕ
  pub only_lost : Bool
  pub kept : List ℕ

-- The number of entries, the openings, and everything that the entries made, one for each Opened, Create and Asked: the
-- transaction, table or job of number n stands at place n - 1.
pub record State : Type 0 where
  pub entries : ℕ
  pub openings : Openings
  pub transactions : List Transaction
  pub tables : List Table
  pub jobs : List Job

abbrev pub no_openings : Openings
no_openings = record { count = 0; last = None; only_lost = false; kept = [] }

abbrev pub nothing_yet : State
nothing_yet = record { entries = 0; openings = no_openings; transactions = []; tables = []; jobs = [] }

-- the one of that number, from 1
abbrev pub numbered : {A : Type 0} → List A → ℕ → Option A
numbered xs zero = None
numbered xs (suc n) = slice_get xs n
