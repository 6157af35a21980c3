-- Each directory that a book makes has a name of the format, so that two names differ in their texts: write ids, statements and ranges
-- are such as names can say.
use Rattle.std.specs.Prelude.{◌≡◌, ℕ, ◌<◌, Option, Some, None, IsSome, map}
use Rattle.std.specs.List.{AllByRecursion}
use Rattle.hv_dirs.specs.Names.{IsNumber, IsRange, statement_end, write_end}
use Rattle.hv_stands.specs.hv_history.specs.declared.state.Table.{Table}
use Rattle.hv_stands.specs.hv_history.specs.declared.state.Written.{Written}
use Rattle.hv_stands.specs.hv_history.specs.State.{State, Job, numbered}
use Rattle.hv_stands.specs.Files.{ending_of}
use Rattle.hv_stands.specs.Sound.{AreOfCommitted}

pub record IsNamedWrite (written : Written) : Type 0 where
  pub write : IsNumber written.write
  pub statement : written.statement < statement_end

-- the range of a published job is one of write ids
abbrev pub HasNamedRange : Option (ℕ × ℕ × ℕ) → Type 0
HasNamedRange None = Unit {0}
HasNamedRange (Some range) = IsRange range.0 range.1

abbrev pub IsNamedJob : Job → Type 0
IsNamedJob job = HasNamedRange job.published

-- a write id that was given has a name
abbrev pub HasNamedIds : Table → Type 0
HasNamedIds table = (write txn : ℕ) → numbered table.owners write ≡ Some txn → write < write_end

-- of one table, whose writes are of transactions that have committed
pub record HasNames (state : State) (table : Table) : Type 0 where
  pub ids : HasNamedIds table
  pub writes : AllByRecursion IsNamedWrite table.writes
  pub committed : AreOfCommitted (map ending_of state.transactions) table
  pub jobs : AllByRecursion IsNamedJob state.jobs

-- a job is one of a table that was made
abbrev pub IsOfTable : State → Job → Type 0
IsOfTable state job = IsSome (numbered state.tables job.table)

pub record AllHaveNames (state : State) : Type 0 where
  pub tables : AllByRecursion (HasNames state) state.tables
  pub jobs : AllByRecursion (IsOfTable state) state.jobs
