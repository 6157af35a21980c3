-- What a replay of entries knows.
use Rattle.std.specs.Prelude.{◌≡◌, List, []}
use Rattle.hv_history.specs.declared.entry.Entry.{Entry}
use Rattle.hv_history.specs.State.{state_of}
use Rattle.tests_books.specs.declared.replay.Replay.{Replay}

-- the transactions and the tables are those of the state that the entries leave, which has no jobs
pub record Follows (book : List Entry) (replay : Replay) : Type 0 where
  pub transactions : replay.transactions.items ≡ (state_of book).transactions
  pub tables : replay.tables.items ≡ (state_of book).tables
  pub jobs : (state_of book).jobs ≡ []
