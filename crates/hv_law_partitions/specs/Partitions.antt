-- The committed writes of one partition of a table, from the state that a book leaves, and what its write ids have come
-- to there: a book in the words in which the laws on directories speak of a partition.
-- Source: Hive Transactions, base and delta directories, and snapshots.
use Rattle.std.specs.Prelude.{ℕ, ◌+◌, ◌==◌, nat_eq, Bool, true, false, Option, Some, None, List, [], ◌∷◌, map, filter}
use Rattle.std.specs.Cmp.Lexicographic.{pointwise}
use Rattle.std.specs.List.{list_any}
use Rattle.hv_base.specs.declared.ids.RowId.{RowId}
use Rattle.hv_logic.specs.declared.effect.Found.{Found}
use Rattle.hv_history.specs.declared.state.Table.{Table}
use Rattle.hv_history.specs.declared.state.Written.{Written}
use Rattle.hv_history.specs.State.{State, numbered}
use Rattle.hv_earlier.specs.hv_meta.specs.hv_book.specs.Past.{owners_in, forgotten_in}
use Rattle.hv_earlier.specs.Fates.{fate_of}
use Rattle.hv_earlier.specs.declared.fates.Fate as earlier
use Rattle.hv_earlier.specs.declared.fates.Fate.TheVariants as fate
use Rattle.hv_law_visible.specs.History.{Write}
use Rattle.hv_law_visible.specs.Snapshots.{Fate, Open, Committed, Aborted, Forgotten}

abbrev pub id_of : Found → RowId
id_of found = found.id

-- ---- the writes

abbrev pub is_of : List ℕ → Found → Bool
is_of partition found = pointwise nat_eq found.partition partition

abbrev pub rows_of : List ℕ → List Found → List Found
rows_of partition rows = filter (is_of partition) rows

-- what a write did in a partition: nothing, where it inserted and deleted in others alone
abbrev pub write_in : List ℕ → Written → Write Found
write_in partition written = record {
  write = written.write;
  statement = written.statement;
  inserts = rows_of partition written.inserts;
  deletes = map id_of (rows_of partition written.deletes);
}

abbrev pub writes_of : List ℕ → List Written → List (Write Found)
writes_of partition writes = map (write_in partition) writes

abbrev pub written_in : Option Table → List Written
written_in None = []
written_in (Some table) = table.writes

-- of a partition of the table of that number, in the order of their commits
abbrev pub writes_in : State → ℕ → List ℕ → List (Write Found)
writes_in state table partition = writes_of partition (written_in (numbered state.tables table))

-- ---- the write ids

-- By its transaction, and whether it was forgotten. An id without a transaction, which a book that fits doesn't have, is
-- one that is over.
abbrev pub fate_by : Bool → Option earlier.Fate → Fate
fate_by forgotten None = Forgotten
fate_by forgotten (Some fate.Open) = Open
fate_by forgotten (Some fate.Committed) = Committed
fate_by true (Some fate.Aborted) = Forgotten
fate_by false (Some fate.Aborted) = Aborted

-- of the ids from this one on, each given to the transaction of that number
abbrev pub fates_from : List earlier.Fate → List ℕ → ℕ → List ℕ → List Fate
fates_from fates forgotten write [] = []
fates_from fates forgotten write (txn ∷ owners) =
    fate_by (list_any (λ other. other == write) forgotten) (numbered fates txn) ∷ fates_from fates forgotten (write + 1) owners

-- of the table of that number
abbrev pub fates_in : State → ℕ → List Fate
fates_in state table =
    fates_from (map fate_of state.transactions) (forgotten_in (numbered state.tables table)) 1 (owners_in (numbered state.tables table))
