-- A base that is published over two deltas, and the deltas that are then taken away, worked out by hand. A row is its identifier here.
use Rattle.std.specs.Prelude.{◌≡◌, ℕ, List, [], ◌∷◌}
use Rattle.hv_base.specs.declared.ids.RowId.{RowId}
use Rattle.hv_dirs.specs.Choice.{Sight, sight_of, Own, base_of, chosen_above}
use Rattle.hv_law_visible.specs.History.{Write, Major, rows_in, inserts_in, deletes_in}
use Rattle.hv_law_visible.specs.Visible.{Tree, visible_rows}
use Rattle.hv_law_visible.specs.Snapshots.{Fate, Committed, list_at}
use Rattle.hv_law_visible.specs.Readers.{Reader}
use Rattle.hv_law_published.specs.State.{State, IsKept}
use Rattle.hv_law_published.specs.Directories.{DeltaDir, IsLooseDir}
use Rattle.hv_law_published.specs.Laws.{Keeps}

abbrev pub row : ℕ → RowId
row write = record { write = record { 0 = write }; statement = 0; bucket = 0; row = 0 }

abbrev pub itself : RowId → RowId
itself id = id

-- two inserts, then a delete of the first row by id 3
abbrev pub writes : List (Write RowId)
writes =
    record { write = 1; statement = 0; inserts = row 1 ∷ []; deletes = [] }
    ∷ record { write = 2; statement = 0; inserts = row 2 ∷ []; deletes = [] }
    ∷ record { write = 3; statement = 0; inserts = []; deletes = row 1 ∷ [] } ∷ []

abbrev pub all_committed : List Fate
all_committed = Committed ∷ Committed ∷ Committed ∷ []

-- transaction 3 came before the delete committed, and still reads
abbrev pub reader : Reader
reader = record { txn = 3; before = Committed ∷ Committed ∷ [] }

-- ---- the trees, one after another

abbrev pub tree_of : List ℕ → List ℕ → Tree RowId
tree_of bases ids = record {
  bases = bases;
  deltas = Rattle.std.specs.Prelude.map (λ write. Own write 0) ids;
  delete_deltas = Own 3 0 ∷ [];
  rows = rows_in itself writes;
  inserts = inserts_in writes;
  deletes = deletes_in writes;
}

-- as the commits left it
abbrev pub before : State RowId
before = record { fates = all_committed; writes = writes; jobs = []; next = 5; open_txns = 3 ∷ []; readers = reader ∷ []; tree = tree_of [] (1 ∷ 2 ∷ []) }

-- the base of 2 is published, with mark 5
abbrev pub published : State RowId
published = record before { jobs = Major 2 5 ∷ []; tree = tree_of (2 ∷ []) (1 ∷ 2 ∷ []) }

-- transaction 3 ends
abbrev pub ended : State RowId
ended = record published { open_txns = []; readers = [] }

-- one delta goes, and then the other
abbrev pub first_gone : State RowId
first_gone = record ended { tree = tree_of (2 ∷ []) (2 ∷ []) }

abbrev pub both_gone : State RowId
both_gone = record ended { tree = tree_of (2 ∷ []) [] }

abbrev early : Sight
early = sight_of (list_at reader.before)

abbrev late : Sight
late = sight_of (list_at all_committed)

pub record RowsByHand : Type 0 where
  -- under the list of the open snapshot both rows, before and after
  pub early_before : visible_rows itself early before.tree ≡ row 1 ∷ row 2 ∷ []
  pub early_published : visible_rows itself early published.tree ≡ row 1 ∷ row 2 ∷ []
  -- under that of the end the second one, all along
  pub late_before : visible_rows itself late before.tree ≡ row 2 ∷ []
  pub late_published : visible_rows itself late published.tree ≡ row 2 ∷ []
  pub late_first_gone : visible_rows itself late first_gone.tree ≡ row 2 ∷ []
  pub late_both_gone : visible_rows itself late both_gone.tree ≡ row 2 ∷ []
  -- at first they come from the deltas, and then from the base
  pub chosen_before : chosen_above late (base_of late before.tree.bases) before.tree.deltas ≡ Own 1 0 ∷ Own 2 0 ∷ []
  pub base_published : base_of late published.tree.bases ≡ 2
  pub chosen_published : chosen_above late (base_of late published.tree.bases) published.tree.deltas ≡ []

-- and that each step is one that the laws speak of
pub record StepsByHand : Type 0 where
  pub kept : IsKept itself before
  pub publishing : Keeps itself before published
  -- while transaction 3 is open the deltas may not go
  pub not_yet : IsLooseDir published (DeltaDir (Own 1 0)) → ⊥
  pub still_kept : IsKept itself ended
  pub first_loose : IsLooseDir ended (DeltaDir (Own 1 0))
  pub first_going : Keeps itself ended first_gone
  pub second_loose : IsLooseDir first_gone (DeltaDir (Own 2 0))
  pub second_going : Keeps itself first_gone both_gone
