-- Two inserts and a delete of one row, in two partitions, worked out by hand.
use Rattle.std.specs.Prelude.{◌≡◌, ℕ, false, List, [], ◌∷◌}
use Rattle.hv_base.specs.declared.ids.RowId.{RowId}
use Rattle.hv_logic.specs.declared.effect.Found.{Found}
use Rattle.hv_dirs.specs.Choice.{sight_of}
use Rattle.hv_history.specs.declared.state.Written.{Written}
use Rattle.hv_earlier.specs.declared.fates.Fate.TheVariants as fate
use Rattle.hv_law_visible.specs.History.{Write, content_of}
use Rattle.hv_law_visible.specs.Visible.{writes_shown}
use Rattle.hv_law_visible.specs.Snapshots.{Fate, list_at}
use Rattle.hv_wids.specs.WriteIds.{WriteIds}
use Rattle.hv_law_partitions.specs.Partitions.{id_of, writes_of, fates_from}

abbrev pub north : List ℕ
north = 110 ∷ []

abbrev pub south : List ℕ
south = 115 ∷ []

abbrev pub id : ℕ → RowId
id write = record { write = record { 0 = write }; statement = 0; bucket = 0; row = 0 }

abbrev pub found : List ℕ → ℕ → Found
found partition write = record { partition = partition; id = id write; row = record { values = [] } }

-- The first write inserts a row in each partition, which are of one identifier, the second one more in the north; the
-- third deletes the first row of the north.
abbrev pub written : List Written
written =
    record { write = 1; statement = 0; inserts = found north 1 ∷ found south 1 ∷ []; deletes = [] }
    ∷ record { write = 2; statement = 0; inserts = found north 2 ∷ []; deletes = [] }
    ∷ record { write = 3; statement = 0; inserts = []; deletes = found north 1 ∷ [] } ∷ []

-- while the third one's transaction is open, and when it has committed
abbrev pub before : List Fate
before = fates_from (fate.Committed ∷ fate.Committed ∷ fate.Open ∷ []) [] 1 (1 ∷ 2 ∷ 3 ∷ [])

abbrev pub after : List Fate
after = fates_from (fate.Committed ∷ fate.Committed ∷ fate.Committed ∷ []) [] 1 (1 ∷ 2 ∷ 3 ∷ [])

-- what is left of a partition under a list
abbrev pub left_under : WriteIds → List ℕ → List Found
left_under list partition = content_of id_of (writes_shown (sight_of list) (writes_of partition written))

abbrev pub northern : List (Write Found)
northern =
    record { write = 1; statement = 0; inserts = found north 1 ∷ []; deletes = [] }
    ∷ record { write = 2; statement = 0; inserts = found north 2 ∷ []; deletes = [] }
    ∷ record { write = 3; statement = 0; inserts = []; deletes = id 1 ∷ [] } ∷ []

abbrev pub southern : List (Write Found)
southern =
    record { write = 1; statement = 0; inserts = found south 1 ∷ []; deletes = [] }
    ∷ record { write = 2; statement = 0; inserts = []; deletes = [] }
    ∷ record { write = 3; statement = 0; inserts = []; deletes = [] } ∷ []

pub record ByHand : Type 0 where
  pub in_north : writes_of north written ≡ northern
  pub in_south : writes_of south written ≡ southern
  -- the open id is an exception
  pub list_before : list_at before ≡ record { high = record { 0 = 3 }; exceptions = record { write = record { 0 = 3 }; aborted = false } ∷ [] }
  pub list_after : list_at after ≡ record { high = record { 0 = 3 }; exceptions = [] }
  pub north_before : left_under (list_at before) north ≡ found north 1 ∷ found north 2 ∷ []
  pub north_after : left_under (list_at after) north ≡ found north 2 ∷ []
  -- the row of the same identifier stays
  pub south_after : left_under (list_at after) south ≡ found south 1 ∷ []
