-- Choices, and what is shown under them, worked out by hand.
use Rattle.std.specs.Prelude.{◌≡◌, ℕ, List, [], ◌∷◌}
use Rattle.hv_base.specs.declared.ids.RowId.{RowId}
use Rattle.hv_dirs.specs.Choice.{Sight, sight_of, Own, Wide, base_of, chosen_above}
use Rattle.hv_law_visible.specs.History.{Write, content_of, rows_in, inserts_in, deletes_in}
use Rattle.hv_law_visible.specs.Visible.{Tree, visible_rows, writes_shown}
use Rattle.hv_law_visible.specs.Snapshots.{Fate, Open, Committed, Aborted, Forgotten, list_at, list_up_to}

abbrev sees : List Fate → Sight
sees fates = sight_of (list_at fates)

pub record ChoicesByHand : Type 0 where
  -- nothing stands
  pub no_base : base_of (sees (Committed ∷ [])) [] ≡ 0
  pub no_delta : chosen_above (sees (Committed ∷ [])) 0 [] ≡ []
  -- a base, with older deltas below it and newer ones above
  pub base : base_of (sees (Committed ∷ Committed ∷ Committed ∷ Committed ∷ [])) (2 ∷ []) ≡ 2
  pub above_base : chosen_above (sees (Committed ∷ Committed ∷ Committed ∷ Committed ∷ [])) 2 (Own 4 0 ∷ Own 2 0 ∷ Wide 1 2 ∷ Own 3 0 ∷ [])
      ≡ Own 3 0 ∷ Own 4 0 ∷ []
  -- id 2 is open: the base of 3 isn't for this reader, that of 1 is, and of the deltas the one of 3
  pub older_base : base_of (sees (Committed ∷ Open ∷ Committed ∷ [])) (3 ∷ 1 ∷ []) ≡ 1
  pub above_older : chosen_above (sees (Committed ∷ Open ∷ Committed ∷ [])) 1 (Own 3 0 ∷ Own 2 0 ∷ Own 1 0 ∷ []) ≡ Own 3 0 ∷ []
  -- the reader came before id 3 was given
  pub before_base : base_of (sees (Committed ∷ Committed ∷ [])) (3 ∷ []) ≡ 0
  -- an aborted id below a base spoils nothing; the newest one is read
  pub newest_base : base_of (sees (Committed ∷ Aborted ∷ Committed ∷ [])) (1 ∷ 3 ∷ 2 ∷ []) ≡ 3
  -- a wide delta in place of the own ones that it covers, and the statements of one id together
  pub wide : chosen_above (sees (Committed ∷ Committed ∷ Committed ∷ [])) 0 (Own 3 1 ∷ Own 1 0 ∷ Own 3 0 ∷ Own 2 0 ∷ Wide 1 2 ∷ [])
      ≡ Wide 1 2 ∷ Own 3 0 ∷ Own 3 1 ∷ []
  -- a wide one of a single id comes before the statements of that id
  pub single : chosen_above (sees (Committed ∷ [])) 0 (Own 1 1 ∷ Own 1 0 ∷ Wide 1 1 ∷ []) ≡ Wide 1 1 ∷ []
  -- of two wide ones from one id the wider; one within another is passed over
  pub widest : chosen_above (sees (Committed ∷ Committed ∷ Committed ∷ [])) 0 (Wide 1 2 ∷ Wide 1 3 ∷ Wide 2 3 ∷ []) ≡ Wide 1 3 ∷ []
  -- aborted ids are passed over, but an aborted one that is forgotten is no exception; of a wide range some valid id is enough
  pub aborted : chosen_above (sees (Aborted ∷ Committed ∷ Open ∷ [])) 0 (Own 1 0 ∷ Own 3 0 ∷ Wide 1 2 ∷ []) ≡ Wide 1 2 ∷ []
  pub forgotten : chosen_above (sees (Forgotten ∷ Committed ∷ [])) 0 (Own 1 0 ∷ Own 2 0 ∷ []) ≡ Own 1 0 ∷ Own 2 0 ∷ []
  -- a gap stops nothing
  pub gap : chosen_above (sees (Committed ∷ Open ∷ Committed ∷ [])) 0 (Own 3 0 ∷ Own 1 0 ∷ []) ≡ Own 1 0 ∷ Own 3 0 ∷ []
  -- a delete delta that reaches below the base is taken, and the own one that it covers isn't
  pub below_base : chosen_above (sees (Committed ∷ Committed ∷ Committed ∷ Committed ∷ [])) 3 (Own 4 0 ∷ Wide 2 4 ∷ Own 2 0 ∷ []) ≡ Wide 2 4 ∷ []
  -- a compaction's list ends at its watermark
  pub watermark : chosen_above (sight_of (list_up_to 1 (list_at (Committed ∷ Open ∷ Committed ∷ [])))) 0 (Own 1 0 ∷ Own 3 0 ∷ []) ≡ Own 1 0 ∷ []

-- ---- what is shown: here a row is its identifier

abbrev row : ℕ → RowId
row write = record { write = record { 0 = write }; statement = 0; bucket = 0; row = 0 }

abbrev itself : RowId → RowId
itself id = id

-- three inserts, then a delete of the first row by id 4
abbrev writes : List (Write RowId)
writes =
    record { write = 1; statement = 0; inserts = row 1 ∷ []; deletes = [] }
    ∷ record { write = 2; statement = 0; inserts = row 2 ∷ []; deletes = [] }
    ∷ record { write = 3; statement = 0; inserts = row 3 ∷ []; deletes = [] }
    ∷ record { write = 4; statement = 0; inserts = []; deletes = row 1 ∷ [] } ∷ []

-- a major compaction made the base of 3, and another that of 4
abbrev tree : Tree RowId
tree = record {
  bases = 4 ∷ 3 ∷ [];
  deltas = Own 3 0 ∷ Own 2 0 ∷ Own 1 0 ∷ Wide 1 2 ∷ [];
  delete_deltas = Own 4 0 ∷ [];
  rows = rows_in itself writes;
  inserts = inserts_in writes;
  deletes = deletes_in writes;
}

pub record RowsByHand : Type 0 where
  -- a reader from before the third write reads the deltas
  pub early : visible_rows itself (sees (Committed ∷ Committed ∷ [])) tree ≡ row 1 ∷ row 2 ∷ []
  -- one from before the delete reads the older base
  pub middle : visible_rows itself (sees (Committed ∷ Committed ∷ Committed ∷ [])) tree ≡ row 1 ∷ row 2 ∷ row 3 ∷ []
  -- while the delete's id is open
  pub undecided : visible_rows itself (sees (Committed ∷ Committed ∷ Committed ∷ Open ∷ [])) tree ≡ row 1 ∷ row 2 ∷ row 3 ∷ []
  -- and when it is committed
  pub late : visible_rows itself (sees (Committed ∷ Committed ∷ Committed ∷ Committed ∷ [])) tree ≡ row 2 ∷ row 3 ∷ []
  -- where id 2 was open, neither base may be read, and the delete is seen
  pub gap : visible_rows itself (sees (Committed ∷ Open ∷ Committed ∷ Committed ∷ [])) tree ≡ row 3 ∷ []
  pub gap_content : content_of itself (writes_shown (sees (Committed ∷ Open ∷ Committed ∷ Committed ∷ [])) writes) ≡ row 3 ∷ []
