-- Write ids in the order in which they are kept.
use Rattle.std.specs.Prelude.{◌≡◌, ℕ, ◌+◌, ◌≤◌, ◌==◌, nat_le, Bool, true, false, not, List, [], ◌∷◌, map, vec_len, vec_capacity}
use Rattle.std.specs.Global.{Vec}
use Rattle.hv_links.specs.Links.{Linked}
use Rattle.hv_ids.specs.declared.notes.IdNote.{IdNote}
use Rattle.hv_ids.specs.declared.notes.PlacedId.{PlacedId}

abbrev pub note_table : IdNote → ℕ
note_table id = id.table

abbrev pub table_of : PlacedId → ℕ
table_of placed = placed.id.table

abbrev pub is_in : ℕ → IdNote → Bool
is_in table id = id.table == table

abbrev pub is_of_other : ℕ → IdNote → Bool
is_of_other txn id = not (id.txn == txn)

-- those with an id more, behind the last of a table up to its own
abbrev pub put_next : Bool → IdNote → IdNote → List IdNote → List IdNote → List IdNote
put_next true id first ids behind = first ∷ behind
put_next false id first ids behind = id ∷ first ∷ ids

abbrev pub put_id : IdNote → List IdNote → List IdNote
put_id id [] = id ∷ []
put_id id (first ∷ ids) = put_next (nat_le first.table id.table) id first ids (put_id id ids)

-- the ids, and how many more there is room for
pub record Pending : Type 0 where
  pub ids : List IdNote
  pub room : ℕ

-- the ids, how many tables there are, and how many ids and tables more there is room for
pub record Placed : Type 0 where
  pub ids : List PlacedId
  pub tables : ℕ
  pub room : ℕ
  pub table_room : ℕ

-- the links are those of the ids' tables, and there is as much room as is said
pub record ArePlaced (ids : Vec PlacedId) (links : Linked) (room : ℕ) : Type 0 where
  pub groups : links.groups ≡ map table_of ids.items
  pub id_room : vec_len ids + room ≤ vec_capacity ids
  pub link_room : room ≤ links.item_room
