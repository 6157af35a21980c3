-- A commit worked out by hand, in a table of one column, partitioned by p and with two buckets: under write id 2 it inserted
-- four rows, two of them into one bucket of one partition, and deleted a row of write id 1.
use Rattle.std.specs.Prelude.{ℕ, pos, List, [], ◌∷◌, codes}
use Rattle.hv_base.specs.declared.ids.RowId.{RowId}
use Rattle.hv_value.specs.declared.sql_type.SqlType.TheVariants as type
use Rattle.hv_value.specs.declared.value.Value.TheVariants as value
use Rattle.hv_history.specs.hv_meaning.specs.hv_typing.specs.hv_logic.specs.declared.catalog.Shape.{Shape}
use Rattle.hv_history.specs.hv_meaning.specs.hv_typing.specs.hv_logic.specs.declared.effect.Found.{Found}
use Rattle.hv_history.specs.hv_meaning.specs.hv_route.specs.hv_rowfile.specs.declared.record.Rec.{Rec}
use Rattle.hv_history.specs.hv_meaning.specs.hv_route.specs.hv_rowfile.specs.declared.record.Rec.TheVariants.{Insert, Delete}
use Rattle.hv_history.specs.declared.state.Written.{Written}

abbrev pub shape_by_hand : Shape
shape_by_hand = record {
  name = codes "t";
  columns = record { name = codes "a"; kind = type.Int } ∷ [];
  parts = record { name = codes "p"; kind = type.Int } ∷ [];
  bucketed = 0 ∷ [];
  buckets = 2;
}

abbrev pub part_one : List ℕ
part_one = codes "p=1"

abbrev pub part_two : List ℕ
part_two = codes "p=2"

abbrev pub id_by_hand : ℕ → ℕ → ℕ → RowId
id_by_hand write bucket row = record { write = record { 0 = write }; statement = 0; bucket = bucket; row = row }

-- a row of these two values, where it stands
abbrev pub row_by_hand : List ℕ → RowId → ℕ → ℕ → Found
row_by_hand partition id a p = record {
  partition = partition;
  id = id;
  row = record { values = value.Int (pos a) ∷ value.Int (pos p) ∷ [] };
}

abbrev pub write_by_hand : Written
write_by_hand = record {
  write = 2;
  statement = 0;
  inserts =
      row_by_hand part_one (id_by_hand 2 0 0) 4 1
      ∷ row_by_hand part_one (id_by_hand 2 1 0) 7 1
      ∷ row_by_hand part_two (id_by_hand 2 1 0) 5 2
      ∷ row_by_hand part_two (id_by_hand 2 1 1) 9 2 ∷ [];
  deletes = row_by_hand part_one (id_by_hand 1 0 3) 2 1 ∷ [];
}

-- what a file keeps of a row: its identifier, and the value of the table's own column
abbrev pub record_by_hand : RowId → ℕ → Rec
record_by_hand id a = Insert id (record { values = value.Int (pos a) ∷ [] })

abbrev pub delete_by_hand : Rec
delete_by_hand = Delete (id_by_hand 1 0 3) (record { 0 = 2 })
