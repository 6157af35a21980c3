-- What it takes to put a file of a change.
use Rattle.std.specs.Prelude.{◌≡◌, ℕ, ◌==◌, ◌&&◌, ◌||◌, not, nat_lt, Bool, true, false, if◌then◌else◌, Option, Some, None, List, [], ◌∷◌}
use Rattle.std.specs.Ordering.{is_lt}
use Rattle.hv_base.specs.declared.ids.RowId.{RowId}
use Rattle.hv_base.specs.Identifiers.{row_id_cmp}
use Rattle.hv_rowfile.specs.declared.record.Rec.{Rec}
use Rattle.hv_rowfile.specs.declared.record.Rec.TheVariants.{Insert, Delete}
use Rattle.hv_rowfile.specs.Layout.{CanWrite, IsFile, id_of, file_spelling}
use Rattle.hv_route.specs.declared.files.OutFile.{OutFile}

-- ---- which files can be written

-- inserted rows are known to be such as a file takes
abbrev pub CanPut : OutFile → Type 0
CanPut file = file.deletes ≡ false → CanWrite false file.bucket file.recs

abbrev pub is_behind : Option RowId → RowId → Bool
is_behind None id = true
is_behind (Some before) id = is_lt (row_id_cmp before id)

-- the row of a deleting record is of this bucket, and comes behind the one before it
abbrev pub may_follow : ℕ → Option RowId → Rec → Bool
may_follow bucket before (Insert id row) = false
may_follow bucket before (Delete id by) = (id.bucket == bucket) && (nat_lt 0 id.write.0 && (nat_lt 0 by.0 && is_behind before id))

abbrev pub can_delete_from : ℕ → Option RowId → List Rec → Bool
can_delete_from bucket before [] = true
can_delete_from bucket before (r ∷ recs) = if may_follow bucket before r then can_delete_from bucket (Some (id_of r)) recs else false

abbrev pub can_put : OutFile → Bool
can_put file = not file.deletes || can_delete_from file.bucket None file.recs

abbrev pub IsEncoded : OutFile → Type 0
IsEncoded file = IsFile file.deletes file.bucket file.recs

-- the bytes of a file
abbrev pub bytes_of : OutFile → List ℕ
bytes_of file = file_spelling file.deletes file.bucket file.recs
