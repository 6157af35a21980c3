-- The records of a commit's files in a partition are what its write did there.
use Rattle.std.proofs.Common.{refl, ◌≡◌, inl, inr, ℕ, ◌==◌, nat_eq, true, false, List, [], ◌∷◌, ◌++◌, map, filter, take, drop, length, sym, ap, ◌∙◌, subst}
use Rattle.std.specs.Cmp.Lexicographic.{pointwise}
use Rattle.std.specs.List.{flat_map}
use Rattle.std.proofs.lemmas.Bool.{and_parts, and_from}
use Rattle.std.proofs.lemmas.List.{take-append-drop}
use Rattle.hv_base.specs.declared.ids.RowId.{RowId}
use Rattle.hv_value.specs.declared.value.Value.{Value}
use Rattle.hv_logic.specs.declared.catalog.Shape.{Shape}
use Rattle.hv_logic.specs.declared.effect.Found.{Found}
use Rattle.hv_route.specs.Partitions.{partition_values}
use Rattle.hv_route.specs.Routes.{partition_of}
use Rattle.hv_route.specs.Standing.{insert_record, delete_record, stands_in}
use Rattle.hv_route.proofs.BackLemmas.{text-says}
use Rattle.hv_rowfile.specs.declared.record.Rec.{Rec}
use Rattle.hv_history.specs.declared.state.Written.{Written}
use Rattle.hv_stands.specs.Files.{records_of, IsSaid}
use Rattle.hv_table_rows.proofs.Names.{same-text, text-same}
use Rattle.hv_law_visible.specs.Members.{IsIn}
use Rattle.hv_law_visible.specs.History.{by_deleter}
use Rattle.hv_law_visible.proofs.MemberLemmas.{in-flat, from-flat, in-map, from-map, in-filter, from-filter}
use Rattle.hv_law_partitions.specs.Partitions.{id_of, is_of, rows_of, write_in}
use Rattle.hv_law_directories.specs.Directories.{inserted_by, deleted_by}
use Rattle.hv_law_directories.proofs.DirLemmas.{number-same}

-- ---- where a row stands

stands-here : (partition : List ℕ) (found : Found) → found.partition ≡ partition → stands_in partition found.id.bucket found ≡ true
stands-here partition found same =
    and_from (pointwise nat_eq found.partition partition) (found.id.bucket == found.id.bucket) (text-same found.partition partition same) (number-same found.id.bucket)

here-stands : (partition : List ℕ) (bucket : ℕ) (found : Found) → stands_in partition bucket found ≡ true → found.partition ≡ partition
here-stands partition bucket found e =
    same-text found.partition partition (and_parts (pointwise nat_eq found.partition partition) (found.id.bucket == bucket) e).0

-- of these rows, those of a partition that stand in some bucket
to-bucket : (partition : List ℕ) (found : Found) (rows : List Found) → IsIn found (rows_of partition rows) → IsIn found (filter (stands_in partition found.id.bucket) rows)
to-bucket partition found rows h =
    let kept = from-filter (is_of partition) found rows h in
    in-filter (stands_in partition found.id.bucket) found rows kept.0 (stands-here partition found (same-text found.partition partition kept.1))

from-bucket : (partition : List ℕ) (bucket : ℕ) (found : Found) (rows : List Found) → IsIn found (filter (stands_in partition bucket) rows) → IsIn found (rows_of partition rows)
from-bucket partition bucket found rows h =
    let kept = from-filter (stands_in partition bucket) found rows h in
    in-filter (is_of partition) found rows kept.0 (text-same found.partition partition (here-stands partition bucket found kept.1))

only-one : {X : Type 0} (x y : X) → IsIn x (y ∷ []) → y ≡ x
only-one x y (inl e) = e
only-one x y (inr none) = absurd none

-- ---- inserts: the values of the partition columns come back from the partition's text

module _ (shape : Shape) (partition : List ℕ) where
  insert-again : (found : Found) → IsSaid shape found → found.partition ≡ partition_of shape found.row → found.partition ≡ partition
      → inserted_by shape partition (insert_record shape found) ≡ found ∷ []
  insert-again found said at same =
      let n = length shape.columns in
      let values = found.row.values in
      let parts : partition_values shape.parts partition ≡ drop n values =
      ap (partition_values shape.parts) (sym same ∙ at) ∙ text-says shape.parts (drop n values) said in
      let whole : take n values ++ partition_values shape.parts partition ≡ values =
      ap (λ (vs : List Value). take n values ++ vs) parts ∙ take-append-drop n values in
      λ i. record { partition = sym same i; id = found.id; row = record { values = whole i } } ∷ []

  pub inserts-filed : (written : Written) → ((found : Found) → IsIn found written.inserts → IsSaid shape found × (found.partition ≡ partition_of shape found.row)) → (found : Found)
      → IsIn found (write_in partition written).inserts → (bucket : ℕ) × IsIn found (flat_map (inserted_by shape partition) (records_of shape false partition bucket written))
  inserts-filed written are found h =
      let kept = from-filter (is_of partition) found written.inserts h in
      let is = are found kept.0 in (
        found.id.bucket,
        in-flat (inserted_by shape partition) (insert_record shape found) found (records_of shape false partition found.id.bucket written)
            (in-map (insert_record shape) found (filter (stands_in partition found.id.bucket) written.inserts) (to-bucket partition found written.inserts h))
            (subst (IsIn found) (sym (insert-again found is.0 is.1 (same-text found.partition partition kept.1))) (inl refl)),
      )

  pub filed-inserts : (written : Written) → ((found : Found) → IsIn found written.inserts → IsSaid shape found × (found.partition ≡ partition_of shape found.row)) → (bucket : ℕ) (found : Found)
      → IsIn found (flat_map (inserted_by shape partition) (records_of shape false partition bucket written)) → IsIn found (write_in partition written).inserts
  filed-inserts written are bucket found h =
      let at = from-flat (inserted_by shape partition) found (records_of shape false partition bucket written) h in
      let row = from-map (insert_record shape) at.0 (filter (stands_in partition bucket) written.inserts) at.1 in
      let kept = from-filter (stands_in partition bucket) row.0 written.inserts row.1 in
      let is = are row.0 kept.0 in
      let same : row.0 ≡ found =
      only-one found row.0 (subst (IsIn found) (ap (inserted_by shape partition) (sym row.2) ∙ insert-again row.0 is.0 is.1 (here-stands partition bucket row.0 kept.1)) at.2) in
      subst (λ f. IsIn f (rows_of partition written.inserts)) same (from-bucket partition bucket row.0 written.inserts row.1)

  pub some-insert : (written : Written) (bucket : ℕ) (r : Rec) → IsIn r (records_of shape false partition bucket written) → (found : Found) × IsIn found (inserted_by shape partition r)
  some-insert written bucket r h =
      let row = from-map (insert_record shape) r (filter (stands_in partition bucket) written.inserts) h in
      let found : Found = record {
        partition = partition;
        id = row.0.id;
        row = record { values = take (length shape.columns) row.0.row.values ++ partition_values shape.parts partition };
      } in
      (found, subst (λ x. IsIn found (inserted_by shape partition x)) row.2 (inl refl))

  -- ---- deletes

  pub deletes-filed : (written : Written) (deleted : RowId × ℕ) → IsIn deleted (by_deleter (write_in partition written))
      → (bucket : ℕ) × IsIn deleted (flat_map deleted_by (records_of shape true partition bucket written))
  deletes-filed written deleted h =
      let id = from-map (λ (i : RowId). (i, written.write)) deleted (map id_of (rows_of partition written.deletes)) h in
      let row = from-map id_of id.0 (rows_of partition written.deletes) id.1 in
      let same : (row.0.id, written.write) ≡ deleted = ap (λ (i : RowId). (i, written.write)) row.2 ∙ id.2 in (
        row.0.id.bucket,
        in-flat deleted_by (delete_record written.write row.0) deleted (records_of shape true partition row.0.id.bucket written)
            (in-map (delete_record written.write) row.0 (filter (stands_in partition row.0.id.bucket) written.deletes) (to-bucket partition row.0 written.deletes row.1))
            (inl same),
      )

  pub filed-deletes : (written : Written) (bucket : ℕ) (deleted : RowId × ℕ)
      → IsIn deleted (flat_map deleted_by (records_of shape true partition bucket written)) → IsIn deleted (by_deleter (write_in partition written))
  filed-deletes written bucket deleted h =
      let at = from-flat deleted_by deleted (records_of shape true partition bucket written) h in
      let row = from-map (delete_record written.write) at.0 (filter (stands_in partition bucket) written.deletes) at.1 in
      let same : (row.0.id, written.write) ≡ deleted =
      only-one deleted (row.0.id, written.write) (subst (λ x. IsIn deleted (deleted_by x)) (sym row.2) at.2) in
      subst (λ x. IsIn x (by_deleter (write_in partition written))) same
      (in-map (λ (i : RowId). (i, written.write)) row.0.id (map id_of (rows_of partition written.deletes))
      (in-map id_of row.0 (rows_of partition written.deletes) (from-bucket partition bucket row.0 written.deletes row.1)))

  pub some-delete : (written : Written) (bucket : ℕ) (r : Rec) → IsIn r (records_of shape true partition bucket written) → (deleted : RowId × ℕ) × IsIn deleted (deleted_by r)
  some-delete written bucket r h =
      let row = from-map (delete_record written.write) r (filter (stands_in partition bucket) written.deletes) h in
      ((row.0.id, written.write), subst (λ x. IsIn (row.0.id, written.write) (deleted_by x)) row.2 (inl refl))
