-- The records of a base's files are the rows that were left up to its number.
use Rattle.std.proofs.Common.{refl, ◌≡◌, inl, inr, ℕ, ◌==◌, nat_eq, nat_le, Bool, true, false, cond, Option, Some, None, List, [], ◌∷◌, ◌++◌, filter, take, drop, length, sym, ap, ◌∙◌, subst, true≢false}
use Rattle.std.specs.Cmp.Lexicographic.{pointwise}
use Rattle.std.specs.List.{flat_map, list_any}
use Rattle.std.proofs.lemmas.Bool.{and_parts, and_from}
use Rattle.std.proofs.lemmas.List.{take-append-drop}
use Rattle.hv_value.specs.declared.value.Value.{Value}
use Rattle.hv_logic.specs.Rows.{found_cmp}
use Rattle.hv_logic.specs.declared.catalog.Shape.{Shape}
use Rattle.hv_logic.specs.declared.effect.Found.{Found}
use Rattle.hv_route.specs.Partitions.{partition_values}
use Rattle.hv_route.specs.Standing.{insert_record, stands_in}
use Rattle.hv_route.proofs.BackLemmas.{text-says}
use Rattle.hv_rowfile.specs.declared.record.Rec.{Rec}
use Rattle.hv_history.specs.declared.state.Table.{Table}
use Rattle.hv_history.specs.declared.state.Written.{Written}
use Rattle.hv_history.specs.State.{is_deleted, content_of}
use Rattle.hv_law_directories.specs.hv_stands.proofs.Numbers.{either}
use Rattle.hv_law_directories.specs.hv_table_rows.proofs.Names.{same-text, text-same}
use Rattle.hv_law_made.specs.Made.{is_up_to, rows_up_to, base_recs, in_partition, has_rows, if_bare, some_or, name_file}
use Rattle.hv_law_visible.specs.Members.{IsIn}
use Rattle.hv_law_visible.specs.History as visible
use Rattle.hv_law_visible.specs.History.{Write, is_upto, rows_in}
use Rattle.hv_law_visible.proofs.MemberLemmas.{from-flat, in-map, from-map, in-filter, from-filter, in-any}
use Rattle.hv_law_visible.proofs.SortingLemmas.{from-sorted}
use Rattle.hv_law_directories.specs.hv_law_partitions.specs.Partitions.{id_of, write_in, writes_of}
use Rattle.hv_law_directories.specs.hv_law_partitions.proofs.ContentLemmas.{content-of-partition}
use Rattle.hv_law_directories.specs.Directories.{base_name, inserted_by}
use Rattle.hv_law_directories.proofs.DirLemmas.{number-same}
use Rattle.hv_law_whole.specs.Whole.{IsStored}

-- ---- the file of a bucket

bare-some : (b : Bool) (recs : List Rec) → b ≡ false → some_or false recs (if_bare b 0) ≡ Some (false, recs)
bare-some true recs e = absurd (true≢false e)
bare-some false [] e = refl
bare-some false (r ∷ recs) e = refl

abbrev bare_of : Bool → Bool → Option (Bool × List Rec)
bare_of b zero_bucket = cond {A = Option (Bool × List Rec)} b None (cond {A = Option (Bool × List Rec)} zero_bucket (Some (false, [])) None)

bare-only : (b zero_bucket : Bool) (file : Bool × List Rec) → bare_of b zero_bucket ≡ Some file → bare_of b zero_bucket ≡ Some (false, [])
bare-only true zero_bucket file e = cc
bare-only false true file e = refl
bare-only false false file e = cc

if-bare-is : (b : Bool) (bucket : ℕ) → if_bare b bucket ≡ bare_of b (bucket == 0)
if-bare-is true bucket = refl
if-bare-is false bucket = refl

bare-whole : (b : Bool) (bucket : ℕ) (recs : List Rec) (file : Bool × List Rec) → some_or false recs (if_bare b bucket) ≡ Some file
    → some_or false recs (if_bare b bucket) ≡ Some (false, recs)
bare-whole b bucket [] file e =
    if-bare-is b bucket ∙ bare-only b (bucket == 0) file (sym (if-bare-is b bucket) ∙ e)
bare-whole b bucket (r ∷ recs) file e = refl

first-some : (recs : List Rec) (other : Option (Bool × List Rec)) (r : Rec) → IsIn r recs → some_or false recs other ≡ Some (false, recs)
first-some [] other r at = absurd at
first-some (first ∷ recs) other r at = refl

only-one : {X : Type 0} (x y : X) → IsIn x (y ∷ []) → y ≡ x
only-one x y (inl e) = e
only-one x y (inr none) = absurd none

module _ (table : Table) (partition : List ℕ)
    (stored : (written : Written) → IsIn written table.writes → (found : Found) → IsIn found written.inserts → IsStored table found) where
  abbrev shape : Shape
  shape = table.info.shape

  -- ---- a row that is left was inserted

  left-stored : (base : ℕ) (found : Found) → IsIn found (rows_up_to table.writes base) → IsStored table found
  unfolding content_of
  left-stored base found at =
      let writes = filter (is_up_to base) table.writes in
      let kept = from-filter (λ (f : Found). Rattle.std.specs.Prelude.not (is_deleted writes f)) found (flat_map (λ (written : Written). written.inserts) writes)
      (from-sorted found_cmp found (filter (λ (f : Found). Rattle.std.specs.Prelude.not (is_deleted writes f)) (flat_map (λ (written : Written). written.inserts) writes)) at) in
      let of = from-flat (λ (written : Written). written.inserts) found writes kept.0 in
      stored of.0 (from-filter (is_up_to base) of.0 table.writes of.1).0 found of.2

  insert-again : (found : Found) → IsStored table found → found.partition ≡ partition → inserted_by shape partition (insert_record shape found) ≡ found ∷ []
  insert-again found is same =
      let n = length shape.columns in
      let values = found.row.values in
      let parts : partition_values shape.parts partition ≡ drop n values =
      ap (partition_values shape.parts) (sym same ∙ is.partition_is) ∙ text-says shape.parts (drop n values) is.said in
      let whole : take n values ++ partition_values shape.parts partition ≡ values =
      ap (λ (vs : List Value). take n values ++ vs) parts ∙ take-append-drop n values in
      λ i. record { partition = sym same i; id = found.id; row = record { values = whole i } } ∷ []

  -- ---- the rows of the partition up to a number

  upto-by : (b : Bool) (w : Written) (xs : List (Write Found)) (ys : List Written) → xs ≡ writes_of partition ys
      → cond b (write_in partition w ∷ xs) xs ≡ writes_of partition (cond b (w ∷ ys) ys)
  upto-by true w xs ys e = ap (λ ws. write_in partition w ∷ ws) e
  upto-by false w xs ys e = e

  upto-same : (base : ℕ) (writes : List Written) → filter (is_upto base) (writes_of partition writes) ≡ writes_of partition (filter (is_up_to base) writes)
  upto-same base [] = refl
  upto-same base (w ∷ writes) =
      upto-by (nat_le w.write base) w (filter (is_upto base) (writes_of partition writes)) (filter (is_up_to base) writes) (upto-same base writes)

  abbrev pub left : ℕ → List Found
  left base = rows_in id_of (writes_of partition table.writes) base

  -- left in the partition is left in the table, there
  left-here : (base : ℕ) (found : Found) → IsIn found (left base) → IsIn found (rows_up_to table.writes base) × (found.partition ≡ partition)
  left-here base found at =
      (content-of-partition partition (filter (is_up_to base) table.writes) found).0
      (subst (λ ws. IsIn found (visible.content_of id_of ws)) (upto-same base table.writes) at)

  here-left : (base : ℕ) (found : Found) → IsIn found (rows_up_to table.writes base) → found.partition ≡ partition → IsIn found (left base)
  here-left base found at same =
      subst (λ ws. IsIn found (visible.content_of id_of ws)) (sym (upto-same base table.writes))
      ((content-of-partition partition (filter (is_up_to base) table.writes) found).1 (at, same))

  -- ---- records

  pub record IsBaseRec (base : ℕ) (found : Found) : Type 0 where
    pub bucket : ℕ
    pub rec : Rec
    pub among : IsIn rec (base_recs shape table.writes partition base bucket)
    pub it : IsIn found (inserted_by shape partition rec)

  rec-here : (base : ℕ) (found : Found) → IsIn found (rows_up_to table.writes base) → found.partition ≡ partition
      → IsIn (insert_record shape found) (base_recs shape table.writes partition base found.id.bucket)
  unfolding base_recs
  rec-here base found at same =
      in-map (insert_record shape) found (filter (stands_in partition found.id.bucket) (rows_up_to table.writes base))
      (in-filter (stands_in partition found.id.bucket) found (rows_up_to table.writes base) at
      (and_from (pointwise nat_eq found.partition partition) (found.id.bucket == found.id.bucket) (text-same found.partition partition same) (number-same found.id.bucket)))

  pub to-base : (base : ℕ) (found : Found) → IsIn found (left base) → IsBaseRec base found
  to-base base found at =
      let row = left-here base found at in
      record {
        bucket = found.id.bucket;
        rec = insert_record shape found;
        among = rec-here base found row.0 row.1;
        it = subst (IsIn found) (sym (insert-again found (left-stored base found row.0) row.1)) (inl refl);
      }

  pub from-base : (base bucket : ℕ) (r : Rec) (found : Found) → IsIn r (base_recs shape table.writes partition base bucket) → IsIn found (inserted_by shape partition r)
      → IsIn found (left base)
  unfolding base_recs
  from-base base bucket r found at it =
      let of = from-map (insert_record shape) r (filter (stands_in partition bucket) (rows_up_to table.writes base)) at in
      let kept = from-filter (stands_in partition bucket) of.0 (rows_up_to table.writes base) of.1 in
      let both = and_parts (pointwise nat_eq of.0.partition partition) (of.0.id.bucket == bucket) kept.1 in
      let at_partition = same-text of.0.partition partition both.0 in
      let one : of.0 ≡ found =
      only-one found of.0 (subst (IsIn found) (ap (inserted_by shape partition) (sym of.2) ∙ insert-again of.0 (left-stored base of.0 kept.0) at_partition) it) in
      subst (λ f. IsIn f (left base)) one (here-left base of.0 kept.0 at_partition)

  -- ---- files

  -- the records of a base's file are those of its bucket
  pub base-whole : (base bucket : ℕ) (file : Bool × List Rec) → name_file shape table.writes partition (base_name base) bucket ≡ Some file
      → name_file shape table.writes partition (base_name base) bucket ≡ Some (false, base_recs shape table.writes partition base bucket)
  unfolding name_file
  base-whole base bucket file e = bare-whole (has_rows table.writes partition base) bucket (base_recs shape table.writes partition base bucket) file e

  pub base-filed : (base bucket : ℕ) (r : Rec) → IsIn r (base_recs shape table.writes partition base bucket)
      → name_file shape table.writes partition (base_name base) bucket ≡ Some (false, base_recs shape table.writes partition base bucket)
  unfolding name_file
  base-filed base bucket r at =
      first-some (base_recs shape table.writes partition base bucket) (if_bare (has_rows table.writes partition base) bucket) r at

  -- in one bucket at least it has a file
  pub base-some : (base : ℕ) → (bucket : ℕ)
      × (name_file shape table.writes partition (base_name base) bucket ≡ Some (false, base_recs shape table.writes partition base bucket))
  unfolding name_file
  base-some base = elim (either (has_rows table.writes partition base)) [
    | inl e ↦
        let row = in-any (in_partition partition) (rows_up_to table.writes base) e in
        let same = same-text row.0.partition partition row.2 in (
          row.0.id.bucket,
          first-some (base_recs shape table.writes partition base row.0.id.bucket) (if_bare (has_rows table.writes partition base) row.0.id.bucket)
              (insert_record shape row.0) (rec-here base row.0 row.1 same),
        )
    | inr e ↦ (0, bare-some (has_rows table.writes partition base) (base_recs shape table.writes partition base 0) e)
  ]
