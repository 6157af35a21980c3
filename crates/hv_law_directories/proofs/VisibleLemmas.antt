-- The rows that are read of a table are, partition by partition, those that its directories show.
use Rattle.std.proofs.Common.{refl, ◌≡◌, inl, inr, ℕ, zero, suc, Bool, true, false, cond, not, List, [], ◌∷◌, sym, ap, ◌∙◌, subst}
use Rattle.std.specs.declared.cmp.Ordering.{Ordering}
use Rattle.std.specs.declared.cmp.Ordering.TheVariants.{Less, Equal, Greater}
use Rattle.std.specs.Ordering.{is_eq, nat_cmp, ordering_then}
use Rattle.std.specs.Cmp.Lexicographic.{slice_cmp}
use Rattle.std.specs.List.{flat_map}
use Rattle.std.specs.List.Sorted.{IsStrictlySortedBy}
use Rattle.std.proofs.lemmas.Bool.{and_parts, and_from}
use Rattle.std.proofs.lemmas.List.Kept.{IsStrictlySortedBy-filter}
use Rattle.hv_base.specs.declared.ids.RowId.{RowId}
use Rattle.hv_base.specs.Identifiers.{row_id_cmp}
use Rattle.hv_shelf.specs.Disk as disk
use Rattle.hv_value.specs.declared.row.Row.{Row}
use Rattle.hv_logic.specs.declared.catalog.Shape.{Shape}
use Rattle.hv_logic.specs.declared.catalog.TableInfo.{TableInfo}
use Rattle.hv_logic.specs.declared.effect.Found.{Found}
use Rattle.hv_logic.specs.Rows.{found_cmp}
use Rattle.hv_route.specs.Partitions.{partition_values}
use Rattle.hv_rowfile.specs.declared.record.Rec.{Rec}
use Rattle.hv_rowfile.specs.declared.record.Rec.TheVariants.{Insert, Delete}
use Rattle.hv_wids.specs.WriteIds.{WriteIds, is_valid}
use Rattle.hv_dirs.specs.declared.names.DirName.{DirName}
use Rattle.hv_dirs.specs.Choice.{Sight, sight_of}
use Rattle.hv_choosing.specs.Taken.{delta_name}
use Rattle.hv_choosing.proofs.Searching.{same-text, text-tied}
use Rattle.hv_law_visible.specs.Members.{IsIn}
use Rattle.hv_law_visible.specs.History.{is_row}
use Rattle.hv_law_visible.specs.Visible.{Tree, names_it, is_gone, is_visible, base_rows, base_chosen, deltas_chosen, deletes_chosen, records_read, deletes_read, visible_rows, by_id}
use Rattle.hv_law_visible.proofs.MemberLemmas.{in-left, in-right, in-either, in-flat, from-flat, in-filter, from-filter, any-in, in-any}
use Rattle.hv_law_visible.proofs.SortingLemmas.{all-from}
use Rattle.hv_law_visible.proofs.TakenLemmas.{all-in}
use Rattle.hv_table_rows.specs.declared.row_at.RowAt.{RowAt}
use Rattle.hv_table_rows.specs.Orders.{row_at_cmp}
use Rattle.hv_table_rows.specs.Reading as tables
use Rattle.hv_table_rows.specs.Reading.{Sheet, partition_in, row_with, found_with, founds_in, deleted_with, deleted_in, at_of, AreOnce, AreRows}
use Rattle.hv_table_rows.proofs.Names.{text-same}
use Rattle.hv_table_rows.proofs.Names as names
use Rattle.hv_law_partitions.specs.Partitions.{id_of, is_of, rows_of}
use Rattle.hv_stands.proofs.FileRecords.{by-id}
use Rattle.hv_table_rows.proofs.ReadContent.{both-ways}
use Rattle.hv_law_directories.specs.Reading.{Reading, IsReading}
use Rattle.hv_law_directories.specs.Directories.{dir_of, base_name, recs_in, inserted_by, deleted_by, rows_held, deletes_held, directories_in}
use Rattle.hv_law_directories.specs.Laws.{RowsAreVisible}
use Rattle.hv_law_directories.proofs.ChosenLemmas.{IsChosenName, sheet-rec, rec-sheet}

-- ---- one record

module _ (list : WriteIds) (shape : Shape) (part : List ℕ) where
  abbrev with_part : RowId → Row → Found
  with_part id row = record { partition = part; id = id; row = row_with row (partition_values shape.parts part) }

  pub record IsInserted (found : Found) (r : Rec) : Type 0 where
    pub here : found.partition ≡ part
    pub valid : is_valid list found.id.write.0 ≡ true
    pub it : IsIn found (inserted_by shape part r)

  pub found-from : (found : Found) (r : Rec) → IsIn found (found_with list part (partition_values shape.parts part) r) → IsInserted found r
  found-from found (Delete id at) h = absurd h
  found-from found (Insert id row) h = by (is_valid list id.write.0) refl h
    where
      by : (b : Bool) → is_valid list id.write.0 ≡ b → IsIn found (cond b (with_part id row ∷ []) []) → IsInserted found (Insert id row)
      by false is h = absurd h
      by true is (inr none) = absurd none
      by true is (inl e) = record {
        here = sym (ap (λ (f : Found). f.partition) e);
        valid = ap (λ (f : Found). is_valid list f.id.write.0) (sym e) ∙ is;
        it = inl e;
      }

  found-to : (found : Found) (r : Rec) → IsIn found (inserted_by shape part r) → is_valid list found.id.write.0 ≡ true
      → IsIn found (found_with list part (partition_values shape.parts part) r)
  found-to found (Delete id at) h valid = absurd h
  found-to found (Insert id row) (inr none) valid = absurd none
  found-to found (Insert id row) (inl e) valid =
      let is : is_valid list id.write.0 ≡ true = ap (λ (f : Found). is_valid list f.id.write.0) e ∙ valid in
      subst (λ b. IsIn found (cond b (with_part id row ∷ []) [])) (sym is) (inl e)

  inserted-here : (found : Found) (r : Rec) → IsIn found (inserted_by shape part r) → found.partition ≡ part
  inserted-here found (Delete id at) h = absurd h
  inserted-here found (Insert id row) (inr none) = absurd none
  inserted-here found (Insert id row) (inl e) = sym (ap (λ (f : Found). f.partition) e)

  abbrev at_row : RowId → RowAt
  at_row id = record { partition = part; id = id }

  pub record IsDeleted (row : RowAt) (r : Rec) : Type 0 where
    pub writer : ℕ
    pub here : row.partition ≡ part
    pub valid : is_valid list writer ≡ true
    pub it : IsIn (row.id, writer) (deleted_by r)

  deleted-from : (row : RowAt) (r : Rec) → IsIn row (deleted_with list part r) → IsDeleted row r
  deleted-from row (Insert id values) h = absurd h
  deleted-from row (Delete id writer) h = by (is_valid list writer.0) refl h
    where
      by : (b : Bool) → is_valid list writer.0 ≡ b → IsIn row (cond b (at_row id ∷ []) []) → IsDeleted row (Delete id writer)
      by false is h = absurd h
      by true is (inr none) = absurd none
      by true is (inl e) = record {
        writer = writer.0;
        here = sym (ap (λ (x : RowAt). x.partition) e);
        valid = is;
        it = inl (ap (λ (x : RowAt). both_of x.id writer.0) e);
      }
        where
          both_of : RowId → ℕ → RowId × ℕ
          both_of id writer = (id, writer)

  deleted-to : (deleted : RowId × ℕ) (r : Rec) → IsIn deleted (deleted_by r) → is_valid list deleted.1 ≡ true
      → IsIn (at_row deleted.0) (deleted_with list part r)
  deleted-to deleted (Insert id values) h valid = absurd h
  deleted-to deleted (Delete id writer) (inr none) valid = absurd none
  deleted-to deleted (Delete id writer) (inl e) valid =
      let is : is_valid list writer.0 ≡ true = ap (λ (x : RowId × ℕ). is_valid list x.1) e ∙ valid in
      subst (λ b. IsIn (at_row deleted.0) (cond b (at_row id ∷ []) [])) (sym is) (inl (ap (λ (x : RowId × ℕ). at_row x.0) e))

-- ---- what ties

then-eq : (a b : Ordering) → is_eq (ordering_then a b) ≡ true → (is_eq a ≡ true) × (is_eq b ≡ true)
then-eq Less b e = cc
then-eq Equal b e = (refl, e)
then-eq Greater b e = cc

eq-then : (a b : Ordering) → is_eq a ≡ true → is_eq b ≡ true → is_eq (ordering_then a b) ≡ true
eq-then Less b e f = cc
eq-then Equal b e f = f
eq-then Greater b e f = cc

row-tie : (x y : RowAt) → is_eq (row_at_cmp x y) ≡ true → (x.partition ≡ y.partition) × (is_eq (row_id_cmp x.id y.id) ≡ true)
unfolding row_at_cmp
row-tie x y e =
    let parts = then-eq (slice_cmp nat_cmp x.partition y.partition) (row_id_cmp x.id y.id) e in
    (same-text x.partition y.partition parts.0, parts.1)

tie-row : (x y : RowAt) → x.partition ≡ y.partition → is_eq (row_id_cmp x.id y.id) ≡ true → is_eq (row_at_cmp x y) ≡ true
unfolding row_at_cmp
tie-row x y same e =
    eq-then (slice_cmp nat_cmp x.partition y.partition) (row_id_cmp x.id y.id) (text-tied x.partition y.partition same) e

found-tie : (x y : Found) → is_eq (found_cmp x y) ≡ true → (x.partition ≡ y.partition) × (is_eq (row_id_cmp x.id y.id) ≡ true)
found-tie x y e =
    let parts = then-eq (slice_cmp nat_cmp x.partition y.partition) (row_id_cmp x.id y.id) e in
    (same-text x.partition y.partition parts.0, parts.1)

-- rows of one partition rise by their identifiers
rise-by-id : (partition : List ℕ) (rows : List Found) → ((x : Found) → IsIn x rows → x.partition ≡ partition) → IsStrictlySortedBy found_cmp rows → IsStrictlySortedBy (by_id id_of) rows
unfolding IsStrictlySortedBy
rise-by-id partition [] here up = tt
rise-by-id partition (x ∷ rows) here up = (
  all-from (λ y. by_id id_of x y ≡ Less) rows (λ y h.
      sym (by-id x y (here x (inl refl) ∙ sym (here y (inr h)))) ∙ all-in (λ z. found_cmp x z ≡ Less) rows y up.0 h),
  rise-by-id partition rows (λ y h. here y (inr h)) up.1,
)

-- ---- the rows of a table under a list

module _ (read : Reading) (wants : List ℕ → Bool) (info : TableInfo) (list : WriteIds) (partition : List ℕ) (files : disk.Tree) (rows : List Found) (reads : IsReading read)
    (are : AreRows wants info list files rows) (wanted : wants partition ≡ true) where
  abbrev tree : Tree Found
  tree = directories_in read info partition files are.named

  abbrev sight : Sight
  sight = sight_of list

  abbrev IsName : Bool → DirName → Type 0
  IsName kind n = IsChosenName info list partition files are.named are.listed kind n

  -- ---- what the chosen directories hold

  abbrev IsHeld : Found → Type 0
  IsHeld found = (n : DirName) × IsName false n × IsIn found (rows_held read info partition files n)

  base-held : (b : ℕ) → base_chosen sight tree ≡ b → (found : Found) → IsIn found (base_rows tree b) → IsHeld found
  base-held zero is found h = absurd h
  base-held (suc m) is found h = (base_name (suc m), inl (m, is, refl), h)

  held-by : (found : Found) → IsIn found (records_read sight tree) → IsHeld found
  held-by found h = elim (in-either found (base_rows tree (base_chosen sight tree)) (flat_map tree.inserts (deltas_chosen sight tree)) h) [
    | inl base ↦ base-held (base_chosen sight tree) refl found base
    | inr delta ↦ let at = from-flat tree.inserts found (deltas_chosen sight tree) delta in (delta_name false at.0, inr (at.0, at.1, refl), at.2)
  ]

  in-base : (b m : ℕ) → b ≡ suc m → (found : Found) → IsIn found (rows_held read info partition files (base_name (suc m))) → IsIn found (base_rows tree b)
  in-base zero m e found h = cc
  in-base (suc k) m e found h = subst (λ j. IsIn found (rows_held read info partition files (base_name j))) (sym e) h

  by-held : (found : Found) → IsHeld found → IsIn found (records_read sight tree)
  by-held found (n, inl (m, is, same), h) =
      in-left found (base_rows tree (base_chosen sight tree)) (flat_map tree.inserts (deltas_chosen sight tree))
      (in-base (base_chosen sight tree) m is found (subst (λ k. IsIn found (rows_held read info partition files k)) (sym same) h))
  by-held found (n, inr (d, at, same), h) =
      in-right found (base_rows tree (base_chosen sight tree)) (flat_map tree.inserts (deltas_chosen sight tree))
      (in-flat tree.inserts d found (deltas_chosen sight tree) at (subst (λ k. IsIn found (rows_held read info partition files k)) (sym same) h))

  abbrev IsDeletedBy : RowId × ℕ → Type 0
  IsDeletedBy deleted = (n : DirName) × IsName true n × IsIn deleted (deletes_held read info partition files n)

  deleted-by : (deleted : RowId × ℕ) → IsIn deleted (deletes_read sight tree) → IsDeletedBy deleted
  deleted-by deleted h =
      let at = from-flat tree.deletes deleted (deletes_chosen sight tree) h in (delta_name true at.0, inr (at.0, at.1, refl), at.2)

  by-deleted : (deleted : RowId × ℕ) → IsDeletedBy deleted → IsIn deleted (deletes_read sight tree)
  by-deleted deleted (n, inl base, h) = absurd base
  by-deleted deleted (n, inr (d, at, same), h) =
      in-flat tree.deletes d deleted (deletes_chosen sight tree) at (subst (λ k. IsIn deleted (deletes_held read info partition files k)) (sym same) h)

  -- ---- the rows that are inserted

  inserted-read : (found : Found) → IsIn found are.inserted → found.partition ≡ partition → IsIn found (records_read sight tree) × (is_valid list found.id.write.0 ≡ true)
  inserted-read found h here =
      let sheets = are.inserts.sheets in
      let at = from-flat (founds_in list info.shape) found sheets (subst (IsIn found) are.inserts.items_are h) in
      let sheet : Sheet = at.0 in
      let part : List ℕ = partition_in sheet in
      let r = from-flat (found_with list part (partition_values info.shape.parts part)) found sheet.recs at.2 in
      let inserted = found-from list info.shape part found r.0 r.2 in
      let same : part ≡ partition = sym inserted.here ∙ here in
      let of = sheet-rec info list partition files are.named are.listed wants wanted read reads false sheets are.inserts.files_are are.inserts.each sheet at.1 same r.0 r.1 in (
        by-held found (
          of.name,
          of.is_chosen,
          in-flat (inserted_by info.shape partition) r.0 found (recs_in read false files (dir_of info partition of.name)) of.among
              (subst (λ p. IsIn found (inserted_by info.shape p r.0)) same inserted.it),
        ),
        inserted.valid,
      )

  read-inserted : (found : Found) → IsIn found (records_read sight tree) → is_valid list found.id.write.0 ≡ true → IsIn found are.inserted × (found.partition ≡ partition)
  read-inserted found h valid =
      let sheets = are.inserts.sheets in
      let held = held-by found h in
      let r = from-flat (inserted_by info.shape partition) found (recs_in read false files (dir_of info partition held.0)) held.2 in
      let of = rec-sheet info list partition files are.named are.listed wants wanted read reads false sheets are.inserts.files_are are.inserts.each held.0 held.1 r.0 r.1 in
      let sheet : Sheet = of.sheet in
      let again = subst (λ p. IsIn found (found_with list p (partition_values info.shape.parts p) r.0)) (sym of.here)
      (found-to list info.shape partition found r.0 r.2 valid) in (
        subst (IsIn found) (sym are.inserts.items_are)
            (in-flat (founds_in list info.shape) sheet found sheets of.among
            (in-flat (found_with list (partition_in sheet) (partition_values info.shape.parts (partition_in sheet))) r.0 found sheet.recs of.it again)),
        inserted-here list info.shape partition found r.0 r.2,
      )

  -- ---- the rows that are deleted

  gone-read : (found : Found) → found.partition ≡ partition → tables.is_gone are.gone (at_of found) ≡ true → is_gone sight (deletes_read sight tree) found.id ≡ true
  gone-read found here e =
      let sheets = are.deletes.sheets in
      let row = in-any (λ (other : RowAt). is_eq (row_at_cmp other (at_of found))) are.gone e in
      let tie = row-tie row.0 (at_of found) row.2 in
      let at = from-flat (deleted_in list) row.0 sheets (subst (IsIn row.0) are.deletes.items_are row.1) in
      let sheet : Sheet = at.0 in
      let part : List ℕ = partition_in sheet in
      let r = from-flat (deleted_with list part) row.0 sheet.recs at.2 in
      let deleted = deleted-from list info.shape part row.0 r.0 r.2 in
      let same : part ≡ partition = sym deleted.here ∙ tie.0 ∙ here in
      let of = sheet-rec info list partition files are.named are.listed wants wanted read reads true sheets are.deletes.files_are are.deletes.each sheet at.1 same r.0 r.1 in
      let among = by-deleted (row.0.id, deleted.writer)
      (of.name, of.is_chosen, in-flat deleted_by r.0 (row.0.id, deleted.writer) (recs_in read true files (dir_of info partition of.name)) of.among deleted.it) in
      any-in (names_it sight found.id) (row.0.id, deleted.writer) (deletes_read sight tree) among
      (and_from (is_valid list deleted.writer) (is_row row.0.id found.id) deleted.valid tie.1)

  -- by a record of a chosen directory
  record-gone : (found : Found) → found.partition ≡ partition → (deleted : RowId × ℕ) → is_valid list deleted.1 ≡ true → is_row deleted.0 found.id ≡ true
      → (n : DirName) → IsName true n → (r : Rec) → IsIn r (recs_in read true files (dir_of info partition n)) → IsIn deleted (deleted_by r)
      → tables.is_gone are.gone (at_of found) ≡ true
  record-gone found here deleted valid same_row n is r among it =
      let sheets = are.deletes.sheets in
      let of = rec-sheet info list partition files are.named are.listed wants wanted read reads true sheets are.deletes.files_are are.deletes.each n is r among in
      let sheet : Sheet = of.sheet in
      let part_is : partition ≡ partition_in sheet = sym of.here in
      let row_is : partition ≡ found.partition = sym here in
      let row : RowAt = record { partition = partition; id = deleted.0 } in
      let again = subst (λ p. IsIn row (deleted_with list p r)) part_is (deleted-to list info.shape partition deleted r it valid) in
      let gone : IsIn row are.gone = subst (IsIn row) (sym are.deletes.items_are)
      (in-flat (deleted_in list) sheet row sheets of.among (in-flat (deleted_with list (partition_in sheet)) r row sheet.recs of.it again)) in
      any-in (λ (other : RowAt). is_eq (row_at_cmp other (at_of found))) row are.gone gone (tie-row row (at_of found) row_is same_row)

  read-gone : (found : Found) → found.partition ≡ partition → is_gone sight (deletes_read sight tree) found.id ≡ true → tables.is_gone are.gone (at_of found) ≡ true
  read-gone found here e =
      let deleted = in-any (names_it sight found.id) (deletes_read sight tree) e in
      let parts = and_parts (is_valid list deleted.0.1) (is_row deleted.0.0 found.id) deleted.2 in
      let held = deleted-by deleted.0 deleted.1 in
      let r = from-flat deleted_by deleted.0 (recs_in read true files (dir_of info partition held.0)) held.2 in
      record-gone found here deleted.0 parts.0 parts.1 held.0 held.1 r.0 r.1 r.2

  gone-same : (found : Found) → found.partition ≡ partition → tables.is_gone are.gone (at_of found) ≡ is_gone sight (deletes_read sight tree) found.id
  gone-same found here =
      both-ways (tables.is_gone are.gone (at_of found)) (is_gone sight (deletes_read sight tree) found.id) (gone-read found here) (read-gone found here)

  -- ---- the rows that are left

  abbrev Left : Found → Bool
  Left found = not (tables.is_gone are.gone (at_of found))

  abbrev Seen : Found → Bool
  Seen found = is_visible sight (deletes_read sight tree) (id_of found)

  pub visible-once : AreOnce (by_id id_of) (visible_rows id_of sight tree) (rows_of partition rows)
  visible-once = record {
    up = rise-by-id partition (rows_of partition rows)
        (λ x h. names.same-text x.partition partition (from-filter (is_of partition) x rows h).1)
        (IsStrictlySortedBy-filter found_cmp (is_of partition) rows are.rows_are.up);
    among = λ x h.
        let kept = from-filter (is_of partition) x rows h in
        let here = names.same-text x.partition partition kept.1 in
        let left = from-filter Left x are.inserted (are.rows_are.among x kept.0) in
        let at = inserted-read x left.0 here in
        in-filter Seen x (records_read sight tree) at.0
        (and_from (is_valid list x.id.write.0) (not (is_gone sight (deletes_read sight tree) x.id)) at.1 (ap not (sym (gone-same x here)) ∙ left.1));
    every = λ x h.
        let seen = from-filter Seen x (records_read sight tree) h in
        let parts = and_parts (is_valid list x.id.write.0) (not (is_gone sight (deletes_read sight tree) x.id)) seen.1 in
        let at = read-inserted x seen.0 parts.0 in
        let left = in-filter Left x are.inserted at.0 (ap not (gone-same x at.1) ∙ parts.1) in
        let other = are.rows_are.every x left in
        let tie = found-tie x other.0 other.2 in
        (other.0, in-filter (is_of partition) other.0 rows other.1 (text-same other.0.partition partition (sym tie.0 ∙ at.1)), tie.1);
  }

pub rows-visible : RowsAreVisible
rows-visible read wants info list partition files rows reads are wanted = visible-once read wants info list partition files rows reads are wanted
