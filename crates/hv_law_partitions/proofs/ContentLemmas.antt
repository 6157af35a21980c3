-- What is left of a partition's writes is what is left of the table's in the partition.
use Rattle.std.proofs.Common.{refl, ◌≡◌, ℕ, nat_eq, Bool, true, false, cond, not, ◌||◌, List, [], ◌∷◌, ◌++◌, map, filter, sym, ap, ◌∙◌, subst}
use Rattle.std.proofs.lemmas.Bool.{and_parts, eqb-true}
use Rattle.std.proofs.lemmas.List.Elements.{filter-append}
use mathlib.Core.List.{map-append}
use Rattle.std.specs.declared.cmp.Ordering.{Ordering}
use Rattle.std.specs.declared.cmp.Ordering.TheVariants.{Less, Equal, Greater}
use Rattle.std.specs.Ordering.{nat_cmp, is_eq, ordering_then}
use Rattle.std.specs.Cmp.Lexicographic.{slice_cmp, pointwise, texts_ties, nat_list_cmp_total}
use Rattle.std.specs.List.{flat_map, list_any}
use Rattle.hv_base.specs.declared.ids.RowId.{RowId}
use Rattle.hv_base.specs.Identifiers.{row_id_cmp}
use Rattle.hv_logic.specs.Rows.{found_cmp}
use Rattle.hv_logic.specs.declared.effect.Found.{Found}
use Rattle.hv_history.specs.declared.state.Written.{Written}
use Rattle.hv_history.specs.State.{content_of, is_deleted}
use Rattle.hv_law_visible.specs.Members.{IsIn}
use Rattle.hv_law_visible.specs.History as visible
use Rattle.hv_law_visible.specs.History.{Write, is_row, deletes_of, inserts_of}
use Rattle.hv_law_visible.proofs.MemberLemmas.{in-flat, from-flat, in-map, from-map, in-filter, from-filter}
use Rattle.hv_law_visible.proofs.SortingLemmas.{from-sorted, to-sorted}
use Rattle.hv_stands.proofs.FileRecords.{by-id, tied}
use Rattle.hv_law_partitions.specs.Partitions.{id_of, is_of, rows_of, write_in, writes_of}
use Rattle.hv_law_partitions.specs.Laws.{ContentIsOfPartition}

-- ---- texts

pub text-of : (a b : List ℕ) → pointwise nat_eq a b ≡ true → a ≡ b
text-of [] [] e = refl
text-of [] (y ∷ ys) e = cc
text-of (x ∷ xs) [] e = cc
text-of (x ∷ xs) (y ∷ ys) e =
    let p = and_parts (nat_eq x y) (pointwise nat_eq xs ys) e in
    λ i. eqb-true x y p.0 i ∷ text-of xs ys p.1 i

same-text : (text : List ℕ) → slice_cmp nat_cmp text text ≡ Equal
same-text text = tied (slice_cmp nat_cmp text text) (nat_list_cmp_total.antisymm text text)

pub of-text : (a b : List ℕ) → a ≡ b → pointwise nat_eq a b ≡ true
of-text a b e = ap (λ c. pointwise nat_eq c b) e ∙ texts_ties b b ∙ ap is_eq (same-text b)

-- rows of other partitions don't tie
then-apart : (o rest : Ordering) → is_eq o ≡ false → is_eq (ordering_then o rest) ≡ false
then-apart Less rest e = refl
then-apart Equal rest e = cc
then-apart Greater rest e = refl

apart : (x y : Found) → pointwise nat_eq x.partition y.partition ≡ false → is_eq (found_cmp x y) ≡ false
apart x y e =
    then-apart (slice_cmp nat_cmp x.partition y.partition) (row_id_cmp x.id y.id) (sym (texts_ties x.partition y.partition) ∙ e)

-- ---- what is deleted

module _ (partition : List ℕ) where
  gone-same : (found : Found) (deletes : List Found) → found.partition ≡ partition
      → list_any (λ (other : RowId). is_row other found.id) (map id_of (rows_of partition deletes))
      ≡ list_any (λ (other : Found). is_eq (found_cmp other found)) deletes
  gone-same found [] here = refl
  gone-same found (d ∷ deletes) here = by (is_of partition d) refl (gone-same found deletes here)
    where
      by : (b : Bool) → is_of partition d ≡ b
          → list_any (λ (other : RowId). is_row other found.id) (map id_of (rows_of partition deletes))
          ≡ list_any (λ (other : Found). is_eq (found_cmp other found)) deletes
          → list_any (λ (other : RowId). is_row other found.id) (map id_of (cond b (d ∷ rows_of partition deletes) (rows_of partition deletes)))
          ≡ (is_eq (found_cmp d found) || list_any (λ (other : Found). is_eq (found_cmp other found)) deletes)
      by true is rest =
          λ i. is_eq (sym (by-id d found (text-of d.partition partition is ∙ sym here)) i) || rest i
      by false is rest =
          rest ∙ ap (λ b. b || list_any (λ (other : Found). is_eq (found_cmp other found)) deletes)
          (sym (apart d found (ap (pointwise nat_eq d.partition) here ∙ is)))

  deletes-same : (writes : List Written) → deletes_of (writes_of partition writes) ≡ map id_of (rows_of partition (flat_map (λ (written : Written). written.deletes) writes))
  deletes-same [] = refl
  deletes-same (written ∷ writes) =
      let rest : List Found = flat_map (λ (w : Written). w.deletes) writes in
      ap (λ ids. map id_of (rows_of partition written.deletes) ++ ids) (deletes-same writes)
      ∙ sym (map-append id_of (rows_of partition written.deletes) (rows_of partition rest))
      ∙ ap (map id_of) (sym (filter-append (is_of partition) written.deletes rest))

  pub deleted-same : (writes : List Written) (found : Found) → found.partition ≡ partition
      → visible.is_deleted (writes_of partition writes) found.id ≡ is_deleted writes found
  deleted-same writes found here =
      ap (list_any (λ (other : RowId). is_row other found.id)) (deletes-same writes)
      ∙ gone-same found (flat_map (λ (written : Written). written.deletes) writes) here

  -- ---- what is inserted

  pub record Inserted (writes : List Written) (found : Found) : Type 0 where
    pub written : Written
    pub among : IsIn written writes
    pub row : IsIn found written.inserts
    pub here : found.partition ≡ partition

  pub from-rows : (found : Found) (rows : List Found) → IsIn found (rows_of partition rows) → IsIn found rows × (found.partition ≡ partition)
  from-rows found rows at =
      let m = from-filter (is_of partition) found rows at in
      (m.0, text-of found.partition partition m.1)

  pub inserted-from : (writes : List Written) (found : Found) → IsIn found (inserts_of (writes_of partition writes)) → Inserted writes found
  inserted-from writes found at =
      let m = from-flat (λ (w : Write Found). w.inserts) found (writes_of partition writes) at in
      let n = from-map (write_in partition) m.0 writes m.1 in
      let row : IsIn found (rows_of partition n.0.inserts) = subst (λ (w : Write Found). IsIn found w.inserts) (sym n.2) m.2 in
      let k = from-rows found n.0.inserts row in
      record { written = n.0; among = n.1; row = k.0; here = k.1 }

  pub to-inserted : (writes : List Written) (written : Written) (found : Found) → IsIn written writes → IsIn found written.inserts → found.partition ≡ partition
      → IsIn found (inserts_of (writes_of partition writes))
  to-inserted writes written found among row here =
      in-flat (λ (w : Write Found). w.inserts) (write_in partition written) found (writes_of partition writes)
      (in-map (write_in partition) written writes among)
      (in-filter (is_of partition) found written.inserts row (of-text found.partition partition here))

-- ---- what is left

from-partition : (partition : List ℕ) (writes : List Written) (found : Found) → IsIn found (visible.content_of id_of (writes_of partition writes))
    → IsIn found (content_of writes) × (found.partition ≡ partition)
unfolding content_of
from-partition partition writes found at =
    let m = from-filter (λ (row : Found). not (visible.is_deleted (writes_of partition writes) (id_of row))) found (inserts_of (writes_of partition writes)) at in
    let k = inserted-from partition writes found m.0 in
    let rows : List Found = flat_map (λ (w : Written). w.inserts) writes in
    let kept : not (is_deleted writes found) ≡ true = ap not (sym (deleted-same partition writes found k.here)) ∙ m.1 in (
      to-sorted found_cmp found (filter (λ row. not (is_deleted writes row)) rows)
          (in-filter (λ row. not (is_deleted writes row)) found rows (in-flat (λ (w : Written). w.inserts) k.written found writes k.among k.row) kept),
      k.here,
    )

to-partition : (partition : List ℕ) (writes : List Written) (found : Found) → IsIn found (content_of writes) × (found.partition ≡ partition)
    → IsIn found (visible.content_of id_of (writes_of partition writes))
unfolding content_of
to-partition partition writes found at =
    let rows : List Found = flat_map (λ (w : Written). w.inserts) writes in
    let m = from-filter (λ row. not (is_deleted writes row)) found rows
    (from-sorted found_cmp found (filter (λ row. not (is_deleted writes row)) rows) at.0) in
    let k = from-flat (λ (w : Written). w.inserts) found writes m.0 in
    in-filter (λ (row : Found). not (visible.is_deleted (writes_of partition writes) (id_of row))) found (inserts_of (writes_of partition writes))
    (to-inserted partition writes k.0 found k.1 k.2 at.1)
    (ap not (deleted-same partition writes found at.1) ∙ m.1)

pub content-of-partition : ContentIsOfPartition
content-of-partition partition writes found = (from-partition partition writes found, to-partition partition writes found)
