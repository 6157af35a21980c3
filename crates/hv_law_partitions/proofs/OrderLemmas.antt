-- What is left of a partition's writes, sorted, is what stands in the table, in the partition.
use Rattle.std.proofs.Common.{refl, ◌≡◌, ℕ, Bool, true, false, cond, not, List, [], ◌∷◌, ◌++◌, filter, sym, ap, ◌∙◌}
use Rattle.std.proofs.lemmas.List.Elements.{filter-append}
use Rattle.std.specs.declared.cmp.Ordering.{Ordering}
use Rattle.std.specs.declared.cmp.Ordering.TheVariants.{Less, Equal, Greater}
use Rattle.std.specs.List.{flat_map, AllByRecursion}
use Rattle.hv_logic.specs.Rows.{found_cmp}
use Rattle.hv_base.specs.Sorting.{placed_by, put_by, sorted_by}
use Rattle.hv_logic.specs.declared.effect.Found.{Found}
use Rattle.hv_history.specs.declared.state.Written.{Written}
use Rattle.hv_history.specs.State.{content_of, is_deleted}
use Rattle.hv_stands.proofs.StandingRows.{found-total}
use Rattle.hv_law_visible.specs.History as visible
use Rattle.hv_law_visible.specs.History.{inserts_of}
use Rattle.hv_law_visible.specs.Visible.{by_id}
use Rattle.hv_law_visible.proofs.OrderLemmas.{NotOver, Pairs, less-not, equal-not, over-all, pairs-sorted}
use Rattle.hv_law_partitions.specs.Partitions.{id_of, is_of, rows_of, writes_of}
use Rattle.hv_law_partitions.specs.Laws.{ContentIsInOrder}
use Rattle.hv_law_partitions.proofs.ContentLemmas.{text-of, deleted-same}
use Rattle.hv_stands.proofs.FileRecords.{by-id}

-- ---- the rows of a partition, in a sorted list

module _ (partition : List ℕ) where
  Sorted : List Found → Type 0
  Sorted rows = Pairs found_cmp found-total rows

  here-by : (x y : Found) → is_of partition x ≡ true → is_of partition y ≡ true → by_id id_of x y ≡ found_cmp x y
  here-by x y a b = sym (by-id x y (text-of x.partition partition a ∙ sym (text-of y.partition partition b)))

  -- one of another partition
  put-other : (x : Found) (rows : List Found) → is_of partition x ≡ false → rows_of partition (put_by found_cmp x rows) ≡ rows_of partition rows
  put-other x [] other = ap (λ b. cond b (x ∷ []) []) other
  put-other x (y ∷ rows) other = by (found_cmp x y) (put-other x rows other)
    where
      by : (o : Ordering) → rows_of partition (put_by found_cmp x rows) ≡ rows_of partition rows → rows_of partition (placed_by found_cmp o x y rows (put_by found_cmp x rows)) ≡ rows_of partition (y ∷ rows)
      by Less rest = ap (λ b. cond b (x ∷ rows_of partition (y ∷ rows)) (rows_of partition (y ∷ rows))) other
      by Equal rest = ap (λ b. cond b (x ∷ rows_of partition (y ∷ rows)) (rows_of partition (y ∷ rows))) other
      by Greater rest = ap (λ (l : List Found). cond (is_of partition y) (y ∷ l) l) rest

  -- one of this partition before all others
  put-first : (x : Found) (rows : List Found) → is_of partition x ≡ true → AllByRecursion (NotOver found_cmp found-total x) rows
      → put_by (by_id id_of) x (rows_of partition rows) ≡ x ∷ rows_of partition rows
  unfolding NotOver
  put-first x [] is all = refl
  put-first x (y ∷ rows) is all = by (is_of partition y) refl (put-first x rows is all.1)
    where
      order : (o : Ordering) → (o ≡ Greater → ⊥) → placed_by (by_id id_of) o x y (rows_of partition rows) (put_by (by_id id_of) x (rows_of partition rows))
          ≡ x ∷ y ∷ rows_of partition rows
      order Less h = refl
      order Equal h = refl
      order Greater h = absurd (h refl)

      by : (b : Bool) → is_of partition y ≡ b → put_by (by_id id_of) x (rows_of partition rows) ≡ x ∷ rows_of partition rows
          → put_by (by_id id_of) x (cond b (y ∷ rows_of partition rows) (rows_of partition rows)) ≡ x ∷ cond b (y ∷ rows_of partition rows) (rows_of partition rows)
      by true here rest = order (by_id id_of x y) (λ over. all.0 (sym (here-by x y is here) ∙ over))
      by false here rest = rest

  put-here : (x : Found) (rows : List Found) → is_of partition x ≡ true → Sorted rows
      → put_by (by_id id_of) x (rows_of partition rows) ≡ rows_of partition (put_by found_cmp x rows)
  unfolding Sorted Pairs NotOver
  put-here x [] is up = sym (ap (λ b. cond b (x ∷ []) []) is)
  put-here x (y ∷ rows) is up = by (found_cmp x y) refl (put-here x rows is up.1)
    where
      front : (found_cmp x y ≡ Greater → ⊥) → put_by (by_id id_of) x (rows_of partition (y ∷ rows)) ≡ rows_of partition (x ∷ y ∷ rows)
      front h =
          put-first x (y ∷ rows) is (over-all found_cmp found-total x y rows h up)
          ∙ sym (ap (λ b. cond b (x ∷ rows_of partition (y ∷ rows)) (rows_of partition (y ∷ rows))) is)

      later : put_by (by_id id_of) x (rows_of partition rows) ≡ rows_of partition (put_by found_cmp x rows)
          → found_cmp x y ≡ Greater → (b : Bool) → is_of partition y ≡ b
          → put_by (by_id id_of) x (cond b (y ∷ rows_of partition rows) (rows_of partition rows))
          ≡ cond b (y ∷ rows_of partition (put_by found_cmp x rows)) (rows_of partition (put_by found_cmp x rows))
      later rest e true here =
          ap (λ o. placed_by (by_id id_of) o x y (rows_of partition rows) (put_by (by_id id_of) x (rows_of partition rows))) (here-by x y is here ∙ e)
          ∙ ap (λ (l : List Found). y ∷ l) rest
      later rest e false here = rest

      by : (o : Ordering) → found_cmp x y ≡ o → put_by (by_id id_of) x (rows_of partition rows) ≡ rows_of partition (put_by found_cmp x rows)
          → put_by (by_id id_of) x (rows_of partition (y ∷ rows)) ≡ rows_of partition (placed_by found_cmp o x y rows (put_by found_cmp x rows))
      by Less e rest = front (less-not found_cmp found-total x y e)
      by Equal e rest = front (equal-not found_cmp found-total x y e)
      by Greater e rest = later rest e (is_of partition y) refl

  sorted-same : (rows : List Found) → sorted_by (by_id id_of) (rows_of partition rows) ≡ rows_of partition (sorted_by found_cmp rows)
  unfolding Sorted
  sorted-same [] = refl
  sorted-same (x ∷ rows) = by (is_of partition x) refl (sorted-same rows)
    where
      by : (b : Bool) → is_of partition x ≡ b → sorted_by (by_id id_of) (rows_of partition rows) ≡ rows_of partition (sorted_by found_cmp rows)
          → sorted_by (by_id id_of) (cond b (x ∷ rows_of partition rows) (rows_of partition rows)) ≡ rows_of partition (put_by found_cmp x (sorted_by found_cmp rows))
      by true is rest =
          ap (put_by (by_id id_of) x) rest ∙ put-here x (sorted_by found_cmp rows) is (pairs-sorted found_cmp found-total rows)
      by false is rest = rest ∙ sym (put-other x (sorted_by found_cmp rows) is)

  -- ---- what is left

  inserts-same : (writes : List Written) → inserts_of (writes_of partition writes) ≡ rows_of partition (flat_map (λ (written : Written). written.inserts) writes)
  inserts-same [] = refl
  inserts-same (written ∷ writes) =
      ap (λ (rows : List Found). rows_of partition written.inserts ++ rows) (inserts-same writes)
      ∙ sym (filter-append (is_of partition) written.inserts (flat_map (λ (w : Written). w.inserts) writes))

  left-same : (writes : List Written) (rows : List Found)
      → filter (λ found. not (visible.is_deleted (writes_of partition writes) (id_of found))) (rows_of partition rows)
      ≡ rows_of partition (filter (λ found. not (is_deleted writes found)) rows)
  left-same writes [] = refl
  left-same writes (x ∷ rows) = by (is_of partition x) refl (left-same writes rows)
    where
      left : List Found
      left = filter (λ found. not (is_deleted writes found)) rows

      kept : (c : Bool) → is_of partition x ≡ true → cond c (x ∷ rows_of partition left) (rows_of partition left) ≡ rows_of partition (cond c (x ∷ left) left)
      kept true is = sym (ap (λ b. cond b (x ∷ rows_of partition left) (rows_of partition left)) is)
      kept false is = refl

      gone : (c : Bool) → is_of partition x ≡ false → rows_of partition left ≡ rows_of partition (cond c (x ∷ left) left)
      gone true is = sym (ap (λ b. cond b (x ∷ rows_of partition left) (rows_of partition left)) is)
      gone false is = refl

      by : (b : Bool) → is_of partition x ≡ b
          → filter (λ found. not (visible.is_deleted (writes_of partition writes) (id_of found))) (rows_of partition rows) ≡ rows_of partition left
          → filter (λ found. not (visible.is_deleted (writes_of partition writes) (id_of found))) (cond b (x ∷ rows_of partition rows) (rows_of partition rows))
          ≡ rows_of partition (cond (not (is_deleted writes x)) (x ∷ left) left)
      by true is rest =
          (λ i. cond (not (deleted-same partition writes x (text-of x.partition partition is) i)) (x ∷ rest i) (rest i))
          ∙ kept (not (is_deleted writes x)) is
      by false is rest = rest ∙ gone (not (is_deleted writes x)) is

pub content-in-order : ContentIsInOrder
unfolding content_of
content-in-order partition writes =
    let rows : List Found = flat_map (λ (w : Written). w.inserts) writes in
    ap (λ (xs : List Found). sorted_by (by_id id_of) (filter (λ found. not (visible.is_deleted (writes_of partition writes) (id_of found))) xs)) (inserts-same partition writes)
    ∙ ap (sorted_by (by_id id_of)) (left-same partition writes rows)
    ∙ sorted-same partition (filter (λ row. not (is_deleted writes row)) rows)
