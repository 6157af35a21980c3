-- A row that a change inserts or deletes has a touch of its partition, which counts it.
use Rattle.std.proofs.Common.{◌≡◌, ◌⊎◌, inl, inr, ℕ, ◌+◌, ◌<◌, Bool, true, false, List, [], ◌∷◌, ◌++◌, map, fold, refl, sym, ap, ◌∙◌, subst, arith}
use Rattle.std.specs.Prelude.{if◌then◌else◌, ◌==◌, nat_eq}
use Rattle.std.specs.Ordering.{bool_cmp}
use Rattle.std.specs.Cmp.Lexicographic.{pointwise}
use Rattle.std.proofs.lemmas.Bool.{and_parts}
use Rattle.hv_base.specs.declared.ids.Touch.{Touch}
use Rattle.hv_base.specs.Sorting.{sorted_by}
use Rattle.hv_value.specs.declared.row.Row.{Row}
use Rattle.hv_logic.specs.declared.catalog.Shape.{Shape}
use Rattle.hv_logic.specs.declared.catalog.TableInfo.{TableInfo}
use Rattle.hv_logic.specs.declared.effect.Effect.{Effect}
use Rattle.hv_logic.specs.declared.effect.Found.{Found}
use Rattle.hv_route.specs.declared.placed.Placed.{Placed}
use Rattle.hv_route.specs.declared.runs.Run.{Run}
use Rattle.hv_route.specs.Placing.{placed_cmp, is_there, runs_from, runs_of}
use Rattle.hv_route.specs.Touching.{place_of_insert, place_of_delete, rows_touched, inserted_count, deleted_count, touch_of, touches_of}
use Rattle.hv_route.specs.Routes.{partition_of, numbered_rows}
use Rattle.hv_route.proofs.NumberedLemmas.{numbered-all}
use Rattle.hv_law_made.proofs.NamedLemmas.{same-text}
use Rattle.hv_law_visible.specs.Members.{IsIn}
use Rattle.hv_law_visible.proofs.MemberLemmas.{in-left, in-right, in-either, in-map}
use Rattle.hv_law_visible.proofs.SortingLemmas.{all-from, to-sorted}
use Rattle.hv_law_visible.proofs.TakenLemmas.{all-in}

-- ---- runs

module _ {T : Type 0} where
  -- one of these runs is of that partition and has the item
  abbrev HasItem : List ℕ → T → List (Run T) → Type 0
  HasItem partition item runs = (run : Run T) × IsIn run runs × (run.partition ≡ partition) × IsIn item run.items

  -- a run that stands open, and those behind it
  abbrev opened_run : List ℕ → ℕ → List T → Run T
  opened_run partition bucket items = record { partition = partition; bucket = bucket; items = items }

  abbrev runs_if : Bool → List ℕ → ℕ → List T → Placed T → List (Placed T) → List (Run T)
  runs_if b partition bucket items placed more =
      if b then runs_from partition bucket (items ++ placed.item ∷ []) more
      else opened_run partition bucket items ∷ runs_from placed.partition placed.bucket (placed.item ∷ []) more

  item-if : (partition : List ℕ) (bucket : ℕ) (items : List T) (item : T) → IsIn item items → (placed : Placed T) (more : List (Placed T))
      → HasItem partition item (runs_from partition bucket (items ++ placed.item ∷ []) more) → (b : Bool) → HasItem partition item (runs_if b partition bucket items placed more)
  item-if partition bucket items item at placed more rest true = rest
  item-if partition bucket items item at placed more rest false = (opened_run partition bucket items, inl refl, refl, at)

  item-in : (partition : List ℕ) (bucket : ℕ) (items : List T) (item : T) → IsIn item items → (more : List (Placed T))
      → HasItem partition item (runs_from partition bucket items more)
  item-in partition bucket items item at [] = (opened_run partition bucket items, inl refl, refl, at)
  item-in partition bucket items item at (placed ∷ more) =
      item-if partition bucket items item at placed more
      (item-in partition bucket (items ++ placed.item ∷ []) item (in-left item items (placed.item ∷ []) at) more) (is_there partition bucket placed)

  -- one behind an open run joins it, or begins another
  placed-if : (partition : List ℕ) (bucket : ℕ) (items : List T) (placed : Placed T) (more : List (Placed T)) (p : Placed T)
      → (IsIn p more → HasItem p.partition p.item (runs_from partition bucket (items ++ placed.item ∷ []) more))
      → (IsIn p more → HasItem p.partition p.item (runs_from placed.partition placed.bucket (placed.item ∷ []) more))
      → (b : Bool) → is_there partition bucket placed ≡ b → IsIn p (placed ∷ more) → HasItem p.partition p.item (runs_if b partition bucket items placed more)
  placed-if partition bucket items placed more p joined begun true is (inl same) =
      let its = item-in partition bucket (items ++ placed.item ∷ []) p.item
      (in-right p.item items (placed.item ∷ []) (inl (ap (λ (q : Placed T). q.item) same))) more in
      let here : placed.partition ≡ partition = same-text placed.partition partition (and_parts (pointwise nat_eq placed.partition partition) (placed.bucket == bucket) is).0 in
      (its.0, its.1, its.2 ∙ sym here ∙ ap (λ (q : Placed T). q.partition) same, its.3)
  placed-if partition bucket items placed more p joined begun true is (inr there) = joined there
  placed-if partition bucket items placed more p joined begun false is (inl same) =
      let its = item-in placed.partition placed.bucket (placed.item ∷ []) p.item (inl (ap (λ (q : Placed T). q.item) same)) more in
      (its.0, inr its.1, its.2 ∙ ap (λ (q : Placed T). q.partition) same, its.3)
  placed-if partition bucket items placed more p joined begun false is (inr there) =
      let its = begun there in
      (its.0, inr its.1, its.2, its.3)

  placed-in : (partition : List ℕ) (bucket : ℕ) (items : List T) (more : List (Placed T)) (p : Placed T) → IsIn p more
      → HasItem p.partition p.item (runs_from partition bucket items more)
  placed-in partition bucket items [] p at = absurd at
  placed-in partition bucket items (placed ∷ more) p at =
      placed-if partition bucket items placed more p
      (λ there. placed-in partition bucket (items ++ placed.item ∷ []) more p there)
      (λ there. placed-in placed.partition placed.bucket (placed.item ∷ []) more p there)
      (is_there partition bucket placed) refl at

  pub run-in : (xs : List (Placed T)) (p : Placed T) → IsIn p xs → HasItem p.partition p.item (runs_of xs)
  run-in [] p at = absurd at
  run-in (placed ∷ more) p (inl same) =
      let its = item-in placed.partition placed.bucket (placed.item ∷ []) p.item (inl (ap (λ (q : Placed T). q.item) same)) more in
      (its.0, its.1, its.2 ∙ ap (λ (q : Placed T). q.partition) same, its.3)
  run-in (placed ∷ more) p (inr there) = placed-in placed.partition placed.bucket (placed.item ∷ []) more p there

  -- and back: an item of a run stood at a place of its partition
  abbrev HasPlaced : List (Placed T) → Run T → T → Type 0
  HasPlaced xs run item = (p : Placed T) × IsIn p xs × (p.partition ≡ run.partition) × (p.item ≡ item)

  abbrev IsFrom : List ℕ → List T → List (Placed T) → Run T → T → Type 0
  IsFrom partition items more run item = ((run.partition ≡ partition) × IsIn item items) ⊎ HasPlaced more run item

  from-opened : (partition : List ℕ) (bucket : ℕ) (items : List T) (run : Run T) (item : T) → opened_run partition bucket items ≡ run → IsIn item run.items
      → (run.partition ≡ partition) × IsIn item items
  from-opened partition bucket items run item same at =
      (ap (λ (r : Run T). r.partition) (sym same), subst (λ (r : Run T). IsIn item r.items) (sym same) at)

  from-joined : (partition : List ℕ) (bucket : ℕ) (items : List T) (placed : Placed T) (more : List (Placed T)) (run : Run T) (item : T)
      → is_there partition bucket placed ≡ true → IsFrom partition (items ++ placed.item ∷ []) more run item → IsFrom partition items (placed ∷ more) run item
  from-joined partition bucket items placed more run item is (inr behind) = inr (behind.0, inr behind.1, behind.2, behind.3)
  from-joined partition bucket items placed more run item is (inl here) = elim (in-either item items (placed.item ∷ []) here.1) [
    | inl old ↦ inl (here.0, old)
    | inr new ↦ elim new [
      | inl same ↦
          inr (
            placed,
            inl refl,
            same-text placed.partition partition (and_parts (pointwise nat_eq placed.partition partition) (placed.bucket == bucket) is).0 ∙ sym here.0,
            same,
          )
      | inr none ↦ absurd none
    ]
  ]

  from-begun : (partition : List ℕ) (items : List T) (placed : Placed T) (more : List (Placed T)) (run : Run T) (item : T)
      → IsFrom placed.partition (placed.item ∷ []) more run item → IsFrom partition items (placed ∷ more) run item
  from-begun partition items placed more run item (inr behind) = inr (behind.0, inr behind.1, behind.2, behind.3)
  from-begun partition items placed more run item (inl (part, inl same)) = inr (placed, inl refl, sym part, same)
  from-begun partition items placed more run item (inl (part, inr none)) = absurd none

  from-if : (partition : List ℕ) (bucket : ℕ) (items : List T) (placed : Placed T) (more : List (Placed T)) (run : Run T) (item : T) → IsIn item run.items
      → (IsIn run (runs_from partition bucket (items ++ placed.item ∷ []) more) → IsFrom partition (items ++ placed.item ∷ []) more run item)
      → (IsIn run (runs_from placed.partition placed.bucket (placed.item ∷ []) more) → IsFrom placed.partition (placed.item ∷ []) more run item)
      → (b : Bool) → is_there partition bucket placed ≡ b → IsIn run (runs_if b partition bucket items placed more) → IsFrom partition items (placed ∷ more) run item
  from-if partition bucket items placed more run item at joined begun true is among = from-joined partition bucket items placed more run item is (joined among)
  from-if partition bucket items placed more run item at joined begun false is (inl same) = inl (from-opened partition bucket items run item same at)
  from-if partition bucket items placed more run item at joined begun false is (inr there) = from-begun partition items placed more run item (begun there)

  from-runs : (partition : List ℕ) (bucket : ℕ) (items : List T) (more : List (Placed T)) (run : Run T) (item : T) → IsIn item run.items
      → IsIn run (runs_from partition bucket items more) → IsFrom partition items more run item
  from-runs partition bucket items [] run item at (inl same) = inl (from-opened partition bucket items run item same at)
  from-runs partition bucket items [] run item at (inr none) = absurd none
  from-runs partition bucket items (placed ∷ more) run item at among =
      from-if partition bucket items placed more run item at
      (λ there. from-runs partition bucket (items ++ placed.item ∷ []) more run item at there)
      (λ there. from-runs placed.partition placed.bucket (placed.item ∷ []) more run item at there)
      (is_there partition bucket placed) refl among

  pub run-from : (xs : List (Placed T)) (run : Run T) (item : T) → IsIn run (runs_of xs) → IsIn item run.items → HasPlaced xs run item
  run-from [] run item among at = absurd among
  run-from (placed ∷ more) run item among at = by (from-runs placed.partition placed.bucket (placed.item ∷ []) more run item at among)
    where
      by : IsFrom placed.partition (placed.item ∷ []) more run item → HasPlaced (placed ∷ more) run item
      by (inl (part, inl same)) = (placed, inl refl, sym part, same)
      by (inl (part, inr none)) = absurd none
      by (inr behind) = (behind.0, inr behind.1, behind.2, behind.3)

-- ---- counts

abbrev deleted_one : Bool → ℕ
deleted_one mark = if mark then 1 else 0

abbrev inserted_one : Bool → ℕ
inserted_one mark = if mark then 0 else 1

module _ (f : Bool → ℕ) (b : Bool) (one : 0 < f b) where
  counted : (so_far : ℕ) (marks : List Bool) → IsIn b marks ⊎ (0 < so_far) → 0 < fold (λ (a : ℕ) (mark : Bool). a + f mark) so_far marks
  counted so_far [] (inl at) = absurd at
  counted so_far [] (inr some) = some
  counted so_far (mark ∷ marks) (inl (inl same)) =
      let more : 0 < f mark = subst (λ m. 0 < f m) (sym same) one in
      counted (so_far + f mark) marks (inr (omega (arith, more)))
  counted so_far (mark ∷ marks) (inl (inr at)) = counted (so_far + f mark) marks (inl at)
  counted so_far (mark ∷ marks) (inr some) = counted (so_far + f mark) marks (inr (omega (arith, some)))

some-deleted : (marks : List Bool) → IsIn true marks → 0 < deleted_count marks
some-deleted marks at = counted deleted_one true (omega arith) 0 marks (inl at)

some-inserted : (marks : List Bool) → IsIn false marks → 0 < inserted_count marks
some-inserted marks at = counted inserted_one false (omega arith) 0 marks (inl at)

-- ---- touches

-- one of these touches is of that table and partition, and rows were deleted there
abbrev pub SaysDeleted : ℕ → List ℕ → List Touch → Type 0
SaysDeleted table partition touches =
    (touch : Touch) × IsIn touch touches × (touch.table.0 ≡ table) × (touch.partition ≡ partition) × (0 < touch.deleted)

pub deleted-touched : (info : TableInfo) (effect : Effect) (row : Found) → IsIn row effect.deletes → SaysDeleted info.table.0 row.partition (touches_of info effect)
deleted-touched info effect row at =
    let placed = rows_touched info.shape effect in
    let among : IsIn (place_of_delete row) placed =
    in-right (place_of_delete row) (map (place_of_insert info.shape) effect.inserts) (map place_of_delete effect.deletes) (in-map place_of_delete row effect.deletes at) in
    let its = run-in (sorted_by (placed_cmp bool_cmp) placed) (place_of_delete row) (to-sorted (placed_cmp bool_cmp) (place_of_delete row) placed among) in (
      touch_of info.table.0 its.0,
      in-map (touch_of info.table.0) its.0 (runs_of (sorted_by (placed_cmp bool_cmp) placed)) its.1,
      refl,
      its.2,
      some-deleted its.0.items its.3,
    )

-- one of these touches is of that table and partition, and rows were inserted there
abbrev pub SaysInserted : ℕ → List ℕ → List Touch → Type 0
SaysInserted table partition touches =
    (touch : Touch) × IsIn touch touches × (touch.table.0 ≡ table) × (touch.partition ≡ partition) × (0 < touch.inserted)

-- a row that is numbered is one of those that were inserted, in the partition that it says
abbrev IsOfRows : Shape → List Row → List ℕ → ℕ → Row → Type 0
IsOfRows shape rows partition bucket row = IsIn row rows × (partition ≡ partition_of shape row)

of-rows : (shape : Shape) (write statement : ℕ) (rows : List Row) (found : Found) → IsIn found (numbered_rows shape write statement rows)
    → IsIn found.row rows × (found.partition ≡ partition_of shape found.row)
of-rows shape write statement rows found at =
    all-in (λ (x : Found). IsOfRows shape rows x.partition x.id.bucket x.row) (numbered_rows shape write statement rows) found
    (numbered-all (IsOfRows shape rows) shape write statement rows
    (all-from (λ (row : Row). IsIn row rows × (partition_of shape row ≡ partition_of shape row)) rows (λ row among. (among, refl))))
    at

pub inserted-touched : (info : TableInfo) (effect : Effect) (write statement : ℕ) (found : Found)
    → IsIn found (numbered_rows info.shape write statement effect.inserts) → SaysInserted info.table.0 found.partition (touches_of info effect)
inserted-touched info effect write statement found at =
    let of = of-rows info.shape write statement effect.inserts found at in
    let placed = rows_touched info.shape effect in
    let among : IsIn (place_of_insert info.shape found.row) placed =
    in-left (place_of_insert info.shape found.row) (map (place_of_insert info.shape) effect.inserts) (map place_of_delete effect.deletes)
    (in-map (place_of_insert info.shape) found.row effect.inserts of.0) in
    let its = run-in (sorted_by (placed_cmp bool_cmp) placed) (place_of_insert info.shape found.row)
    (to-sorted (placed_cmp bool_cmp) (place_of_insert info.shape found.row) placed among) in (
      touch_of info.table.0 its.0,
      in-map (touch_of info.table.0) its.0 (runs_of (sorted_by (placed_cmp bool_cmp) placed)) its.1,
      refl,
      its.2 ∙ sym of.1,
      some-inserted its.0.items its.3,
    )
