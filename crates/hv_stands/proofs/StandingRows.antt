-- The rows that stand in a table rise strictly, and each has a write id.
use Rattle.std.proofs.Common.{◌≡◌, ◌≢◌, ℕ, ◌≤◌, not, List, [], ◌∷◌, filter, refl, sym, ◌∙◌, subst}
use Rattle.std.specs.declared.cmp.Ordering.{Ordering}
use Rattle.std.specs.declared.cmp.Ordering.TheVariants.{Less, Equal, Greater}
use Rattle.std.specs.Ordering.{nat_cmp, ordering_then}
use Rattle.std.specs.Cmp.{IsTotalOrder, on_total, then_total}
use Rattle.std.specs.Cmp.Lexicographic.{slice_cmp, nat_list_cmp_total}
use Rattle.std.specs.FinMap.{nat_cmp-IsAntisymmetric}
use Rattle.std.specs.List.{flat_map, AllByRecursion}
use Rattle.std.specs.List.Sorted.{IsStrictlySortedBy}
use Rattle.hv_base.specs.Identifiers.{row_id_cmp, row_id_total}
use Rattle.hv_history.specs.hv_meaning.specs.hv_typing.specs.hv_logic.specs.Rows.{found_cmp}
use Rattle.hv_history.specs.hv_meaning.specs.hv_typing.specs.hv_logic.specs.declared.catalog.Shape.{Shape}
use Rattle.hv_history.specs.hv_meaning.specs.hv_typing.specs.hv_logic.specs.declared.effect.Found.{Found}
use Rattle.hv_history.specs.hv_meaning.specs.hv_route.specs.Routes.{numbered_rows}
use Rattle.hv_history.specs.hv_meaning.specs.hv_route.specs.Rising.{IsNumbered}
use Rattle.hv_history.specs.hv_meaning.specs.hv_route.proofs.NumberedLemmas.{rows-are-numbered}
use Rattle.hv_value.specs.declared.row.Row.{Row}
use Rattle.hv_history.specs.declared.state.Written.{Written}
use Rattle.hv_history.specs.State.{content_of, is_deleted}
use Rattle.hv_stands.specs.Sound.{IsRoutedWrite, HasOther, AreApart}
use Rattle.hv_stands.proofs.Soundness.{all-mapped}
use Rattle.hv_stands.proofs.Ordered.{all-kept, all-joined, all-sorted, NoTie, AreTold, rising-told, told-kept, told-joined, sorted-rises}

pub found-total : IsTotalOrder found_cmp
found-total =
    then_total (on_total (λ (found : Found). found.partition) nat_list_cmp_total) (on_total (λ (found : Found). found.id) row_id_total)

-- ---- the rows that a write inserted

abbrev pub IsBy : ℕ → Found → Type 0
IsBy write found = found.id.write.0 ≡ write

pub numbered-by : (shape : Shape) (write statement : ℕ) (rows : List Row) → AllByRecursion (IsBy write) (numbered_rows shape write statement rows)
numbered-by shape write statement rows =
    all-mapped (IsNumbered shape write statement) (IsBy write) (λ found is. is.write_is) (numbered_rows shape write statement rows)
    (rows-are-numbered shape write statement rows).each

then-both : (a b : Ordering) → ordering_then a b ≡ Equal → (a ≡ Equal) × (b ≡ Equal)
then-both Less b e = cc
then-both Equal b e = (refl, e)
then-both Greater b e = cc

-- rows of two write ids don't tie
ids-apart : (write other : ℕ) (x y : Found) → other ≢ write → IsBy write x → IsBy other y → NoTie found_cmp x y
unfolding row_id_cmp
ids-apart write other x y different a b tie =
    let ids = then-both (slice_cmp nat_cmp x.partition y.partition) (row_id_cmp x.id y.id) tie in
    let writes = then-both (nat_cmp x.id.write.0 y.id.write.0) _ ids.1 in
    let same : x.id.write.0 ≡ y.id.write.0 = nat_cmp-IsAntisymmetric x.id.write.0 y.id.write.0 writes.0 in
    different (sym b ∙ sym same ∙ a)

-- ---- the inserted rows of several writes

abbrev inserts_of : Written → List Found
inserts_of written = written.inserts

abbrev pub HasId : Found → Type 0
HasId found = 1 ≤ found.id.write.0

abbrev pub IsCounted : Written → Type 0
IsCounted written = 1 ≤ written.write

module _ (shape : Shape) where
  inserts-by : (written : Written) → IsRoutedWrite shape written → AllByRecursion (IsBy written.write) written.inserts
  inserts-by written is = subst (AllByRecursion (IsBy written.write)) (sym is.numbered) (numbered-by shape written.write written.statement is.rows)

  inserts-rise : (written : Written) → IsRoutedWrite shape written → IsStrictlySortedBy found_cmp written.inserts
  inserts-rise written is = subst (IsStrictlySortedBy found_cmp) (sym is.numbered) (rows-are-numbered shape written.write written.statement is.rows).rise

  -- a row of a write id, beside those of others
  beside-one : (write other : ℕ) (x : Found) (ys : List Found) → other ≢ write → IsBy write x → AllByRecursion (IsBy other) ys
      → AllByRecursion (NoTie found_cmp x) ys
  beside-one write other x ys different a each =
      all-mapped (IsBy other) (NoTie found_cmp x) (λ y b. ids-apart write other x y different a b) ys each

  beside-all : (write : ℕ) (x : Found) (writes : List Written) → IsBy write x → AllByRecursion (HasOther write) writes
      → AllByRecursion (IsRoutedWrite shape) writes → AllByRecursion (NoTie found_cmp x) (flat_map inserts_of writes)
  beside-all write x [] a other each = tt
  beside-all write x (written ∷ writes) a other each =
      all-joined (NoTie found_cmp x) written.inserts (flat_map inserts_of writes)
      (beside-one write written.write x written.inserts other.0 a (inserts-by written each.0)) (beside-all write x writes a other.1 each.1)

  inserts-told : (writes : List Written) → AllByRecursion (IsRoutedWrite shape) writes → AreApart writes → AreTold found_cmp (flat_map inserts_of writes)
  inserts-told [] each apart = tt
  inserts-told (written ∷ writes) each apart =
      told-joined found_cmp written.inserts (flat_map inserts_of writes) (rising-told found_cmp written.inserts (inserts-rise written each.0))
      (inserts-told writes each.1 apart.1)
      (all-mapped (IsBy written.write) (λ x. AllByRecursion (NoTie found_cmp x) (flat_map inserts_of writes))
      (λ x a. beside-all written.write x writes a apart.0 each.1) written.inserts (inserts-by written each.0))

  inserts-ids : (writes : List Written) → AllByRecursion (IsRoutedWrite shape) writes → AllByRecursion IsCounted writes → AllByRecursion HasId (flat_map inserts_of writes)
  inserts-ids [] each some = tt
  inserts-ids (written ∷ writes) each some =
      all-joined HasId written.inserts (flat_map inserts_of writes)
      (all-mapped (IsBy written.write) HasId (λ found is. subst (λ n. 1 ≤ n) (sym is) some.0) written.inserts (inserts-by written each.0))
      (inserts-ids writes each.1 some.1)

-- ---- the rows that stand

pub record AreStanding (rows : List Found) : Type 0 where
  pub each : AllByRecursion HasId rows
  pub up : IsStrictlySortedBy found_cmp rows

pub content-stands : (shape : Shape) (writes : List Written) → AllByRecursion (IsRoutedWrite shape) writes → AreApart writes → AllByRecursion IsCounted writes
    → AreStanding (content_of writes)
unfolding content_of
content-stands shape writes each apart some =
    let rows : List Found = flat_map inserts_of writes in
    let left : List Found = filter (λ found. not (is_deleted writes found)) rows in
    record {
      each = all-sorted found_cmp HasId left (all-kept HasId (λ found. not (is_deleted writes found)) rows (inserts-ids shape writes each some));
      up = sorted-rises found_cmp found-total left
          (told-kept found_cmp (λ found. not (is_deleted writes found)) rows (inserts-told shape writes each apart));
    }
