-- The touches of a change: they rise, are of its table, and use its write id.
use Rattle.std.proofs.Common.{if◌then◌else◌, ◌≡◌, ℕ, zero, suc, ◌+◌, ◌<◌, ◌||◌, Bool, IsTrue, IsSome, Option, Some, None, Ok, List, [], ◌∷◌, length, map, refl, sym, ap, ◌∙◌, subst, eq-eqb, arith}
use Rattle.std.specs.List.{slice_get, AllByRecursion}
use Rattle.std.specs.List.Sorted.{IsStrictlySortedBy}
use Rattle.std.specs.Ordering.{bool_cmp}
use Rattle.hv_base.specs.declared.ids.Touch.{Touch}
use Rattle.hv_base.specs.Sorting.{sorted_by}
use Rattle.hv_logic.specs.declared.catalog.TableInfo.{TableInfo}
use Rattle.hv_logic.specs.declared.effect.Effect.{Effect}
use Rattle.hv_route.specs.Placing.{placed_cmp, runs_of}
use Rattle.hv_route.specs.Rising.{touch_cmp}
use Rattle.hv_route.specs.Touching.{rows_touched, touch_of, touches_of, touched}
use Rattle.hv_route.specs.declared.runs.Run.{Run}
use Rattle.hv_route.proofs.RisingLemmas.{all-touches-rise}
use Rattle.hv_route.proofs.StandingLemmas.{touches-are-of-rows}
use Rattle.hv_history.specs.State.{given_in}
use Rattle.hv_history.specs.Legal.{Rise, is_touched}
use Rattle.hv_stands.specs.Laws.{changes_in}
use Rattle.hv_steps.specs.Ending.{IsWellTouched}

no-items : {X : Type 0} (xs : List X) → length xs ≡ 0 → xs ≡ []
no-items [] none = refl
no-items (x ∷ xs) none = absurd (omega (arith, none))

-- where no rows are changed nothing is touched
pub touches-none : (info : TableInfo) (effect : Effect) → changes_in effect ≡ 0 → [] ≡ touches_of info effect
touches-none info effect none =
    sym ((touches-are-of-rows info effect).nothing (no-items effect.inserts (omega (arith, none))) (no-items effect.deletes (omega (arith, none))))

pub nothing-touched : IsWellTouched [] []
nothing-touched = record { rise = tt; own = tt; used = tt }

pub found-given : (table write : ℕ) → given_in table ((table, write) ∷ []) ≡ Some write
found-given table write = ap (λ b. if b then Some write else None) (eq-eqb table table refl)

module _ (info : TableInfo) (effect : Effect) where
  rising : (ts : List Touch) → IsStrictlySortedBy touch_cmp ts → Rise ts
  unfolding IsStrictlySortedBy
  rising [] up = tt
  rising (t ∷ []) up = tt
  rising (t ∷ next ∷ ts) up = (up.0.0, rising (next ∷ ts) up.1)

  abbrev IsOfTable : Touch → Type 0
  IsOfTable touch = touch.table.0 ≡ info.table.0

  runs-of-table : (runs : List (Run Bool)) → AllByRecursion IsOfTable (map (touch_of info.table.0) runs)
  runs-of-table [] = tt
  runs-of-table (run ∷ runs) = (refl, runs-of-table runs)

  of-table : AllByRecursion IsOfTable (touches_of info effect)
  of-table = runs-of-table (runs_of (sorted_by (placed_cmp bool_cmp) (rows_touched info.shape effect)))

  one-of : (ts : List Touch) (at : ℕ) (touch : Touch) → AllByRecursion IsOfTable ts → slice_get ts at ≡ Some touch → touch.table.0 ≡ info.table.0
  one-of [] at touch all e = cc
  one-of (t ∷ ts) zero touch all e =
      let is : t ≡ touch = cc in
      subst IsOfTable is all.0
  one-of (t ∷ ts) (suc at) touch all e = one-of ts at touch all.1 e

  pub touch-of-table : (at : ℕ) (touch : Touch) → slice_get (touches_of info effect) at ≡ Some touch → touch.table.0 ≡ info.table.0
  touch-of-table at touch e = one-of (touches_of info effect) at touch of-table e

  abbrev HasRows : Touch → Type 0
  HasRows touch = 0 < touch.inserted + touch.deleted

  all-own : (write : ℕ) (ts : List Touch) → AllByRecursion IsOfTable ts → AllByRecursion HasRows ts
      → AllByRecursion (λ touch. (0 < touch.inserted + touch.deleted) × IsSome (given_in touch.table.0 ((info.table.0, write) ∷ []))) ts
  all-own write [] of_it some = tt
  all-own write (touch ∷ ts) of_it some = (
    (
      some.0,
      subst (λ (o : Option ℕ). IsSome o)
          (sym (ap (λ (n : ℕ). given_in n ((info.table.0, write) ∷ [])) of_it.0 ∙ found-given info.table.0 write)) refl,
    ),
    all-own write ts of_it.1 some.1,
  )

  -- one of them is of the table
  touched-one : (ts : List Touch) → AllByRecursion IsOfTable ts → (ts ≡ [] → ⊥) → (write : ℕ) → IsTrue (is_touched ts (info.table.0, write))
  touched-one [] of_it some write = absurd (some refl)
  touched-one (touch ∷ ts) of_it some write =
      ap (λ b. b || is_touched ts (info.table.0, write)) (eq-eqb touch.table.0 info.table.0 of_it.0)

  pub some-touched : 0 < changes_in effect → touches_of info effect ≡ [] → ⊥
  some-touched some none =
      let rows = (touches-are-of-rows info effect).none none in
      let inserts : length effect.inserts ≡ 0 = ap length rows.0 in
      let deletes : length effect.deletes ≡ 0 = ap length rows.1 in
      omega (arith, some, inserts, deletes)

  well : (write : ℕ) → 0 < changes_in effect → touched info effect ≡ Ok (touches_of info effect) → IsWellTouched ((info.table.0, write) ∷ []) (touches_of info effect)
  well write some within =
      let rise = all-touches-rise info effect (touches_of info effect) within in
      record {
        rise = rising (touches_of info effect) rise.rise;
        own = all-own write (touches_of info effect) of-table rise.some;
        used = (touched-one (touches_of info effect) of-table (some-touched some) write, tt);
      }

  pub well-touched : (write : ℕ) (wrote : List Touch) → 0 < changes_in effect → touched info effect ≡ Ok (touches_of info effect) → wrote ≡ touches_of info effect
      → IsWellTouched ((info.table.0, write) ∷ []) wrote
  well-touched write wrote some within are =
      subst (IsWellTouched ((info.table.0, write) ∷ [])) (sym are) (well write some within)
