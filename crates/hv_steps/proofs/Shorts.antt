-- What ends a statement is a short entry.
use Rattle.std.proofs.Common.{◌≡◌, ℕ, ◌+◌, ◌*◌, ◌≤◌, Bool, true, false, if◌then◌else◌, List, [], ◌∷◌, length, Ok, Err, refl, sym, ap, ◌∙◌, subst, arith}
use Rattle.std.specs.Prelude.{nat_lt}
use Rattle.std.specs.List.{flat_map, list_all, list_any}
use Rattle.std.proofs.lemmas.Bool.{or_parts}
use Rattle.std.proofs.lemmas.Bool.Decides.{nat_tests}
use Rattle.std.proofs.lemmas.List.{length-append}
use Rattle.std.proofs.lemmas.List.Concat.{flat_map-cons}
use Rattle.hv_base.specs.declared.ids.RowId.{RowId}
use Rattle.hv_base.specs.declared.ids.Touch.{Touch}
use Rattle.hv_logic.specs.declared.catalog.TableInfo.{TableInfo}
use Rattle.hv_logic.specs.declared.effect.Effect.{Effect}
use Rattle.hv_route.specs.Touching.{touches_of, touched, stored_fits, is_long, is_above, within_limits}
use Rattle.hv_route.specs.declared.fault.RouteFault.TheVariants as fault
use Rattle.hv_history.specs.declared.entry.Cause.TheVariants as cause
use Rattle.hv_table_reader.specs.hv_acts.specs.hv_telling.specs.hv_house.specs.House.{IsSmall}
use Rattle.hv_steps.specs.Ending.{aborting, committing}
use Rattle.hv_history.specs.Spelling.{touch_spelling}
use Rattle.hv_bytes.proofs.Lengths.{length-four, length-eight, length-text}
use Rattle.hv_journal.proofs.Lengths.{length-touches, length-row}

pub short_idle : (txn : ℕ) → IsSmall (committing txn [])
short_idle txn = grind (arith, length-append, length-eight, length-touches)

pub short_refused : (txn number : ℕ) → IsSmall (aborting txn (cause.Refused number))
short_refused txn number = grind (arith, length-append, length-eight, length-four)

pub short_limit : (txn : ℕ) → IsSmall (aborting txn cause.RowLimit)
short_limit txn = grind (arith, length-append, length-eight)

pub short_twice : (txn : ℕ) (partition : List ℕ) (row : RowId) → length partition ≤ 240 → IsSmall (aborting txn (cause.Twice partition row))
short_twice txn partition row short = grind (arith, length-append, length-eight, length-text, length-row, short)

pub short_many : (txn : ℕ) → IsSmall (aborting txn cause.PartitionLimit)
short_many txn = grind (arith, length-append, length-eight)

pub short_memory : (txn : ℕ) → IsSmall (aborting txn cause.Memory)
short_memory txn = grind (arith, length-append, length-eight)

pub short_fault : (txn count : ℕ) → IsSmall (aborting txn (cause.WriteFault count))
short_fault txn count = grind (arith, length-append, length-eight)

-- ---- the commit of a change that is within its limits

-- a touch whose partition has a text of at most 240 bytes
touch_length : (t : Touch) → is_long t ≡ false → length (touch_spelling t) ≤ 268
unfolding touch_spelling
touch_length t short = grind (arith, length-append, length-eight, length-text, nat_tests, short)

touches_length : (ts : List Touch) → list_any is_long ts ≡ false → length (flat_map touch_spelling ts) ≤ 268 * length ts
touches_length [] short = omega arith
touches_length (t ∷ ts) short =
    let both = or_parts (is_long t) (list_any is_long ts) short in
    let here = touch_length t both.0 in
    let rest = touches_length ts both.1 in
    let cons : length (flat_map touch_spelling (t ∷ ts)) ≡ length (touch_spelling t) + length (flat_map touch_spelling ts) =
    ap length (flat_map-cons touch_spelling t ts) ∙ length-append (touch_spelling t) (flat_map touch_spelling ts) in
    omega (arith, here, rest, cons)

record AreShort (ts : List Touch) : Type 0 where
  texts : list_any is_long ts ≡ false
  count : length ts ≤ 100

are_short : (ts wrote : List Touch) → within_limits ts ≡ Ok wrote → AreShort ts
are_short ts wrote e = by (is_above ts) refl e
  where
    by : (b : Bool) → is_above ts ≡ b → (if b then Err fault.PartitionLimit else Ok ts) ≡ Ok wrote → AreShort ts
    by true above is = cc
    by false above is =
        let both = or_parts (list_any is_long ts) (nat_lt 100 (length ts)) above in
        record { texts = both.0; count = grind (arith, nat_tests, both.1) }

within_short : (info : TableInfo) (effect : Effect) (wrote : List Touch) → touched info effect ≡ Ok wrote → AreShort (touches_of info effect)
unfolding touched
within_short info effect wrote e = by (list_all (stored_fits info.shape) effect.inserts) e
  where
    by : (b : Bool) → (if b then within_limits (touches_of info effect) else Err fault.RowLimit) ≡ Ok wrote → AreShort (touches_of info effect)
    by true is = are_short (touches_of info effect) wrote is
    by false is = cc

short_commit : (txn : ℕ) (ts : List Touch) → AreShort ts → IsSmall (committing txn ts)
short_commit txn ts short =
    let count = short.count in
    let all = touches_length ts short.texts in
    grind (arith, length-append, length-eight, length-touches ts, count, all)

pub short_change : (txn : ℕ) (info : TableInfo) (effect : Effect) (wrote : List Touch) → touched info effect ≡ Ok (touches_of info effect)
    → wrote ≡ touches_of info effect → IsSmall (committing txn wrote)
short_change txn info effect wrote within e =
    subst (λ (ts : List Touch). IsSmall (committing txn ts)) (sym e)
    (short_commit txn (touches_of info effect) (within_short info effect (touches_of info effect) within))
