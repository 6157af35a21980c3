-- The exceptions of a list rise, and none is above the number of ids.
use Rattle.std.proofs.Common.{◌≡◌, ℕ, zero, suc, ◌+◌, ◌<◌, ◌≤◌, Bool, true, false, Option, Some, None, List, [], ◌∷◌, ◌++◌, length, map, take, get_or, sym, subst, arith}
use Rattle.std.specs.Prelude.{◌==◌, All}
use Rattle.std.specs.List.{list_any}
use Rattle.std.specs.List.Sorted.{IsStrictlyIncreasing}
use Rattle.std.proofs.lemmas.List.Elements.{All-cons, All-nil}
use Rattle.hv_meta.specs.hv_book.specs.hv_history.specs.declared.entry.Entry.{Entry}
use Rattle.hv_meta.specs.hv_book.specs.hv_history.specs.State.{numbered, state_of}
use Rattle.hv_meta.specs.hv_book.specs.Past.{owners_in, forgotten_in}
use Rattle.hv_earlier.specs.Fates.{fate_of}
use Rattle.hv_wids.specs.declared.list.Exception.{Exception}
use Rattle.hv_wids.specs.WriteIds.{ids_of}
use Rattle.hv_earlier.specs.declared.fates.Fate.{Fate}
use Rattle.hv_earlier.specs.declared.fates.Fate.TheVariants as fate
use Rattle.hv_earlier.specs.Lists.{exception, unless_forgotten, exception_by, exceptions_from, list_at}

-- each number is above those before it, and the first is at least `low`
abbrev pub RisesFrom : ℕ → List ℕ → Type 0
RisesFrom low [] = Unit {0}
RisesFrom low (number ∷ numbers) = (low ≤ number) × RisesFrom (number + 1) numbers

rises-lower : (low : ℕ) (numbers : List ℕ) → RisesFrom (low + 1) numbers → RisesFrom low numbers
rises-lower low [] h = tt
rises-lower low (number ∷ numbers) h = (omega (arith, h.0), h.1)

strict : (low : ℕ) (numbers : List ℕ) → RisesFrom low numbers → (k : ℕ) → suc k < length numbers → get_or numbers k 0 < get_or numbers (suc k) 0
strict low [] h k within = absurd (omega (arith, within))
strict low (a ∷ []) h k within = absurd (omega (arith, within))
strict low (a ∷ b ∷ numbers) h zero within = omega (arith, h.1.0)
strict low (a ∷ b ∷ numbers) h (suc k) within = strict (a + 1) (b ∷ numbers) h.1 k (omega (arith, within))

increasing : (low : ℕ) (numbers : List ℕ) → RisesFrom low numbers → IsStrictlyIncreasing numbers
increasing low numbers h k within =
    let next : k + 1 ≡ suc k = omega arith in
    subst (λ j. get_or numbers k 0 < get_or numbers j 0) (sym next) (strict low numbers h k (omega (arith, within)))

-- ---- one exception and those behind it

abbrev AreWithin : ℕ → List Exception → Type 0
AreWithin high exceptions = All (λ (one : Exception). one.write.0 ≤ high) exceptions

record AreRight (write high : ℕ) (exceptions : List Exception) : Type 0 where
  rises : RisesFrom write (ids_of exceptions)
  within : AreWithin high exceptions

right-lower : (write high : ℕ) (rest : List Exception) → AreRight (write + 1) high rest → AreRight write high rest
right-lower write high rest h = record { rises = rises-lower write (ids_of rest) h.rises; within = h.within }

right-one : (write high : ℕ) (aborted : Bool) (rest : List Exception) → write ≤ high → AreRight (write + 1) high rest
    → AreRight write high (exception write aborted ∷ rest)
right-one write high aborted rest below h = record {
  rises = (omega arith, h.rises);
  within = All-cons (λ (one : Exception). one.write.0 ≤ high) (exception write aborted) rest below h.within;
}

right-unless : (is_forgotten : Bool) (write high : ℕ) (rest : List Exception) → write ≤ high → AreRight (write + 1) high rest
    → AreRight write high (unless_forgotten is_forgotten write ++ rest)
right-unless true write high rest below h = right-lower write high rest h
right-unless false write high rest below h = right-one write high true rest below h

right-by : (forgotten : List ℕ) (write high : ℕ) (of : Option Fate) (rest : List Exception) → write ≤ high → AreRight (write + 1) high rest
    → AreRight write high (exception_by forgotten write of ++ rest)
right-by forgotten write high None rest below h = right-lower write high rest h
right-by forgotten write high (Some fate.Open) rest below h = right-one write high false rest below h
right-by forgotten write high (Some fate.Committed) rest below h = right-lower write high rest h
right-by forgotten write high (Some fate.Aborted) rest below h = right-unless (list_any (λ other. other == write) forgotten) write high rest below h

are-right : (fates : List Fate) (forgotten : List ℕ) (write high : ℕ) (owners : List ℕ) → write + length owners ≤ high + 1
    → AreRight write high (exceptions_from fates forgotten write owners)
are-right fates forgotten write high [] below = record { rises = tt; within = All-nil (λ (one : Exception). one.write.0 ≤ high) }
are-right fates forgotten write high (txn ∷ owners) below =
    right-by forgotten write high (numbered fates txn) (exceptions_from fates forgotten (write + 1) owners) (omega (arith, below))
    (are-right fates forgotten (write + 1) high owners (omega (arith, below)))

pub list-rises : (fates : List Fate) (forgotten owners : List ℕ) → IsStrictlyIncreasing (ids_of (exceptions_from fates forgotten 1 owners))
list-rises fates forgotten owners =
    increasing 1 (ids_of (exceptions_from fates forgotten 1 owners)) (are-right fates forgotten 1 (length owners) owners (omega arith)).rises

pub list-within : (fates : List Fate) (forgotten owners : List ℕ) → All (λ (one : Exception). one.write.0 ≤ length owners) (exceptions_from fates forgotten 1 owners)
list-within fates forgotten owners = (are-right fates forgotten 1 (length owners) owners (omega arith)).within

pub list-rises-from : (fates : List Fate) (forgotten owners : List ℕ) → RisesFrom 1 (ids_of (exceptions_from fates forgotten 1 owners))
list-rises-from fates forgotten owners = (are-right fates forgotten 1 (length owners) owners (omega arith)).rises

-- the same of the list at a place
pub at-rises-from : (entries : List Entry) (position table : ℕ) → RisesFrom 1 (ids_of (list_at entries position table).exceptions)
at-rises-from entries position table =
    list-rises-from (map fate_of (state_of (take position entries)).transactions) (forgotten_in (numbered (state_of (take position entries)).tables table))
    (owners_in (numbered (state_of (take position entries)).tables table))

pub at-rises : (entries : List Entry) (position table : ℕ) → IsStrictlyIncreasing (ids_of (list_at entries position table).exceptions)
at-rises entries position table =
    list-rises (map fate_of (state_of (take position entries)).transactions) (forgotten_in (numbered (state_of (take position entries)).tables table))
    (owners_in (numbered (state_of (take position entries)).tables table))

pub at-within : (entries : List Entry) (position table : ℕ)
    → All (λ (one : Exception). one.write.0 ≤ length (owners_in (numbered (state_of (take position entries)).tables table))) (list_at entries position table).exceptions
at-within entries position table =
    list-within (map fate_of (state_of (take position entries)).transactions) (forgotten_in (numbered (state_of (take position entries)).tables table))
    (owners_in (numbered (state_of (take position entries)).tables table))
