-- What the order of exceptions gives searches among them.
use Rattle.std.proofs.Common.{◌≡◌, ℕ, ◌<◌, ◌≤◌, true, false, ltb, leb, List, length, get_or, ap, inl, inr, arith}
use Rattle.std.specs.List.Sorted.{IsStrictlyIncreasing, IsNonDecreasingBy, IsPartitionPoint}
use Rattle.std.proofs.lemmas.Bool.{ltb-true, ltb-false, leb-true, leb-false, cases_eq}
use Rattle.std.proofs.lemmas.List.{get_or-map, length-map}
use Rattle.std.proofs.lemmas.List.Kept.{AllPairs-from_increasing}
use Rattle.hv_wids.specs.declared.list.Exception.{Exception}
use Rattle.hv_wids.specs.WriteIds.{ids_of}
use Rattle.hv_wids.proofs.RisingLemmas.{AreBounds}

abbrev pub id_of : Exception → ℕ
id_of exception = exception.write.0

abbrev no_exception : Exception
no_exception = record { write = record { 0 = 0 }; aborted = false }

id_at : (exceptions : List Exception) (place : ℕ) (d : Exception) → place < length exceptions → get_or (ids_of exceptions) place 0 ≡ id_of (get_or exceptions place d)
id_at exceptions place d within = get_or-map id_of exceptions place d 0 within

pub IsNonDecreasingBy-rises : (exceptions : List Exception) → IsStrictlyIncreasing (ids_of exceptions) → IsNonDecreasingBy id_of exceptions
IsNonDecreasingBy-rises exceptions rises = λ i j d before within.
    let len : length (ids_of exceptions) ≡ length exceptions = length-map exceptions id_of in
    elim (cases_eq i j) [
      | inl same ↦ let e : id_of (get_or exceptions i d) ≡ id_of (get_or exceptions j d) = ap (λ place. id_of (get_or exceptions place d)) same in omega arith
      | inr differs ↦
          omega (
            arith,
            AllPairs-from_increasing (ids_of exceptions) rises i j 0 (omega arith) (omega arith),
            id_at exceptions i d (omega arith),
            id_at exceptions j d within,
          )
    ]

pub AreBounds-points : (low last from to : ℕ) (exceptions : List Exception)
    → from ≤ length exceptions → to ≤ length exceptions
    → IsPartitionPoint (λ exception. ltb (id_of exception) low ≡ true) (λ exception. ltb (id_of exception) low ≡ false) exceptions from
    → IsPartitionPoint (λ exception. leb (id_of exception) last ≡ true) (λ exception. leb (id_of exception) last ≡ false) exceptions to
    → AreBounds low last (ids_of exceptions) from to
AreBounds-points low last from to exceptions from_within to_within from_point to_point =
    let len : length (ids_of exceptions) ≡ length exceptions = length-map exceptions id_of in
    let at = λ (place : ℕ). get_or exceptions place no_exception in
    record {
      from_within = omega arith;
      to_within = omega arith;
      before = λ place below. rw (id_at exceptions place no_exception (omega arith))
          (ltb-true (id_of (at place)) low (from_point.0 place no_exception (omega arith) below));
      at_least = λ place from_there within. rw (id_at exceptions place no_exception (omega arith))
          (ltb-false (id_of (at place)) low (from_point.1 place no_exception from_there (omega arith)));
      at_most = λ place below. rw (id_at exceptions place no_exception (omega arith))
          (leb-true (id_of (at place)) last (to_point.0 place no_exception (omega arith) below));
      behind = λ place from_there within. rw (id_at exceptions place no_exception (omega arith))
          (leb-false (id_of (at place)) last (to_point.1 place no_exception from_there (omega arith)));
    }
