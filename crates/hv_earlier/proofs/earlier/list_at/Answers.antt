use Rattle.std.proofs.Common.{◌≤◌, List, sym, ◌∙◌, subst}
use Rattle.std.specs.Prelude.{All}
use Rattle.std.specs.List.Sorted.{IsStrictlyIncreasing}
use Rattle.hv_wids.specs.declared.list.Exception.{Exception}
use Rattle.hv_wids.specs.WriteIds.{ids_of}
use Rattle.hv_earlier.specs.Lists.{list_at}
use Rattle.hv_earlier.proofs.ListLemmas.{at-rises, at-within}
use Rattle.hv_earlier.proofs.earlier.list_at.Goals as goal

pub new-requires-clause-rises : goal.new-requires-clause-rises
new-requires-clause-rises c =
    let entries = c.args.book.now.entries in
    let spot = c.spot_at-spot.result in
    let P : List Exception → Type 0 = λ exceptions. IsStrictlyIncreasing (ids_of exceptions) in
    subst P (sym c.in_ok-exceptions.ensures.exceptions) (at-rises entries spot.position spot.table)

pub new-requires-clause-within : goal.new-requires-clause-within
new-requires-clause-within c =
    let entries = c.args.book.now.entries in
    let spot = c.spot_at-spot.result in
    subst (λ (exceptions : List Exception). All (λ (one : Exception). one.write.0 ≤ spot.high) exceptions) (sym c.in_ok-exceptions.ensures.exceptions)
    (subst (λ high. All (λ (one : Exception). one.write.0 ≤ high) (list_at entries spot.position spot.table).exceptions) (sym c.spot_at-spot.ensures.spot.high) (at-within entries spot.position spot.table))

pub returns : goal.returns
returns c =
    let entries = c.args.book.now.entries in
    record {
      list =
          c.new.ensures
          ∙ (λ i. record { high = record { 0 = c.spot_at-spot.ensures.spot.high i }; exceptions = c.in_ok-exceptions.ensures.exceptions i })
          ∙ (λ i. list_at entries (c.spot_at-spot.ensures.position i) (c.spot_at-spot.ensures.table i));
    }
