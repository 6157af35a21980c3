use Rattle.std.proofs.Common.{◌++◌, List, ap, ◌∙◌, arith}
use Rattle.std.specs.List.{flat_map}
use Rattle.hv_wids.specs.declared.list.Exception.{Exception}
use Rattle.hv_meta.specs.hv_book.specs.Past.{total, past_in}
use Rattle.hv_earlier.specs.Places.{exceptions_of, weight_from}
use Rattle.hv_earlier.proofs.ExceptionLaws.{all-exceptions}
use Rattle.hv_earlier.proofs.earlier.exceptions_at.Goals as goal

pub returns : goal.returns
returns c =
    let notes = c.transactions-notes.result.now in
    let past = past_in c.past-past.result.now in
    let spot = c.args.spot in
    record {
      exceptions = λ weight.
          let first =
          ap (total weight)
          (c.in_ok-put_ids.ensures
          ∙ ap (λ (xs : List Exception). xs ++ flat_map (exceptions_of notes c.as_slice-forgotten.result.now spot) c.of_table-pending.result.now) c.new-exceptions.ensures.items
          ∙ (λ i. flat_map (exceptions_of notes (c.as_slice-forgotten.ensures.value i) spot) (c.of_table-pending.ensures.ids i)))
          in
          let second = c.in_ok-put_ended.ensures.put weight in
          let second_same = ap (λ forgotten. total (weight_from notes forgotten spot 0 weight) past.aborted) c.as_slice-forgotten.ensures.value in
          let third = c.in_ok-put_ended-2.ensures.put weight in
          let third_same = ap (λ forgotten. total (weight_from notes forgotten spot spot.position weight) past.committed) c.as_slice-forgotten.ensures.value in
          let all = all-exceptions c.args.book.now.entries spot c.requires.spot past c.past-past.ensures.past notes c.transactions-notes.ensures.transactions weight in
          omega (arith, first, second, second_same, third, third_same, all);
    }
