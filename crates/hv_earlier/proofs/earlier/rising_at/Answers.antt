use Rattle.hv_earlier.specs.Lists.{list_at}
use Rattle.hv_earlier.proofs.ListLemmas.{at-rises-from}
use Rattle.hv_earlier.proofs.SortedLaws.{sorted-list}
use Rattle.std.proofs.Common.{◌∙◌}
use Rattle.hv_earlier.proofs.earlier.rising_at.Goals as goal

pub returns : goal.returns
returns c =
    let entries = c.args.book.now.entries in
    let spot = c.args.spot in
    record {
      exceptions =
          sorted-list c.sort_ids.new.exceptions.items (list_at entries spot.position spot.table).exceptions c.in_ok-sort_ids.ensures.sorted (at-rises-from entries spot.position spot.table)
          (λ f. c.in_ok-sort_ids.ensures.same f ∙ c.in_ok-exceptions.ensures.exceptions f);
    }
