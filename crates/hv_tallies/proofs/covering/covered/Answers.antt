use Rattle.std.proofs.Common.{ap, arith}
use Rattle.hv_earlier.specs.hv_meta.specs.hv_book.specs.Past.{total}
use Rattle.hv_tallies.proofs.covering.covered.Goals as goal

pub returns : goal.returns
returns c = record {
  covered = λ j at weight.
      let start = ap (total weight) c.new-names.ensures.items in
      let put = c.in_ok-put_covered.ensures j at weight in
      omega (arith, start, put);
}
