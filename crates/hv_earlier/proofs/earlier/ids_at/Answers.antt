use Rattle.std.proofs.Common.{map, ap, ◌∙◌}
use Rattle.hv_earlier.specs.Lists.{list_at}
use Rattle.hv_earlier.specs.Places.{write_of}
use Rattle.hv_earlier.proofs.earlier.ids_at.Goals as goal

pub returns : goal.returns
returns c =
    let entries = c.args.book.now.entries in
    record {
      given = c.spot_at-spot.ensures.spot.high ∙ (λ i. (list_at entries (c.spot_at-spot.ensures.position i) (c.spot_at-spot.ensures.table i)).high.0);
      lost =
          c.in_ok-lost.ensures
          ∙ ap (map write_of) (c.deref.ensures.value ∙ c.in_ok-exceptions.ensures.exceptions)
          ∙ (λ i. map write_of (list_at entries (c.spot_at-spot.ensures.position i) (c.spot_at-spot.ensures.table i)).exceptions);
    }
