use Rattle.std.proofs.Common.{◌≤◌, refl, ap, ◌∙◌, arith}
use Rattle.hv_trail.specs.Spare.{open_count}
use Rattle.hv_trail.proofs.SpareLaws.{open-named}
use Rattle.hv_house.proofs.Boots.{learned}
use Rattle.hv_house.proofs.boot.learn.Goals as goal

pub returns-clause-learned : goal.returns-clause-learned
returns-clause-learned c =
    learned c.args.book.now.entries c.reserve.new.self.entries c.openings.result.now _ c.reserve.ensures.entries c.openings.ensures.openings refl
    (c.in_ok-from_slice.ensures.items ∙ c.ongoing.ensures.ongoing)

pub returns-clause-places : goal.returns-clause-places
returns-clause-places c =
    omega (
      arith,
      ap open_count c.reserve.ensures.entries,
      open-named c.args.book.now.entries c.ongoing-count.result.now c.ongoing-count.ensures.ongoing,
      c.in_ok-reserve.ensures.room,
    )
