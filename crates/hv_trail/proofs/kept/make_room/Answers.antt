use Rattle.std.proofs.Common.{◌≡◌, ◌+◌, ◌≤◌, true, false, sym, ap, ◌∙◌, arith}
use Rattle.hv_trail.specs.Spare.{open_count}
use Rattle.hv_trail.proofs.SpareLaws.{open-named}
use Rattle.hv_trail.proofs.kept.make_room.Goals as goal

pub returns-then-not-needs_room-clause-places : goal.returns-then-not-needs_room-clause-places
returns-then-not-needs_room-clause-places c = λ needs.
    absurd (let wrong : false ≡ true = sym c.if-not-needs_room.true ∙ c.needs_room.ensures ∙ needs in cc)

-- where they need room, so much was made
pub returns-clause-places : goal.returns-clause-places
returns-clause-places c = λ needs.
    omega (
      arith,
      ap open_count c.reserve.ensures.entries,
      open-named c.args.book.now.entries c.ongoing-count.result.now c.ongoing-count.ensures.ongoing,
      c.in_ok-reserve.ensures.room,
    )
