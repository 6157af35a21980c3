use Rattle.std.proofs.Common.{length, ap, arith}
use Rattle.hv_trail.specs.Kept.{TrailKept, trail_of}
use Rattle.hv_trail.proofs.KeptLaws.{trail-length}
use Rattle.hv_trail.proofs.kept.KeptTrail.opened.Goals as goal

pub returns-clause-within : goal.returns-clause-within
returns-clause-within c =
    omega (
      arith,
      ap (λ (t : TrailKept). t.opened) c.self.view_is,
      ap (λ (t : TrailKept). length (trail_of t)) c.self.view_is,
      trail-length c.self.inside.book.entries c.self.inside.marks.items,
      c.self.invariant.0.within,
    )
