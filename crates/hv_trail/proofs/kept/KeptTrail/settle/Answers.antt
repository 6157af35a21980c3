use Rattle.std.proofs.Common.{length, ap, ◌∙◌, arith}
use Rattle.hv_trail.specs.Kept.{TrailKept, trail_of}
use Rattle.hv_trail.proofs.KeptLaws.{trail-length}
use Rattle.hv_trail.proofs.kept.KeptTrail.settle.Goals as goal

pub returns-clause-opened : goal.returns-clause-opened
returns-clause-opened c =
    omega (
      arith,
      ap length c.entries.ensures.entries,
      c.len.ensures,
      c.self.inside.marks.ok.0,
      trail-length c.self.inside.book.entries c.self.inside.marks.items,
    )
    ∙ ap (λ (t : TrailKept). length (trail_of t)) c.self.view_is
