use Rattle.std.proofs.Common.{List, ℕ, IsTrue, subst}
use Rattle.std.specs.Prelude.{◌↔◌}
use Rattle.hv_trail.specs.declared.trail.Mark.{Mark}
use Rattle.hv_trail.specs.Trail.{woven_from, HasWritten}
use Rattle.hv_trail.specs.Kept.{TrailKept, trail_of}
use Rattle.hv_trail.proofs.kept.KeptTrail.has_written.Goals as goal

pub returns : goal.returns
returns c =
    let book = c.self.inside.book.entries in
    record {
      written =
          subst (λ (t : TrailKept). IsTrue c.any_written.result ↔ HasWritten (trail_of t) c.args.reader c.args.place.now) c.self.view_is
          (subst (λ (marks : List (ℕ × Mark)). IsTrue c.any_written.result ↔ HasWritten (woven_from 0 book marks) c.args.reader c.args.place.now)
          c.deref.ensures.value (c.any_written.ensures.written book));
    }
