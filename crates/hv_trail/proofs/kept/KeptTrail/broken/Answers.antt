use Rattle.std.proofs.Common.{List, ℕ, sym, ap, ◌∙◌}
use Rattle.hv_trail.specs.declared.trail.Mark.{Mark}
use Rattle.hv_trail.specs.Trail.{broken}
use Rattle.hv_trail.specs.Kept.{TrailKept, trail_of, broken_in}
use Rattle.hv_trail.proofs.Asked.{broken-kept}
use Rattle.hv_trail.proofs.kept.KeptTrail.broken.Goals as goal

pub returns-then-self : goal.returns-then-self
returns-then-self c = record {
  broken =
      sym (c.self.invariant.1 c.if-self.true c.args.reader)
      ∙ broken-kept c.args.reader c.self.inside.book.entries c.self.inside.marks.items
      ∙ ap (λ (t : TrailKept). broken c.args.reader (trail_of t)) c.self.view_is;
}

pub returns-else-self : goal.returns-else-self
returns-else-self c = record {
  broken =
      c.first_fault.ensures ∙ ap (λ (ms : List (ℕ × Mark)). broken_in c.args.reader ms) c.deref.ensures.value
      ∙ broken-kept c.args.reader c.self.inside.book.entries c.self.inside.marks.items
      ∙ ap (λ (t : TrailKept). broken c.args.reader (trail_of t)) c.self.view_is;
}
