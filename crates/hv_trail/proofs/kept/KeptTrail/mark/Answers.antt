use Rattle.std.proofs.Common.{◌∷◌, ◌++◌, [], ◌&&◌, not, length, sym, subst, ap, ◌∙◌}
use Rattle.hv_trail.specs.declared.trail.TrailItem.TheVariants.{Marked}
use Rattle.hv_trail.specs.Trail.{woven_from}
use Rattle.hv_trail.specs.Kept.{TrailKept, trail_of, IsWhole, IsQuiet, is_fault}
use Rattle.hv_trail.proofs.KeptLaws.{marked-behind, whole-marked}
use Rattle.hv_trail.proofs.Asked.{quiet-marked}
use Rattle.hv_trail.proofs.kept.KeptTrail.mark.Goals as goal

pub invariant_of-self : goal.invariant_of-self
invariant_of-self c = (
  subst (λ ms. IsWhole c.self.inside.book.entries ms c.self.inside.opened)
      (sym (c.append.ensures.marks ∙ ap (λ n. c.self.inside.marks.items ++ (n, c.args.mark) ∷ []) (ap length c.entries.ensures.entries)))
      (whole-marked c.self.inside.book.entries c.self.inside.marks.items c.self.inside.opened c.args.mark c.self.invariant.0),
  subst (λ b. IsQuiet b c.append.new.marks.items) (sym c.stays_quiet-self-inside.ensures)
      (subst (λ ms. IsQuiet (c.self.inside.quiet && not (is_fault c.args.mark)) ms) (sym c.append.ensures.marks)
      (quiet-marked c.self.inside.quiet c.self.inside.marks.items _ c.args.mark c.self.invariant.1)),
  c.self.invariant.2,
)

pub returns-clause-trail : goal.returns-clause-trail
returns-clause-trail c =
    ap (λ ms. woven_from 0 c.self.inside.book.entries ms)
    (c.append.ensures.marks ∙ ap (λ n. c.self.inside.marks.items ++ (n, c.args.mark) ∷ []) (ap length c.entries.ensures.entries))
    ∙ marked-behind c.self.inside.book.entries c.self.inside.marks.items c.self.inside.opened c.args.mark c.self.invariant.0
    ∙ ap (λ (t : TrailKept). trail_of t ++ Marked c.args.mark ∷ []) c.self.view_is
