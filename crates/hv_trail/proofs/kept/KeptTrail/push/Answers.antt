use Rattle.std.proofs.Common.{◌∷◌, ◌++◌, [], sym, subst, ap, ◌∙◌}
use Rattle.hv_trail.specs.declared.trail.TrailItem.TheVariants.{Noted}
use Rattle.hv_trail.specs.Trail.{woven_from}
use Rattle.hv_trail.specs.Kept.{TrailKept, trail_of, IsWhole}
use Rattle.hv_trail.specs.Spare.{HasPlace}
use Rattle.hv_trail.proofs.KeptLaws.{noted-behind, whole-noted}
use Rattle.hv_trail.proofs.kept.KeptTrail.push.Goals as goal

pub invariant_of-self-2 : goal.invariant_of-self-2
invariant_of-self-2 c = (
  subst (λ es. IsWhole es c.self.inside.marks.items c.self.inside.opened) (sym c.in_ok-put.ensures.ok)
      (whole-noted c.self.inside.book.entries c.self.inside.marks.items c.self.inside.opened c.args.entry c.self.invariant.0),
  c.self.invariant.1,
  c.put.ensures.spare,
)

pub returns-clause-trail : goal.returns-clause-trail
returns-clause-trail c =
    ap (λ es. woven_from 0 es c.self.inside.marks.items) c.in_ok-put.ensures.ok
    ∙ noted-behind c.self.inside.book.entries c.self.inside.marks.items c.self.inside.opened c.args.entry c.self.invariant.0
    ∙ ap (λ (t : TrailKept). trail_of t ++ Noted c.args.entry ∷ []) c.self.view_is

pub put-requires-clause-place : goal.put-requires-clause-place
put-requires-clause-place c = subst (λ (t : TrailKept). HasPlace t.entries t.spare c.args.entry) (sym c.self.view_is) c.requires.place
