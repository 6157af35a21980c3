use Rattle.std.proofs.Common.{◌≡◌, List, ℕ, IsTrue, subst, ap, ◌∙◌}
use Rattle.std.specs.Prelude.{◌↔◌}
use Rattle.std.specs.List.{list_any}
use Rattle.hv_trail.specs.declared.trail.Mark.{Mark}
use Rattle.hv_trail.specs.Trail.{HasGone}
use Rattle.hv_trail.specs.Kept.{TrailKept, trail_of, is_gone_by}
use Rattle.hv_trail.proofs.Went.{gone-is}
use Rattle.hv_trail.proofs.kept.KeptTrail.has_gone.Goals as goal

pub returns : goal.returns
returns c =
    let book = c.self.inside.book.entries in
    record {
      gone =
          subst (λ (t : TrailKept). IsTrue c.any_went.result ↔ HasGone (trail_of t) c.args.dir.now) c.self.view_is
          (gone-is c.args.dir.now book c.self.inside.marks.items c.any_went.result
          (c.any_went.ensures ∙ ap (λ (marks : List (ℕ × Mark)). list_any (is_gone_by c.args.dir.now) marks) c.deref.ensures.value));
    }
