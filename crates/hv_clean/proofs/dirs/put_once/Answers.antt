use Rattle.std.proofs.Common.{inl, inr, [], ◌∷◌, ◌++◌, refl, ap, ◌∙◌}
use Rattle.hv_shelf.specs.declared.place.DirAt.{DirAt}
use Rattle.hv_clean.proofs.dirs.put_once.Goals as goal

pub returns-then-is_last : goal.returns-then-is_last
returns-then-is_last c = inl refl

pub returns : goal.returns
returns c =
    inr (c.in_ok-push.ensures.items ∙ ap (λ (dir : DirAt). c.args.dirs.now.items ++ dir ∷ []) c.in_ok-dir.ensures)
