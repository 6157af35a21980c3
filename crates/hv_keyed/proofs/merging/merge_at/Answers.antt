use Rattle.std.proofs.Common.{◌≡◌, get_or, set, ap, ◌∙◌}
use Rattle.std.proofs.lemmas.List.{get_or_default}
use Rattle.hv_keyed.proofs.merging.merge_at.Goals as goal

pub returns : goal.returns
returns g c =
    let kept = c.args.kept.now.items in
    let number = c.args.number in
    let old : c.index_mut.result.now ≡ get_or kept number c.index_mut.result.now = search c.index_mut.ensures.value in
    ap (set kept number)
    (c.in_ok-merge.ensures
    ∙ ap (λ a. g.M.Merging.merge c.args.merging.now a c.args.value) (old ∙ get_or_default kept number c.index_mut.result.now c.args.value c.requires))
