use Rattle.std.proofs.Common.{◌≡◌, length, min, take, drop, ap, ◌∙◌, rules}
use Rattle.std.proofs.lemmas.List.{drop_min, take_min}
use Rattle.hv_shuffle.proofs.parts.part_of.Goals as goal

pub returns : goal.returns
returns g c =
    let items = c.args.items.now in
    let rest = c.split_at.result.1.now in
    let within : c.min-within.result ≡ min c.args.from (length items) = search rules in
    let most : c.min-most.result ≡ min c.args.count (length rest) = search rules in
    c.split_at-2.ensures.front ∙ ap (λ n. take n rest) most ∙ take_min c.args.count rest
    ∙ ap (take c.args.count) (c.split_at.ensures.back ∙ ap (λ n. drop n items) within ∙ drop_min c.args.from items)
