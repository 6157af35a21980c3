use Rattle.std.proofs.Common.{rules, ◌≡◌, ◌++◌, ◌∷◌, [], length, sym, ap, ◌∙◌}
use Rattle.std.proofs.lemmas.List.{map-id}
use Rattle.std.specs.Vec.Iter.{into_iter_items, into_iter_len}
use Rattle.std.proofs.lemmas.Iterator.Adapters.{YieldsList-from_vec}
use Rattle.std.proofs.lemmas.Iterator.Consumers.{YieldsList-end}
use Rattle.hv_typing.specs.Nodes.{as_kind}
use Rattle.hv_typing.specs.Queries.{first_kind, behind_first, items_as}
use Rattle.hv_select.proofs.Behind.{items-step, items-end}
use Rattle.hv_select.proofs.unions.items_as.Goals as goal

pub loop-item-preserved : goal.loop-item-preserved
loop-item-preserved c = λ more.
    let pushed : c.push.new.self.items ≡ c.loop-item.made.items ++ as_kind (first_kind c.loop-item.rest.now) c.in-Some.item ∷ [] = search rules in
    let rest : c.behind_first-rest.result.now ≡ behind_first c.loop-item.rest.now = c.behind_first-rest.ensures in
    ap (λ made. made ++ items_as c.behind_first-rest.result.now more) pushed
    ∙ ap (λ rest. (c.loop-item.made.items ++ as_kind (first_kind c.loop-item.rest.now) c.in-Some.item ∷ []) ++ items_as rest more) rest
    ∙ items-step c.args.columns.now c.loop-item.rest.now c.loop-item.made.items c.loop-item.yielded c.in-Some.item c.loop-item.invariant more

pub returns : goal.returns
returns c =
    let taken : c.loop-item.made.items ≡ items_as c.args.columns.now c.loop-item.yielded
    = items-end c.args.columns.now c.loop-item.rest.now c.loop-item.made.items c.loop-item.yielded c.loop-item.invariant in
    let items : into_iter_items c.into_iter-item-iterator.result ≡ c.args.items = search rules in
    let count : into_iter_len c.into_iter-item-iterator.result ≡ length c.args.items = search rules in
    let ended = YieldsList-end (YieldsList-from_vec {s = c.into_iter-item-iterator.result} c.args.items items count) c.loop-item.yielded c.loop-item.item-iterator c.loop-item.yielded_by c.next.result c.next.new.self c.in-None.is c.next.ensures.steps in
    c.from_vec.ensures ∙ taken ∙ ap (items_as c.args.columns.now) (sym (map-id c.loop-item.yielded) ∙ ended.0)
