use Rattle.std.proofs.Common.{rules, ◌≡◌, ◌++◌, ◌∷◌, [], drop, length, sym, ap, ◌∙◌}
use Rattle.std.proofs.lemmas.List.{map-id}
use Rattle.std.specs.Vec.Iter.{into_iter_items, into_iter_len}
use Rattle.std.proofs.lemmas.Iterator.Adapters.{YieldsList-from_vec}
use Rattle.std.proofs.lemmas.Iterator.Consumers.{YieldsList-end}
use Rattle.hv_typing.specs.Nodes.{as_kind}
use Rattle.hv_typing.specs.Inserts.{first_type, converted_row}
use Rattle.hv_changes.proofs.Orders.{row-step, row-end}
use Rattle.hv_changes.proofs.values.converted_row.Goals as goal

pub loop-expr-preserved : goal.loop-expr-preserved
loop-expr-preserved c = λ more.
    let pushed : c.push.new.self.items ≡ c.loop-expr.made.items ++ as_kind (first_type c.loop-expr.rest.now) c.in-Some.expr ∷ [] = search rules in
    let rest : c.behind_first-rest.result.now ≡ drop 1 c.loop-expr.rest.now = c.behind_first-rest.ensures in
    ap (λ made. made ++ converted_row c.behind_first-rest.result.now more) pushed
    ∙ ap (λ rest. (c.loop-expr.made.items ++ as_kind (first_type c.loop-expr.rest.now) c.in-Some.expr ∷ []) ++ converted_row rest more) rest
    ∙ row-step c.args.columns.now c.loop-expr.rest.now c.loop-expr.made.items c.loop-expr.yielded c.in-Some.expr c.loop-expr.invariant more

pub returns : goal.returns
returns c =
    let taken : c.loop-expr.made.items ≡ converted_row c.args.columns.now c.loop-expr.yielded
    = row-end c.args.columns.now c.loop-expr.rest.now c.loop-expr.made.items c.loop-expr.yielded c.loop-expr.invariant in
    let items : into_iter_items c.into_iter-expr-iterator.result ≡ c.args.row = search rules in
    let count : into_iter_len c.into_iter-expr-iterator.result ≡ length c.args.row = search rules in
    let ended = YieldsList-end (YieldsList-from_vec {s = c.into_iter-expr-iterator.result} c.args.row items count) c.loop-expr.yielded c.loop-expr.expr-iterator c.loop-expr.yielded_by c.next.result c.next.new.self c.in-None.is c.next.ensures.steps in
    c.from_vec.ensures ∙ taken ∙ ap (converted_row c.args.columns.now) (sym (map-id c.loop-expr.yielded) ∙ ended.0)
