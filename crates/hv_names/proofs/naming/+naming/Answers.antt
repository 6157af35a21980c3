use Rattle.std.proofs.Common.{◌≡◌, List, ◌++◌, sym, ap, ◌∙◌}
use Rattle.std.proofs.lemmas.List.{append-nil, drop_all}
use Rattle.std.specs.List.{flat_map}
use Rattle.hv_ast.specs.declared.query.Source.{Source}
use Rattle.hv_ast.specs.declared.query.Union.{Union}
use Rattle.hv_logic.specs.Names.{source_names, names_of_union}
use Rattle.hv_names.proofs.Layers.{behind-query}
use Rattle.hv_names.proofs.naming.+naming.Goals as goal

pub put_source-returns-after-loop-union : goal.put_source-returns-after-loop-union
put_source-returns-after-loop-union t c =
    let unions : List (Union Source) = c.as_slice-union-items.result.now in
    let rest : c.loop-union.names.items ≡ c.put_maybe.new.names.items ++ flat_map (names_of_union source_names) unions =
    sym (append-nil c.loop-union.names.items)
    ∙ ap (λ (xs : List (Union Source)). c.loop-union.names.items ++ flat_map (names_of_union source_names) xs) (sym (drop_all c.loop-union.union-index unions c.loop-union-test.false))
    ∙ c.loop-union.invariant
    in
    behind-query c.in-Query.query c.in-Query.field-1 _ _ _ c.in-Query.is c.get-inner.ensures c.as_slice-union-items.ensures c.in_ok-put_maybe-in-Query.ensures rest
