use Rattle.std.proofs.Common.{◌≡◌, subst, sym, map, position, rules, tests}
use Rattle.std.proofs.lemmas.Iterator.{YieldsList-from_slice}
use Rattle.std.proofs.lemmas.Iterator.Search.{position_from_yields_List}
use Rattle.std.specs.Str.{bytes_eq}
use Rattle.hv_table.specs.Rows.{IsPlaceOf}
use Rattle.hv_table.proofs.RowsLemmas.{IsPlaceOf-position}
use Rattle.hv_table.proofs.names.Names.find.Goals as goal

pub returns-clause-exact : goal.returns-clause-exact
returns-clause-exact g c =
    let rows = c.args.self.now.rows in
    let word = c.args.word.now in
    let found : c.position.result ≡ position (λ row. bytes_eq (g.W.AsStr.text row) word) rows =
    position_from_yields_List (λ row. bytes_eq (g.W.AsStr.text row) word) _ _ c.position.result c.position.ensures.ran (YieldsList-from_slice rows cc) (λ x b q k. search (rules, tests)) in
    subst (IsPlaceOf word (map g.W.AsStr.text rows)) (sym found) (IsPlaceOf-position g.W.AsStr.text word rows c.requires)
