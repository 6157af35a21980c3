use Rattle.std.proofs.Common.{◌≤◌, ◌+◌, ◌++◌, length, drop, take, refl, sym, ap, ◌∙◌, arith, rules}
use Rattle.std.proofs.lemmas.List.{append_assoc, length-map}
use Rattle.hv_meta.specs.hv_book.specs.hv_history.specs.State.{state_of, numbered}
use Rattle.hv_meta.specs.Catalogs.{info_in, live_infos}
use Rattle.hv_meta.proofs.FactLemmas.{infos-step}
use Rattle.hv_meta.specs.hv_book.specs.Briefs.{brief_table}
use Rattle.hv_earlier.proofs.CatalogLemmas.{catalog-end}
use Rattle.hv_earlier.proofs.catalogs.catalog_at.Goals as goal

pub loop-i-preserved : goal.loop-i-preserved
loop-i-preserved c =
    let tables = (state_of (take c.args.position c.args.book.now.entries)).tables in
    ap (λ xs. xs ++ live_infos (drop (c.loop-i.i + 1) tables)) c.in_ok-put_info.ensures
    ∙ append_assoc c.loop-i.infos.items (info_in (numbered tables (c.loop-i.i + 1))) (live_infos (drop (c.loop-i.i + 1) tables))
    ∙ ap (λ ys. c.loop-i.infos.items ++ ys) (sym (infos-step tables c.loop-i.i (c.loop-i.i + 1) refl))
    ∙ c.loop-i.invariant

pub returns : goal.returns
returns c =
    let whole = ap length c.tables-i-end.ensures.tables ∙ length-map (state_of c.args.book.now.entries).tables brief_table in
    let past : length c.tables-i-end.result.now ≤ c.loop-i.i = search rules in
    record {
      catalog = c.from_vec.ensures ∙ catalog-end c.args.book.now.entries c.args.position c.loop-i.i c.loop-i.infos.items (omega (arith, whole, past)) c.loop-i.invariant;
    }
