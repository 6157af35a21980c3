use Rattle.std.proofs.Common.{◌≡◌, ◌≤◌, ◌+◌, length, drop, take, refl, sym, ap, ◌∙◌, arith, rules}
use Rattle.std.proofs.lemmas.List.{length-map}
use Rattle.hv_meta.specs.hv_book.specs.hv_history.specs.State.{state_of, numbered}
use Rattle.hv_meta.specs.hv_book.specs.Briefs.{brief_table}
use Rattle.hv_meta.specs.Catalogs.{info_in, live_infos}
use Rattle.hv_meta.proofs.FactLemmas.{infos-step}
use Rattle.hv_earlier.specs.Lists.{info_of_name}
use Rattle.hv_earlier.proofs.CatalogLemmas.{none-left}
use Rattle.hv_earlier.proofs.NameLemmas.{named-later, found-here}
use Rattle.hv_earlier.proofs.catalogs.find_at.Goals as goal

pub returns-then-is_named_at : goal.returns-then-is_named_at
returns-then-is_named_at c =
    let name = c.args.name.now in
    let tables = (state_of (take c.args.position c.args.book.now.entries)).tables in
    record {
      found =
          found-here name c.info_at.result (info_in (numbered tables (c.loop-i.i + 1))) (live_infos (drop (c.loop-i.i + 1) tables)) (live_infos tables)
          (sym c.is_named_at.ensures.named ∙ c.if-is_named_at.true)
          (sym (ap (info_of_name name) (infos-step tables c.loop-i.i (c.loop-i.i + 1) refl)) ∙ c.loop-i.invariant) c.info_at.ensures;
    }

pub loop-i-preserved : goal.loop-i-preserved
loop-i-preserved c =
    let name = c.args.name.now in
    let tables = (state_of (take c.args.position c.args.book.now.entries)).tables in
    sym (named-later name (info_in (numbered tables (c.loop-i.i + 1))) (live_infos (drop (c.loop-i.i + 1) tables)) (sym c.is_named_at.ensures.named ∙ c.if-is_named_at.false))
    ∙ sym (ap (info_of_name name) (infos-step tables c.loop-i.i (c.loop-i.i + 1) refl)) ∙ c.loop-i.invariant

pub returns : goal.returns
returns c =
    let whole = ap length c.tables-i-end.ensures.tables ∙ length-map (state_of c.args.book.now.entries).tables brief_table in
    let past : length c.tables-i-end.result.now ≤ c.loop-i.i = search rules in
    record {
      found =
          sym (ap (info_of_name c.args.name.now) (none-left c.args.book.now.entries c.args.position c.loop-i.i (omega (arith, whole, past))))
          ∙ c.loop-i.invariant;
    }
