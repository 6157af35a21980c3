use Rattle.std.proofs.Common.{rules, ◌≡◌, ◌∷◌, [], take, sym, ap, ◌∙◌, true}
use Rattle.std.specs.Option.{option_copied}
use Rattle.hv_meta.specs.hv_book.specs.hv_history.specs.State.{state_of, numbered}
use Rattle.hv_meta.specs.hv_book.specs.Briefs.{brief_table}
use Rattle.hv_meta.specs.hv_book.proofs.TextLaws.{numbered-map}
use Rattle.hv_earlier.proofs.PlaceLaws.{missing-table}
use Rattle.hv_earlier.proofs.CatalogLemmas.{live-info, live-there}
use Rattle.hv_earlier.proofs.catalogs.info_at.Goals as goal

pub returns-in_ok-made_info-in-Some : goal.returns-in_ok-made_info-in-Some
returns-in_ok-made_info-in-Some c =
    let entries = c.args.book.now.entries in
    let live : c.is_live_at.result ≡ true = search rules in
    ap (λ info. info ∷ []) c.in_ok-made_info-in-Some.ensures
    ∙ sym (live-info entries c.args.position c.args.table c.in-Some.note.now (option_copied c.table_tree.result)
    (c.in-Some.ensures ∙ ap (λ ns. numbered ns c.args.table) c.tables.ensures.tables ∙ numbered-map brief_table (state_of entries).tables c.args.table)
    (sym c.is_live_at.ensures.live ∙ live) c.table_tree.ensures.shape)

pub returns-in-None : goal.returns-in-None
returns-in-None c =
    let entries = c.args.book.now.entries in
    let live : c.is_live_at.result ≡ true = search rules in
    missing-table entries c.args.position c.args.table
    (c.in-None.ensures ∙ ap (λ ns. numbered ns c.args.table) c.tables.ensures.tables ∙ numbered-map brief_table (state_of entries).tables c.args.table)
    (live-there (numbered (state_of (take c.args.position entries)).tables c.args.table) (sym c.is_live_at.ensures.live ∙ live))
