use Rattle.std.proofs.Common.{ap, sym, ◌∙◌, refl}
use Rattle.hv_history.specs.State.{state_of, numbered}
use Rattle.hv_book.specs.Briefs.{brief_table}
use Rattle.hv_book.proofs.TextLaws.{numbered-map}
use Rattle.tests_house.proofs.Facts.{is_table}
use Rattle.tests_house.proofs.asking.table_of.Goals as goal

pub returns : goal.returns
returns c =
    let tables = (state_of c.args.book.now.entries).tables in
    is_table c.args.book.now.entries c.args.table.0 c.in_ok-shape.shape c.in-Some.note.now (numbered tables c.args.table.0) refl
    (c.in-Some.ensures ∙ ap (λ ns. numbered ns c.args.table.0) c.tables.ensures.tables ∙ numbered-map brief_table tables c.args.table.0)
    c.if-note-table.false (λ t here. c.table_tree.ensures.shape t here ∙ sym c.in_ok-shape.ensures)
