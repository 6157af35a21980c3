use Rattle.std.proofs.Common.{ap, ◌∙◌}
use Rattle.hv_history.specs.State.{state_of, numbered}
use Rattle.hv_tallies.specs.hv_earlier.specs.hv_meta.specs.hv_book.specs.Briefs.{brief_table}
use Rattle.hv_tallies.specs.hv_earlier.specs.hv_meta.specs.hv_book.proofs.TextLaws.{numbered-map}
use Rattle.hv_queue.proofs.NoteLemmas.{live-some, live-none}
use Rattle.hv_queue.proofs.queue.is_live.Goals as goal

pub returns-in-Some : goal.returns-in-Some
returns-in-Some c =
    let tables = (state_of c.args.book.now.entries).tables in
    live-some c.in-Some.note.now (numbered tables c.args.table)
    (c.in-Some.ensures ∙ ap (λ ns. numbered ns c.args.table) c.tables.ensures.tables ∙ numbered-map brief_table tables c.args.table)

pub returns-in-None : goal.returns-in-None
returns-in-None c =
    let tables = (state_of c.args.book.now.entries).tables in
    live-none (numbered tables c.args.table)
    (c.in-None.ensures ∙ ap (λ ns. numbered ns c.args.table) c.tables.ensures.tables ∙ numbered-map brief_table tables c.args.table)
