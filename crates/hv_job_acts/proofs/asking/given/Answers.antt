use Rattle.std.proofs.Common.{ap, ◌∙◌}
use Rattle.hv_history.specs.State.{state_of, numbered}
use Rattle.hv_job_acts.proofs.Notes.{given-by, given-none}
use Rattle.hv_job_acts.proofs.asking.given.Goals as goal

pub returns-in-Some : goal.returns-in-Some
returns-in-Some c =
    given-by (state_of c.args.book.now.entries).tables c.args.table c.in-Some.note.now
    (c.in-Some.ensures ∙ ap (λ ns. numbered ns c.args.table) c.tables.ensures.tables)

pub returns-in-None : goal.returns-in-None
returns-in-None c =
    given-none (state_of c.args.book.now.entries).tables c.args.table (c.in-None.ensures ∙ ap (λ ns. numbered ns c.args.table) c.tables.ensures.tables)
