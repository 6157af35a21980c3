use Rattle.std.proofs.Common.{ap, ◌∙◌, arith}
use Rattle.hv_meta.specs.hv_book.specs.hv_history.specs.State.{state_of, numbered}
use Rattle.hv_meta.specs.hv_book.specs.Briefs.{brief_table}
use Rattle.hv_meta.specs.hv_book.specs.Past.{past_in}
use Rattle.hv_meta.specs.hv_book.proofs.TextLaws.{numbered-map}
use Rattle.hv_earlier.proofs.PlaceLaws.{high-of, no-owners}
use Rattle.hv_earlier.proofs.WalkLaws.{given-so}
use Rattle.hv_earlier.proofs.counts.high_at.Goals as goal

pub returns-in-Some : goal.returns-in-Some
returns-in-Some c =
    let entries = c.args.book.now.entries in
    let now = given-so entries c.args.position c.args.table (past_in c.past.result.now) c.past.ensures.past in
    let note =
    high-of c.in-Some.note.now (numbered (state_of entries).tables c.args.table)
    (c.in-Some.ensures ∙ ap (λ ns. numbered ns c.args.table) c.tables.ensures.tables ∙ numbered-map brief_table (state_of entries).tables c.args.table)
    in
    record { high = omega (arith, now, note, c.given_since-since.ensures.since, c.saturating_sub.ensures) }

pub returns-in-None : goal.returns-in-None
returns-in-None c =
    let entries = c.args.book.now.entries in
    let now = given-so entries c.args.position c.args.table (past_in c.past.result.now) c.past.ensures.past in
    let none =
    no-owners (numbered (state_of entries).tables c.args.table)
    (c.in-None.ensures ∙ ap (λ ns. numbered ns c.args.table) c.tables.ensures.tables ∙ numbered-map brief_table (state_of entries).tables c.args.table)
    in
    record { high = omega (arith, now, none) }
