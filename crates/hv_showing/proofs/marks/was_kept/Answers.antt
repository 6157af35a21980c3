use Rattle.std.proofs.Common.{ap, ◌∙◌}
use Rattle.std.specs.Option.{option_map}
use Rattle.std.specs.List.{list_any}
use Rattle.hv_history.specs.State.{numbered}
use Rattle.hv_book.specs.Past.{past_in, table_live}
use Rattle.hv_showing.specs.Fronts.{tables_then}
use Rattle.hv_showing.specs.Marks.{keeps, is_forgot}
use Rattle.hv_showing.proofs.Marked.{forgot-then, kept-then}
use Rattle.hv_showing.proofs.marks.was_kept.Goals as goal

pub returns : goal.returns
returns c =
    let entries = c.args.book.now.entries in
    let position = c.args.position in
    let table = c.args.table in
    let write = c.args.write in
    let there = numbered (tables_then entries position) table in
    c.keeps.ensures
    ∙ ap (λ live. keeps live c.any_forgot.result) c.was_live-live.ensures.live
    ∙ ap (keeps (option_map table_live there))
    (c.any_forgot.ensures
    ∙ ap (list_any (is_forgot position table write)) c.as_slice-forgotten.ensures.value
    ∙ forgot-then entries (past_in c.past-past.result.now) c.past-past.ensures.past position table write)
    ∙ kept-then write there
