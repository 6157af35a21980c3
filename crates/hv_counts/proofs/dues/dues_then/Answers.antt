use Rattle.std.proofs.Common.{◌++◌, List, ap, ◌∙◌, arith}
use Rattle.std.specs.List.{flat_map}
use Rattle.hv_book.specs.Past.{total, past_in}
use Rattle.hv_counts.specs.declared.due.Due.{Due}
use Rattle.hv_counts.specs.Places.{dues_then}
use Rattle.hv_counts.proofs.DueLaws.{all-dues}
use Rattle.hv_counts.proofs.dues.dues_then.Goals as goal

pub returns : goal.returns
returns c = λ weight.
    let entries = c.args.book.now.entries in
    let past = past_in c.past-past.result.now in
    let spot = c.args.spot in
    let first =
    ap (total weight)
    (c.in_ok-push_ids.ensures
    ∙ ap (λ (xs : List Due). xs ++ flat_map (dues_then entries spot) c.of_table-pending.result.now) c.new-dues.ensures.items
    ∙ ap (flat_map (dues_then entries spot)) c.of_table-pending.ensures.ids)
    in
    let second = c.in_ok-push_ended.ensures weight in
    let third = c.in_ok-push_ended-2.ensures weight in
    let all = all-dues entries spot c.requires weight past c.past-past.ensures.past in
    omega (arith, first, second, third, all)
