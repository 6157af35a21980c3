use Rattle.std.proofs.Common.{◌++◌, true, false, ap, ◌∙◌}
use Rattle.std.proofs.lemmas.List.{append_assoc}
use Rattle.hv_jobs.specs.Covered.{wide}
use Rattle.hv_finals.specs.Finals.{both_in}
use Rattle.hv_finals.proofs.dirs.push_both_wides.Goals as goal

pub returns : goal.returns
returns c =
    let merge = c.args.merge in
    let partition = c.args.partition.now in
    let inserts = both_in merge.table partition c.args.number (wide false merge.low merge.high) in
    let deletes = both_in merge.table partition c.args.number (wide true merge.low merge.high) in
    c.in_ok-push_both_wide-2.ensures ∙ ap (λ ds. ds ++ deletes) c.in_ok-push_both_wide.ensures
    ∙ append_assoc c.args.dirs.now.items inserts deletes
