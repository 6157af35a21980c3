use Rattle.hv_history.specs.declared.entry.JobKind.TheVariants as kind
use Rattle.hv_finals.proofs.CallLemmas.{on-ok}
use Rattle.hv_finals.proofs.DirLemmas.{range-put}
use Rattle.hv_finals.proofs.dirs.push_range.Goals as goal

pub returns-in-Minor : goal.returns-in-Minor
returns-in-Minor c =
    let merge = c.args.merge in
    on-ok c.push_both_wides.result _ _ c.push_both_wides.ensures
    (range-put merge.table c.args.partition.now c.args.number merge.kind kind.Minor merge.low merge.high c.args.dirs.now.items
    c.push_both_wides.new.dirs.items c.in-Minor.is)

pub returns-in-Major : goal.returns-in-Major
returns-in-Major c =
    let merge = c.args.merge in
    on-ok c.push_both_base.result _ _ c.push_both_base.ensures
    (range-put merge.table c.args.partition.now c.args.number merge.kind kind.Major merge.low merge.high c.args.dirs.now.items
    c.push_both_base.new.dirs.items c.in-Major.is)
