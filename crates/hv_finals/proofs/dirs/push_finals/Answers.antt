use Rattle.hv_history.specs.State.{state_of}
use Rattle.hv_history.specs.Jobs.{events_in}
use Rattle.hv_finals.proofs.CallLemmas.{on-ok}
use Rattle.hv_finals.proofs.DirLemmas.{minor-put, major-put}
use Rattle.hv_finals.proofs.dirs.push_finals.Goals as goal

pub returns-in-Minor : goal.returns-in-Minor
returns-in-Minor c =
    let merge = c.args.merge in
    let partition = c.args.partition.now in
    on-ok c.push_wides.result _ _ c.push_wides.ensures
    (minor-put merge.table partition (events_in (state_of c.args.book.now.entries) merge.table partition) merge.kind merge.low merge.high
    c.found_within-found.result.inserted c.found_within-found.result.deleted c.args.dirs.now.items c.push_wides.new.dirs.items c.in-Minor.is
    c.found_within-found.ensures.inserted c.found_within-found.ensures.deleted)

pub returns-in-Major : goal.returns-in-Major
returns-in-Major c =
    let merge = c.args.merge in
    let partition = c.args.partition.now in
    on-ok c.push_base.result _ _ c.push_base.ensures
    (major-put merge.table partition (events_in (state_of c.args.book.now.entries) merge.table partition) merge.kind merge.low merge.high
    c.args.dirs.now.items c.push_base.new.dirs.items c.in-Major.is)
