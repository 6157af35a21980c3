use Rattle.std.proofs.Common.{◌++◌, ap, ◌∙◌}
use Rattle.hv_history.specs.State.{state_of}
use Rattle.hv_history.specs.Jobs.{events_in}
use Rattle.hv_finals.specs.Finals.{finals_in}
use Rattle.hv_finals.proofs.dirs.finals_in.Goals as goal

pub returns : goal.returns
returns c =
    let merge = c.args.merge in
    let partition = c.args.partition.now in
    let ids = events_in (state_of c.args.book.now.entries) merge.table partition in
    record {
      dirs = c.in_ok-push_finals.ensures ∙ ap (λ ds. ds ++ finals_in merge.table partition ids merge.kind merge.low merge.high) c.new-dirs.ensures.items;
    }
