use Rattle.std.proofs.Common.{◌++◌, ap, ◌∙◌}
use Rattle.hv_finals.specs.Finals.{range_dirs}
use Rattle.hv_finals.proofs.dirs.failing_in.Goals as goal

pub returns : goal.returns
returns c =
    let merge = c.args.merge in
    record {
      dirs = c.in_ok-push_range.ensures
          ∙ ap (λ ds. ds ++ range_dirs merge.table c.args.partition.now c.args.number merge.kind merge.low merge.high) c.new-dirs.ensures.items;
    }
