use Rattle.std.proofs.Common.{◌≤◌, sym, subst, length}
use Rattle.hv_choosing.specs.Taken.{is_beside}
use Rattle.hv_choosing.proofs.Partitions.{prefix-bound}
use Rattle.hv_choosing.proofs.runs.run_length.Goals as goal

pub returns-in-Some-clause-bound : goal.returns-in-Some-clause-bound
returns-in-Some-clause-bound c =
    subst (λ n. n ≤ length c.args.files.now) (sym c.count_beside.ensures) (prefix-bound (is_beside c.in-Some.first.now) c.args.files.now)
