use Rattle.std.proofs.Common.{[]}
use Rattle.hv_exec.proofs.Fronts.{all_do}
use Rattle.hv_exec.proofs.groups.rows_of_all.Goals as goal

pub returns : goal.returns
returns c = c.in_ok-add_group.ensures.enough [] (all_do c.args.front c.in_ok-kept.kept.rows.items [] c.in_ok-kept.ensures.rows)
