use Rattle.hv_dirs.specs.Choice.{sight_of}
use Rattle.hv_dirs.proofs.ChoiceLemmas.{is-chosen}
use Rattle.hv_dirs.proofs.choice.choose.Goals as goal

pub returns : goal.returns
returns c =
    is-chosen (sight_of c.args.list.now) c.args.dirs.now c.best_base-high.result
    c.in_ok-deltas_above.field-0.items c.in_ok-deltas_above-2.field-0.items c.best_base-high.ensures
    c.in_ok-deltas_above.ensures c.in_ok-deltas_above-2.ensures
