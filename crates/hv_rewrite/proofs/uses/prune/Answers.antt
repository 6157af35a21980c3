use Rattle.std.proofs.Common.{rules, sym, subst}
use Rattle.hv_rewrite.specs.Pruned.{keeps, PrunedKeepsRows}
use Rattle.hv_rewrite.proofs.Pruning.{pruned-keeps-rows}
use Rattle.hv_rewrite.proofs.uses.prune.Goals as goal

pub returns-clause-rows : goal.returns-clause-rows
returns-clause-rows c =
    subst (λ uses. PrunedKeepsRows c.args.query.now c.args.source (keeps uses)) (sym (search rules)) (pruned-keeps-rows c.args.query.now c.args.source)
