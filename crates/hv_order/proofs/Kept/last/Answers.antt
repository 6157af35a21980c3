use Rattle.hv_order.proofs.OrderKeys.{beyond}
use Rattle.hv_order.proofs.Kept.last.Goals as goal

pub returns-then-self : goal.returns-then-self
returns-then-self c row behind =
    beyond c.args.front.keys.now c.args.front.count row c.index.result.now c.args.self.now.rows.items (c.requires.sound c.if-self.true) c.index.ensures behind
