use Rattle.std.proofs.Common.{◌-◌, arith}
use Rattle.hv_history.proofs.NumberLemmas.{place-some, place-none}
use Rattle.hv_history.proofs.numbers.place_of.Goals as goal

pub returns-then-place-items : goal.returns-then-place-items
returns-then-place-items g c = place-some c.args.items.now c.args.number (c.args.number - 1) (omega arith) (omega arith)

pub returns-else-place-items : goal.returns-else-place-items
returns-else-place-items g c = place-none c.args.items.now c.args.number (c.args.number - 1) (omega arith) (omega arith)
