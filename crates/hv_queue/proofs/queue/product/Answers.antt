use Rattle.std.proofs.Common.{◌<◌, ◌^◌, arith}
use Rattle.std.proofs.lemmas.Nat.{mul-lt}
use Rattle.hv_queue.proofs.queue.product.Goals as goal

pub overflow_mul-result : goal.overflow_mul-result
overflow_mul-result c =
    let a : c.args.a < 2 ^ 64 = omega arith in
    let b : c.args.b < 2 ^ 64 = omega arith in
    let most = mul-lt c.args.a c.args.b (2 ^ 64) (2 ^ 64) a b in
    omega (arith, most)
