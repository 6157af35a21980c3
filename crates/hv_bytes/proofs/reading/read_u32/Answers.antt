use Rattle.std.proofs.Common.{rules, arith}
use Rattle.hv_bytes.proofs.Numbers.{four_front}
use Rattle.hv_bytes.proofs.reading.read_u32.Goals as goal

pub returns-clause-found : goal.returns-clause-found
returns-clause-found c = rw c.split_at.ensures.back (four_front c.args.bytes.now c.from_be_bytes-number.result (omega arith) (λ i. omega (arith, c.type_inv.bytes i)) (search rules))
