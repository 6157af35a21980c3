use Rattle.std.proofs.Common.{arith, rules}
use Rattle.std.proofs.lemmas.Grind.{common_steps}
use Rattle.hv_queue.proofs.SetLemmas.{bound-small, bound-next}
use Rattle.hv_queue.proofs.digits.number_of.Goals as goal

pub with_digit-number-requires : goal.with_digit-number-requires
with_digit-number-requires c =
    let fits = c.loop-byte.invariant.1 in
    let small = bound-small c.loop-byte.byte-index c.loop-byte.invariant.2 in
    omega (arith, fits, small)

pub loop-byte-preserved : goal.loop-byte-preserved
loop-byte-preserved c =
    let within = c.loop-byte-test.true in
    let few = c.requires in (
      first_of (search rules, grind (arith, common_steps)),
      bound-next c.loop-byte.byte-index c.loop-byte.number c.with_digit-number.result c.loop-byte.invariant.1 c.with_digit-number.ensures.bound,
      omega (arith, within, few),
    )

pub returns-clause-bound : goal.returns-clause-bound
returns-clause-bound c =
    let fits = c.loop-byte.invariant.1 in
    let small = bound-small c.loop-byte.byte-index c.loop-byte.invariant.2 in
    omega (arith, fits, small)
