use Rattle.std.proofs.Common.{◌*◌, ◌∙◌, arith}
use Rattle.std.proofs.lemmas.Nat.{mul-le}
use Rattle.hv_queue.proofs.SetLemmas.{padded-is}
use Rattle.hv_queue.proofs.digits.padded.Goals as goal

pub number_of-requires : goal.number_of-requires
number_of-requires c = let few = c.requires.few in omega (arith, few)

pub overflow_mul-result : goal.overflow_mul-result
overflow_mul-result c =
    let small = c.number_of.ensures.bound in
    let most = mul-le c.number_of.result c.scale.result 1000000000 100 (omega (arith, small)) c.scale.ensures.bound in
    omega (arith, most)

pub returns : goal.returns
returns c =
    let small = c.number_of.ensures.bound in
    let most = mul-le c.number_of.result c.scale.result 1000000000 100 (omega (arith, small)) c.scale.ensures.bound in
    record {
      is = (λ i. c.number_of.ensures.is i * c.scale.ensures.is i) ∙ padded-is c.args.fraction.now c.requires.some c.requires.few;
      bound = omega (arith, most);
    }
