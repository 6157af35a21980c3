use Rattle.std.proofs.Common.{◌<◌, get_or, arith, rules}
use Rattle.std.proofs.lemmas.Str.Parse.{digit_at}
use Rattle.hv_table.proofs.DecimalLemmas.{IsReadUpTo-more, room_for_more}
use Rattle.hv_table.proofs.digits.Digits.read.Goals as goal

pub returns-then-not-is_ascii_digit-clause-exact :
    goal.returns-then-not-is_ascii_digit-clause-exact
returns-then-not-is_ascii_digit-clause-exact g c = λ all.
    let digit = digit_at c.args.bytes.now c.loop-byte.byte-index all (search rules) in
    grind arith

pub loop-byte-preserved : goal.loop-byte-preserved
loop-byte-preserved g c =
    IsReadUpTo-more c.args.bytes.now c.loop-byte.byte-index c.loop-byte.value
    (get_or c.args.bytes.now c.loop-byte.byte-index 0) c.from.result c.loop-byte.invariant
    (search rules) (search rules) (search rules) (search rules)

pub overflow_add-value : goal.overflow_add-value
overflow_add-value g c =
    let small : c.from.result < 10 = search rules in
    omega (arith, room_for_more g.row.W c.loop-byte.byte-index c.loop-byte.value c.from.result c.requires c.loop-byte-test.true c.loop-byte.invariant.fits small)

pub overflow_mul-value : goal.overflow_mul-value
overflow_mul-value g c =
    omega (arith, room_for_more g.row.W c.loop-byte.byte-index c.loop-byte.value 0 c.requires c.loop-byte-test.true c.loop-byte.invariant.fits (omega arith))
