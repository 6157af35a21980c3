use Rattle.std.proofs.Common.{arith, refl}
use Rattle.std.proofs.lemmas.Result.{err_from_is_err_and}
use Rattle.std.proofs.lemmas.Grind.{common_steps}
use Rattle.hv_bytes.specs.Reading.{items_at}
use Rattle.hv_bytes.proofs.ItemLemmas.{goes_on, ends, is_done, takes_more, starts}
use Rattle.hv_bytes.proofs.items.read_items.Goals as goal

pub returns-in_err-item-clause-exact : goal.returns-in_err-item-clause-exact
returns-in_err-item-clause-exact g c =
    let p = err_from_is_err_and c.from_residual-in_err-item.result c.from_residual-in_err-item.ensures.1 in
    rw (p.1, p.2) (ends g.F.Field.at c.in_err-item.field-0.0 c.loop.items.items c.args.count c.loop.counter c.loop.rest.now (items_at g.F.Field.at c.args.count c.args.bytes.now) c.loop-test.true c.in_err-item.ensures.exact c.loop.invariant.exact)

pub loop-preserved : goal.loop-preserved
loop-preserved g c =
    let v = c.in_ok-item.item in
    rw c.in_ok-push.ensures.items (record {
      exact = goes_on g.F.Field.at c.loop.items.items c.args.count c.loop.counter c.loop.rest.now v c.in_ok-item.after.now (items_at g.F.Field.at c.args.count c.args.bytes.now) c.loop-test.true c.in_ok-item.ensures.exact c.loop.invariant.exact;
      count = grind (arith, common_steps);
      takes = takes_more g.F.Field.spelling g.F.Field.Has c.args.bytes.now c.loop.items.items c.loop.rest.now v c.in_ok-item.after.now c.loop.invariant.takes c.in_ok-item.ensures.found.0 c.in_ok-item.ensures.found.1;
    })

pub returns-clause-exact : goal.returns-clause-exact
returns-clause-exact g c = is_done g.F.Field.at c.loop.items.items c.args.count c.loop.counter c.loop.rest.now (items_at g.F.Field.at c.args.count c.args.bytes.now) c.loop-test.false c.loop.invariant.exact

pub returns-clause-found : goal.returns-clause-found
returns-clause-found g c = (omega arith, c.loop.invariant.takes.has, c.loop.invariant.takes.parts)

pub loop-init : goal.loop-init
loop-init g c = rw c.in_ok-items.ensures.items (record { exact = starts g.F.Field.at c.args.count c.args.bytes.now; count = refl; takes = record { has = tt; parts = refl } })
