use Rattle.std.proofs.Common.{Bool, refl, sym, subst, arith}
use Rattle.hv_job_calls.specs.Forgetting.{IsOwnNamed, IsFirstOwn}
use Rattle.hv_job_calls.proofs.Forgets.{none-init, none-next, none-all, first-found}
use Rattle.hv_job_calls.proofs.OnOk.{ok-weaker}
use Rattle.hv_job_calls.proofs.forgetting.first_own.Goals as goal

pub loop-place-init : goal.loop-place-init
loop-place-init c = none-init c.args.write.0 c.args.places.now

pub loop-place-preserved : goal.loop-place-preserved
loop-place-preserved c =
    none-next c.args.write.0 c.args.places.now c.loop-place.place-index c.place-item.result c.loop-place-test.true c.place-item.is c.loop-place.invariant
    (subst (λ (b : Bool). IsOwnNamed c.args.write.0 c.place-item.result.dir b) c.if-own.false c.in_ok-own.ensures.own)

pub returns-then-own : goal.returns-then-own
returns-then-own c = record {
  found =
      ok-weaker c.found_dir.result _ _
      (λ found is.
      subst (IsFirstOwn c.args.write.0 c.args.places.now) (sym is)
      (first-found c.args.write.0 c.args.places.now c.loop-place.place-index c.place-item.result c.place-item.result.dir c.loop-place-test.true c.place-item.is
      refl (subst (λ (b : Bool). IsOwnNamed c.args.write.0 c.place-item.result.dir b) c.if-own.true c.in_ok-own.ensures.own)))
      c.found_dir.ensures.found;
}

pub returns : goal.returns
returns c = record {
  found =
      none-all c.args.write.0 c.args.places.now c.loop-place.place-index (omega (arith, c.loop-place-test.false, c.loop-place.auto.place-index-end))
      c.loop-place.invariant;
}
