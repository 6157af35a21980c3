use Rattle.std.proofs.Common.{true≢false, sym}
use Rattle.hv_history.specs.State.{state_of}
use Rattle.hv_trail.specs.Kept.{trail_of}
use Rattle.hv_acts.specs.hv_telling.specs.hv_house.specs.House.{entries_of}
use Rattle.hv_job_acts.specs.Covering.{IsGoneName}
use Rattle.hv_job_acts.proofs.Gone.{all-next, all-end, item-in}
use Rattle.hv_job_acts.proofs.covering.all_gone.Goals as goal

pub loop-name-preserved : goal.loop-name-preserved
loop-name-preserved g c =
    let house = c.args.house.now in
    all-next (IsGoneName (trail_of house.trail) (state_of (entries_of house)) c.args.table c.args.partition.now) c.args.names.now c.loop-name.name-index
    c.name-item.result c.loop-name-test.true c.name-item.is c.loop-name.invariant (c.in_ok-gone.ensures.gone c.if-not-gone.false)

pub returns-then-not-gone : goal.returns-then-not-gone
returns-then-not-gone g c = record {
  gone = λ so. absurd (true≢false (sym so));
  left = λ so. record {
    name = c.name-item.result;
    among = item-in c.args.names.now c.loop-name.name-index c.name-item.result c.loop-name-test.true c.name-item.is;
    stands = c.in_ok-gone.ensures.left c.if-not-gone.true;
  };
}

pub returns : goal.returns
returns g c =
    let house = c.args.house.now in
    record {
      gone = λ so.
          all-end (IsGoneName (trail_of house.trail) (state_of (entries_of house)) c.args.table c.args.partition.now) c.args.names.now c.loop-name.name-index
          c.loop-name-test.false c.loop-name.auto.name-index-end c.loop-name.invariant;
      left = λ so. absurd (true≢false so);
    }
