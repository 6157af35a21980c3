use Rattle.hv_kept.proofs.NamesLemmas.{put_init, put_next, put_done}
use Rattle.hv_kept.proofs.names.put_all.Goals as goal

pub loop-place-init : goal.loop-place-init
loop-place-init c = put_init c.args.names.now.tree

pub loop-place-preserved : goal.loop-place-preserved
loop-place-preserved c =
    put_next c.args.places.now c.loop-place.place-index c.place-item.result c.loop-place-test.true c.place-item.is
    c.args.names.now.tree _ _ _ c.in_ok-put.ensures.ok c.loop-place.invariant

pub returns : goal.returns
returns c = record {
  names = put_done c.args.places.now c.loop-place.place-index c.args.names.now.tree _ c.loop-place-test.false c.loop-place.invariant;
}
