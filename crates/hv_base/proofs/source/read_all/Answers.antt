use Rattle.std.proofs.Common.{◌-◌, arith, ap, ◌∙◌, sym}
use Rattle.hv_base.proofs.ReadingLemmas.{GivesFront-none, LosesFront-failed, LosesFront-more, GivesAll-end, PassesLimit-more, length-asked, length-chunk, one_past, held-more, held-within, reads-more, GivesFront-pushed}
use Rattle.hv_base.proofs.source.read_all.Goals as goal

pub loop-bytes-init : goal.loop-bytes-init
loop-bytes-init g c = record {
  chunk = c.as_mut_slice-chunk.ensures.len ∙ c.in_ok-memory.ensures.len;
  within = omega arith;
  given = GivesFront-none _ _ c.new-bytes.ensures.items;
  later = omega arith;
  reads = omega arith;
}

pub returns-in_err-count-clause-taken : goal.returns-in_err-count-clause-taken
returns-in_err-count-clause-taken g c =
    LosesFront-failed _ _ _ _ c.loop-bytes.invariant.given c.in_err-count.ensures.failed

pub returns-then-count-eq0-clause-done : goal.returns-then-count-eq0-clause-done
returns-then-count-eq0-clause-done g c =
    let asked = length-asked _ _ _ _ c.read.auto.out c.min.ensures c.loop-bytes.invariant.chunk in
    GivesAll-end _ _ _ _ _ _ c.if-count-eq0.true (omega arith) c.loop-bytes.invariant.given c.in_ok-count.ensures.done

pub returns-then-count-eq0-clause-taken : goal.returns-then-count-eq0-clause-taken
returns-then-count-eq0-clause-taken g c = LosesFront-more _ _ _ _ _ _ c.loop-bytes.invariant.given c.in_ok-count.ensures.done

pub returns-then-count-room-clause-too_long : goal.returns-then-count-room-clause-too_long
returns-then-count-room-clause-too_long g c _ =
    let asked = length-asked _ _ _ _ c.read.auto.out c.min.ensures c.loop-bytes.invariant.chunk in
    PassesLimit-more _ _ _ _ _ _ _ (one_past _ _ _ _ _ _ (sym c.loop-bytes.bytes.ok.0) c.loop-bytes.invariant.within (ap (λ n. c.args.limit - n) c.len.ensures) asked c.in_ok-count.ensures.bound c.if-count-room.true)
    c.in_ok-count.ensures.bound c.loop-bytes.invariant.given c.in_ok-count.ensures.done

pub returns-then-count-room-clause-taken : goal.returns-then-count-room-clause-taken
returns-then-count-room-clause-taken g c = LosesFront-more _ _ _ _ _ _ c.loop-bytes.invariant.given c.in_ok-count.ensures.done

pub loop-bytes-preserved : goal.loop-bytes-preserved
loop-bytes-preserved g c = record {
  chunk = length-chunk _ _ _ _ c.read.auto.out c.min.ensures c.loop-bytes.invariant.chunk;
  within = held-within _ _ _ _ _ (held-more _ _ _ _ _ c.in_ok-extend_from_slice.ensures.len c.in_ok-count.ensures.bound)
      c.loop-bytes.invariant.within (ap (λ n. c.args.limit - n) c.len.ensures) c.if-count-room.false;
  given = GivesFront-pushed _ _ _ _ _ _ _ _ c.in_ok-extend_from_slice.ensures.items c.in_ok-count.ensures.bound
      c.loop-bytes.invariant.given c.in_ok-count.ensures.done;
  later = omega (arith, c.in_ok-count.ensures.cause.later);
  reads = reads-more _ _ _ _ _ _ (held-more _ _ _ _ _ c.in_ok-extend_from_slice.ensures.len c.in_ok-count.ensures.bound)
      c.if-count-eq0.false c.loop-bytes.invariant.reads c.in_ok-count.ensures.counted;
}

pub returns-in_err-extend_from_slice-clause-taken : goal.returns-in_err-extend_from_slice-clause-taken
returns-in_err-extend_from_slice-clause-taken g c = LosesFront-more _ _ _ _ _ _ c.loop-bytes.invariant.given c.in_ok-count.ensures.done
