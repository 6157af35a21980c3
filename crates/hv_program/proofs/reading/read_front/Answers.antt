use Rattle.std.proofs.Common.{◌≤◌, length, ◌∙◌, refl, arith}
use Rattle.hv_base.proofs.ToldLemmas.{stays_by, stays_stays}
use Rattle.hv_base.proofs.ReadingLemmas.{GivesFront-none, GivesAll-end, GivesFront-pushed, held-more}
use Rattle.hv_program.proofs.Fronts.{length-asked, length-chunk, asked-some, held-within, TakesUpTo-all, TakesUpTo-most, StaysTold-failed}
use Rattle.hv_program.proofs.Blaming.{Rose-later}
use Rattle.hv_program.proofs.reading.read_front.Goals as goal

pub loop-chunk-init : goal.loop-chunk-init
loop-chunk-init g c = record {
  chunk = c.as_mut_slice-chunk.ensures.len ∙ c.in_ok-memory.ensures.len;
  within = omega (arith, c.new-bytes.ensures.len);
  later = omega arith;
  given = GivesFront-none _ _ c.new-bytes.ensures.items;
}

pub returns-in_default-clause-blames : goal.returns-in_default-clause-blames
returns-in_default-clause-blames g c = λ e. Rose-later _ _ _ c.loop-chunk.invariant.later c.in_default.ensures.cause.failed

pub returns-in_default-clause-tells : goal.returns-in_default-clause-tells
returns-in_default-clause-tells g c = StaysTold-failed _ _ _ _ c.loop-chunk.invariant.given c.in_default.ensures.failed

pub returns-then-count-eq0-clause-taken : goal.returns-then-count-eq0-clause-taken
returns-then-count-eq0-clause-taken g c =
    let asked = length-asked _ _ _ _ c.read.auto.out c.min.ensures c.loop-chunk.invariant.chunk in
    let some = asked-some _ _ _ _ _ _ c.len.ensures c.len-in-loop-chunk.ensures c.loop-chunk-test.true refl asked in
    TakesUpTo-all _ _ _ _ (GivesAll-end _ _ _ _ _ _ c.if-count-eq0.true some c.loop-chunk.invariant.given c.in-Ok.ensures.done)

pub returns-then-count-eq0-clause-tells : goal.returns-then-count-eq0-clause-tells
returns-then-count-eq0-clause-tells g c =
    stays_stays _ _ _ (stays_by _ _ _ c.loop-chunk.invariant.given) (stays_by _ _ _ c.in-Ok.ensures.done)

pub loop-chunk-preserved : goal.loop-chunk-preserved
loop-chunk-preserved g c = record {
  chunk = length-chunk _ _ _ _ c.read.auto.out c.min.ensures c.loop-chunk.invariant.chunk;
  within = held-within _ _ _ _ _ _ _ (held-more _ _ _ _ _ c.in_ok-extend_from_slice.ensures.len c.in-Ok.ensures.bound)
      c.len-in-loop-chunk.ensures c.loop-chunk.invariant.within refl
      (length-asked _ _ _ _ c.read.auto.out c.min.ensures c.loop-chunk.invariant.chunk) c.in-Ok.ensures.bound;
  later = omega (arith, c.loop-chunk.invariant.later, c.in-Ok.ensures.cause.later);
  given = GivesFront-pushed _ _ _ _ _ _ _ _ c.in_ok-extend_from_slice.ensures.items c.in-Ok.ensures.bound
      c.loop-chunk.invariant.given c.in-Ok.ensures.done;
}

pub returns-in_err-extend_from_slice-clause-tells : goal.returns-in_err-extend_from_slice-clause-tells
returns-in_err-extend_from_slice-clause-tells g c =
    stays_stays _ _ _ (stays_by _ _ _ c.loop-chunk.invariant.given) (stays_by _ _ _ c.in-Ok.ensures.done)

pub returns-clause-taken : goal.returns-clause-taken
returns-clause-taken g c =
    let reached : c.args.most ≤ length c.loop-chunk.bytes.items = omega (arith, c.loop-chunk-test.false, c.len.ensures, c.loop-chunk.bytes.ok.0) in
    TakesUpTo-most _ _ _ _ reached c.loop-chunk.invariant.given

pub returns-clause-tells : goal.returns-clause-tells
returns-clause-tells g c = stays_by _ _ _ c.loop-chunk.invariant.given
