use Rattle.std.proofs.Common.{◌≡◌, ◌-◌, false, drop, sym, ◌∙◌, subst, arith}
use Rattle.hv_trail.proofs.Asked.{written-at}
use Rattle.hv_trail.proofs.Written.{any_put, walked, is-so, is-not-so, not-marked}
use Rattle.hv_trail.proofs.kept.any_written.Goals as goal

pub returns-then-is_written : goal.returns-then-is_written
returns-then-is_written c = record {
  written = λ book.
      is-so _ (written-at c.args.reader c.args.place.now book c.args.marks.now (c.loop-at.at - 1) (sym c.is_written.ensures.exact ∙ c.if-is_written.true));
}

pub loop-at-preserved : goal.loop-at-preserved
loop-at-preserved c =
    walked c.args.reader c.args.place.now c.args.marks.now c.loop-at.at c.loop-at-test.true c.loop-at.invariant
    (sym c.is_written.ensures.exact ∙ c.if-is_written.false)

pub returns : goal.returns
returns c =
    let start : c.loop-at.at ≡ 0 = omega (arith, c.loop-at-test.false) in
    record {
      written = λ book. is-not-so _ (not-marked c.args.reader c.args.place.now book c.args.marks.now
          (subst (λ n. any_put c.args.reader c.args.place.now (drop n c.args.marks.now) ≡ false) start c.loop-at.invariant));
    }
