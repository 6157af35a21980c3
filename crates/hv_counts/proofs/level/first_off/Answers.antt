use Rattle.std.proofs.Common.{◌≡◌, ◌+◌, drop, sym, ap, ◌∙◌, arith}
use Rattle.hv_counts.specs.Tallies.{ends, first_off}
use Rattle.hv_counts.proofs.Levels.{looked, front, off-on, off-same}
use Rattle.hv_counts.proofs.level.first_off.Goals as goal
use Rattle.hv_counts.proofs.level.first_off.Goals.{then-ends+else-stored-due, else-ends}

pub loop-i-preserved : goal.loop-i-preserved
loop-i-preserved c =
    let xs = c.args.tallies.now in
    let i = c.loop-i.i in
    let t = c.index-tallies-i.result in
    let more = drop (i + 1) xs in
    let s = c.loop-i.stored in
    let d = c.loop-i.due in
    let next = c.ends.ensures ∙ ap (ends t) (looked xs (i + 1) c.get.result c.get.ensures.lookup.0 c.get.ensures.lookup.1) in
    let whole = ap (first_off s d) (front xs i t c.loop-i-test.true c.index-tallies-i.is) in
    let kept = sym whole ∙ c.loop-i.invariant.0 in
    elim c.if-ends.branch [
      | then-ends+else-stored-due w ↦
          let same : s + t.stored ≡ d + t.due = omega (arith, w.if-stored-due.false, c.from-stored.ensures, c.from-due.ensures) in (
            (λ k. first_off (w.stored-is k) (w.due-is k) more) ∙ sym (off-same s d t more (sym next ∙ w.if-ends.true) same) ∙ kept,
            omega (arith, w.stored-is),
            omega (arith, w.due-is),
          )
      | else-ends w ↦
          let stored : c.if-ends.stored ≡ s + t.stored = omega (arith, w.stored-is, c.from-stored.ensures) in
          let due : c.if-ends.due ≡ d + t.due = omega (arith, w.due-is, c.from-due.ensures) in (
            (λ k. first_off (stored k) (due k) more) ∙ sym (off-on s d t more (sym next ∙ w.if-ends.false)) ∙ kept,
            omega (arith, w.stored-is, c.loop-i.invariant.1),
            omega (arith, w.due-is, c.loop-i.invariant.2),
          )
    ]
