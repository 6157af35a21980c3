use Rattle.std.proofs.Common.{◌≡◌, ◌+◌, ◌-◌, drop, sym, ap, ◌∙◌, arith}
use Rattle.hv_conflicts.specs.Clashes.{clash_behind, first_some}
use Rattle.hv_conflicts.proofs.ClashLemmas.{skipped}
use Rattle.hv_conflicts.proofs.finding.first_behind.Goals as goal

pub returns-then-places-i : goal.returns-then-places-i
returns-then-places-i c =
    let at : c.loop-i.i - 1 + 1 ≡ c.loop-i.i = omega (arith, c.loop-i-test.true) in
    c.loop-i.invariant ∙ ap (λ k. first_some (clash_behind c.args.book.now.entries c.args.place c.args.wrote.now) (drop k c.args.places.now)) (sym at)
    ∙ skipped c.args.book.now.entries c.args.place c.args.wrote.now c.args.places.now (c.loop-i.i - 1) 0 c.requires.rising
    (omega (arith, c.loop-i-test.true, c.loop-i.auto.i)) c.if-places-i.true
