use Rattle.std.proofs.Common.{◌≡◌, ◌+◌, ◌-◌, take, sym, ap, ◌∙◌, arith}
use Rattle.std.specs.List.{list_any}
use Rattle.hv_book.specs.Commits.{passes_at}
use Rattle.hv_meta.specs.Committing.{against}
use Rattle.hv_meta.proofs.CommitLemmas.{none-before}
use Rattle.hv_meta.proofs.committing.conflicts_behind.Goals as goal

pub returns-then-places-i : goal.returns-then-places-i
returns-then-places-i c =
    let at : c.loop-i.i - 1 + 1 ≡ c.loop-i.i = omega (arith, c.loop-i-test.true) in
    sym (sym c.loop-i.invariant ∙ ap (λ k. list_any (passes_at (against c.args.place c.args.wrote.now) c.args.book.now.entries) (take k c.args.places.now)) (sym at)
    ∙ none-before c.args.place c.args.wrote.now c.args.book.now.entries c.args.places.now (c.loop-i.i - 1) 0 c.requires.rising
    (omega (arith, c.loop-i-test.true, c.loop-i.auto.i)) c.if-places-i.true)
