use Rattle.std.proofs.Common.{◌∙◌, ◌+◌, sym, ap, arith, drop, length, length-drop}
use Rattle.std.specs.Ordering.{ordering_then}
use Rattle.std.specs.Cmp.Lexicographic.{slice_cmp}
use Rattle.hv_value.specs.Order.{value_cmp}
use Rattle.hv_value.proofs.OrderSteps.{decides, defers, slice_cmp-turn, slice_cmp-end}
use Rattle.hv_order.proofs.compare_all.Goals as goal

pub returns-then-is_ne : goal.returns-then-is_ne
returns-then-is_ne c =
    let xs = c.args.left.now in
    let ys = c.args.right.now in
    let i = c.loop-i.i in
    let invariant = c.loop-i.invariant in
    let rest = slice_cmp value_cmp (drop (i + 1) xs) (drop (i + 1) ys) in
    let within = c.loop-i-test.true in
    let turn = slice_cmp-turn value_cmp xs ys i c.index-left-i.result c.index-right-i.result
    (omega (arith, invariant.0)) (omega (arith, invariant.0)) c.index-left-i.is c.index-right-i.is in
    decides _ rest (sym c.is_ne.ensures ∙ c.if-is_ne.true) ∙ ap (λ o. ordering_then o rest) c.compare_values-found.ensures
    ∙ sym turn ∙ invariant.2

pub loop-i-preserved : goal.loop-i-preserved
loop-i-preserved c =
    let xs = c.args.left.now in
    let ys = c.args.right.now in
    let i = c.loop-i.i in
    let invariant = c.loop-i.invariant in
    let rest = slice_cmp value_cmp (drop (i + 1) xs) (drop (i + 1) ys) in
    let within = c.loop-i-test.true in
    let turn = slice_cmp-turn value_cmp xs ys i c.index-left-i.result c.index-right-i.result
    (omega (arith, invariant.0)) (omega (arith, invariant.0)) c.index-left-i.is c.index-right-i.is in (
      invariant.0,
      omega arith,
      sym (defers _ rest (sym c.is_ne.ensures ∙ c.if-is_ne.false)) ∙ ap (λ o. ordering_then o rest) c.compare_values-found.ensures
          ∙ sym turn ∙ invariant.2,
    )

pub returns : goal.returns
returns c =
    let xs = c.args.left.now in
    let ys = c.args.right.now in
    let i = c.loop-i.i in
    let invariant = c.loop-i.invariant in
    let outside = c.loop-i-test.false in
    c.cmp.ensures
    ∙ sym (slice_cmp-end value_cmp (length xs) (length ys) i (drop i xs) (drop i ys)
    (omega (arith, length-drop i xs, invariant.0)) (omega (arith, length-drop i ys, invariant.0)) (omega (arith, invariant.0)))
    ∙ invariant.2
