use Rattle.std.proofs.Common.{◌≤◌, sym, ◌∙◌, arith, rules}
use Rattle.hv_showing.specs.Fronts.{transactions_then}
use Rattle.hv_showing.proofs.JobRows.{open-here, shut-here, none-open}
use Rattle.hv_showing.proofs.jobs.lowest_open.Goals as goal

pub returns-then-was_open : goal.returns-then-was_open
returns-then-was_open c =
    let ts = transactions_then c.args.book.now.entries c.args.front.position in
    sym (open-here ts c.loop-i.i (sym c.was_open.ensures ∙ c.if-was_open.true)) ∙ c.loop-i.invariant

pub loop-i-preserved : goal.loop-i-preserved
loop-i-preserved c =
    let ts = transactions_then c.args.book.now.entries c.args.front.position in
    sym (shut-here ts c.loop-i.i (sym c.was_open.ensures ∙ c.if-was_open.false)) ∙ c.loop-i.invariant

pub returns : goal.returns
returns c =
    let ts = transactions_then c.args.book.now.entries c.args.front.position in
    let past : c.args.front.opened ≤ c.loop-i.i = search rules in
    sym (none-open ts c.loop-i.i (omega (arith, c.requires.opened, past))) ∙ c.loop-i.invariant
