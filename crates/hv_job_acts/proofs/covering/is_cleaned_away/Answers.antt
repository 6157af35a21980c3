use Rattle.std.proofs.Common.{◌≤◌, length, ap, sym, ◌∙◌, arith, rules}
use Rattle.std.proofs.lemmas.List.{length-map}
use Rattle.hv_history.specs.State.{state_of}
use Rattle.hv_book.specs.Briefs.{brief_job}
use Rattle.hv_job_acts.proofs.Cleaned.{any-next, any-found, any-end}
use Rattle.hv_job_acts.proofs.covering.is_cleaned_away.Goals as goal

pub loop-i-preserved : goal.loop-i-preserved
loop-i-preserved c =
    any-next c.args.table c.args.partition.now c.args.name.now (state_of c.args.book.now.entries).jobs c.loop-i.i _ c.loop-i.invariant
    (sym c.cleans.ensures ∙ c.if-cleans.false)

pub returns-then-cleans : goal.returns-then-cleans
returns-then-cleans c =
    any-found c.args.table c.args.partition.now c.args.name.now (state_of c.args.book.now.entries).jobs c.loop-i.i _ c.loop-i.invariant
    (sym c.cleans.ensures ∙ c.if-cleans.true)

pub returns : goal.returns
returns c =
    let jobs = (state_of c.args.book.now.entries).jobs in
    let whole = ap length c.jobs-i-end.ensures.jobs ∙ length-map jobs brief_job in
    let past : length c.jobs-i-end.result.now ≤ c.loop-i.i = search rules in
    any-end c.args.table c.args.partition.now c.args.name.now jobs c.loop-i.i _ c.loop-i.invariant (omega (arith, whole, past))
