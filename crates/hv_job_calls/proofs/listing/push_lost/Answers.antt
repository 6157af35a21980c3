use Rattle.std.proofs.Common.{sym, ap, ◌∙◌, ◌++◌, List, append-nil}
use Rattle.hv_wids.specs.declared.list.Exception.{Exception}
use Rattle.hv_job_calls.proofs.ListedJobs.{pushed-one, lost-none}
use Rattle.hv_job_calls.proofs.listing.push_lost.Goals as goal

pub returns-then-is_low : goal.returns-then-is_low
returns-then-is_low c =
    pushed-one c.put_behind.result c.args.exceptions.now.items c.put_behind.new.exceptions.items c.args.mark c.args.write
    (sym c.is_low.ensures ∙ c.if-is_low.true) c.put_behind.ensures

pub returns-else-is_low : goal.returns-else-is_low
returns-else-is_low c =
    sym (append-nil c.args.exceptions.now.items)
    ∙ ap (λ (es : List Exception). c.args.exceptions.now.items ++ es) (sym (lost-none c.args.mark c.args.write (sym c.is_low.ensures ∙ c.if-is_low.false)))
