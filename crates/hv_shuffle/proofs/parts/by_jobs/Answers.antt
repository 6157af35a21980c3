use Rattle.std.proofs.Common.{◌≡◌, length, rules}
use Rattle.hv_shuffle.proofs.PartLemmas.{each_job}
use Rattle.hv_shuffle.proofs.parts.by_jobs.Goals as goal

pub returns : goal.returns
returns g c =
    let long : length c.in_ok-answers.answers.items ≡ length c.args.jobs.items = search rules in
    each_job g.F.Fn c.args.f.now c.args.jobs.items c.in_ok-answers.answers.items long c.in_ok-answers.ensures.each
