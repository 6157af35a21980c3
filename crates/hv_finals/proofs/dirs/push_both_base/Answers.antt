use Rattle.std.proofs.Common.{refl, arith}
use Rattle.hv_jobs.specs.Covered.{base}
use Rattle.hv_finals.proofs.DirLemmas.{staged-named}
use Rattle.hv_finals.proofs.dirs.push_both_base.Goals as goal

pub push_both-requires-clause-named : goal.push_both-requires-clause-named
push_both-requires-clause-named c =
    let first = c.requires.range.0 in
    let order = c.requires.range.1 in
    (omega (arith, first, order), c.requires.range.2)

pub push_both-requires-clause-staged : goal.push_both-requires-clause-staged
push_both-requires-clause-staged c =
    let first = c.requires.range.0 in
    let order = c.requires.range.1 in
    staged-named c.args.number (base c.args.merge.high) c.requires.number (omega (arith, first, order), c.requires.range.2) refl
