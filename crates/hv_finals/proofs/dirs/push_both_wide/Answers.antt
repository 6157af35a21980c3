use Rattle.std.proofs.Common.{refl}
use Rattle.hv_jobs.specs.Covered.{wide}
use Rattle.hv_finals.proofs.DirLemmas.{staged-named}
use Rattle.hv_finals.proofs.dirs.push_both_wide.Goals as goal

pub push_both-requires-clause-staged : goal.push_both-requires-clause-staged
push_both-requires-clause-staged c =
    staged-named c.args.number (wide c.args.deletes c.args.merge.low c.args.merge.high) c.requires.number c.requires.range refl

pub push_both-requires-clause-named : goal.push_both-requires-clause-named
push_both-requires-clause-named c = c.requires.range
