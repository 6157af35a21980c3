use Rattle.std.proofs.Common.{ap, ◌∙◌}
use Rattle.hv_meta.specs.Committing.{started_place}
use Rattle.hv_conflicts.proofs.ClashLemmas.{answer}
use Rattle.hv_conflicts.proofs.finding.clash.Goals as goal

pub returns : goal.returns
returns c =
    let told = answer c.args.book.now.entries c.commits.result.now c.commits.ensures.rising c.commits.ensures.commits c.args.txn.0 c.args.wrote.now
    c.requires.running c.started_place-place.result (c.started_place-place.ensures ∙ ap started_place c.note_of.ensures.note) c.first_behind.result c.first_behind.ensures in
    record { found = told.found; none = told.none }
