use Rattle.hv_history.specs.State.{State, Job, state_of}
use Rattle.hv_law_made.specs.Entries.{IsAtWork}
use Rattle.hv_law_work.specs.Work.{AreStagedAll}
use Rattle.hv_trail.specs.Kept.{trail_of}
use Rattle.hv_acts.specs.hv_telling.specs.hv_house.specs.House.{entries_of}
use Rattle.hv_acts.specs.hv_telling.specs.hv_house.specs.Steps.{seen_of}
use Rattle.hv_acts.specs.hv_telling.specs.hv_house.proofs.Hards.{shuts_behind}
use Rattle.hv_job_acts.proofs.Merges.{merge-at}
use Rattle.hv_job_acts.proofs.Passed.{at-book}
use Rattle.hv_job_acts.proofs.Publications.{has-some, published, unpublished}
use Rattle.hv_job_acts.proofs.staging.publish_whole.Goals as goal

pub publish-requires-clause-some : goal.publish-requires-clause-some
publish-requires-clause-some g c =
    has-some (state_of (entries_of c.args.house.now)) c.args.job.0 c.in-Some.merge c.merge_of.result c.in-Some.is
    (merge-at c.args.house.now c.args.job.0 c.book.result.now.entries c.merge_of.result c.book.ensures.entries c.merge_of.ensures.merge) c.requires.works

pub publish-requires-clause-staged : goal.publish-requires-clause-staged
publish-requires-clause-staged g c = λ is_told.
    at-book c.args.house.now
    (λ (state : State). (j : Job) (work : IsAtWork state c.args.job.0 j)
    → AreStagedAll (trail_of c.args.house.now.trail) state c.args.job.0 j work.table)
    (c.requires.truly is_told)

pub returns-in-Some : goal.returns-in-Some
returns-in-Some g c = record {
  published =
      published g.D.Shelf.told g.D.Shelf.faults c.args.house.now c.publish.new.house c.requires.whole c.args.job c.in-Some.merge c.merge_of.result c.in-Some.is
      (merge-at c.args.house.now c.args.job.0 c.book.result.now.entries c.merge_of.result c.book.ensures.entries c.merge_of.ensures.merge) c.requires.works
      c.requires.unbroken c.publish.result c.with_range.result c.with_range.ensures c.publish.ensures.step c.publish.ensures.mark c.publish.ensures.gone
      c.publish.ensures.others;
  hard =
      shuts_behind g.D.Shelf.told g.D.Shelf.faults g.D.Shelf.hard _ _ (seen_of c.args.house.now) (seen_of c.publish.new.house) c.publish.ensures.step.step
      c.publish.ensures.hard c.requires.hard;
}

pub returns-in-None : goal.returns-in-None
returns-in-None g c = record {
  published = unpublished g.D.Shelf.told g.D.Shelf.faults c.args.house.now c.args.house.now c.requires.whole c.args.job;
  hard = c.requires.hard;
}
