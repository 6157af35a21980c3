use Rattle.std.proofs.Common.{refl, sym, ◌∙◌, subst, true≢false}
use Rattle.hv_history.specs.State.{state_of}
use Rattle.hv_tallies.specs.Walks.{IsTally}
use Rattle.hv_queue.specs.Queue.{due_by}
use Rattle.hv_queue.proofs.DueLemmas.{due-none, due-some, counted-by}
use Rattle.hv_queue.proofs.queue.due.Goals as goal

pub returns-then-not-may_ask-clause-due : goal.returns-then-not-may_ask-clause-due
returns-then-not-may_ask-clause-due c =
    due-none c.args.book.now.entries c.args.table.0 c.args.partition.now c.survey_in-jobs.result c.survey_in-jobs.ensures
    (sym c.may_ask.ensures ∙ c.if-not-may_ask.true)

pub returns-then-not-may_ask-clause-few : goal.returns-then-not-may_ask-clause-few
returns-then-not-may_ask-clause-few c = λ less. refl

pub returns-then-not-is_counted-clause-few : goal.returns-then-not-is_counted-clause-few
returns-then-not-is_counted-clause-few c = λ less.
    let entries = c.args.book.now.entries in
    let reach = c.reach_of-reach.result in
    let tally = c.walk-tally.result in
    let is = subst (λ p. IsTally (state_of entries) c.args.table.0 p reach tally) c.as_str.ensures c.walk-tally.ensures in
    let counted =
    counted-by entries c.args.table.0 c.args.partition.now c.watermark-mark.result.0 c.survey_in-jobs.result reach tally c.survey_in-jobs.ensures c.reach_of-reach.ensures
    is c.watermark-mark.ensures.mark less
    in
    absurd (true≢false (sym counted ∙ sym c.is_counted.ensures ∙ c.if-not-is_counted.true))

pub returns-clause-due : goal.returns-clause-due
returns-clause-due c =
    let entries = c.args.book.now.entries in
    let reach = c.reach_of-reach.result in
    let tally = c.walk-tally.result in
    let is = subst (λ p. IsTally (state_of entries) c.args.table.0 p reach tally) c.as_str.ensures c.walk-tally.ensures in
    c.due_by.ensures
    ∙ (λ i. due_by (c.delta_threshold-number.ensures i) (c.percent_threshold-percent.ensures i) reach tally)
    ∙ due-some entries c.args.table.0 c.args.partition.now c.watermark-mark.result.0 c.survey_in-jobs.result reach tally c.survey_in-jobs.ensures c.reach_of-reach.ensures
    is (sym c.may_ask.ensures ∙ c.if-not-may_ask.false) c.watermark-mark.ensures.mark (sym c.is_counted.ensures ∙ c.if-not-is_counted.false)

pub returns-clause-few : goal.returns-clause-few
returns-clause-few c = λ less. refl
