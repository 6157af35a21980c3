-- What is due by what was counted is what is due over the book.
use Rattle.std.proofs.Common.{◌≡◌, ℕ, ◌+◌, ◌<◌, true, false, Option, Some, None, List, map, filter, fold, refl, sym, ap, ◌∙◌, subst}
use Rattle.std.specs.Prelude.{if◌then◌else◌, ◌&&◌, not, nat_lt}
use Rattle.hv_history.specs.declared.entry.Entry.{Entry}
use Rattle.hv_history.specs.declared.entry.JobKind.{JobKind}
use Rattle.hv_history.specs.declared.entry.JobKind.TheVariants as kind
use Rattle.hv_history.specs.State.{State, Job, numbered, state_of}
use Rattle.hv_history.specs.Jobs.{Events, greatest, write_of, is_up_to, inserts, deletes, pieces_of, first_above, low_for, pieces_among, pieces_up_to, base_high, any_high, events_in, is_much, kind_over, unless_empty, due_among, may_ask, is_live_one, watermark, jobs_in, due}
use Rattle.hv_history.specs.Thresholds.{delta_threshold, percent_threshold}
use Rattle.hv_tallies.specs.declared.survey.Survey.{Survey}
use Rattle.hv_tallies.specs.declared.tally.Reach.{Reach}
use Rattle.hv_tallies.specs.declared.tally.Tally.{Tally}
use Rattle.hv_tallies.specs.Jobs.{no_survey, surveyed, low_of, notes_in}
use Rattle.hv_tallies.specs.Tallies.{top}
use Rattle.hv_tallies.specs.Walks.{IsTally}
use Rattle.hv_queue.specs.Queue.{IsReach, number_or, low_by, pieces_by, pieces_in, rows_up_to, HasFewRows, is_counted, is_much_by, due_by, may_ask_by}
use Rattle.hv_queue.proofs.SurveyLemmas.{busy-is, base-is, compacted-is, failed-is, low-is}
use Rattle.hv_queue.proofs.PieceLemmas.{ins-is, del-is, high-is, first-is}
use Rattle.hv_queue.proofs.RowLemmas.{counted-few, much-is}

-- ---- whether a job may be asked for

module _ (entries : List Entry) (table : ℕ) (partition : List ℕ) (survey : Survey) (survey_is : survey ≡ fold surveyed no_survey (notes_in entries table partition)) where
  pub may-ask : may_ask_by (state_of entries) table survey ≡ may_ask (state_of entries) table partition
  may-ask =
      ap (may_ask_by (state_of entries) table) survey_is
      ∙ (λ i. is_live_one (numbered (state_of entries).tables table) && (not (busy-is entries table partition i) && not (failed-is entries table partition (state_of entries).openings.last i)))

  pub due-none : may_ask_by (state_of entries) table survey ≡ false → None ≡ due (state_of entries) table partition
  unfolding due
  due-none never =
      sym (ap (λ b.
      if b then due_among (delta_threshold (state_of entries)) (percent_threshold (state_of entries)) (jobs_in (state_of entries) table partition)
      (filter (is_up_to (watermark (state_of entries) table)) (events_in (state_of entries) table partition)) else None)
      (sym may-ask ∙ never))

-- ---- what is due then

module _ (entries : List Entry) (table : ℕ) (partition : List ℕ) (mark : ℕ) (survey : Survey) (reach : Reach) (tally : Tally)
    (survey_is : survey ≡ fold surveyed no_survey (notes_in entries table partition)) (reaches : IsReach (state_of entries) table survey mark reach)
    (is : IsTally (state_of entries) table partition reach tally) where
  abbrev state : State
  state = state_of entries

  abbrev jobs : List Job
  jobs = jobs_in state table partition

  abbrev ids : List Events
  ids = filter (is_up_to mark) (events_in state table partition)

  survey-base : survey.base ≡ base_high jobs
  survey-base = ap (λ (s : Survey). s.base) survey_is ∙ base-is entries table partition

  reach-base : reach.base ≡ base_high jobs
  reach-base = reaches.base ∙ survey-base

  reach-compacted : reach.compacted ≡ any_high jobs
  reach-compacted = reaches.compacted ∙ ap (λ (s : Survey). s.compacted) survey_is ∙ compacted-is entries table partition

  marked-is : filter (is_up_to reach.mark) (events_in state table partition) ≡ ids
  marked-is = ap (λ m. filter (is_up_to m) (events_in state table partition)) reaches.mark_is

  pieces-as : (kind : JobKind) (low : Option ℕ) → low_by kind low tally.first ≡ low_for kind (base_high jobs) jobs ids
      → pieces_in (pieces_by reach kind low tally) ≡ pieces_among kind jobs ids
  pieces-as kind low low_is = λ i. record {
    ins = (ins-is state table partition reach tally is reaches.given ∙ (λ j. pieces_of inserts (reach-base j) (reach-compacted j) (marked-is j))) i;
    del = (del-is state table partition reach tally is reaches.given ∙ (λ j. pieces_of deletes (reach-base j) (reach-compacted j) (marked-is j))) i;
    base = nat_lt 0 (reach-base i);
    low = low_is i;
    high = (high-is state table partition reach tally is reaches.given ∙ ap (λ xs. greatest (map write_of xs)) marked-is) i;
  }

  low-for : (kind : JobKind) (low : Option ℕ) → low ≡ fold (low_of survey.base) None (notes_in entries table partition)
      → low_by kind low tally.first ≡ low_for kind (base_high jobs) jobs ids
  low-for kind.Minor low low_is =
      (λ i. number_or ((first-is state table partition reach tally is reaches.given ∙ (λ j. first_above (reach-base j) (marked-is j))) i)
      ((low_is ∙ ap (λ b. fold (low_of b) None (notes_in entries table partition)) survey-base) i))
      ∙ low-is entries table partition (base_high jobs) ids
  low-for kind.Major low low_is = refl

  pub pieces-are : (kind : JobKind) (low : Option ℕ) → low ≡ fold (low_of survey.base) None (notes_in entries table partition)
      → pieces_in (pieces_by reach kind low tally) ≡ pieces_up_to state table partition kind mark
  pieces-are kind low low_is = pieces-as kind low (low-for kind low low_is)

  pub due-is : (number percent : ℕ) → is_counted tally ≡ true → due_by number percent reach tally ≡ due_among number percent jobs ids
  due-is number percent counted =
      let pieces = pieces-as kind.Major None refl in
      let much : is_much_by percent reach.base tally ≡ is_much percent (base_high jobs) ids =
      much-is state table partition reach tally is counted percent ∙ (λ i. is_much percent (reach-base i) (marked-is i)) in
      λ i. unless_empty (pieces i)
      (if much i then Some kind.Major else if nat_lt number ((pieces i).ins + (pieces i).del) then Some (kind_over (reach-base i)) else None)

  pub counted-by : mark ≡ watermark state table → HasFewRows state table partition → is_counted tally ≡ true
  counted-by mark_is less =
      counted-few state table partition reach tally is (subst (λ m. rows_up_to state table partition m < top) (sym (reaches.mark_is ∙ mark_is)) less)

  pub due-some : may_ask_by state table survey ≡ true → mark ≡ watermark state table → is_counted tally ≡ true
      → due_by (delta_threshold state) (percent_threshold state) reach tally ≡ due state table partition
  unfolding due
  due-some may mark_is counted =
      due-is (delta_threshold state) (percent_threshold state) counted
      ∙ ap (λ m. due_among (delta_threshold state) (percent_threshold state) jobs (filter (is_up_to m) (events_in state table partition))) mark_is
      ∙ sym (ap (λ b. if b then due_among (delta_threshold state) (percent_threshold state) jobs (filter (is_up_to (watermark state table)) (events_in state table partition)) else None)
      (sym (may-ask entries table partition survey survey_is) ∙ may))
