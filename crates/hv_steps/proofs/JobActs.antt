-- The act that asks for a compaction: what it asks, and what it leaves.
use Rattle.std.proofs.Common.{◌≡◌, inl, ℕ, ◌≤◌, ◌<◌, Option, List, [], ◌∷◌, ◌++◌, length, refl, ap, ◌∙◌, sym, subst, Ok, Err, Result}
use Rattle.std.specs.Prelude.{IfOk, IfErr}
use Rattle.hv_base.specs.declared.ids.JobId.{JobId}
use Rattle.hv_base.specs.declared.ids.TableId.{TableId}
use Rattle.hv_shelf.specs.Disk.{Store}
use Rattle.hv_ast.specs.declared.table.CompactionKind.{CompactionKind}
use Rattle.hv_logic.specs.declared.meaning.Meaning.TheVariants.{Ask}
use Rattle.hv_history.specs.declared.entry.Cause.TheVariants as cause
use Rattle.hv_history.specs.Lasting.{IsFront}
use Rattle.hv_trail.specs.declared.trail.TrailItem.{TrailItem}
use Rattle.hv_trail.specs.declared.trail.TrailItem.TheVariants.{Noted}
use Rattle.hv_trail.specs.Trail.{book_of}
use Rattle.hv_trail.specs.Steps.{HouseSeen, MayEnd}
use Rattle.hv_actor.specs.Acting.{IsLater, Went, known, Held}
use Rattle.hv_table_reader.specs.hv_acts.specs.hv_telling.specs.Telling.{IsTold, IsToldHouse}
use Rattle.hv_table_reader.specs.hv_acts.specs.declared.told.ToldHouse.{ToldHouse}
use Rattle.hv_table_reader.specs.hv_acts.specs.declared.fault.ActFault.{ActFault}
use Rattle.hv_table_reader.specs.hv_acts.specs.declared.compacting.AskFor.{AskFor}
use Rattle.hv_table_reader.specs.hv_acts.specs.declared.compacting.AskedFor.{AskedFor}
use Rattle.hv_table_reader.specs.hv_acts.specs.declared.compacting.AskedFor.TheVariants as found
use Rattle.hv_table_reader.specs.hv_acts.specs.Told.{seen_in, trail_in, told_sight}
use Rattle.hv_table_reader.specs.hv_acts.specs.Answers.{answer_outcome, NoTest, AnswerLeaves}
use Rattle.hv_table_reader.specs.hv_acts.specs.Compacting.{asked_entry, ask_in, to_ask, call_to_ask, adds_job, RestsOnJob, AskAnswers, IsJobDue}
use Rattle.hv_table_reader.specs.hv_acts.proofs.Compactions.{stood-busy, stood-asked}
use Rattle.hv_table_reader.specs.hv_acts.proofs.Mine.{job-mine}
use Rattle.hv_table_reader.specs.hv_acts.proofs.Passed.{stood-lasts}
use Rattle.hv_steps.specs.Ending.{aborting}
use Rattle.hv_steps.specs.declared.ready.Way.{Way}
use Rattle.hv_steps.specs.Going.{faults_in, IsOpenHouse, AddsOwn}
use Rattle.hv_steps.specs.Leaving.{IsLeft, EndsAct}
use Rattle.hv_steps.specs.Preparing.{asks_as, job_entries, ComesToJob, HasJob, IsStoodSo}
use Rattle.hv_steps.proofs.Joining.{front-more, note-ends, NamesEnd, why-names, ends-rise, act-left, act-risen, held-adds, found-told}
use Rattle.hv_steps.proofs.Ids.{MeansAt, way-means-at, means-at-lasts, way-means-some, early-on, on-lasts, StillMeans, full-answered}

-- ---- its answer

pub job-book : (asked : AskFor) (result : Result AskedFor ActFault) → book_of (adds_job asked result) ≡ job_entries asked result
job-book asked (Ok (found.Job job)) = refl
job-book asked (Ok found.Busy) = refl
job-book asked (Ok (found.Aborted aborted)) = refl
job-book asked (Err why) = refl

pub job-ends : (trail : List TrailItem) (asked : AskFor) (result : Result AskedFor ActFault) → MayEnd (call_to_ask trail asked result) (answer_outcome result)
    → IfErr result EndsAct
job-ends trail asked (Ok (found.Job job)) may = tt
job-ends trail asked (Ok found.Busy) may = tt
job-ends trail asked (Ok (found.Aborted aborted)) may = tt
job-ends trail asked (Err why) may = note-ends {T = AskedFor} (to_ask trail asked) (Err why) may

job-names : (trail : List TrailItem) (asked : AskFor) (result : Result AskedFor ActFault) → AskAnswers trail asked result → IfErr result (NamesEnd trail asked.by.0)
job-names trail asked (Ok (found.Job job)) answers = tt
job-names trail asked (Ok found.Busy) answers = tt
job-names trail asked (Ok (found.Aborted aborted)) answers = tt
job-names trail asked (Err why) answers = why-names NoTest trail asked.by (RestsOnJob trail asked) why answers

-- ---- the act

module _ {D : Type 0} (told : D → Option Store) (faults : D → ℕ) (meanwhile : ToldHouse D → ToldHouse D → Type 0)
    (goes : (before now : ToldHouse D) → meanwhile before now → IsLater faults (seen_in before) (seen_in now)) (before now : ToldHouse D)
    (way : Way) (table : TableId) (partition : List ℕ) (kind : CompactionKind) (comes : ComesToJob told before way table partition kind) where
  abbrev asks : AskFor
  asks = asks_as way table partition kind

  means-job : IsToldHouse told before.house → MeansAt (trail_in before) way (Ask table partition kind)
  means-job is = way-means-at (trail_in before) comes.asking way comes.said (Ask table partition kind) comes.was (comes.truly is)

  front-to : (house : ToldHouse D) → meanwhile before house → IsFront (trail_in before) (trail_in house)
  front-to house reached =
      let later = goes before house reached in
      record { more = later.added; is = later.trail }

  -- what it asks
  pub can-job : (house : ToldHouse D) → meanwhile before house → (length partition ≤ 240) × (IsTold told house.house.start.value → IsJobDue (trail_in house) asks)
  can-job house reached = (
    comes.short,
    λ is.
        let has : MeansAt (trail_in house) way (Ask table partition kind) =
        means-at-lasts (trail_in before) (trail_in house) (front-to house reached) way (Ask table partition kind)
        (means-job (found-told told faults meanwhile goes before now house reached is)) in
        record { ask = has.0; started = has.1 },
  )

  abbrev JobHeld : Result AskedFor ActFault → Type 0
  JobHeld result =
      Held (told_sight told faults) meanwhile before now (λ (seen : HouseSeen D). call_to_ask seen.trail asks result) (answer_outcome result)
      (λ (a : HouseSeen D) (b : HouseSeen D). AskAnswers a.trail asks result × AnswerLeaves told faults way.txn.0 a b result)

  pub job-left : (result : Result AskedFor ActFault) → JobHeld result → IsOpenHouse before → IsLeft told meanwhile way.txn.0 now result
  job-left result held running =
      act-left told faults meanwhile goes before now (λ (seen : HouseSeen D). call_to_ask seen.trail asks result) result
      (λ (a : HouseSeen D) (b : HouseSeen D). AskAnswers a.trail asks result × AnswerLeaves told faults way.txn.0 a b result) way.txn.0
      held running (job-names (trail_in held.house) asks result held.does_it.0) held.does_it.1

  pub job-adds : (B : List TrailItem → Type 0) (own own' : List ℕ) (result : Result AskedFor ActFault) → JobHeld result
      → Went B (adds_job asks result) own own' (trail_in before) (trail_in now)
      → AddsOwn faults B way.txn.0 (known own before) (known own' now) (job_entries asks result)
  job-adds B own own' result held went =
      held-adds told faults meanwhile goes before now B (λ (seen : HouseSeen D). call_to_ask seen.trail asks result) (answer_outcome result)
      (λ (a : HouseSeen D) (b : HouseSeen D). AskAnswers a.trail asks result × AnswerLeaves told faults way.txn.0 a b result)
      (adds_job asks result) (job_entries asks result) own own' held went (job-book asks result)
      (ends-rise result (faults_in faults held.house) (faults_in faults now) (job-ends (trail_in held.house) asks result held.step.may))
      (act-risen told faults meanwhile goes before now (λ (seen : HouseSeen D). call_to_ask seen.trail asks result) result
      (λ (a : HouseSeen D) (b : HouseSeen D). AskAnswers a.trail asks result × AnswerLeaves told faults way.txn.0 a b result) way.txn.0 held held.does_it.1)
      (job-mine (trail_in held.house) asks result held.does_it.0)

  early-in : (house : ToldHouse D) → meanwhile before house → way.place < length (book_of (trail_in house))
  early-in house reached =
      early-on (trail_in house) comes.asking way comes.said
      (on-lasts (trail_in before) (trail_in house) (front-to house reached) comes.asking way comes.said comes.was)

  means-then : (house : ToldHouse D) (reached : meanwhile before house) → IsFront (trail_in house) (trail_in now)
      → (IsToldHouse told now.house → IsToldHouse told before.house) → IsToldHouse told now.house → MeansAt (trail_in now) way (Ask table partition kind)
  means-then house reached front back is =
      means-at-lasts (trail_in before) (trail_in now) (front-more (trail_in before) (trail_in house) (trail_in now) (front-to house reached) front) way
      (Ask table partition kind) (means-job (back is))

  module _ (still : StillMeans) where
    job-noted : (job : JobId) → JobHeld (Ok (found.Job job)) → HasJob told now way table partition kind
    job-noted job held =
        let at : List TrailItem = trail_in held.house in
        let later = goes before held.house held.reached in
        let adds : trail_in now ≡ at ++ Noted (asked_entry asks job) ∷ [] =
        held.step.trail ∙ ap (λ (j : JobId). at ++ Noted (asked_entry asks j) ∷ []) (sym held.does_it.0.job_is) in
        record {
          stood = stood-asked at (trail_in now) asks job (early-in held.house held.reached) adds;
          means = means-then held.house held.reached (record { more = Noted (asked_entry asks job) ∷ []; is = adds })
              (λ is. subst (IsTold told) (held.step.rest.start ∙ later.rest.start) is);
        }

    job-stands : JobHeld (Ok found.Busy) → HasJob told now way table partition kind
    job-stands held =
        let at : List TrailItem = trail_in held.house in
        let later = goes before held.house held.reached in
        let front : IsFront at (trail_in now) = record { more = []; is = held.step.trail } in
        record {
          stood = stood-lasts at (trail_in now) front way.place (ask_in asks)
              (stood-busy at asks (early-in held.house held.reached) held.does_it.0.1);
          means = means-then held.house held.reached front (λ is. subst (IsTold told) (held.step.rest.start ∙ later.rest.start) is);
        }

    pub job-so : (result : Result AskedFor ActFault) → JobHeld result → IfOk result (IsStoodSo told now way asks)
    job-so (Ok (found.Job job)) held = job-noted job held
    job-so (Ok found.Busy) held = job-stands held
    job-so (Ok (found.Aborted aborted)) held =
        let at : List TrailItem = trail_in held.house in
        let full = held.does_it.0.full in
        let someone = way-means-some (trail_in before) comes.asking way comes.said comes.was in
        let replied =
        full-answered still (trail_in before) at (trail_in now) (front-to held.house held.reached) way.txn aborted someone.0 someone.1 full held.step.trail in (
          record { why = cause.Full; is = inl tt; entry_is = ap (aborting way.txn.0) full.cause_is; answered = replied },
          replied.ended_at,
        )
    job-so (Err why) held = tt
