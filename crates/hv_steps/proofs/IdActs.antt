-- The act that gives a write id: what it asks, and what it leaves.
use Rattle.std.proofs.Common.{◌≡◌, inl, ℕ, ◌<◌, Option, List, [], ◌∷◌, ◌++◌, refl, sym, ap, ◌∙◌, subst, Ok, Err, Result}
use Rattle.std.specs.Prelude.{IfOk, IfErr}
use Rattle.hv_base.specs.declared.ids.TxnId.{TxnId}
use Rattle.hv_base.specs.declared.ids.TableId.{TableId}
use Rattle.hv_base.specs.declared.ids.WriteId.{WriteId}
use Rattle.hv_shelf.specs.Disk.{Store}
use Rattle.hv_logic.specs.declared.catalog.TableInfo.{TableInfo}
use Rattle.hv_logic.specs.declared.effect.Effect.{Effect}
use Rattle.hv_logic.specs.declared.meaning.Meaning.TheVariants.{Change}
use Rattle.hv_history.specs.declared.entry.Entry.TheVariants as entry
use Rattle.hv_history.specs.declared.entry.Cause.TheVariants as cause
use Rattle.hv_history.specs.Lasting.{IsFront}
use Rattle.hv_stands.specs.Laws.{changes_in}
use Rattle.hv_stands.specs.Statements.{AllFitting}
use Rattle.hv_trail.specs.declared.trail.TrailItem.{TrailItem}
use Rattle.hv_trail.specs.declared.trail.TrailItem.TheVariants.{Noted}
use Rattle.hv_trail.specs.Trail.{book_of}
use Rattle.hv_trail.specs.Steps.{HouseSeen, MayEnd}
use Rattle.hv_trail.proofs.KeptLaws.{trail-book}
use Rattle.hv_actor.specs.Acting.{IsLater, Went, known, Held}
use Rattle.hv_table_reader.specs.hv_acts.specs.hv_telling.specs.hv_house.specs.declared.fault.HouseFault.TheVariants as fault
use Rattle.hv_table_reader.specs.hv_acts.specs.hv_telling.specs.Telling.{IsTold, IsToldHouse}
use Rattle.hv_table_reader.specs.hv_acts.specs.declared.told.ToldHouse.{ToldHouse}
use Rattle.hv_table_reader.specs.hv_acts.specs.declared.fault.ActFault.{ActFault}
use Rattle.hv_table_reader.specs.hv_acts.specs.declared.fault.ActFault.TheVariants as act
use Rattle.hv_table_reader.specs.hv_acts.specs.declared.giving.Given.{Given}
use Rattle.hv_table_reader.specs.hv_acts.specs.declared.giving.Given.TheVariants as given
use Rattle.hv_table_reader.specs.hv_acts.specs.Told.{seen_in, trail_in, told_sight}
use Rattle.hv_table_reader.specs.hv_acts.specs.Answers.{answer_outcome, NoTest, AnswerLeaves}
use Rattle.hv_table_reader.specs.hv_acts.specs.Giving.{to_give, call_to_give, adds_given, RestsOnId, GiveAnswers}
use Rattle.hv_table_reader.specs.hv_acts.specs.Meant.{HasMeant, IsIdDue}
use Rattle.hv_table_reader.specs.hv_acts.proofs.Mine.{given-mine}
use Rattle.hv_steps.specs.Ending.{aborting}
use Rattle.hv_steps.specs.declared.ready.Way.{Way}
use Rattle.hv_steps.specs.Going.{faults_in, IsOpenHouse, AddsOwn}
use Rattle.hv_steps.specs.Leaving.{IsLeft, EndsAct}
use Rattle.hv_steps.specs.Preparing.{given_entries, ComesToChange, FileFailed, IsRefusal, HasItsId, IsGivenSo}
use Rattle.hv_steps.proofs.Joining.{front-more, note-ends, NamesEnd, why-names, ends-rise, act-left, act-risen, held-adds, found-told}
use Rattle.hv_steps.proofs.Ids.{meant-lasts, way-means, way-means-some, table-here, table-lasts, StillMeans, GivenMeans, given-named, given-meant, given-has, full-answered}

-- ---- its answer

pub given-book : (txn : TxnId) (table : TableId) (result : Result Given ActFault) → book_of (adds_given txn table result) ≡ given_entries txn.0 table result
given-book txn table (Ok (given.Id write)) = refl
given-book txn table (Ok (given.Aborted aborted)) = refl
given-book txn table (Err why) = refl

pub give-ends : (trail : List TrailItem) (txn : TxnId) (table : TableId) (result : Result Given ActFault) → MayEnd (call_to_give trail txn table result) (answer_outcome result)
    → IfErr result EndsAct
give-ends trail txn table (Ok (given.Id write)) may = tt
give-ends trail txn table (Ok (given.Aborted aborted)) may = tt
give-ends trail txn table (Err why) may = note-ends {T = Given} (to_give trail txn table) (Err why) may

give-names : (trail : List TrailItem) (txn : TxnId) (table : TableId) (result : Result Given ActFault) → GiveAnswers trail txn table result → IfErr result (NamesEnd trail txn.0)
give-names trail txn table (Ok (given.Id write)) answers = tt
give-names trail txn table (Ok (given.Aborted aborted)) answers = tt
give-names trail txn table (Err why) answers = why-names NoTest trail txn (RestsOnId trail txn table) why answers

-- ---- what an act leaves, by its answer

pub left-open : {D T : Type 0} (told : D → Option Store) (meanwhile : ToldHouse D → ToldHouse D → Type 0) (txn : ℕ) (now : ToldHouse D) (result : Result T ActFault)
    → IsLeft told meanwhile txn now result → IfOk result (λ _. IsOpenHouse now)
left-open told meanwhile txn now (Ok x) left = left
left-open told meanwhile txn now (Err why) left = tt

no-file : {D : Type 0} (faults : D → ℕ) (low : ℕ) (txn : TxnId) (now : ToldHouse D) (why : ActFault) → EndsAct why → FileFailed faults low txn now why
no-file faults low txn now (act.Ended at) ends = tt
no-file faults low txn now (act.Full entries) ends = tt
no-file faults low txn now (act.Held by) ends = tt
no-file faults low txn now (act.Broken put count) ends = tt
no-file faults low txn now act.Unfit ends = tt
no-file faults low txn now (act.House fault.Store) ends = tt
no-file faults low txn now (act.House fault.NoMemory) ends = tt
no-file faults low txn now (act.House (fault.Failed count)) ends = absurd ends

-- where it makes no call on files
pub refused-so : {D T : Type 0} (told : D → Option Store) (faults : D → ℕ) (meanwhile : ToldHouse D → ToldHouse D → Type 0) (low : ℕ) (txn : TxnId) (now : ToldHouse D)
    (result : Result T ActFault) → IfErr result EndsAct → IsLeft told meanwhile txn.0 now result → IfErr result (IsRefusal told faults meanwhile low txn now)
refused-so told faults meanwhile low txn now (Ok x) ends left = tt
refused-so told faults meanwhile low txn now (Err why) ends left = record { left = left; file = no-file faults low txn now why ends }

-- ---- the act

module _ {D : Type 0} (told : D → Option Store) (faults : D → ℕ) (meanwhile : ToldHouse D → ToldHouse D → Type 0)
    (goes : (before now : ToldHouse D) → meanwhile before now → IsLater faults (seen_in before) (seen_in now)) (before now : ToldHouse D)
    (way : Way) (info : TableInfo) (effect : Effect) (comes : ComesToChange told before way info effect) (some : 0 < changes_in effect) where
  means-change : IsToldHouse told before.house → HasMeant (trail_in before) way.txn [] (Change info effect)
  means-change is = way-means (trail_in before) comes.asking way comes.said (Change info effect) comes.was (comes.truly is)

  -- what it asks
  pub can-give : (house : ToldHouse D) → meanwhile before house → IsTold told house.house.start.value → IsIdDue (trail_in house) way.txn info.table
  can-give house reached is =
      let later = goes before house reached in
      record {
        info = info;
        effect = effect;
        change = meant-lasts (trail_in before) (trail_in house) (record { more = later.added; is = later.trail }) way.txn [] (Change info effect)
            (means-change (found-told told faults meanwhile goes before now house reached is));
        of_table = refl;
        some = some;
      }

  abbrev GiveHeld : Result Given ActFault → Type 0
  GiveHeld result =
      Held (told_sight told faults) meanwhile before now (λ (seen : HouseSeen D). call_to_give seen.trail way.txn info.table result) (answer_outcome result)
      (λ (a : HouseSeen D) (b : HouseSeen D). GiveAnswers a.trail way.txn info.table result × AnswerLeaves told faults way.txn.0 a b result)

  pub give-left : (result : Result Given ActFault) → GiveHeld result → IsOpenHouse before → IsLeft told meanwhile way.txn.0 now result
  give-left result held running =
      act-left told faults meanwhile goes before now (λ (seen : HouseSeen D). call_to_give seen.trail way.txn info.table result) result
      (λ (a : HouseSeen D) (b : HouseSeen D). GiveAnswers a.trail way.txn info.table result × AnswerLeaves told faults way.txn.0 a b result) way.txn.0
      held running (give-names (trail_in held.house) way.txn info.table result held.does_it.0) held.does_it.1

  pub give-adds : (B : List TrailItem → Type 0) (own own' : List ℕ) (result : Result Given ActFault) → GiveHeld result
      → Went B (adds_given way.txn info.table result) own own' (trail_in before) (trail_in now)
      → AddsOwn faults B way.txn.0 (known own before) (known own' now) (given_entries way.txn.0 info.table result)
  give-adds B own own' result held went =
      held-adds told faults meanwhile goes before now B (λ (seen : HouseSeen D). call_to_give seen.trail way.txn info.table result) (answer_outcome result)
      (λ (a : HouseSeen D) (b : HouseSeen D). GiveAnswers a.trail way.txn info.table result × AnswerLeaves told faults way.txn.0 a b result)
      (adds_given way.txn info.table result) (given_entries way.txn.0 info.table result) own own' held went (given-book way.txn info.table result)
      (ends-rise result (faults_in faults held.house) (faults_in faults now) (give-ends (trail_in held.house) way.txn info.table result held.step.may))
      (act-risen told faults meanwhile goes before now (λ (seen : HouseSeen D). call_to_give seen.trail way.txn info.table result) result
      (λ (a : HouseSeen D) (b : HouseSeen D). GiveAnswers a.trail way.txn info.table result × AnswerLeaves told faults way.txn.0 a b result) way.txn.0 held held.does_it.1)
      (given-mine (trail_in held.house) way.txn info.table result held.does_it.0)

  module _ (still : StillMeans) (more : GivenMeans) where
    id-so : (write : WriteId) → GiveHeld (Ok (given.Id write)) → HasItsId told now way.txn info effect write.0
    id-so write held =
        let at : List TrailItem = trail_in held.house in
        let fits = held.does_it.0.0 in
        let is = held.does_it.0.1 in
        let later = goes before held.house held.reached in
        let front : IsFront (trail_in before) at = record { more = later.added; is = later.trail } in
        let adds : trail_in now ≡ at ++ Noted (entry.Given way.txn info.table write) ∷ [] =
        held.step.trail ∙ ap (λ (w : WriteId). at ++ Noted (entry.Given way.txn info.table w) ∷ []) (sym is) in
        let whole = held.kept.whole held.does_it.1 in
        let fit : AllFitting (book_of at) =
        subst AllFitting (sym (trail-book held.house.house.trail.entries held.house.house.trail.marks)) whole.ready.fit in
        let named = given-named at way.txn info.table write fits is fit in
        let someone = way-means-some (trail_in before) comes.asking way comes.said comes.was in
        record {
          first = named.first;
          last = named.last;
          here = table-lasts (trail_in before) (trail_in now)
              (front-more (trail_in before) at (trail_in now) front (record { more = Noted (entry.Given way.txn info.table write) ∷ []; is = adds })) info.table.0 info
              (table-here (trail_in before) info effect comes.can);
          given = given-has at way.txn info.table write fits is still more (trail_in before) (trail_in now) front adds someone.0 someone.1;
          means = λ told_now. given-meant at way.txn info.table write fits is still more (trail_in before) (trail_in now) front adds (Change info effect)
              (means-change (subst (IsTold told) (held.step.rest.start ∙ later.rest.start) told_now));
        }

    pub given-so : (result : Result Given ActFault) → GiveHeld result → IfOk result (IsGivenSo told now way.txn info effect)
    given-so (Ok (given.Id write)) held = id-so write held
    given-so (Ok (given.Aborted aborted)) held =
        let at : List TrailItem = trail_in held.house in
        let full = held.does_it.0 in
        let later = goes before held.house held.reached in
        let someone = way-means-some (trail_in before) comes.asking way comes.said comes.was in
        let replied =
        full-answered still (trail_in before) at (trail_in now) (record { more = later.added; is = later.trail }) way.txn aborted someone.0 someone.1 full held.step.trail in (
          record { why = cause.Full; is = inl some; entry_is = ap (aborting way.txn.0) full.cause_is; answered = replied },
          replied.ended_at,
        )
    given-so (Err why) held = tt
