-- What the acts answer that read a table, each in words of the house as it is then.
use Rattle.std.proofs.Common.{◌≡◌, ℕ, Option, Some, List, Result, Ok, Err, sym, ◌∙◌, subst, append-nil}
use Rattle.std.specs.Prelude.{IfOk, IfErr}
use Rattle.std.specs.Global.{Vec}
use Rattle.std.specs.FinMap as tree
use Rattle.hv_base.specs.Told.{Tells}
use Rattle.hv_base.specs.declared.ids.TxnId.{TxnId}
use Rattle.hv_base.specs.declared.ids.TableId.{TableId}
use Rattle.hv_shelf.specs.declared.place.Place.{Place}
use Rattle.hv_shelf.specs.Disk.{Store}
use Rattle.hv_ast.specs.declared.statement.Show.{Show}
use Rattle.hv_history.specs.declared.shown.Shown.{Shown}
use Rattle.hv_history.specs.Shown.{show_listed}
use Rattle.hv_logic.specs.declared.catalog.TableInfo.{TableInfo}
use Rattle.hv_law_dues.specs.hv_counts.specs.declared.due.Due.{Due}
use Rattle.hv_law_dues.specs.hv_counts.specs.Counts.{dues_in}
use Rattle.hv_trail.specs.declared.trail.Reader.TheVariants.{Txn}
use Rattle.hv_trail.specs.declared.trail.TrailItem.{TrailItem}
use Rattle.hv_trail.specs.Steps.{Read, Ask, Done, Step}
use Rattle.hv_actor.specs.Acting.{IsLater, Held}
use Rattle.hv_acts.specs.hv_telling.specs.hv_house.specs.declared.listing.Listing.{Listing}
use Rattle.hv_acts.specs.hv_telling.specs.hv_house.specs.declared.listing.GetFault.{GetFault}
use Rattle.hv_acts.specs.hv_telling.specs.hv_house.specs.declared.listing.GetFault.TheVariants as get_fault
use Rattle.hv_acts.specs.hv_telling.specs.hv_house.specs.Listing.{get_outcome}
use Rattle.hv_acts.specs.hv_telling.specs.Telling.{IsToldHouse}
use Rattle.hv_acts.specs.declared.told.ToldHouse.{ToldHouse}
use Rattle.hv_acts.specs.declared.fault.ActFault.{ActFault}
use Rattle.hv_acts.specs.declared.fault.ActFault.TheVariants as act
use Rattle.hv_acts.specs.Told.{seen_in, trail_in, told_sight}
use Rattle.hv_acts.specs.Answers.{answer_outcome, AnswerLeaves, WhyRises}
use Rattle.hv_acts.specs.Counting.{AreAsMany, HasCounted, CountAnswers}
use Rattle.hv_acts.specs.Showing.{HasShown, ShowAnswers}
use Rattle.hv_acts.specs.Going.{IsOpenHouse}
use Rattle.hv_acts.specs.Reading.{HasPlace, HasFittingBook, ReadsTable, HasFound, HasListed, IsListWhy, FindAnswers, ListAnswers, GetAnswers, GetLeaves, GetRises, info_then, state_then}
use Rattle.hv_acts.proofs.Readings.{place-lasts, table-lasts}
use Rattle.hv_table_reader.specs.declared.fault.RowFault.{RowFault}
use Rattle.hv_table_reader.specs.Tables.{IsListFault, missed_as}
use Rattle.hv_table_reader.specs.Steady.{GoesBehind, IsSteady, IsNamedThen, IsListing, bytes_got}
use Rattle.hv_table_reader.proofs.Moments.{behind-later, behind-step, told-behind, named-on, got-steady, missed-steady, listing-now}

-- an act that lists is refused by the house, or as the transaction has ended
list-fault : (trail : List TrailItem) (by : TxnId) (why : ActFault) → IsListWhy trail by why → IsListFault why
list-fault trail by (act.Ended at) is = tt
list-fault trail by (act.Full entries) is = absurd is
list-fault trail by (act.Held holder) is = absurd is
list-fault trail by (act.Broken put count) is = absurd is
list-fault trail by act.Unfit is = absurd is
list-fault trail by (act.House why) is = tt

module _ {D : Type 0} (told : D → Option Store) (faults : D → ℕ) (meanwhile : ToldHouse D → ToldHouse D → Type 0)
    (goes_on : (before now : ToldHouse D) → meanwhile before now → IsLater faults (seen_in before) (seen_in now)) (before : ToldHouse D) where
  behind-others : (house : ToldHouse D) → meanwhile before house → GoesBehind (seen_in before) (seen_in house)
  behind-others house reached = behind-later faults (seen_in before) (seen_in house) (goes_on before house reached)

  pub place-reached : (place : ℕ) → HasPlace (trail_in before) place → (house : ToldHouse D) → meanwhile before house → HasPlace (trail_in house) place
  place-reached place has house reached = place-lasts (trail_in before) (trail_in house) (behind-others house reached).front place has

  pub reads-reached : (by : TxnId) (place table : ℕ) → ReadsTable (trail_in before) by place table → (house : ToldHouse D) → meanwhile before house
      → ReadsTable (trail_in house) by place table
  reads-reached by place table reads house reached = table-lasts (trail_in before) (trail_in house) (behind-others house reached).front by place table reads

  told-reached : (house : ToldHouse D) → meanwhile before house → IsToldHouse told before.house → IsToldHouse told house.house
  told-reached house reached is = told-behind told before house (behind-others house reached) is

  module _ (now : ToldHouse D) (place : ℕ) where
    -- ---- a table that is found

    module _ (name : List ℕ) (result : Result (Option TableInfo) ActFault)
        (held : Held (told_sight told faults) meanwhile before now (λ seen. Ask) (answer_outcome result) (λ a b. FindAnswers a place name result))
        (found : Option TableInfo) (is : result ≡ Ok found) where
      saw : HasFound (seen_in held.house) place name found
      saw = subst (λ (r : Result (Option TableInfo) ActFault). FindAnswers (seen_in held.house) place name r) is held.does_it

      found-step : Step told faults Ask Done (seen_in held.house) (seen_in now)
      found-step = subst (λ (r : Result (Option TableInfo) ActFault). Step told faults Ask (answer_outcome r) (seen_in held.house) (seen_in now)) is held.step

      found-same : trail_in now ≡ trail_in held.house
      found-same = found-step.trail ∙ append-nil (trail_in held.house)

      pub find-book : HasFittingBook (trail_in now)
      find-book = subst HasFittingBook (sym found-same) saw.book

      pub find-found : found ≡ info_then (trail_in now) place name
      find-found = subst (λ (trail : List TrailItem). found ≡ info_then trail place name) (sym found-same) saw.found_is

    -- ---- dues that are counted

    module _ (table : TableId) (result : Result (Vec Due) ActFault)
        (held : Held (told_sight told faults) meanwhile before now (λ seen. Ask) (answer_outcome result) (λ a b. CountAnswers a place table result))
        (dues : Vec Due) (is : result ≡ Ok dues) where
      counted : HasCounted (seen_in held.house) place table dues.items
      counted = subst (λ (r : Result (Vec Due) ActFault). CountAnswers (seen_in held.house) place table r) is held.does_it

      counted-step : Step told faults Ask Done (seen_in held.house) (seen_in now)
      counted-step = subst (λ (r : Result (Vec Due) ActFault). Step told faults Ask (answer_outcome r) (seen_in held.house) (seen_in now)) is held.step

      pub count-dues : AreAsMany dues.items (dues_in (state_then (trail_in now) place) table.0)
      count-dues =
          subst (λ (trail : List TrailItem). AreAsMany dues.items (dues_in (state_then trail place) table.0))
          (sym (counted-step.trail ∙ append-nil (trail_in held.house))) counted.dues_are

    -- ---- what is shown of the book

    module _ (what : Show) (result : Result (Option Shown) ActFault)
        (held : Held (told_sight told faults) meanwhile before now (λ seen. Ask) (answer_outcome result) (λ a b. ShowAnswers a place what result))
        (shown : Option Shown) (is : result ≡ Ok shown) where
      was-shown : HasShown (seen_in held.house) place what shown
      was-shown = subst (λ (r : Result (Option Shown) ActFault). ShowAnswers (seen_in held.house) place what r) is held.does_it

      shown-step : Step told faults Ask Done (seen_in held.house) (seen_in now)
      shown-step = subst (λ (r : Result (Option Shown) ActFault). Step told faults Ask (answer_outcome r) (seen_in held.house) (seen_in now)) is held.step

      pub show-book : shown ≡ show_listed (state_then (trail_in now) place) what
      show-book =
          subst (λ (trail : List TrailItem). shown ≡ show_listed (state_then trail place) what)
          (sym (shown-step.trail ∙ append-nil (trail_in held.house))) was-shown.shown_is

  -- ---- files that are listed

  module _ (now : ToldHouse D) (by : TxnId) (place : ℕ) (info : TableInfo) (result : Result Listing ActFault)
      (held : Held (told_sight told faults) meanwhile before now (λ seen. Read (Some (Txn by))) (answer_outcome result)
      (λ a b. ListAnswers told a by place info.table result × AnswerLeaves told faults by.0 a b result × IfErr result (WhyRises faults a))) where
    pub list-refused : (why : ActFault) → result ≡ Err why → IsListFault why
    list-refused why is =
        list-fault (trail_in held.house) by why
        (subst (λ (r : Result Listing ActFault). ListAnswers told (seen_in held.house) by place info.table r) is held.does_it.0)

    module _ (listing : Listing) (is : result ≡ Ok listing) where
      list-step : Step told faults (Read (Some (Txn by))) Done (seen_in held.house) (seen_in now)
      list-step = subst (λ (r : Result Listing ActFault). Step told faults (Read (Some (Txn by))) (answer_outcome r) (seen_in held.house) (seen_in now)) is held.step

      list-has : HasListed told (seen_in held.house) by place info.table listing
      list-has = subst (λ (r : Result Listing ActFault). ListAnswers told (seen_in held.house) by place info.table r) is held.does_it.0

      list-open : IsOpenHouse held.house
      list-open = subst (λ (r : Result Listing ActFault). AnswerLeaves told faults by.0 (seen_in held.house) (seen_in now) r) is held.does_it.1

      pub list-now : ReadsTable (trail_in before) by place info.table.0 → IsNamedThen (trail_in before) place info → IsToldHouse told before.house
          → IsListing told now by place info listing
      list-now reads named tells =
          listing-now told held.house now held.kept list-open
          (behind-step told faults (Read (Some (Txn by))) Done (seen_in held.house) (seen_in now) list-step) by place info listing
          (reads-reached by place info.table.0 reads held.house held.reached)
          (named-on (trail_in before) (trail_in held.house) place info (behind-others held.house held.reached).front reads.reader.has named) list-has
          (told-reached held.house held.reached tells)

  -- ---- a file that is got

  module _ (now : ToldHouse D) (by : TxnId) (place : Place) (result : Result (Vec ℕ) GetFault)
      (held : Held (told_sight told faults) meanwhile before now (λ seen. Read (Some (Txn by))) (get_outcome result)
      (λ a b. GetAnswers told a by place result × GetLeaves told faults by.0 a b result × IfErr result (GetRises faults a)))
      (o : Option Store) (steady : IsSteady told o by (seen_in before) place) where
    answered : (r : Result (Vec ℕ) GetFault) → result ≡ r → GetAnswers told (seen_in held.house) by place r
    answered r is = subst (GetAnswers told (seen_in held.house) by place) is held.does_it.0

    pub got-then : (bytes : Vec ℕ) → result ≡ Ok bytes → Tells o (λ s. tree.get s.tree place ≡ bytes_got (Some bytes))
    got-then bytes is = got-steady told o by (seen_in before) (seen_in held.house) place bytes (behind-others held.house held.reached) steady (answered (Ok bytes) is)

    abbrev Finds : Result (Option (Vec ℕ)) RowFault → Type 0
    Finds answer = IfOk answer (λ found. Tells o (λ s. tree.get s.tree place ≡ bytes_got found))

    missed-by : (why : GetFault) → result ≡ Err why → Finds (missed_as why)
    missed-by (get_fault.NotOpen at) is = tt
    missed-by get_fault.NotFound is =
        missed-steady told o by (seen_in before) (seen_in held.house) place (behind-others held.house held.reached) steady (answered (Err get_fault.NotFound) is)
    missed-by (get_fault.House why) is = tt

    pub missed-then : (why : GetFault) (answer : Result (Option (Vec ℕ)) RowFault) → result ≡ Err why → answer ≡ missed_as why
        → IfOk answer (λ found. Tells o (λ s. tree.get s.tree place ≡ bytes_got found))
    missed-then why answer is same = subst Finds (sym same) (missed-by why is)
