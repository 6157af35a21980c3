-- What one act leaves that reads or asks.
use Rattle.std.proofs.Common.{◌≡◌, ◌≤◌, ◌⊎◌, inl, inr, ℕ, Bool, true, false, Option, Some, None, List, [], Result, Ok, Err, refl, sym, ◌∙◌, ap, subst, append-nil, true≢false, arith}
use Rattle.std.specs.Prelude.{◌||◌, IfErr}
use Rattle.std.specs.List.{AllByRecursion}
use Rattle.std.specs.Global.{Vec}
use Rattle.hv_base.specs.Faults.{Rose}
use Rattle.hv_base.specs.declared.ids.TxnId.{TxnId}
use Rattle.hv_shelf.specs.Disk.{Store}
use Rattle.hv_trail.specs.declared.trail.Reader.TheVariants.{Txn}
use Rattle.hv_trail.specs.declared.trail.Mark.TheVariants.{Broke}
use Rattle.hv_trail.specs.declared.trail.TrailItem.{TrailItem}
use Rattle.hv_trail.specs.declared.trail.TrailItem.TheVariants.{Marked}
use Rattle.hv_trail.specs.Trail.{book_of}
use Rattle.hv_trail.specs.Own.{IsOf}
use Rattle.hv_trail.specs.Steps.{HouseSeen, Call, Read, Ask, Outcome, Done, Conflict, Closed, Starved, Refused, Failed, gains, shuts, StarvesBy, Step}
use Rattle.hv_actor.specs.Acting.{IsLater, Went, Held, among, known}
use Rattle.hv_actor.proofs.Weaving.{later-further}
use Rattle.hv_acts.specs.hv_telling.specs.hv_house.specs.declared.fault.HouseFault.{HouseFault}
use Rattle.hv_acts.specs.hv_telling.specs.hv_house.specs.declared.fault.HouseFault.TheVariants as fault
use Rattle.hv_table_reader.specs.declared.fault.RowFault.{RowFault}
use Rattle.hv_table_reader.specs.declared.fault.RowFault.TheVariants as row_fault
use Rattle.hv_acts.specs.hv_telling.specs.hv_house.specs.declared.listing.GetFault.{GetFault}
use Rattle.hv_acts.specs.hv_telling.specs.hv_house.specs.declared.listing.GetFault.TheVariants as get_fault
use Rattle.hv_acts.specs.hv_telling.specs.hv_house.specs.Listing.{get_outcome}
use Rattle.hv_acts.specs.hv_telling.specs.hv_house.specs.Steps.{fault_outcome, broken_by}
use Rattle.hv_acts.specs.hv_telling.specs.hv_house.proofs.Readings.{contains-last}
use Rattle.hv_acts.specs.declared.told.ToldHouse.{ToldHouse}
use Rattle.hv_acts.specs.declared.fault.ActFault.{ActFault}
use Rattle.hv_acts.specs.declared.fault.ActFault.TheVariants as act
use Rattle.hv_acts.specs.Told.{IsWholeOrClosed, seen_in, trail_in, told_sight}
use Rattle.hv_acts.specs.Answers.{act_outcome, answer_outcome, FaultLeaves, WhyLeaves, AnswerLeaves, FaultRises, WhyRises}
use Rattle.hv_acts.specs.Reading.{IsFindWhy, GetLeaves, GetRises, adds_read, adds_listing, adds_getting}
use Rattle.hv_acts.specs.Going.{faults_in, IsOpenHouse, AddsOwn, IsShutBetween}
use Rattle.hv_acts.proofs.Mine.{broken-mine}
use Rattle.hv_table_reader.specs.Tables.{LeavesSeeing, LooksOver, IsListFault, fault_of, missed_as}

-- ---- a call that leaves the house open

-- a house that was open is open behind any call but one whose journal failed
pub open-behind : (outcome : Outcome) (before now : Bool) → now ≡ before || shuts outcome → before ≡ false → shuts outcome ≡ false → now ≡ false
open-behind outcome before now closed running opens = closed ∙ ap (λ (b : Bool). b || shuts outcome) running ∙ opens

-- one that is closed for want of memory stays so
pub starved-on : (outcome : Outcome) (was is : Bool) → StarvesBy outcome was is → was ≡ true → is ≡ true
starved-on Done was is same e = same ∙ e
starved-on (Conflict with_ table partition) was is same e = same ∙ e
starved-on (Failed count) was is same e = same ∙ e
starved-on Closed was is same e = same ∙ e
starved-on Starved was is same e = same
starved-on Refused was is same e = same ∙ e

-- Where the house was open and is closed, its store's count rose.
abbrev pub ShutsRisen : {D : Type 0} → (D → ℕ) → HouseSeen D → HouseSeen D → Type 0
ShutsRisen faults before now = before.closed ≡ false → now.closed ≡ true → Rose (faults before.shelf) (faults now.shelf)

-- so behind any call but one whose journal failed
pub opens-risen : {D : Type 0} (faults : D → ℕ) (outcome : Outcome) (before now : HouseSeen D) → now.closed ≡ before.closed || shuts outcome → shuts outcome ≡ false
    → ShutsRisen faults before now
opens-risen faults outcome before now closed opens = λ was is.
    absurd (true≢false (sym is ∙ open-behind outcome before.closed now.closed closed was opens))

one-of : (b : Bool) → (b ≡ true) ⊎ (b ≡ false)
one-of true = inl refl
one-of false = inr refl

module _ {D : Type 0} (told : D → Option Store) (faults : D → ℕ) (between : List TrailItem → Type 0) (meanwhile : ToldHouse D → ToldHouse D → Type 0)
    (goes_on : (before now : ToldHouse D) → meanwhile before now → IsLater faults (seen_in before) (seen_in now)) where
  abbrev Was : ToldHouse D → Type 0
  Was house = IsWholeOrClosed told house.house

  -- ---- a house that was reached, and a call on it

  module _ (own own' : List ℕ) (before house now : ToldHouse D) (reached : meanwhile before house) (call : Call) where
    adds : {by : ℕ} (outcome : Outcome) (items : List TrailItem) → Step told faults call outcome (seen_in house) (seen_in now)
        → Went between items own own' (trail_in before) (trail_in now) → book_of items ≡ [] → faults_in faults house ≤ faults_in faults now
        → ShutsRisen faults (seen_in house) (seen_in now) → AllByRecursion (IsOf by) items → AddsOwn faults between by (known own before) (known own' now) []
    adds outcome items step went none up shut_so mine =
        let later = goes_on before house reached in
        record {
          items = items;
          went = went;
          entries = none;
          mine = mine;
          later = later-further faults (seen_in before) (seen_in house) (seen_in now) later (record {
            added = gains call outcome;
            trail = step.trail;
            rest = step.rest;
            count = up;
            closed = λ shut. step.closed ∙ ap (λ (b : Bool). b || shuts outcome) shut;
            starved = starved-on outcome (seen_in house).starved (seen_in now).starved step.starved;
            rises = λ was is fed. shut_so was is;
          });
        }

    opens : (outcome : Outcome) → Step told faults call outcome (seen_in house) (seen_in now) → shuts outcome ≡ false → ShutsRisen faults (seen_in house) (seen_in now)
    opens outcome step is = opens-risen faults outcome (seen_in house) (seen_in now) step.closed is

    stays-open : (outcome : Outcome) → Step told faults call outcome (seen_in house) (seen_in now) → shuts outcome ≡ false → IsOpenHouse house → IsOpenHouse now
    stays-open outcome step opens running = step.closed ∙ ap (λ (b : Bool). b || shuts outcome) running ∙ opens

    pub done : {T : Type 0} (by : TxnId) (x : T) → Step told faults call Done (seen_in house) (seen_in now) → IsOpenHouse house
        → Went between [] own own' (trail_in before) (trail_in now) → LooksOver (among told faults between meanwhile) by (known own before) (known own' now)
        (Ok x)
    done by x step running went = record {
      adds = adds Done [] step went refl step.counts (opens Done step refl) tt;
      running = stays-open Done step refl running;
      leaves = tt;
      marked = tt;
      counts = tt;
    }

    -- it was closed
    shut-found : IsOpenHouse before → house.house.trail.closed ≡ true → IsShutBetween meanwhile
    shut-found was is = record { left = before; found = house; reached = reached; was = was; is = is }

  -- ---- a call that reads

  module _ (own own' : List ℕ) (before house now : ToldHouse D) (reached : meanwhile before house) (kept : Was house) (by : TxnId) (was : IsOpenHouse before) where
    abbrev call : Call
    call = Read (Some (Txn by))

    pub read-failed : {T : Type 0} (why : HouseFault) → Step told faults (Read (Some (Txn by))) (fault_outcome why) (seen_in house) (seen_in now)
        → FaultLeaves told faults by.0 (seen_in house) (seen_in now) why → FaultRises faults (seen_in house) why
        → Went between (broken_by (Some (Txn by)) false why) own own' (trail_in before) (trail_in now)
        → LooksOver {T = T} (among told faults between meanwhile) by (known own before) (known own' now) (Err (row_fault.House why))
    read-failed fault.Store step leaves rises went = record {
      adds = adds own own' before house now reached call Closed [] step went refl step.counts (λ open_ shut. (leaves open_).1) tt;
      running = tt;
      leaves = left (one-of house.house.trail.closed);
      marked = tt;
      counts = tt;
    }
      where
        left : (house.house.trail.closed ≡ true) ⊎ (house.house.trail.closed ≡ false) → LeavesSeeing told meanwhile by.0 now (row_fault.House fault.Store)
        left (inl shut) = inl (shut-found own own' before house now reached call was shut)
        left (inr running) = inr (record {
          house = house;
          kept = kept;
          was = running;
          is = (step.closed ∙ ap (λ (b : Bool). b || true) running, step.starved ∙ (kept.whole running).ready.kept.fed);
          same = step.trail ∙ append-nil (trail_in house);
          cut = (leaves running).0;
        })
    read-failed fault.NoMemory step leaves rises went = record {
      adds = adds own own' before house now reached call Refused [] step went refl step.counts (opens own own' before house now reached call Refused step refl)
          tt;
      running = tt;
      leaves = stays-open own own' before house now reached call Refused step refl leaves;
      marked = tt;
      counts = tt;
    }
    read-failed (fault.Failed count) step leaves rises went =
        let later = goes_on before house reached in
        let is = step.counts.0 in
        let grown = later.count in
        record {
          adds = adds own own' before house now reached call (Failed count) (broken_by (Some (Txn by)) false (fault.Failed count)) step went refl (omega (arith, is, rises))
              (opens own own' before house now reached call (Failed count) step refl) (broken-mine by false (fault.Failed count));
          running = tt;
          leaves = stays-open own own' before house now reached call (Failed count) step refl leaves;
          marked = subst (λ (items : List TrailItem). Rattle.std.specs.Prelude.Contains items (Marked (Broke (Some (Txn by)) false count))) (sym step.trail)
              (contains-last (trail_in house) (Marked (Broke (Some (Txn by)) false count)));
          counts = (omega (arith, grown, rises), omega (arith, is));
        }

    -- so too where the transaction had ended: nothing was read
    pub read-refused : {T : Type 0} (why : ActFault) → IsListFault why
        → Step told faults (Read (Some (Txn by))) (act_outcome why) (seen_in house) (seen_in now)
        → WhyLeaves told faults by.0 (seen_in house) (seen_in now) why → WhyRises faults (seen_in house) why
        → Went between (adds_read by why) own own' (trail_in before) (trail_in now)
        → LooksOver {T = T} (among told faults between meanwhile) by (known own before) (known own' now) (Err (row_fault.House (fault_of why)))
    read-refused (act.Ended at) lists step leaves rises went = read-failed fault.NoMemory step leaves tt went
    read-refused (act.Full entries) lists step leaves rises went = absurd lists
    read-refused (act.Held holder) lists step leaves rises went = absurd lists
    read-refused (act.Broken put count) lists step leaves rises went = absurd lists
    read-refused act.Unfit lists step leaves rises went = absurd lists
    read-refused (act.House why) lists step leaves rises went = read-failed why step leaves rises went

  -- ---- a call that asks

  module _ (own own' : List ℕ) (before house now : ToldHouse D) (reached : meanwhile before house) (by : TxnId) (was : IsOpenHouse before) where
    pub ask-failed : {T : Type 0} (why : HouseFault) → Step told faults Ask (fault_outcome why) (seen_in house) (seen_in now)
        → IsFindWhy house.house.trail.closed (act.House why) → Went between [] own own' (trail_in before) (trail_in now)
        → LooksOver {T = T} (among told faults between meanwhile) by (known own before) (known own' now) (Err (row_fault.House why))
    ask-failed fault.Store step is went = record {
      adds = adds own own' before house now reached Ask Closed [] step went refl step.counts (λ open_ shut. absurd (true≢false (sym is ∙ open_))) tt;
      running = tt;
      leaves = inl (shut-found own own' before house now reached Ask was is);
      marked = tt;
      counts = tt;
    }
    ask-failed fault.NoMemory step is went = record {
      adds = adds own own' before house now reached Ask Refused [] step went refl step.counts (opens own own' before house now reached Ask Refused step refl)
          tt;
      running = tt;
      leaves = stays-open own own' before house now reached Ask Refused step refl is;
      marked = tt;
      counts = tt;
    }
    ask-failed (fault.Failed count) step is went = absurd is

  -- ---- an act

  module _ (own own' : List ℕ) (before now : ToldHouse D) (was : IsOpenHouse before) where
    -- an act that asks
    module _ {X : Type 0} (result : Result X ActFault) (Does : HouseSeen D → HouseSeen D → Result X ActFault → Type 0)
        (held : Held (told_sight told faults) meanwhile before now (λ seen. Ask) (answer_outcome result) (λ a b. Does a b result))
        (went : Went between [] own own' (trail_in before) (trail_in now)) where
      pub asked-done : (x : X) → result ≡ Ok x → ((a b : HouseSeen D) → Does a b (Ok x) → a.closed ≡ false) → (by : TxnId)
          → LooksOver (among told faults between meanwhile) by (known own before) (known own' now) (Ok x)
      asked-done x is runs by =
          done own own' before held.house now held.reached Ask by x
          (subst (λ (r : Result X ActFault). Step told faults Ask (answer_outcome r) (seen_in held.house) (seen_in now)) is held.step)
          (runs (seen_in held.house) (seen_in now) (subst (Does (seen_in held.house) (seen_in now)) is held.does_it)) went

      pub asked-failed : {T : Type 0} (why : ActFault) (by_house : HouseFault) (row : RowFault) → result ≡ Err why → why ≡ act.House by_house → row ≡ row_fault.House by_house
          → ((a b : HouseSeen D) → Does a b (Err (act.House by_house)) → IsFindWhy a.closed (act.House by_house)) → (by : TxnId)
          → LooksOver {T = T} (among told faults between meanwhile) by (known own before) (known own' now) (Err row)
      asked-failed {T = T} why by_house row is why_is row_is whys by =
          let same : result ≡ Err (act.House by_house) = is ∙ ap (λ (w : ActFault). Err w) why_is in
          subst (λ (r : RowFault). LooksOver {T = T} (among told faults between meanwhile) by (known own before) (known own' now) (Err r)) (sym row_is)
          (ask-failed own own' before held.house now held.reached by was by_house
          (subst (λ (r : Result X ActFault). Step told faults Ask (answer_outcome r) (seen_in held.house) (seen_in now)) same held.step)
          (whys (seen_in held.house) (seen_in now) (subst (Does (seen_in held.house) (seen_in now)) same held.does_it)) went)

    -- an act that lists
    module _ {X : Type 0} (by : TxnId) (result : Result X ActFault) (Answers : HouseSeen D → Result X ActFault → Type 0)
        (held : Held (told_sight told faults) meanwhile before now (λ seen. Read (Some (Txn by))) (answer_outcome result)
        (λ a b. Answers a result × AnswerLeaves told faults by.0 a b result × IfErr result (WhyRises faults a)))
        (went : Went between (adds_listing by result) own own' (trail_in before) (trail_in now)) where
      pub listed : (x : X) → result ≡ Ok x → LooksOver (among told faults between meanwhile) by (known own before) (known own' now) (Ok x)
      listed x is =
          done own own' before held.house now held.reached (Read (Some (Txn by))) by x
          (subst (λ (r : Result X ActFault). Step told faults (Read (Some (Txn by))) (answer_outcome r) (seen_in held.house) (seen_in now)) is held.step)
          (subst (λ (r : Result X ActFault). AnswerLeaves told faults by.0 (seen_in held.house) (seen_in now) r) is held.does_it.1)
          (subst (λ (r : Result X ActFault). Went between (adds_listing by r) own own' (trail_in before) (trail_in now)) is went)

      pub unlisted : {T : Type 0} (why : ActFault) (row : RowFault) → result ≡ Err why → IsListFault why → row ≡ row_fault.House (fault_of why)
          → LooksOver {T = T} (among told faults between meanwhile) by (known own before) (known own' now) (Err row)
      unlisted {T = T} why row is lists row_is =
          subst (λ (r : RowFault). LooksOver {T = T} (among told faults between meanwhile) by (known own before) (known own' now) (Err r)) (sym row_is)
          (read-refused own own' before held.house now held.reached held.kept by was why lists
          (subst (λ (r : Result X ActFault). Step told faults (Read (Some (Txn by))) (answer_outcome r) (seen_in held.house) (seen_in now)) is held.step)
          (subst (λ (r : Result X ActFault). AnswerLeaves told faults by.0 (seen_in held.house) (seen_in now) r) is held.does_it.1)
          (subst (λ (r : Result X ActFault). IfErr r (WhyRises faults (seen_in held.house))) is held.does_it.2)
          (subst (λ (r : Result X ActFault). Went between (adds_listing by r) own own' (trail_in before) (trail_in now)) is went))

    -- an act that gets
    module _ {X : Type 0} (by : TxnId) (result : Result X GetFault) (Answers : HouseSeen D → Result X GetFault → Type 0)
        (held : Held (told_sight told faults) meanwhile before now (λ seen. Read (Some (Txn by))) (get_outcome result)
        (λ a b. Answers a result × GetLeaves told faults by.0 a b result × IfErr result (GetRises faults a)))
        (went : Went between (adds_getting by result) own own' (trail_in before) (trail_in now)) where
      abbrev StepOf : Result X GetFault → Type 0
      StepOf r = Step told faults (Read (Some (Txn by))) (get_outcome r) (seen_in held.house) (seen_in now)

      abbrev LeavesOf : Result X GetFault → Type 0
      LeavesOf r = GetLeaves told faults by.0 (seen_in held.house) (seen_in now) r

      abbrev WentOf : Result X GetFault → Type 0
      WentOf r = Went between (adds_getting by r) own own' (trail_in before) (trail_in now)

      pub got : {T : Type 0} (x : X) (y : T) → result ≡ Ok x → LooksOver (among told faults between meanwhile) by (known own before) (known own' now) (Ok y)
      got x y is =
          done own own' before held.house now held.reached (Read (Some (Txn by))) by y (subst StepOf is held.step) (subst LeavesOf is held.does_it.1) (subst WentOf is went)

      -- none was got
      ungot-as : (why : GetFault) → result ≡ Err why
          → LooksOver {T = Option (Vec ℕ)} (among told faults between meanwhile) by (known own before) (known own' now) (missed_as why)
      ungot-as (get_fault.NotOpen at) is =
          read-failed own own' before held.house now held.reached held.kept by was fault.NoMemory (subst StepOf is held.step) (subst LeavesOf is held.does_it.1) tt
          (subst WentOf is went)
      ungot-as get_fault.NotFound is =
          done own own' before held.house now held.reached (Read (Some (Txn by))) by None (subst StepOf is held.step) (subst LeavesOf is held.does_it.1) (subst WentOf is went)
      ungot-as (get_fault.House why) is =
          read-failed own own' before held.house now held.reached held.kept by was why (subst StepOf is held.step) (subst LeavesOf is held.does_it.1)
          (subst (λ (r : Result X GetFault). IfErr r (GetRises faults (seen_in held.house))) is held.does_it.2) (subst WentOf is went)

      pub ungot : (why : GetFault) (answer : Result (Option (Vec ℕ)) RowFault) → result ≡ Err why → answer ≡ missed_as why
          → LooksOver (among told faults between meanwhile) by (known own before) (known own' now) answer
      ungot why answer is same =
          subst (λ (r : Result (Option (Vec ℕ)) RowFault). LooksOver (among told faults between meanwhile) by (known own before) (known own' now) r) (sym same)
          (ungot-as why is)
