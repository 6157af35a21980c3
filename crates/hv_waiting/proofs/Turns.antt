-- What the acts leave by which a statement is opened, and started in its turn or ended before its Start.
use Rattle.std.proofs.Common.{◌≡◌, ◌⊎◌, inl, inr, ℕ, true, false, Option, Some, List, [], ◌∷◌, ◌++◌, length, refl, sym, ap, ◌∙◌, subst, Ok, Err, Result}
use Rattle.std.specs.Prelude.{IfErr}
use Rattle.std.specs.List.{AllByRecursion}
use Rattle.hv_base.specs.declared.ids.TxnId.{TxnId}
use Rattle.hv_shelf.specs.Disk.{Store}
use Rattle.hv_ast.specs.declared.statement.Stmt.{Stmt}
use Rattle.hv_built.specs.Running.{Runs}
use Rattle.hv_history.specs.declared.entry.Entry.{Entry}
use Rattle.hv_history.specs.declared.entry.Entry.TheVariants as entry
use Rattle.hv_history.specs.declared.entry.Cause.{Cause}
use Rattle.hv_history.specs.declared.entry.Cause.TheVariants as cause
use Rattle.hv_history.specs.Lasting.{IsFront}
use Rattle.hv_history.specs.Legal.{Of, HasRoom, StartFits, profile}
use Rattle.hv_history.specs.Legal.{IsWaiting as WaitsNow}
use Rattle.hv_stands.specs.Running.{Asking, next_number, starting, IsOf, IsWaiting, IsUnderWay}
use Rattle.hv_trail.specs.declared.trail.TrailItem.{TrailItem}
use Rattle.hv_trail.specs.declared.trail.TrailItem.TheVariants.{Noted}
use Rattle.hv_trail.specs.Trail.{book_of, state_at}
use Rattle.hv_trail.specs.Own.{IsOf as IsMine}
use Rattle.hv_trail.specs.Steps.{Note}
use Rattle.hv_trail.proofs.LastingLaws.{book-append}
use Rattle.hv_actor.specs.Acting.{IsLater, Went, AreRows, among, known, Held}
use Rattle.hv_session.specs.hv_beginning.specs.hv_steps.specs.hv_table_reader.specs.hv_acts.specs.hv_telling.specs.hv_house.specs.declared.fault.HouseFault.{HouseFault}
use Rattle.hv_session.specs.hv_beginning.specs.hv_steps.specs.hv_table_reader.specs.hv_acts.specs.hv_telling.specs.hv_house.specs.declared.fault.HouseFault.TheVariants as fault
use Rattle.hv_session.specs.hv_beginning.specs.hv_steps.specs.hv_table_reader.specs.hv_acts.specs.declared.told.ToldHouse.{ToldHouse}
use Rattle.hv_session.specs.hv_beginning.specs.hv_steps.specs.hv_table_reader.specs.hv_acts.specs.declared.starting.Started.{Started}
use Rattle.hv_session.specs.hv_beginning.specs.hv_steps.specs.hv_table_reader.specs.hv_acts.specs.declared.starting.Started.TheVariants as started
use Rattle.hv_session.specs.hv_beginning.specs.hv_steps.specs.hv_table_reader.specs.hv_acts.specs.declared.fault.ActFault.{ActFault}
use Rattle.hv_session.specs.hv_beginning.specs.hv_steps.specs.hv_table_reader.specs.hv_acts.specs.declared.fault.ActFault.TheVariants as act
use Rattle.hv_session.specs.hv_beginning.specs.hv_steps.specs.hv_table_reader.specs.hv_acts.specs.Told.{seen_in, trail_in, book_in, told_sight}
use Rattle.hv_session.specs.hv_beginning.specs.hv_steps.specs.hv_table_reader.specs.hv_acts.specs.Answers.{answer_call, answer_outcome, adds_entry, AnswerLeaves}
use Rattle.hv_session.specs.hv_beginning.specs.hv_steps.specs.hv_table_reader.specs.hv_acts.specs.Starting.{to_start, call_to_start, adds_started, IsShort}
use Rattle.hv_session.specs.hv_beginning.specs.hv_steps.specs.hv_table_reader.specs.hv_acts.specs.Waiting.{next_opened, OpenAnswers, OpenLeaves, IsOpeningCut}
use Rattle.hv_session.specs.hv_beginning.specs.hv_steps.specs.hv_table_reader.specs.hv_acts.specs.Laters.{answer-rises}
use Rattle.hv_session.specs.hv_beginning.specs.hv_steps.specs.hv_table_reader.specs.hv_acts.proofs.Mine.{noted-mine}
use Rattle.hv_session.specs.hv_beginning.specs.hv_steps.specs.declared.ready.Way.{Way}
use Rattle.hv_session.specs.hv_beginning.specs.hv_steps.specs.declared.reply.Done.{Done}
use Rattle.hv_session.specs.hv_beginning.specs.hv_steps.specs.declared.reply.Done.TheVariants as done
use Rattle.hv_session.specs.hv_beginning.specs.hv_steps.specs.declared.reply.Opened.{Opened}
use Rattle.hv_session.specs.hv_beginning.specs.hv_steps.specs.declared.reply.Opened.TheVariants as opened
use Rattle.hv_session.specs.hv_beginning.specs.hv_steps.specs.Ending.{aborting, KeepsCount, HasReplied}
use Rattle.hv_session.specs.hv_beginning.specs.hv_steps.specs.Going.{faults_in, IsOpenHouse, IsShutBetween, AddsOwn, Gains, GainsSome, Halts}
use Rattle.hv_session.specs.hv_beginning.specs.hv_steps.specs.Phases.{WasSoBetween, OpensAt, IsNextAt, AbortsFor, NoCause, AddsNone, HaltsBeginning, HaltsOpened, BegunBy}
use Rattle.hv_session.specs.hv_beginning.specs.hv_steps.specs.Leaving.{IsLeftFor, EndsAct}
use Rattle.hv_session.specs.hv_beginning.specs.hv_steps.proofs.Joining.{FoundOpen, RisesBy, NamesEnd, held-front, held-adds, shut-found, test-left, act-left, note-ends, ends-rise, front-went, so-now, waited-lasts, adds-front, adds-more, gains-behind}
use Rattle.hv_session.specs.hv_beginning.specs.Beginnings.{reply_of, started_as}
use Rattle.hv_session.specs.hv_beginning.proofs.Waits.{waits-at, open-fits}
use Rattle.hv_session.specs.hv_beginning.proofs.Openings.{between-more, between-earlier, next-opened, of-more, opens-on, opened-of, opened-no-end, started-under, stopped-replied, between-held, gains-none, open-adds, opened-waits}
use Rattle.hv_waiting.specs.Starting.{IsShortFor, StartsOrWaits, StartOrWaitAnswers, is_settled}
use Rattle.hv_waiting.specs.Beginnings.{StartsInTurn, IsShortAt, BeginsInTurn, GoesInTurn, OpenedToWait, OpensToWait, StartsSoFar}

-- ---- small facts

-- an abort for want of room: its cause, and what is said of it
short-full : (trail : List TrailItem) (txn : TxnId) (why : Cause) → IsShortFor trail txn why → why ≡ cause.Full
short-full trail txn cause.Full is = refl
short-full trail txn why is = absurd is

short-is : (trail : List TrailItem) (txn : TxnId) (why : Cause) → IsShortFor trail txn why → Of (state_at trail) txn.0 (IsShort (state_at trail))
short-is trail txn cause.Full is = is
short-is trail txn why is = absurd is

short-own : (trail : List TrailItem) (txn : TxnId) (why : Cause) → IsShortFor trail txn why → IsOf txn.0 (aborting txn.0 why)
short-own trail txn cause.Full is = refl
short-own trail txn why is = absurd is

short-counts : (low high : ℕ) (trail : List TrailItem) (txn : TxnId) (why : Cause) → IsShortFor trail txn why → KeepsCount low high (entry.Abort txn why)
short-counts low high trail txn cause.Full is = tt
short-counts low high trail txn why is = absurd is

waits-name : (trail : List TrailItem) (txn : TxnId) (why : ActFault) → StartsOrWaits trail txn (Err why) → NamesEnd trail txn.0 why
waits-name trail txn (act.Ended at) is = is
waits-name trail txn (act.Full entries) is = tt
waits-name trail txn (act.Held by) is = tt
waits-name trail txn (act.Broken put count) is = tt
waits-name trail txn act.Unfit is = tt
waits-name trail txn (act.House why) is = tt

-- one that has to wait is in a house that is open
pub held-open : {D : Type 0} (told : D → Option Store) (meanwhile : ToldHouse D → ToldHouse D → Type 0) (txn : ℕ) (now : ToldHouse D) (result : Result Started ActFault)
    → is_settled result ≡ false → IfErr result (IsLeftFor told meanwhile txn now) → IsOpenHouse now
held-open told meanwhile txn now (Ok found) waits left = absurd (let never : true ≡ false = waits in cc)
held-open told meanwhile txn now (Err (act.Held by)) waits left = left
held-open told meanwhile txn now (Err (act.Ended at)) waits left = absurd (let never : true ≡ false = waits in cc)
held-open told meanwhile txn now (Err (act.Full entries)) waits left = absurd (let never : true ≡ false = waits in cc)
held-open told meanwhile txn now (Err (act.Broken put count)) waits left = absurd (let never : true ≡ false = waits in cc)
held-open told meanwhile txn now (Err act.Unfit) waits left = absurd (let never : true ≡ false = waits in cc)
held-open told meanwhile txn now (Err (act.House why)) waits left = absurd (let never : true ≡ false = waits in cc)

module _ {D : Type 0} (told : D → Option Store) (faults : D → ℕ) (B : List TrailItem → Type 0) (rows : AreRows B) (meanwhile : ToldHouse D → ToldHouse D → Type 0)
    (goes : (before now : ToldHouse D) → meanwhile before now → IsLater faults (seen_in before) (seen_in now)) where
  -- and was opened still
  pub held-still : (first now : ToldHouse D) (own0 own' : List ℕ) (asking : Asking) (txn : TxnId) (said : Stmt) (result : Result Started ActFault) → is_settled result ≡ false
      → StartsSoFar (among told faults B meanwhile) asking txn said (known own0 first) (known own' now) result
      → OpenedToWait faults B asking txn.0 said (known own0 first) (known own' now)
  held-still first now own0 own' asking txn said (Ok found) waits starts = absurd (let never : true ≡ false = waits in cc)
  held-still first now own0 own' asking txn said (Err why) waits starts = starts

  -- ---- opened

  abbrev OpenHeld : ToldHouse D → ToldHouse D → Asking → Result TxnId ActFault → Type 0
  OpenHeld before now asking result =
      Held (told_sight told faults) meanwhile before now (λ house. answer_call (Note (next_opened house.trail asking.session asking.number asking.text)) result)
      (answer_outcome result)
      (λ house after. OpenAnswers house.trail result × OpenLeaves told faults asking house after result)

  -- nothing was noted, at a trail at which this number was the next
  unopened-goes : (before now : ToldHouse D) (own own' : List ℕ) (asking : Asking) (tree : Stmt) (found : Opened) (txn : ℕ)
      → AddsOwn faults B txn (known own before) (known own' now) [] → IsOpenHouse now → BeginsInTurn before now asking tree found []
      → WasSoBetween before now (IsNextAt txn)
      → GoesInTurn (among told faults B meanwhile) asking tree (known own before) (known own' now) (Ok found)
  unopened-goes before now own own' asking tree found txn adds running is next = record {
    done = (
      txn,
      gains-none told faults B rows meanwhile goes (faults_in faults before) txn own own' before now (BeginsInTurn before now asking tree found) adds running is,
      next,
    );
    halted = tt;
  }

  module _ (before now : ToldHouse D) (own own' : List ℕ) (asking : Asking) (tree : Stmt) where
    -- others closed the house, or the store failed where it was to be opened
    open-shut : OpenHeld before now asking (Err (act.House fault.Store)) → AddsNone faults B (known own before) (known own' now)
        → IsShutBetween meanwhile ⊎ FoundOpen told now (IsOpeningCut told asking)
        → HaltsBeginning (among told faults B meanwhile) asking (known own before) (known own' now) fault.Store
    open-shut held adds (inl shut) =
        let txn : ℕ = next_number (book_of (trail_in held.house)) in
        inl (
          txn,
          between-held told faults B rows meanwhile goes (IsNextAt txn) before now _ _ _ held refl,
          record { stop = record { added = []; adds = adds txn; of_it = tt; unended = tt; halts = inl shut }; begun_by = tt },
        )
    open-shut held adds (inr open_) =
        inr (inr (refl, adds, record { house = open_.house; kept = open_.kept; was = open_.was; is = open_.is; same = open_.same; cut = open_.cut }))

    pub opens-to-wait : Runs asking.text tree → IsOpenHouse before → (result : Result TxnId ActFault)
        → Went B (adds_entry (λ (txn : TxnId). entry.Opened txn asking.session asking.number asking.text) result) own own' (trail_in before) (trail_in now)
        → OpenHeld before now asking result
        → OpensToWait (among told faults B meanwhile) asking tree (known own before) (known own' now) result
    opens-to-wait runs running (Ok txn) went held =
        let event : Entry = entry.Opened txn asking.session asking.number asking.text in
        let waits = opened-waits told faults B rows meanwhile goes before now asking tree runs (Ok txn) held in
        record {
          event = event;
          adds = open-adds told faults B rows meanwhile goes before now own own' asking (Ok txn) (Noted event ∷ []) (event ∷ []) held went refl tt (refl, tt);
          was_opened = between-held told faults B rows meanwhile goes (OpensAt asking txn.0 event) before now _ _ _ held (record {
            txn_is = ap (λ (t : TxnId). t.0) held.does_it.0.1;
            event_is = ap (λ (t : TxnId). entry.Opened t asking.session asking.number asking.text) held.does_it.0.1;
            room = held.does_it.0.0;
          });
          waited = waits.1;
        }
    opens-to-wait runs running (Err (act.Full entries)) went held =
        let left = test-left told faults meanwhile goes before now _ _ held held.does_it.1 in
        let txn : ℕ = next_number (book_of (trail_in held.house)) in
        unopened-goes before now own own' asking tree (opened.Full entries) txn
        (open-adds told faults B rows meanwhile goes before now own own' asking (Err (act.Full entries)) [] [] held went refl tt tt) left.0 (
          refl,
          subst (λ (trail : List TrailItem). entries ≡ length (book_of trail)) (sym left.1) held.does_it.0.0,
          subst (λ (trail : List TrailItem). HasRoom profile (state_at trail) 2 → ⊥) (sym left.1) held.does_it.0.1,
        ) (between-held told faults B rows meanwhile goes (IsNextAt txn) before now _ _ _ held refl)
    opens-to-wait runs running (Err (act.House fault.NoMemory)) went held =
        let txn : ℕ = next_number (book_of (trail_in held.house)) in
        unopened-goes before now own own' asking tree opened.NoMemory txn
        (open-adds told faults B rows meanwhile goes before now own own' asking (Err (act.House fault.NoMemory)) [] [] held went refl tt tt)
        (test-left told faults meanwhile goes before now _ _ held held.does_it.1).0 refl
        (between-held told faults B rows meanwhile goes (IsNextAt txn) before now _ _ _ held refl)
    opens-to-wait runs running (Err (act.House fault.Store)) went held = record {
      done = tt;
      halted = open-shut held
          (λ whose. open-adds told faults B rows meanwhile goes {by = whose} before now own own' asking (Err (act.House fault.Store)) [] [] held went refl tt tt)
          (shut-found told faults meanwhile goes before now _ _ (IsOpeningCut told asking) held running (λ open_. (held.does_it.1 open_).0));
    }
    opens-to-wait runs running (Err (act.House (fault.Failed count))) went held = absurd held.step.may
    opens-to-wait runs running (Err (act.Ended at)) went held = absurd held.does_it.0
    opens-to-wait runs running (Err (act.Held by)) went held = absurd held.does_it.0
    opens-to-wait runs running (Err (act.Broken put count)) went held = absurd held.does_it.0
    opens-to-wait runs running (Err act.Unfit) went held = absurd held.does_it.0

  -- ---- started in its turn, or aborted for want of room

  abbrev StartHeld : ToldHouse D → ToldHouse D → TxnId → Result Started ActFault → Type 0
  StartHeld before now txn result =
      Held (told_sight told faults) meanwhile before now (λ house. call_to_start house.trail txn result) (answer_outcome result)
      (λ house after. StartOrWaitAnswers house.trail txn result × AnswerLeaves told faults txn.0 house after result)

  start-adds : {by : ℕ} (before now : ToldHouse D) (own own' : List ℕ) (txn : TxnId) (result : Result Started ActFault) (gained : List TrailItem)
      (added : List Entry)
      (held : StartHeld before now txn result) → Went B gained own own' (trail_in before) (trail_in now) → book_of gained ≡ added
      → RisesBy (answer_outcome result) (faults_in faults held.house) (faults_in faults now) → AllByRecursion (IsMine by) gained
      → AddsOwn faults B by (known own before) (known own' now) added
  start-adds before now own own' txn result gained added held went entries rises mine =
      held-adds told faults meanwhile goes before now B _ _ _ gained added own own' held went entries rises
      (answer-rises told faults txn.0 result (seen_in held.house) (seen_in now) held.does_it.1 held.step.closed) mine

  pub start-left : (before now : ToldHouse D) (txn : TxnId) → IsOpenHouse before → (result : Result Started ActFault) → StartHeld before now txn result
      → IfErr result (IsLeftFor told meanwhile txn.0 now)
  start-left before now txn running (Ok found) held = tt
  start-left before now txn running (Err why) held =
      act-left told faults meanwhile goes before now {T = Started} _ (Err why) _ txn.0 held running (waits-name (trail_in held.house) txn why held.does_it.0.answers)
      held.does_it.1

  pub start-ends : (before now : ToldHouse D) (txn : TxnId) (result : Result Started ActFault) → StartHeld before now txn result → IfErr result EndsAct
  start-ends before now txn (Ok found) held = tt
  start-ends before now txn (Err why) held = note-ends {T = Started} (to_start (trail_in held.house) txn) (Err why) held.step.may

  module _ (first before now : ToldHouse D) (own0 own own' : List ℕ) (asking : Asking) (said : Stmt) where
    -- what is added behind its Opened
    behind-opened : (txn : ℕ) (was : OpenedToWait faults B asking txn said (known own0 first) (known own before)) (Is Js : List Entry → Type 0)
        → ((more : List Entry) → Is more → Js (was.event ∷ more)) → Gains faults B (faults_in faults before) txn (known own before) (known own' now) Is
        → Gains faults B (faults_in faults first) txn (known own0 first) (known own' now) Js
    behind-opened txn was Is Js f gained =
        gains-behind faults B rows (faults_in faults first) (faults_in faults before) txn own0 own own' first before now (was.event ∷ []) Is Js was.adds.later.count was.adds
        (opened-of asking txn was.event was.was_opened.trail was.was_opened.was, tt) (opened-no-end asking txn was.event was.was_opened.trail was.was_opened.was, tt) f gained

    -- and it stops behind its Opened, which is this statement's
    halts-opened : (txn : ℕ) (why : HouseFault) (was : OpenedToWait faults B asking txn said (known own0 first) (known own before))
        → Halts (among told faults B meanwhile) txn (known own before) (known own' now) why
        → HaltsOpened (among told faults B meanwhile) asking txn (known own0 first) (known own' now) why
    halts-opened txn why was halts = record {
      stop = record {
        added = was.event ∷ halts.added;
        adds = adds-more faults B rows own0 own own' first before now (was.event ∷ []) halts.added was.adds halts.adds;
        of_it = (opened-of asking txn was.event was.was_opened.trail was.was_opened.was, halts.of_it);
        unended = (opened-no-end asking txn was.event was.was_opened.trail was.was_opened.was, halts.unended);
        halts = halts.halts;
      };
      begun_by = subst (λ (event : Entry). BegunBy asking (event ∷ halts.added)) (sym was.was_opened.was.event_is) (refl, refl, refl);
    }

    -- it is open still
    opened-still : (txn : ℕ) → OpenedToWait faults B asking txn said (known own0 first) (known own before)
        → AddsOwn faults B txn (known own before) (known own' now) []
        → OpenedToWait faults B asking txn said (known own0 first) (known own' now)
    opened-still txn was adds =
        let front = adds-front faults B rows own own' before now [] adds in
        record {
          event = was.event;
          adds = adds-more faults B rows own0 own own' first before now (was.event ∷ []) [] was.adds adds;
          was_opened = between-more (OpensAt asking txn was.event) first before now front was.was_opened;
          waited = waited-lasts asking txn said (trail_in before) (trail_in now) front was.waited;
        }

    pub starts-so-far : (txn : TxnId) → IsOpenHouse before → (result : Result Started ActFault)
        → Went B (adds_started txn result) own own' (trail_in before) (trail_in now) → StartHeld before now txn result
        → OpenedToWait faults B asking txn.0 said (known own0 first) (known own before)
        → StartsSoFar (among told faults B meanwhile) asking txn said (known own0 first) (known own' now) result
    starts-so-far txn running (Ok (started.At place)) went held was =
        let trail : List TrailItem = trail_in held.house in
        let book : List Entry = book_of trail in
        let start : Entry = starting txn.0 in
        let way : Way = record { txn = txn; place = place } in
        let answers = held.does_it.0.answers in
        let earlier = adds-front faults B rows own0 own first before (was.event ∷ []) was.adds in
        let front = front-went B (Noted start ∷ []) own own' (trail_in before) (trail_in now) went in
        let waiting : IsWaiting book asking txn.0 said =
        waits-at trail asking txn.0 said (open-fits told held.house held.kept held.does_it.1)
        (waited-lasts asking txn.0 said (trail_in before) trail (held-front told faults meanwhile goes before now _ _ _ held) was.waited)
        (of-more (StartFits profile (state_at trail) 0) WaitsNow _ (λ t fits. fits.waiting) answers.0) in
        let noted : book_in now ≡ book ++ start ∷ [] = ap book_of held.step.trail ∙ book-append trail (Noted start ∷ []) in (
          txn.0,
          behind-opened txn.0 was (λ (added : List Entry). added ≡ start ∷ []) (BeginsInTurn first now asking said (started_as txn (started.At place)))
              (λ more is. record {
                event = was.event;
                was_opened = between-more (OpensAt asking txn.0 was.event) first before now front was.was_opened;
                added_is = ap (λ (xs : List Entry). was.event ∷ xs) is;
                started = between-earlier (StartsInTurn way) first before now earlier
                    (between-held told faults B rows meanwhile goes (StartsInTurn way) before now _ _ _ held (record {
                      starts = record { fits = answers.0; place = answers.1 };
                      free = λ whose in_way. held.does_it.0.way whose in_way;
                    }));
                under_way = so-now (λ (b : List Entry). IsUnderWay b asking txn.0 place said []) (trail_in now)
                    (started-under book (book_in now) asking said txn.0 place waiting noted answers.1);
              })
              (record {
                added = start ∷ [];
                adds = start-adds before now own own' txn (Ok (started.At place)) (Noted start ∷ []) (start ∷ []) held went refl tt (refl, tt);
                of_it = (refl, tt);
                counts = (tt, tt);
                is = refl;
                running = opens-on held.house.house.trail.closed now.house.trail.closed false held.step.closed held.does_it.1 refl;
              }),
          between-more (IsNextAt txn.0) first before now front (next-opened first before asking txn.0 was.event was.was_opened),
        )
    starts-so-far txn running (Ok (started.Aborted aborted)) went held was =
        let trail : List TrailItem = trail_in held.house in
        let book : List Entry = book_of trail in
        let last : Entry = aborting txn.0 aborted.cause in
        let answers = held.does_it.0.answers in
        let earlier = adds-front faults B rows own0 own first before (was.event ∷ []) was.adds in
        let front = front-went B (Noted last ∷ []) own own' (trail_in before) (trail_in now) went in
        let short = short-is trail txn aborted.cause answers.1 in
        let waiting : IsWaiting book asking txn.0 said =
        waits-at trail asking txn.0 said (open-fits told held.house held.kept held.does_it.1)
        (waited-lasts asking txn.0 said (trail_in before) trail (held-front told faults meanwhile goes before now _ _ _ held) was.waited)
        (of-more (IsShort (state_at trail)) WaitsNow _ (λ t is. is.waiting) short) in
        let noted : book_in now ≡ book ++ last ∷ [] = ap book_of held.step.trail ∙ book-append trail (Noted last ∷ []) in
        let replied : HasReplied (book_in now) txn.0 aborted.text true (Some aborted.at) =
        stopped-replied book (book_in now) asking said txn.0 aborted.cause aborted.text aborted.at waiting noted answers.0.line answers.0.place in (
          txn.0,
          behind-opened txn.0 was (λ (added : List Entry). added ≡ last ∷ []) (BeginsInTurn first now asking said (started_as txn (started.Aborted aborted)))
              (λ more is. record {
                runs = waiting.runs;
                txn = txn.0;
                event = was.event;
                was_opened = between-more (OpensAt asking txn.0 was.event) first before now front was.was_opened;
                ends = (
                  last,
                  ap (λ (xs : List Entry). was.event ∷ xs) is,
                  record {
                    why = aborted.cause;
                    entry_is = refl;
                    stopped = inl (
                      short-full trail txn aborted.cause answers.1,
                      between-earlier (IsShortAt txn.0 (reply_of aborted)) first before now earlier
                          (between-held told faults B rows meanwhile goes (IsShortAt txn.0 (reply_of aborted)) before now _ _ _ held (record {
                            short = short;
                            free = λ whose in_way. held.does_it.0.way whose in_way;
                            place = ap (λ (n : ℕ). Some n) answers.0.place;
                          })),
                    );
                    answered = replied;
                  },
                  replied.ended_at,
                );
              })
              (record {
                added = last ∷ [];
                adds = start-adds {by = txn.0} before now own own' txn (Ok (started.Aborted aborted)) (Noted last ∷ []) (last ∷ []) held went refl tt
                    (noted-mine txn.0 last (short-own trail txn aborted.cause answers.1), tt);
                of_it = (short-own trail txn aborted.cause answers.1, tt);
                counts = (short-counts (faults_in faults before) (faults_in faults now) trail txn aborted.cause answers.1, tt);
                is = refl;
                running = opens-on held.house.house.trail.closed now.house.trail.closed false held.step.closed held.does_it.1 refl;
              }),
          between-more (IsNextAt txn.0) first before now front (next-opened first before asking txn.0 was.event was.was_opened),
        )
    starts-so-far txn running (Err why) went held was =
        let ends = start-ends before now txn (Err why) held in
        opened-still txn.0 was (start-adds before now own own' txn (Err why) [] [] held went refl
        (ends-rise {T = Started} (Err why) (faults_in faults held.house) (faults_in faults now) ends) tt)

    -- ---- ended where it was neither started nor aborted

    for-memory : (why : Cause) → NoCause why ⊎ (why ≡ cause.Memory) → why ≡ cause.Memory
    for-memory why (inl is) = absurd is
    for-memory why (inr is) = is

    abbrev ForMemory : ℕ → Done → List Entry → Type 0
    ForMemory txn found added = AbortsFor txn now [] NoCause found added

    lacked : (txn : ℕ) (was : OpenedToWait faults B asking txn said (known own0 first) (known own before)) → IsFront (trail_in before) (trail_in now)
        → (found : Done) (more : List Entry)
        → ForMemory txn found more → BeginsInTurn first now asking said (opened.Ended found) (was.event ∷ more)
    lacked txn was front (done.Replied reply) more is = record {
      runs = was.waited.was.runs;
      txn = txn;
      event = was.event;
      was_opened = between-more (OpensAt asking txn was.event) first before now front was.was_opened;
      ends = (
        is.0,
        ap (λ (xs : List Entry). was.event ∷ xs) is.1,
        record {
          why = is.2.why;
          entry_is = is.2.entry_is;
          stopped = inr (for-memory is.2.why is.2.is);
          answered = is.2.answered;
        },
        is.3,
      );
    }
    lacked txn was front (done.Gone reply) more is = record {
      runs = was.waited.was.runs;
      txn = txn;
      event = was.event;
      was_opened = between-more (OpensAt asking txn was.event) first before now front was.was_opened;
      ends = (ap (λ (xs : List Entry). was.event ∷ xs) is.0, is.1);
    }

    pub lacks-gained : (txn : ℕ) (found : Done) → Gains faults B (faults_in faults before) txn (known own before) (known own' now) (ForMemory txn found)
        → OpenedToWait faults B asking txn said (known own0 first) (known own before)
        → GoesInTurn (among told faults B meanwhile) asking said (known own0 first) (known own' now) (Ok (opened.Ended found))
    lacks-gained txn found gained was = record {
      done = (
        txn,
        behind-opened txn was (ForMemory txn found) (BeginsInTurn first now asking said (opened.Ended found))
            (λ more is. lacked txn was (adds-front faults B rows own own' before now gained.added gained.adds) found more is) gained,
        between-more (IsNextAt txn) first before now (adds-front faults B rows own own' before now gained.added gained.adds)
            (next-opened first before asking txn was.event was.was_opened),
      );
      halted = tt;
    }

    pub lacks-halted : (txn : ℕ) (why : HouseFault) → Halts (among told faults B meanwhile) txn (known own before) (known own' now) why
        → OpenedToWait faults B asking txn said (known own0 first) (known own before)
        → GoesInTurn (among told faults B meanwhile) asking said (known own0 first) (known own' now) (Err why)
    lacks-halted txn why halts was = record {
      done = tt;
      halted = inl (
        txn,
        between-more (IsNextAt txn) first before now (adds-front faults B rows own own' before now halts.added halts.adds)
            (next-opened first before asking txn was.event was.was_opened),
        halts-opened txn why was halts,
      );
    }

  -- ---- answers, as they are put together

  pub started-goes : (first now : ToldHouse D) (own0 own' : List ℕ) (asking : Asking) (said : Stmt) (txn : TxnId) (found : Started) (result : Opened) → result ≡ started_as txn found
      → StartsSoFar (among told faults B meanwhile) asking txn said (known own0 first) (known own' now) (Ok found)
      → GoesInTurn (among told faults B meanwhile) asking said (known own0 first) (known own' now) (Ok result)
  started-goes first now own0 own' asking said txn found result is starts = record {
    done = subst (λ (o : Opened). GainsSome faults B (faults_in faults first) (known own0 first) (known own' now) (BeginsInTurn first now asking said o)) (sym is)
        starts;
    halted = tt;
  }
