-- What the acts leave by which a statement is opened, and started or ended before its Start.
use Rattle.std.proofs.Common.{◌≡◌, ◌⊎◌, inl, inr, ℕ, ◌+◌, ◌≤◌, Bool, true, false, ◌||◌, Option, Some, None, List, [], ◌∷◌, ◌++◌, length, map, refl, sym, ap, ◌∙◌, subst, append-nil, append_assoc, length-append, arith, Ok, Err, Result}
use Rattle.std.specs.Prelude.{IsSomeAnd, IfOk, IfErr}
use Rattle.std.specs.List.{AllByRecursion}
use Rattle.hv_base.specs.declared.ids.Limits.{Limits}
use Rattle.hv_base.specs.declared.ids.TxnId.{TxnId}
use Rattle.hv_shelf.specs.Disk.{Store}
use Rattle.hv_ast.specs.declared.statement.Stmt.{Stmt}
use Rattle.hv_built.specs.Running.{Runs}
use Rattle.hv_history.specs.declared.entry.Entry.{Entry}
use Rattle.hv_history.specs.declared.entry.Entry.TheVariants as entry
use Rattle.hv_history.specs.declared.entry.Cause.{Cause}
use Rattle.hv_history.specs.declared.entry.Cause.TheVariants as cause
use Rattle.hv_history.specs.declared.state.Transaction.{Transaction}
use Rattle.hv_history.specs.State.{State, numbered}
use Rattle.hv_history.specs.Answers.{cause_text}
use Rattle.hv_history.specs.Lasting.{IsFront, GoesOn, Later}
use Rattle.hv_history.specs.Legal.{Of, HasRoom, StartFits, BlockedFits, profile}
use Rattle.hv_history.specs.Legal.{IsWaiting as WaitsNow}
use Rattle.hv_stands.specs.Running.{Asking, next_number, opening, starting, adder_of, IsOf, IsWaiting, IsUnderWay}
use Rattle.hv_stands.proofs.Begun.{opens, starts, begins}
use Rattle.hv_stands.proofs.Numbers.{found, numbered-last, numbered-within}
use Rattle.hv_trail.specs.declared.trail.TrailItem.{TrailItem}
use Rattle.hv_trail.specs.declared.trail.TrailItem.TheVariants.{Noted}
use Rattle.hv_trail.specs.Trail.{book_of, state_at}
use Rattle.hv_trail.specs.Own.{IsOf as IsMine}
use Rattle.hv_trail.specs.Steps.{HouseSeen, Call, Note, Outcome, gains, begun}
use Rattle.hv_trail.proofs.LastingLaws.{book-append, goes-on-front}
use Rattle.hv_actor.specs.Acting.{IsLater, Went, AreRows, among, known, Moment, Held}
use Rattle.hv_steps.specs.hv_table_reader.specs.hv_acts.specs.hv_telling.specs.hv_house.specs.declared.fault.HouseFault.{HouseFault}
use Rattle.hv_steps.specs.hv_table_reader.specs.hv_acts.specs.hv_telling.specs.hv_house.specs.declared.fault.HouseFault.TheVariants as fault
use Rattle.hv_steps.specs.hv_table_reader.specs.hv_acts.specs.declared.told.ToldHouse.{ToldHouse}
use Rattle.hv_steps.specs.hv_table_reader.specs.hv_acts.specs.declared.opening.Begun.{Begun}
use Rattle.hv_steps.specs.hv_table_reader.specs.hv_acts.specs.declared.starting.Started.{Started}
use Rattle.hv_steps.specs.hv_table_reader.specs.hv_acts.specs.declared.starting.Started.TheVariants as started
use Rattle.hv_steps.specs.hv_table_reader.specs.hv_acts.specs.declared.fault.BeginFault.{BeginFault}
use Rattle.hv_steps.specs.hv_table_reader.specs.hv_acts.specs.declared.fault.BeginFault.TheVariants as hindered_by
use Rattle.hv_steps.specs.hv_table_reader.specs.hv_acts.specs.declared.fault.ActFault.{ActFault}
use Rattle.hv_steps.specs.hv_table_reader.specs.hv_acts.specs.declared.fault.ActFault.TheVariants as act
use Rattle.hv_steps.specs.hv_table_reader.specs.hv_acts.specs.Told.{seen_in, trail_in, book_in, told_sight}
use Rattle.hv_steps.specs.hv_table_reader.specs.hv_acts.specs.Answers.{NoTest, answer_call, answer_outcome, adds_entry, AnswerLeaves}
use Rattle.hv_steps.specs.hv_table_reader.specs.hv_acts.specs.Beginning.{begin_call, begin_outcome, adds_beginning, BeginAnswers, BeginLeaves, IsBeginningCut}
use Rattle.hv_steps.specs.hv_table_reader.specs.hv_acts.specs.Starting.{to_start, call_to_start, adds_started, IsShort, IsInItsWay, StartOrAbortAnswers}
use Rattle.hv_steps.specs.hv_table_reader.specs.hv_acts.specs.Waiting.{next_opened, OpenAnswers, OpenLeaves, IsOpeningCut}
use Rattle.hv_steps.specs.hv_table_reader.specs.hv_acts.specs.Laters.{answer-rises, begin-rises, open-rises}
use Rattle.hv_steps.specs.hv_table_reader.specs.hv_acts.proofs.Mine.{noted-mine}
use Rattle.hv_steps.specs.Ending.{aborting, KeepsCount, HasReplied}
use Rattle.hv_steps.specs.hv_table_reader.specs.hv_acts.specs.Meant.{IsNoEnd}
use Rattle.hv_steps.proofs.Replied.{waiting-abort-replies}
use Rattle.hv_steps.specs.declared.reply.Done.{Done}
use Rattle.hv_steps.specs.declared.reply.Done.TheVariants as done
use Rattle.hv_steps.specs.declared.reply.Opened.{Opened}
use Rattle.hv_steps.specs.declared.reply.Opened.TheVariants as opened
use Rattle.hv_steps.specs.Going.{faults_in, IsOpenHouse, IsShutHouse, IsShutBetween, AddsOwn, Gains, GainsSome, Halts}
use Rattle.hv_steps.specs.Phases.{WasSoBetween, OpensAt, IsHinderedAt, IsHinderedBefore, IsNextAt, BeginsAt, StartsAt, IsStoppedAt, AbortsFor, NoCause, Begins, AddsNone, HaltsBeginning, HaltsOpened, BegunBy}
use Rattle.hv_steps.specs.Leaving.{IsLeftFor, EndsAct}
use Rattle.hv_beginning.specs.Beginnings.{GoesBeginning, WasHindered, way_of, BeginsAtOnce, IsLeftRunning, OpenedFirst, OpensSo, WaitsIn, reply_of, started_as, StartsSo}
use Rattle.hv_steps.proofs.Joining.{FoundOpen, RisesBy, held-front, held-adds, shut-found, test-left, act-left, why-names, note-ends, ends-rise, front-itself, front-went, so-now, waited-lasts, adds-none, adds-more, adds-front, gains-behind}
use Rattle.hv_beginning.proofs.Waits.{waits-at, open-fits}

-- ---- what was so between

pub between-more : {D : Type 0} (Is : List TrailItem → Type 0) (a b c : ToldHouse D) → IsFront (trail_in b) (trail_in c) → WasSoBetween a b Is → WasSoBetween a c Is
between-more Is a b c front was = record {
  trail = was.trail;
  later = was.later;
  front = (was.front.0 ++ front.more, front.is ∙ ap (λ (xs : List TrailItem). xs ++ front.more) was.front.1 ∙ append_assoc was.trail was.front.0 front.more);
  was = was.was;
}

pub between-earlier : {D : Type 0} (Is : List TrailItem → Type 0) (a b c : ToldHouse D) → IsFront (trail_in a) (trail_in b) → WasSoBetween b c Is → WasSoBetween a c Is
between-earlier Is a b c front was = record {
  trail = was.trail;
  later = (
    front.more ++ was.later.0,
    was.later.1 ∙ ap (λ (xs : List TrailItem). xs ++ was.later.0) front.is ∙ append_assoc (trail_in a) front.more was.later.0,
  );
  front = was.front;
  was = was.was;
}

pub between-as : {D : Type 0} (Is Js : List TrailItem → Type 0) (a b : ToldHouse D) → ((trail : List TrailItem) → Is trail → Js trail) → WasSoBetween a b Is → WasSoBetween a b Js
between-as Is Js a b f was = record { trail = was.trail; later = was.later; front = was.front; was = f was.trail was.was }

-- at the first of both trails
pub between-first : {D : Type 0} (Is : List TrailItem → Type 0) (a b : ToldHouse D) → IsFront (trail_in a) (trail_in b) → Is (trail_in a) → WasSoBetween a b Is
between-first Is a b front is = record { trail = trail_in a; later = ([], sym (append-nil (trail_in a))); front = (front.more, front.is); was = is }

-- where it was opened its number was the next
pub next-opened : {D : Type 0} (a b : ToldHouse D) (asking : Asking) (txn : ℕ) (event : Entry) → WasSoBetween a b (OpensAt asking txn event) → WasSoBetween a b (IsNextAt txn)
next-opened a b asking txn event was = between-as (OpensAt asking txn event) (IsNextAt txn) a b (λ trail at. at.txn_is) was

-- ---- numbers of transactions don't fall

last-of : {A : Type 0} (xs : List A) → (xs ≡ []) ⊎ ((ys : List A) × (y : A) × (xs ≡ ys ++ y ∷ []))
last-of [] = inl refl
last-of {A = A} (x ∷ xs) = by (last-of xs)
  where
    by : (xs ≡ []) ⊎ ((ys : List A) × (y : A) × (xs ≡ ys ++ y ∷ [])) → (x ∷ xs ≡ []) ⊎ ((ys : List A) × (y : A) × (x ∷ xs ≡ ys ++ y ∷ []))
    by (inl none) = inr ([], x, ap (λ (zs : List A). x ∷ zs) none)
    by (inr is) = inr (x ∷ is.0, is.1, ap (λ (zs : List A). x ∷ zs) is.2)

pub no-fewer : (before now : State) → GoesOn before now → length before.transactions ≤ length now.transactions
no-fewer before now goes = by (last-of before.transactions)
  where
    by : (before.transactions ≡ []) ⊎ ((ys : List Transaction) × (y : Transaction) × (before.transactions ≡ ys ++ y ∷ []))
        → length before.transactions ≤ length now.transactions
    by (inl none) =
        let long : length before.transactions ≡ 0 = ap length none in
        omega (arith, long)
    by (inr is) =
        let long : length before.transactions ≡ length is.0 + 1 = ap length is.2 ∙ length-append is.0 (is.1 ∷ []) in
        let here : numbered before.transactions (length is.0 + 1) ≡ Some is.1 =
        ap (λ (ts : List Transaction). numbered ts (length is.0 + 1)) is.2 ∙ numbered-last is.0 is.1 in
        let there = found (Later is.1) (numbered now.transactions (length is.0 + 1)) (goes.transactions (length is.0 + 1) is.1 here) in
        let within = numbered-within now.transactions (length is.0 + 1) there.0 there.1 in
        omega (arith, long, within.1)

pub next-later : (before now : List TrailItem) → IsFront before now → next_number (book_of before) ≤ next_number (book_of now)
next-later before now front =
    let few = no-fewer (state_at before) (state_at now) (goes-on-front before now front).history in
    omega (arith, few)

-- it was hindered before this trail, at which its number is the next
pub hindered-before : {D : Type 0} (a b : ToldHouse D) (said : Stmt) (txn : ℕ) (trail : List TrailItem) → IsFront (trail_in b) trail → txn ≡ next_number (book_of trail)
    → WasSoBetween a b (IsHinderedAt said) → WasSoBetween a b (IsHinderedBefore txn said)
hindered-before a b said txn trail front number was = record {
  trail = was.trail;
  later = was.later;
  front = was.front;
  was = record {
    hindered = was.was;
    before =
        let up = next-later was.trail (trail_in b) (record { more = was.front.0; is = was.front.1 }) in
        let on = next-later (trail_in b) trail front in
        omega (arith, up, on, number);
  };
}

-- ---- small facts

or-true : (b : Bool) → b || true ≡ true
or-true true = refl
or-true false = refl

pub opens-on : (before now outcome : Bool) → now ≡ before || outcome → before ≡ false → outcome ≡ false → now ≡ false
opens-on before now outcome closed running quiet = closed ∙ ap (λ (b : Bool). b || outcome) running ∙ quiet

room-less : (limits : Limits) (state : State) → HasRoom limits state 3 → HasRoom limits state 2
room-less limits state room = omega (arith, room)

held-cannot : (o : Option ℕ) (by : ℕ) → o ≡ Some by → o ≡ None → ⊥
held-cannot o by e none = let never : None ≡ Some by = sym none ∙ e in cc

pub of-more : (P Q : Transaction → Type 0) (o : Option Transaction) → ((t : Transaction) → P t → Q t) → IsSomeAnd o P → IsSomeAnd o Q
of-more P Q None f is = absurd is
of-more P Q (Some t) f is = f t is

-- what stands in its way says that it waits, and keeps no count
pub way-waits : (trail : List TrailItem) (txn : TxnId) (why : Cause) → IsInItsWay trail txn why → Of (state_at trail) txn.0 WaitsNow
way-waits trail txn (cause.Blocked holder) is = of-more (BlockedFits (state_at trail) holder.0) WaitsNow _ (λ t blocked. blocked.waiting) is
way-waits trail txn cause.Full is = of-more (IsShort (state_at trail)) WaitsNow _ (λ t short. short.waiting) is
way-waits trail txn why is = absurd is

way-counts : (low high : ℕ) (trail : List TrailItem) (txn : TxnId) (why : Cause) → IsInItsWay trail txn why → KeepsCount low high (entry.Abort txn why)
way-counts low high trail txn (cause.Blocked holder) is = tt
way-counts low high trail txn cause.Full is = tt
way-counts low high trail txn why is = absurd is

way-own : (trail : List TrailItem) (txn : TxnId) (why : Cause) → IsInItsWay trail txn why → IsOf txn.0 (aborting txn.0 why)
way-own trail txn (cause.Blocked holder) is = refl
way-own trail txn cause.Full is = refl
way-own trail txn why is = absurd is

-- its Opened is its own, and ends nothing
pub opened-of : (asking : Asking) (txn : ℕ) (event : Entry) (trail : List TrailItem) → OpensAt asking txn event trail → IsOf txn event
opened-of asking txn event trail at = ap adder_of at.event_is ∙ ap (λ (n : ℕ). Some n) (sym at.txn_is)

pub opened-no-end : (asking : Asking) (txn : ℕ) (event : Entry) (trail : List TrailItem) → OpensAt asking txn event trail → IsNoEnd txn event
opened-no-end asking txn event trail at = subst (IsNoEnd txn) (sym at.event_is) tt

-- a text has one tree
pub one-tree : (text : List ℕ) (a b : Stmt) → Runs text a → Runs text b → a ≡ b
one-tree text a b one other =
    let e : Some a ≡ Some b = sym one.read ∙ other.read in cc

pub begun-under : (book now : List Entry) (asking : Asking) (tree : Stmt) (txn place : ℕ) → Runs asking.text tree
    → now ≡ book ++ opening book asking ∷ starting (next_number book) ∷ [] → txn ≡ next_number book → place ≡ length book + 1 → IsUnderWay now asking txn place tree []
begun-under book now asking tree txn place runs noted number at =
    subst (λ (b : List Entry). IsUnderWay b asking txn place tree []) (sym noted)
    (subst (λ (n : ℕ). IsUnderWay (book ++ opening book asking ∷ starting (next_number book) ∷ []) asking n place tree []) (sym number)
    (subst (λ (p : ℕ). IsUnderWay (book ++ opening book asking ∷ starting (next_number book) ∷ []) asking (next_number book) p tree []) (sym at) (begins book asking tree runs)))

pub started-under : (book now : List Entry) (asking : Asking) (tree : Stmt) (txn place : ℕ) → IsWaiting book asking txn tree → now ≡ book ++ starting txn ∷ [] → place ≡ length book
    → IsUnderWay now asking txn place tree []
started-under book now asking tree txn place waiting noted at =
    subst (λ (b : List Entry). IsUnderWay b asking txn place tree []) (sym noted)
    (subst (λ (p : ℕ). IsUnderWay (book ++ starting txn ∷ []) asking txn p tree []) (sym at) (starts book asking txn tree waiting))

opened-waiting : (book now : List Entry) (asking : Asking) (tree : Stmt) (txn : ℕ) → Runs asking.text tree → now ≡ book ++ opening book asking ∷ [] → txn ≡ next_number book
    → IsWaiting now asking txn tree
opened-waiting book now asking tree txn runs noted number =
    subst (λ (b : List Entry). IsWaiting b asking txn tree) (sym noted)
    (subst (λ (n : ℕ). IsWaiting (book ++ opening book asking ∷ []) asking n tree) (sym number) (opens book asking tree runs))

pub stopped-replied : (book now : List Entry) (asking : Asking) (tree : Stmt) (txn : ℕ) (why : Cause) (text : List ℕ) (place : ℕ) → IsWaiting book asking txn tree
    → now ≡ book ++ aborting txn why ∷ [] → text ≡ cause_text None why → place ≡ length book → HasReplied now txn text true (Some place)
stopped-replied book now asking tree txn why text place waiting noted line at =
    subst (λ (b : List Entry). HasReplied b txn text true (Some place)) (sym noted)
    (subst (λ (t : List ℕ). HasReplied (book ++ aborting txn why ∷ []) txn t true (Some place)) (sym line)
    (subst (λ (p : ℕ). HasReplied (book ++ aborting txn why ∷ []) txn (cause_text None why) true (Some p)) (sym at) (waiting-abort-replies book asking txn tree why waiting)))

module _ {D : Type 0} (told : D → Option Store) (faults : D → ℕ) (B : List TrailItem → Type 0) (rows : AreRows B) (meanwhile : ToldHouse D → ToldHouse D → Type 0)
    (goes : (before now : ToldHouse D) → meanwhile before now → IsLater faults (seen_in before) (seen_in now)) where
  pub between-held : (Is : List TrailItem → Type 0) (before now : ToldHouse D) (call : HouseSeen D → Call) (outcome : Outcome) (does : HouseSeen D → HouseSeen D → Type 0)
      (held : Held (told_sight told faults) meanwhile before now call outcome does) → Is (trail_in held.house) → WasSoBetween before now Is
  between-held Is before now call outcome does held is =
      let front = held-front told faults meanwhile goes before now call outcome does held in
      record { trail = trail_in held.house; later = (front.more, front.is); front = (gains (call (seen_in held.house)) outcome, held.step.trail); was = is }

  -- nothing was added
  pub gains-none : (low txn : ℕ) (own own' : List ℕ) (before now : ToldHouse D) (Is : List Entry → Type 0)
      → AddsOwn faults B txn (known own before) (known own' now) [] → IsOpenHouse now → Is []
      → Gains faults B low txn (known own before) (known own' now) Is
  gains-none low txn own own' before now Is adds running is = record { added = []; adds = adds; of_it = tt; counts = tt; is = is; running = running }

  -- ---- opened and started at once

  abbrev BeginHeld : ToldHouse D → ToldHouse D → Asking → Stmt → Result Begun BeginFault → Type 0
  BeginHeld before now asking tree result =
      Held (told_sight told faults) meanwhile before now (λ house. begin_call house.trail asking.session asking.number asking.text result)
      (begin_outcome result)
      (λ house after. BeginAnswers house.trail tree result × BeginLeaves told faults asking house after result)

  module _ (before now : ToldHouse D) (own own' : List ℕ) (asking : Asking) (tree : Stmt) where
    begin-adds : {by : ℕ} (result : Result Begun BeginFault) (gained : List TrailItem) (added : List Entry) (held : BeginHeld before now asking tree result)
        → Went B gained own own' (trail_in before) (trail_in now) → book_of gained ≡ added
        → RisesBy (begin_outcome result) (faults_in faults held.house) (faults_in faults now) → AllByRecursion (IsMine by) gained
        → AddsOwn faults B by (known own before) (known own' now) added
    begin-adds result gained added held went entries rises mine =
        held-adds told faults meanwhile goes before now B _ _ _ gained added own own' held went entries rises
        (begin-rises told faults asking result (seen_in held.house) (seen_in now) held.does_it.1 held.step.closed) mine

    begin-shut : AddsNone faults B (known own before) (known own' now) → IsShutBetween meanwhile ⊎ FoundOpen told now (IsBeginningCut told asking)
        → HaltsBeginning (among told faults B meanwhile) asking (known own before) (known own' now) fault.Store
    begin-shut adds (inl shut) =
        let txn : ℕ = next_number (book_in before) in
        inl (
          txn,
          between-first (IsNextAt txn) before now (adds-front faults B rows own own' before now [] (adds txn)) refl,
          record { stop = record { added = []; adds = adds txn; of_it = tt; unended = tt; halts = inl shut }; begun_by = tt },
        )
    begin-shut adds (inr open_) =
        inr (inl (refl, adds, record { house = open_.house; kept = open_.kept; was = open_.was; is = open_.is; same = open_.same; cut = open_.cut }))

    pub at-once : Runs asking.text tree → IsOpenHouse before → (result : Result Begun BeginFault)
        → Went B (adds_beginning asking.session asking.number asking.text result) own own' (trail_in before) (trail_in now)
        → BeginHeld before now asking tree result
        → BeginsAtOnce (among told faults B meanwhile) asking tree (known own before) (known own' now) result
    at-once runs running (Ok start) went held =
        let trail : List TrailItem = trail_in held.house in
        let book : List Entry = book_of trail in
        let event : Entry = entry.Opened start.txn asking.session asking.number asking.text in
        let is : event ≡ opening book asking =
        ap (λ (n : ℕ). entry.Opened (record { 0 = n }) asking.session asking.number asking.text) held.does_it.0.txn_is in
        let opens_at : OpensAt asking start.txn.0 event trail =
        record { txn_is = held.does_it.0.txn_is; event_is = is; room = room-less profile (state_at trail) held.does_it.0.can.0 } in
        let noted : book_in now ≡ book ++ opening book asking ∷ starting (next_number book) ∷ [] =
        ap book_of held.step.trail ∙ book-append trail (Noted (opening book asking) ∷ Noted (starting (next_number book)) ∷ []) in (
          start.txn.0,
          record {
            added = event ∷ starting start.txn.0 ∷ [];
            adds = begin-adds (Ok start) (map Noted (begun start.txn asking.session asking.number asking.text))
                (event ∷ starting start.txn.0 ∷ []) held went refl tt (refl, (refl, tt));
            of_it = (refl, (refl, tt));
            counts = (tt, (tt, tt));
            is = record {
              event = event;
              was_opened = between-held (OpensAt asking start.txn.0 event) before now _ _ _ held opens_at;
              added_is = refl;
              can = inl (between-held (BeginsAt asking tree (way_of start) event) before now _ _ _ held
                  (record { opens = opens_at; can = held.does_it.0.can; place = held.does_it.0.place_is }));
              under_way = so-now (λ (b : List Entry). IsUnderWay b asking start.txn.0 start.place tree []) (trail_in now)
                  (begun-under book (book_in now) asking tree start.txn.0 start.place runs noted held.does_it.0.txn_is held.does_it.0.place_is);
            };
            running = opens-on held.house.house.trail.closed now.house.trail.closed false held.step.closed held.does_it.1 refl;
          },
          between-held (IsNextAt start.txn.0) before now _ _ _ held held.does_it.0.txn_is,
        )
    at-once runs running (Err (hindered_by.Held by)) went held = record {
      adds = λ whose. begin-adds (Err (hindered_by.Held by)) [] [] held went refl tt tt;
      hindered = between-held (IsHinderedAt tree) before now _ _ _ held (λ can. held-cannot _ by.0 held.does_it.0 can.1);
      running = (test-left told faults meanwhile goes before now _ _ held held.does_it.1).0;
    }
    at-once runs running (Err (hindered_by.Full entries)) went held = record {
      adds = λ whose. begin-adds (Err (hindered_by.Full entries)) [] [] held went refl tt tt;
      hindered = between-held (IsHinderedAt tree) before now _ _ _ held (λ can. held.does_it.0.2 can.0);
      running = (test-left told faults meanwhile goes before now _ _ held held.does_it.1).0;
    }
    at-once runs running (Err (hindered_by.House fault.NoMemory)) went held =
        let txn : ℕ = next_number (book_of (trail_in held.house)) in
        record {
          done = (
            txn,
            gains-none (faults_in faults before) txn own own' before now (λ (added : List Entry). added ≡ [])
                (begin-adds (Err (hindered_by.House fault.NoMemory)) [] [] held went refl tt tt)
                (test-left told faults meanwhile goes before now _ _ held held.does_it.1).0 refl,
            between-held (IsNextAt txn) before now _ _ _ held refl,
          );
          halted = tt;
        }
    at-once runs running (Err (hindered_by.House fault.Store)) went held = record {
      done = tt;
      halted = begin-shut (λ whose. begin-adds (Err (hindered_by.House fault.Store)) [] [] held went refl tt tt)
          (shut-found told faults meanwhile goes before now _ _ (IsBeginningCut told asking) held running (λ open_. (held.does_it.1 open_).0));
    }
    at-once runs running (Err (hindered_by.House (fault.Failed count))) went held = absurd held.does_it.1

  -- ---- opened

  abbrev OpenHeld : ToldHouse D → ToldHouse D → Asking → Result TxnId ActFault → Type 0
  OpenHeld before now asking result =
      Held (told_sight told faults) meanwhile before now (λ house. answer_call (Note (next_opened house.trail asking.session asking.number asking.text)) result)
      (answer_outcome result)
      (λ house after. OpenAnswers house.trail result × OpenLeaves told faults asking house after result)

  pub opened-waits : (before now : ToldHouse D) (asking : Asking) (tree : Stmt) → Runs asking.text tree → (result : Result TxnId ActFault) → OpenHeld before now asking result
      → IfOk result (λ txn. WaitsIn now asking tree txn.0)
  opened-waits before now asking tree runs (Err why) held = tt
  opened-waits before now asking tree runs (Ok txn) held =
      let trail : List TrailItem = trail_in held.house in
      let book : List Entry = book_of trail in
      let noted : book_in now ≡ book ++ opening book asking ∷ [] = ap book_of held.step.trail ∙ book-append trail (Noted (opening book asking) ∷ []) in (
        opens-on held.house.house.trail.closed now.house.trail.closed false held.step.closed held.does_it.1 refl,
        so-now (λ (b : List Entry). IsWaiting b asking txn.0 tree) (trail_in now)
            (opened-waiting book (book_in now) asking tree txn.0 runs noted (ap (λ (t : TxnId). t.0) held.does_it.0.1)),
      )

  pub open-adds : {by : ℕ} (before now : ToldHouse D) (own own' : List ℕ) (asking : Asking) (result : Result TxnId ActFault) (gained : List TrailItem)
      (added : List Entry)
      (held : OpenHeld before now asking result) → Went B gained own own' (trail_in before) (trail_in now) → book_of gained ≡ added
      → RisesBy (answer_outcome result) (faults_in faults held.house) (faults_in faults now) → AllByRecursion (IsMine by) gained
      → AddsOwn faults B by (known own before) (known own' now) added
  open-adds before now own own' asking result gained added held went entries rises mine =
      held-adds told faults meanwhile goes before now B _ _ _ gained added own own' held went entries rises
      (open-rises told faults asking result (seen_in held.house) (seen_in now) held.does_it.1 held.step.closed) mine

  module _ (first before now : ToldHouse D) (own0 own own' : List ℕ) (asking : Asking) (tree : Stmt) where
    -- nothing was added behind a beginning that was hindered
    hindered-none : {by : ℕ} → WasHindered faults B tree (known own0 first) (known own before) → AddsOwn faults B by (known own before) (known own' now) []
        → AddsOwn faults B by (known own0 first) (known own' now) []
    hindered-none {by = by} was adds = adds-more faults B rows own0 own own' first before now [] [] (was.adds by) adds

    -- others closed the house, or the store failed where it was to be opened
    open-shut : OpenHeld before now asking (Err (act.House fault.Store)) → WasHindered faults B tree (known own0 first) (known own before)
        → AddsNone faults B (known own0 first) (known own' now) → IsShutBetween meanwhile ⊎ FoundOpen told now (IsOpeningCut told asking)
        → HaltsBeginning (among told faults B meanwhile) asking (known own0 first) (known own' now) fault.Store
    open-shut held was adds (inl shut) =
        let txn : ℕ = next_number (book_of (trail_in held.house)) in
        inl (
          txn,
          between-earlier (IsNextAt txn) first before now (adds-front faults B rows own0 own first before [] (was.adds txn))
              (between-held (IsNextAt txn) before now _ _ _ held refl),
          record { stop = record { added = []; adds = adds txn; of_it = tt; unended = tt; halts = inl shut }; begun_by = tt },
        )
    open-shut held was adds (inr open_) =
        inr (inr (refl, adds, record { house = open_.house; kept = open_.kept; was = open_.was; is = open_.is; same = open_.same; cut = open_.cut }))

    pub opens-so : Runs asking.text tree → IsOpenHouse before → (result : Result TxnId ActFault)
        → Went B (adds_entry (λ (txn : TxnId). entry.Opened txn asking.session asking.number asking.text) result) own own' (trail_in before) (trail_in now)
        → OpenHeld before now asking result → WasHindered faults B tree (known own0 first) (known own before)
        → OpensSo (among told faults B meanwhile) asking tree (known own0 first) (known own' now) result
    opens-so runs running (Ok txn) went held was =
        let event : Entry = entry.Opened txn asking.session asking.number asking.text in
        let trail : List TrailItem = trail_in held.house in
        let front = adds-front faults B rows own0 own first before [] (was.adds txn.0) in
        let waits = opened-waits before now asking tree runs (Ok txn) held in
        record {
          event = event;
          adds = adds-more faults B rows own0 own own' first before now [] (event ∷ []) (was.adds txn.0)
              (open-adds before now own own' asking (Ok txn) (Noted event ∷ []) (event ∷ []) held went refl tt (refl, tt));
          was_opened = between-earlier (OpensAt asking txn.0 event) first before now front
              (between-held (OpensAt asking txn.0 event) before now _ _ _ held (record {
                txn_is = ap (λ (t : TxnId). t.0) held.does_it.0.1;
                event_is = ap (λ (t : TxnId). entry.Opened t asking.session asking.number asking.text) held.does_it.0.1;
                room = held.does_it.0.0;
              }));
          waited = waits.1;
          hindered = between-more (IsHinderedBefore txn.0 tree) first before now (front-went B (Noted event ∷ []) own own' (trail_in before) (trail_in now) went)
              (hindered-before first before tree txn.0 trail (held-front told faults meanwhile goes before now _ _ _ held) (ap (λ (t : TxnId). t.0) held.does_it.0.1) was.hindered);
        }
    opens-so runs running (Err (act.Full entries)) went held was =
        let left = test-left told faults meanwhile goes before now _ _ held held.does_it.1 in
        let txn : ℕ = next_number (book_of (trail_in held.house)) in
        record {
          done = (
            txn,
            gains-none (faults_in faults first) txn own0 own' first now (Begins first now asking tree (opened.Full entries))
                (hindered-none was (open-adds before now own own' asking (Err (act.Full entries)) [] [] held went refl tt tt)) left.0 (
                  refl,
                  subst (λ (trail : List TrailItem). entries ≡ length (book_of trail)) (sym left.1) held.does_it.0.0,
                  subst (λ (trail : List TrailItem). HasRoom profile (state_at trail) 2 → ⊥) (sym left.1) held.does_it.0.1,
                ),
            between-earlier (IsNextAt txn) first before now (adds-front faults B rows own0 own first before [] (was.adds txn))
                (between-held (IsNextAt txn) before now _ _ _ held refl),
          );
          halted = tt;
        }
    opens-so runs running (Err (act.House fault.NoMemory)) went held was =
        let txn : ℕ = next_number (book_of (trail_in held.house)) in
        record {
          done = (
            txn,
            gains-none (faults_in faults first) txn own0 own' first now (λ (added : List Entry). added ≡ [])
                (hindered-none was (open-adds before now own own' asking (Err (act.House fault.NoMemory)) [] [] held went refl tt tt))
                (test-left told faults meanwhile goes before now _ _ held held.does_it.1).0 refl,
            between-earlier (IsNextAt txn) first before now (adds-front faults B rows own0 own first before [] (was.adds txn))
                (between-held (IsNextAt txn) before now _ _ _ held refl),
          );
          halted = tt;
        }
    opens-so runs running (Err (act.House fault.Store)) went held was = record {
      done = tt;
      halted = open-shut held was
          (λ by. hindered-none {by = by} was (open-adds {by = by} before now own own' asking (Err (act.House fault.Store)) [] [] held went refl tt tt))
          (shut-found told faults meanwhile goes before now _ _ (IsOpeningCut told asking) held running (λ open_. (held.does_it.1 open_).0));
    }
    opens-so runs running (Err (act.House (fault.Failed count))) went held was = absurd held.step.may
    opens-so runs running (Err (act.Ended at)) went held was = absurd held.does_it.0
    opens-so runs running (Err (act.Held by)) went held was = absurd held.does_it.0
    opens-so runs running (Err (act.Broken put count)) went held was = absurd held.does_it.0
    opens-so runs running (Err act.Unfit) went held was = absurd held.does_it.0

  -- ---- started, or aborted for what stands in its way

  abbrev StartHeld : ToldHouse D → ToldHouse D → TxnId → Result Started ActFault → Type 0
  StartHeld before now txn result =
      Held (told_sight told faults) meanwhile before now (λ house. call_to_start house.trail txn result) (answer_outcome result)
      (λ house after. StartOrAbortAnswers house.trail txn result × AnswerLeaves told faults txn.0 house after result)

  start-adds : {by : ℕ} (before now : ToldHouse D) (own own' : List ℕ) (txn : TxnId) (result : Result Started ActFault) (gained : List TrailItem)
      (added : List Entry)
      (held : StartHeld before now txn result) → Went B gained own own' (trail_in before) (trail_in now) → book_of gained ≡ added
      → RisesBy (answer_outcome result) (faults_in faults held.house) (faults_in faults now) → AllByRecursion (IsMine by) gained
      → AddsOwn faults B by (known own before) (known own' now) added
  start-adds before now own own' txn result gained added held went entries rises mine =
      held-adds told faults meanwhile goes before now B _ _ _ gained added own own' held went entries rises
      (answer-rises told faults txn.0 result (seen_in held.house) (seen_in now) held.does_it.1 held.step.closed) mine

  pub start-left : (before now : ToldHouse D) (txn : TxnId) → IsOpenHouse before → (result : Result Started ActFault) → StartHeld before now txn result
      → IfErr result (IsLeftFor told meanwhile txn.0 now)
  start-left before now txn running (Ok found) held = tt
  start-left before now txn running (Err why) held =
      act-left told faults meanwhile goes before now {T = Started} _ (Err why) _ txn.0 held running (why-names NoTest (trail_in held.house) txn _ why held.does_it.0) held.does_it.1

  pub start-ends : (before now : ToldHouse D) (txn : TxnId) (result : Result Started ActFault) → StartHeld before now txn result → IfErr result EndsAct
  start-ends before now txn (Ok found) held = tt
  start-ends before now txn (Err why) held = note-ends {T = Started} (to_start (trail_in held.house) txn) (Err why) held.step.may

  module _ (first before now : ToldHouse D) (own0 own own' : List ℕ) (asking : Asking) (said : Stmt) where
    -- what is added behind its Opened
    behind-opened : (txn : ℕ) (was : OpenedFirst faults B asking txn said (known own0 first) (known own before)) (Is Js : List Entry → Type 0)
        → ((more : List Entry) → Is more → Js (was.event ∷ more)) → Gains faults B (faults_in faults before) txn (known own before) (known own' now) Is
        → Gains faults B (faults_in faults first) txn (known own0 first) (known own' now) Js
    behind-opened txn was Is Js f gained =
        gains-behind faults B rows (faults_in faults first) (faults_in faults before) txn own0 own own' first before now (was.event ∷ []) Is Js was.adds.later.count was.adds
        (opened-of asking txn was.event was.was_opened.trail was.was_opened.was, tt) (opened-no-end asking txn was.event was.was_opened.trail was.was_opened.was, tt) f gained

    -- and it stops behind its Opened, which is this statement's
    halts-opened : (txn : ℕ) (why : HouseFault) (was : OpenedFirst faults B asking txn said (known own0 first) (known own before))
        → Halts (among told faults B meanwhile) txn (known own before) (known own' now) why
        → HaltsOpened (among told faults B meanwhile) asking txn (known own0 first) (known own' now) why
    halts-opened txn why was halts = record {
      stop = record {
        added = was.event ∷ halts.added;
        adds = adds-more faults B rows own0 own own' first before now (was.event ∷ []) halts.added was.adds halts.adds;
        of_it = (opened-of asking txn was.event was.was_opened.trail was.was_opened.was, halts.of_it);
        unended = (opened-no-end asking txn was.event was.was_opened.trail was.was_opened.was, halts.unended);
        halts = halts.halts;
      };
      begun_by = subst (λ (event : Entry). BegunBy asking (event ∷ halts.added)) (sym was.was_opened.was.event_is) (refl, refl, refl);
    }

    -- it is open still
    opened-still : (txn : ℕ) → OpenedFirst faults B asking txn said (known own0 first) (known own before)
        → AddsOwn faults B txn (known own before) (known own' now) []
        → OpenedFirst faults B asking txn said (known own0 first) (known own' now)
    opened-still txn was adds =
        let front = adds-front faults B rows own own' before now [] adds in
        record {
          event = was.event;
          adds = adds-more faults B rows own0 own own' first before now (was.event ∷ []) [] was.adds adds;
          was_opened = between-more (OpensAt asking txn was.event) first before now front was.was_opened;
          waited = waited-lasts asking txn said (trail_in before) (trail_in now) front was.waited;
          hindered = between-more (IsHinderedBefore txn said) first before now front was.hindered;
        }

    pub starts-so : (txn : TxnId) → IsOpenHouse before → (result : Result Started ActFault)
        → Went B (adds_started txn result) own own' (trail_in before) (trail_in now) → StartHeld before now txn result
        → OpenedFirst faults B asking txn.0 said (known own0 first) (known own before)
        → StartsSo (among told faults B meanwhile) asking txn said (known own0 first) (known own' now) result
    starts-so txn running (Ok (started.At place)) went held was =
        let trail : List TrailItem = trail_in held.house in
        let book : List Entry = book_of trail in
        let start : Entry = starting txn.0 in
        let earlier = adds-front faults B rows own0 own first before (was.event ∷ []) was.adds in
        let front = front-went B (Noted start ∷ []) own own' (trail_in before) (trail_in now) went in
        let waiting : IsWaiting book asking txn.0 said =
        waits-at trail asking txn.0 said (open-fits told held.house held.kept held.does_it.1)
        (waited-lasts asking txn.0 said (trail_in before) trail (held-front told faults meanwhile goes before now _ _ _ held) was.waited)
        (of-more (StartFits profile (state_at trail) 0) WaitsNow _ (λ t fits. fits.waiting) held.does_it.0.0) in
        let noted : book_in now ≡ book ++ start ∷ [] = ap book_of held.step.trail ∙ book-append trail (Noted start ∷ []) in (
          txn.0,
          behind-opened txn.0 was (λ (added : List Entry). added ≡ start ∷ []) (Begins first now asking said (started_as txn (started.At place)))
              (λ more is. record {
                event = was.event;
                was_opened = between-more (OpensAt asking txn.0 was.event) first before now front was.was_opened;
                added_is = ap (λ (xs : List Entry). was.event ∷ xs) is;
                can = inr (
                  between-more (IsHinderedBefore txn.0 said) first before now front was.hindered,
                  between-earlier (StartsAt (record { txn = txn; place = place })) first before now earlier
                      (between-held (StartsAt (record { txn = txn; place = place })) before now _ _ _ held (record { fits = held.does_it.0.0; place = held.does_it.0.1 })),
                );
                under_way = so-now (λ (b : List Entry). IsUnderWay b asking txn.0 place said []) (trail_in now)
                    (started-under book (book_in now) asking said txn.0 place waiting noted held.does_it.0.1);
              })
              (record {
                added = start ∷ [];
                adds = start-adds before now own own' txn (Ok (started.At place)) (Noted start ∷ []) (start ∷ []) held went refl tt (refl, tt);
                of_it = (refl, tt);
                counts = (tt, tt);
                is = refl;
                running = opens-on held.house.house.trail.closed now.house.trail.closed false held.step.closed held.does_it.1 refl;
              }),
          between-more (IsNextAt txn.0) first before now front (next-opened first before asking txn.0 was.event was.was_opened),
        )
    starts-so txn running (Ok (started.Aborted aborted)) went held was =
        let trail : List TrailItem = trail_in held.house in
        let book : List Entry = book_of trail in
        let last : Entry = aborting txn.0 aborted.cause in
        let earlier = adds-front faults B rows own0 own first before (was.event ∷ []) was.adds in
        let front = front-went B (Noted last ∷ []) own own' (trail_in before) (trail_in now) went in
        let stopped = held.does_it.0.1 in
        let waiting : IsWaiting book asking txn.0 said =
        waits-at trail asking txn.0 said (open-fits told held.house held.kept held.does_it.1)
        (waited-lasts asking txn.0 said (trail_in before) trail (held-front told faults meanwhile goes before now _ _ _ held) was.waited)
        (way-waits trail txn aborted.cause stopped) in
        let noted : book_in now ≡ book ++ last ∷ [] = ap book_of held.step.trail ∙ book-append trail (Noted last ∷ []) in
        let replied : HasReplied (book_in now) txn.0 aborted.text true (Some aborted.at) =
        stopped-replied book (book_in now) asking said txn.0 aborted.cause aborted.text aborted.at waiting noted held.does_it.0.0.line held.does_it.0.0.place in (
          txn.0,
          behind-opened txn.0 was (λ (added : List Entry). added ≡ last ∷ []) (Begins first now asking said (started_as txn (started.Aborted aborted)))
              (λ more is. record {
                runs = waiting.runs;
                txn = txn.0;
                event = was.event;
                was_opened = between-more (OpensAt asking txn.0 was.event) first before now front was.was_opened;
                ends = (
                  last,
                  ap (λ (xs : List Entry). was.event ∷ xs) is,
                  record {
                    why = aborted.cause;
                    entry_is = refl;
                    stopped = inl (between-earlier (IsStoppedAt txn.0 aborted.cause (reply_of aborted)) first before now earlier
                        (between-held (IsStoppedAt txn.0 aborted.cause (reply_of aborted)) before now _ _ _ held
                        (record { in_its_way = stopped; place = ap (λ (n : ℕ). Some n) held.does_it.0.0.place })));
                    hindered = between-more (IsHinderedBefore txn.0 said) first before now front was.hindered;
                    answered = replied;
                  },
                  replied.ended_at,
                );
              })
              (record {
                added = last ∷ [];
                adds = start-adds {by = txn.0} before now own own' txn (Ok (started.Aborted aborted)) (Noted last ∷ []) (last ∷ []) held went refl tt
                    (noted-mine txn.0 last (way-own trail txn aborted.cause stopped), tt);
                of_it = (way-own trail txn aborted.cause stopped, tt);
                counts = (way-counts (faults_in faults before) (faults_in faults now) trail txn aborted.cause stopped, tt);
                is = refl;
                running = opens-on held.house.house.trail.closed now.house.trail.closed false held.step.closed held.does_it.1 refl;
              }),
          between-more (IsNextAt txn.0) first before now front (next-opened first before asking txn.0 was.event was.was_opened),
        )
    starts-so txn running (Err why) went held was =
        let ends = start-ends before now txn (Err why) held in
        opened-still txn.0 was (start-adds before now own own' txn (Err why) [] [] held went refl
        (ends-rise {T = Started} (Err why) (faults_in faults held.house) (faults_in faults now) ends) tt)

    -- ---- ended where it was neither started nor aborted

    for-memory : (why : Cause) → NoCause why ⊎ (why ≡ cause.Memory) → why ≡ cause.Memory
    for-memory why (inl is) = absurd is
    for-memory why (inr is) = is

    abbrev ForMemory : ℕ → Done → List Entry → Type 0
    ForMemory txn found added = AbortsFor txn now [] NoCause found added

    lacked : (txn : ℕ) (was : OpenedFirst faults B asking txn said (known own0 first) (known own before)) → IsFront (trail_in before) (trail_in now)
        → (found : Done) (more : List Entry)
        → ForMemory txn found more → Begins first now asking said (opened.Ended found) (was.event ∷ more)
    lacked txn was front (done.Replied reply) more is = record {
      runs = was.waited.was.runs;
      txn = txn;
      event = was.event;
      was_opened = between-more (OpensAt asking txn was.event) first before now front was.was_opened;
      ends = (
        is.0,
        ap (λ (xs : List Entry). was.event ∷ xs) is.1,
        record {
          why = is.2.why;
          entry_is = is.2.entry_is;
          stopped = inr (for-memory is.2.why is.2.is);
          hindered = between-more (IsHinderedBefore txn said) first before now front was.hindered;
          answered = is.2.answered;
        },
        is.3,
      );
    }
    lacked txn was front (done.Gone reply) more is = record {
      runs = was.waited.was.runs;
      txn = txn;
      event = was.event;
      was_opened = between-more (OpensAt asking txn was.event) first before now front was.was_opened;
      ends = (ap (λ (xs : List Entry). was.event ∷ xs) is.0, is.1);
    }

    pub lacks-gained : (txn : ℕ) (found : Done) → Gains faults B (faults_in faults before) txn (known own before) (known own' now) (ForMemory txn found)
        → OpenedFirst faults B asking txn said (known own0 first) (known own before)
        → GoesBeginning (among told faults B meanwhile) asking said (known own0 first) (known own' now) (Ok (opened.Ended found))
    lacks-gained txn found gained was = record {
      done = (
        txn,
        behind-opened txn was (ForMemory txn found) (Begins first now asking said (opened.Ended found))
            (λ more is. lacked txn was (adds-front faults B rows own own' before now gained.added gained.adds) found more is) gained,
        between-more (IsNextAt txn) first before now (adds-front faults B rows own own' before now gained.added gained.adds)
            (next-opened first before asking txn was.event was.was_opened),
      );
      halted = tt;
    }

    pub lacks-halted : (txn : ℕ) (why : HouseFault) → Halts (among told faults B meanwhile) txn (known own before) (known own' now) why
        → OpenedFirst faults B asking txn said (known own0 first) (known own before)
        → GoesBeginning (among told faults B meanwhile) asking said (known own0 first) (known own' now) (Err why)
    lacks-halted txn why halts was = record {
      done = tt;
      halted = inl (
        txn,
        between-more (IsNextAt txn) first before now (adds-front faults B rows own own' before now halts.added halts.adds)
            (next-opened first before asking txn was.event was.was_opened),
        halts-opened txn why was halts,
      );
    }

  -- ---- answers, as they are put together

  pub started-goes : (first now : ToldHouse D) (own0 own' : List ℕ) (asking : Asking) (said : Stmt) (txn : TxnId) (found : Started) (result : Opened) → result ≡ started_as txn found
      → StartsSo (among told faults B meanwhile) asking txn said (known own0 first) (known own' now) (Ok found)
      → GoesBeginning (among told faults B meanwhile) asking said (known own0 first) (known own' now) (Ok result)
  started-goes first now own0 own' asking said txn found result is starts = record {
    done = subst (λ (o : Opened). GainsSome faults B (faults_in faults first) (known own0 first) (known own' now) (Begins first now asking said o)) (sym is)
        starts;
    halted = tt;
  }

  pub gone-goes : (first now : ToldHouse D) (own0 own' : List ℕ) (asking : Asking) (said : Stmt) (found : Opened)
      → GainsSome faults B (faults_in faults first) (known own0 first) (known own' now) (Begins first now asking said found)
      → GoesBeginning (among told faults B meanwhile) asking said (known own0 first) (known own' now) (Ok found)
  gone-goes first now own0 own' asking said found gained = record { done = gained; halted = tt }

  -- memory lacked before it was opened
  pub hindered-lacks : (first now : ToldHouse D) (own0 own' : List ℕ) (asking : Asking) (said : Stmt)
      → WasHindered faults B said (known own0 first) (known own' now)
      → GoesBeginning (among told faults B meanwhile) asking said (known own0 first) (known own' now) (Ok opened.NoMemory)
  hindered-lacks first now own0 own' asking said was =
      let txn : ℕ = next_number (book_in first) in
      record {
        done = (
          txn,
          gains-none (faults_in faults first) txn own0 own' first now (λ (added : List Entry). added ≡ []) (was.adds txn) was.running refl,
          between-first (IsNextAt txn) first now (adds-front faults B rows own0 own' first now [] (was.adds txn)) refl,
        );
        halted = tt;
      }

  -- and before anything was done
  pub nothing-gained : (own : List ℕ) (house : ToldHouse D) → IsOpenHouse house
      → GainsSome faults B (faults_in faults house) (known own house) (known own house) (λ (added : List Entry). added ≡ [])
  nothing-gained own house running =
      let txn : ℕ = next_number (book_in house) in (
        txn,
        gains-none (faults_in faults house) txn own own house house (λ (added : List Entry). added ≡ []) (adds-none faults B rows own house) running refl,
        between-first (IsNextAt txn) house house (front-itself (trail_in house)) refl,
      )

  pub left-running : (before now : ToldHouse D) (own own' : List ℕ) (asking : Asking) (tree : Stmt) (why : BeginFault)
      → BeginsAtOnce (among told faults B meanwhile) asking tree (known own before) (known own' now) (Err why) → IsLeftRunning now why
  left-running before now own own' asking tree (hindered_by.Held by) at_once = at_once.running
  left-running before now own own' asking tree (hindered_by.Full entries) at_once = at_once.running
  left-running before now own own' asking tree (hindered_by.House why) at_once = tt

  -- it goes on with the session and the text once more
  abbrev GoesOnUnbegun : Moment (ToldHouse D) → Moment (ToldHouse D) → Moment (ToldHouse D) → BeginFault → Result Opened HouseFault → Asking → Type 0
  GoesOnUnbegun first before now why result asking =
      (said : Stmt) → Runs asking.text said → BeginsAtOnce (among told faults B meanwhile) asking said first before (Err why)
      → GoesBeginning (among told faults B meanwhile) asking said first now result

  pub asked-again : (first before now : ToldHouse D) (own0 own own' : List ℕ) (number : ℕ) (why : BeginFault) (result : Result Opened HouseFault)
      (session text name words : List ℕ) → name ≡ session → words ≡ text
      → GoesOnUnbegun (known own0 first) (known own before) (known own' now) why result (record { session = name; number = number; text = words })
      → GoesOnUnbegun (known own0 first) (known own before) (known own' now) why result (record { session = session; number = number; text = text })
  asked-again first before now own0 own own' number why result session text name words e f goes_on =
      subst (λ (s : List ℕ). GoesOnUnbegun (known own0 first) (known own before) (known own' now) why result
      (record { session = s; number = number; text = text })) e
      (subst (λ (t : List ℕ). GoesOnUnbegun (known own0 first) (known own before) (known own' now) why result
      (record { session = name; number = number; text = t })) f goes_on)
