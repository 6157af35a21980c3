-- Where nobody else acts, a statement that was opened is carried to its end or to its hold as over a house alone.
use Rattle.std.proofs.Common.{◌≡◌, ℕ, ◌+◌, Option, Some, None, List, [], ◌∷◌, ◌++◌, take, refl, sym, ap, ◌∙◌, subst, append_assoc, Ok, Err, Result, inl, inr}
use Rattle.std.specs.Prelude.{IsSomeAnd, IfOk, IfErr}
use Rattle.std.specs.List.{AllByRecursion}
use Rattle.std.proofs.lemmas.List.{append_cancel_left}
use Rattle.hv_base.specs.declared.gate.Stage.{Stage}
use Rattle.hv_base.specs.declared.gate.Stage.TheVariants as stage
use Rattle.hv_shelf.specs.Disk.{Store}
use Rattle.hv_ast.specs.declared.statement.Stmt.{Stmt}
use Rattle.hv_built.specs.Running.{Runs}
use Rattle.hv_history.specs.declared.entry.Entry.{Entry}
use Rattle.hv_history.specs.declared.entry.Cause.{Cause}
use Rattle.hv_history.specs.declared.state.Transaction.{Transaction}
use Rattle.hv_history.specs.State.{state_of, meaning, numbered}
use Rattle.hv_history.specs.Legal.{Of, profile, HasAsked}
use Rattle.hv_stands.specs.Running.{meant, Asking, next_number, opening, starting, IsUnderWay}
use Rattle.hv_stands.proofs.Begun.{begins}
use Rattle.hv_trail.specs.declared.trail.TrailItem.{TrailItem}
use Rattle.hv_law_next.specs.Order.{AllInOrder}
use Rattle.hv_law_next.specs.Carrying.{IsAtHold, HasAskedAt}
use Rattle.hv_beginning.specs.hv_steps.specs.hv_table_reader.specs.hv_acts.specs.hv_telling.specs.hv_house.specs.declared.fault.HouseFault.{HouseFault}
use Rattle.hv_beginning.specs.hv_steps.specs.hv_table_reader.specs.hv_acts.specs.hv_telling.specs.hv_house.specs.declared.house.House.{House}
use Rattle.hv_beginning.specs.hv_steps.specs.hv_table_reader.specs.hv_acts.specs.hv_telling.specs.hv_house.specs.House.{entries_of, beginning_of}
use Rattle.hv_beginning.specs.hv_steps.specs.hv_table_reader.specs.hv_acts.specs.hv_telling.specs.hv_house.specs.Asking.{CanBegin}
use Rattle.hv_beginning.specs.hv_steps.specs.hv_table_reader.specs.hv_acts.specs.hv_telling.proofs.Told.{told-stays}
use Rattle.hv_beginning.specs.hv_steps.specs.hv_table_reader.specs.hv_acts.specs.declared.told.ToldHouse.{ToldHouse}
use Rattle.hv_beginning.specs.hv_steps.specs.hv_table_reader.specs.hv_acts.specs.Told.{IsWholeOrClosed}
use Rattle.hv_beginning.proofs.Openings.{begun-under, one-tree}
use Rattle.hv_beginning.specs.hv_steps.specs.declared.ready.Way.{Way}
use Rattle.hv_beginning.specs.hv_steps.specs.declared.reply.Done.{Done}
use Rattle.hv_beginning.specs.hv_steps.specs.declared.reply.Done.TheVariants as done
use Rattle.hv_beginning.specs.hv_steps.specs.declared.reply.Opened.TheVariants as opened
use Rattle.hv_session.specs.declared.paused.Point.{Point}
use Rattle.hv_session.specs.declared.paused.Point.TheVariants as point
use Rattle.hv_session.specs.declared.paused.Paused.{Paused}
use Rattle.hv_session.specs.declared.paused.Carried.{Carried}
use Rattle.hv_session.specs.declared.paused.Carried.TheVariants as carried
use Rattle.hv_beginning.specs.hv_steps.specs.Ending.{KeepsCount, aborting}
use Rattle.hv_beginning.specs.hv_steps.specs.Going.{faults_in, IsOpenHouse, GainsSome}
use Rattle.hv_beginning.specs.hv_steps.specs.Phases.{Begins, BegunBy}
use Rattle.hv_session.specs.Doing.{IsHold, up_to}
use Rattle.hv_session.specs.Taking.{IsAtPlace, IsTrulyHeld, EndsBefore, HasAskedAtPoint}
use Rattle.hv_session.specs.Alone.{HasGained}
use Rattle.hv_session.specs.Ways.{ActsAlone, IsPart, IsOnWay, GoesInTime, StandsHeld, StandsTruly, on_course, GoesAlone, HasStarted, IsTurnedAway, IsAnswered, BeginsSo, IsTaking, IsCarriedIn, EndsThrough, IsCarriedAs, asked_up_to, CarriesAlone}
use Rattle.hv_session.proofs.Orders.{at-its-hold, begun-in-order}
use Rattle.hv_session.proofs.Passing.{HasPassed, part-behind, part-taking, passed-part, nothing-passed}
use Rattle.hv_session.proofs.AloneBooks.{adds-alone}
use Rattle.hv_session.proofs.AloneBegins.{why-own}
use Rattle.hv_actor.specs.Acting.{known}

-- ---- what was added behind its Opened and its Start begins with its Opened

begins-front : (first before now more added : List Entry) (asking : Asking) → before ≡ first ++ opening first asking ∷ starting (next_number first) ∷ []
    → now ≡ before ++ more → now ≡ first ++ added → BegunBy asking added
begins-front first before now more added asking book behind is =
    let whole : now ≡ first ++ (opening first asking ∷ starting (next_number first) ∷ more) =
    behind ∙ ap (λ (b : List Entry). b ++ more) book ∙ append_assoc first (opening first asking ∷ starting (next_number first) ∷ []) more in
    let same : opening first asking ∷ starting (next_number first) ∷ more ≡ added =
    append_cancel_left first (opening first asking ∷ starting (next_number first) ∷ more) added (sym whole ∙ is) in
    subst (BegunBy asking) same (refl, refl, refl)

begins-behind : {D T : Type 0} (told : D → Option Store) (faults : D → ℕ) (a b c : House D) (asking : Asking)
    → entries_of b ≡ entries_of a ++ opening (entries_of a) asking ∷ starting (next_number (entries_of a)) ∷ [] → (txn : ℕ) (result : Result T HouseFault)
    → IsPart told faults txn b c result → IfErr result (λ why. (added : List Entry) → entries_of c ≡ entries_of a ++ added → BegunBy asking added)
begins-behind told faults a b c asking book txn (Ok x) part = tt
begins-behind told faults a b c asking book txn (Err why) part = λ added is.
    begins-front (entries_of a) (entries_of b) (entries_of c) part.stopped.added added asking book part.stopped.book is

-- ---- it began: what it goes on to is what it was taken up to

module _ (first before now : List Entry) (asking : Asking) (book : before ≡ first ++ opening first asking ∷ starting (next_number first) ∷ []) where
  begun-book : (added : List Entry) → now ≡ before ++ added → now ≡ first ++ (opening first asking ∷ starting (next_number first) ∷ added)
  begun-book added is =
      is ∙ ap (λ (b : List Entry). b ++ added) book ∙ append_assoc first (opening first asking ∷ starting (next_number first) ∷ []) added

  same-added : (xs ys : List Entry) → now ≡ before ++ xs → now ≡ before ++ ys → xs ≡ ys
  same-added xs ys x y = append_cancel_left before xs ys (sym x ∙ y)

  asked-up : (hold : Option Stage) (at : Point) (txn : ℕ) (t : Transaction) → numbered (state_of now).transactions txn ≡ Some t → IsAtPlace hold at
      → HasAskedAtPoint now txn at → HasAskedAt hold (state_of now) txn t
  asked-up (Some stage.Commit) (point.Ready ready) txn t here place asked =
      subst (λ (o : Option Transaction). IsSomeAnd o (λ (u : Transaction). HasAsked (state_of now) txn u (meaning u))) here asked
  asked-up (Some stage.Commit) point.Started txn t here place asked = absurd place
  asked-up (Some stage.Commit) (point.Meant found) txn t here place asked = absurd place
  asked-up hold at txn t here place asked = tt

  abbrev IsUpTo : Option Stage → ℕ → Transaction → Type 0
  IsUpTo hold txn t = IsAtHold hold t.given (meaning t) × HasAskedAt hold (state_of now) txn t

  kept-up : (hold : Option Stage) (paused : Paused) → paused.way.txn.0 ≡ next_number first → IsAtPlace hold paused.point → IsTrulyHeld now paused
      → Of (state_of now) (next_number first) (IsUpTo hold (next_number first))
  kept-up hold paused txn_is place truly =
      let held = truly.held in
      subst (λ (n : ℕ). Of (state_of now) n (IsUpTo hold n)) txn_is
      (subst (λ (o : Option Transaction). IsSomeAnd o (IsUpTo hold paused.way.txn.0)) (sym held.under_way.here) (
        at-its-hold hold paused.point (meant (take paused.way.place now) paused.tree) held.given place held.unrefused truly.truly,
        asked-up hold paused.point paused.way.txn.0 _ held.under_way.here place truly.asked,
      ))

  goes-carried : (hold : Option Stage) (tree : Stmt) (found : Carried) → Runs asking.text tree → CanBegin profile first tree → StandsHeld now asking found
      → GoesInTime hold (next_number first) before now found → StandsTruly before now (next_number first) found → IsCarriedAs first now asking hold found
  goes-carried hold tree (carried.Ended (done.Gone reply)) runs can stands goes truly = absurd truly
  goes-carried hold tree (carried.Ended (done.Replied reply)) runs can stands goes truly = record {
    added = starting (next_number first) ∷ truly.added;
    book = begun-book truly.added truly.book;
    tree = tree;
    runs = runs;
    starts = inl (can, (truly.added, refl));
    of_it = (refl, truly.of_it);
    in_time = subst (λ (es : List Entry). EndsBefore hold (next_number first) (starting (next_number first) ∷ es)) (same-added goes.added truly.added goes.book truly.book)
        goes.in_time.1;
    undamaged = (tt, truly.undamaged);
    answered = truly.answered;
    in_order = begun-in-order first asking truly.added (subst (λ (b : List Entry). AllInOrder (state_of b) truly.added) book truly.in_order);
  }
  goes-carried hold tree (carried.Kept paused) runs can stands goes truly = record {
    added = starting (next_number first) ∷ goes.added;
    book = begun-book goes.added goes.book;
    txn_is = goes.in_time.0;
    runs = stands.under_way.runs;
    can = subst (CanBegin profile first) (one-tree asking.text tree paused.tree runs stands.under_way.runs) can;
    at_hold = goes.in_time.1;
    truly = truly.0;
    in_order = begun-in-order first asking goes.added
        (subst (λ (b : List Entry). AllInOrder (state_of b) goes.added) book
        (subst (AllInOrder (state_of before)) (same-added truly.1.0 goes.added truly.1.1 goes.book) truly.1.2));
    up_to_hold = kept-up hold paused goes.in_time.0 goes.in_time.2 truly.0;
  }
  goes-carried hold tree (carried.Full entries) runs can stands goes truly = absurd truly
  goes-carried hold tree carried.NoMemory runs can stands goes truly = absurd truly

  goes-kept : (hold : Option Stage) (found : Carried) → GoesInTime hold (next_number first) before now found → StandsHeld now asking found → IsCarriedIn first now asking found
  goes-kept hold (carried.Ended found) goes stands = goes.in_time.0
  goes-kept hold (carried.Kept paused) goes stands = (goes.in_time.0, stands)
  goes-kept hold (carried.Full entries) goes stands = absurd goes.in_time
  goes-kept hold carried.NoMemory goes stands = absurd goes.in_time

  all-kept : (txn : ℕ) → txn ≡ next_number first → (hold : Option Stage) (result : Result Carried HouseFault) → IfOk result (GoesInTime hold txn before now)
      → IfOk result (StandsHeld now asking) → IfOk result (IsCarriedIn first now asking)
  all-kept txn is hold (Err why) goes stands = tt
  all-kept txn is hold (Ok found) goes stands = goes-kept hold found (subst (λ (n : ℕ). GoesInTime hold n before now found) is goes) stands

  all-carried : (txn : ℕ) → txn ≡ next_number first → (hold : Option Stage) (tree : Stmt) (result : Result Carried HouseFault) → Runs asking.text tree
      → CanBegin profile first tree → IfOk result (StandsHeld now asking) → IfOk result (GoesInTime hold txn before now) → IfOk result (StandsTruly before now txn)
      → IfOk result (IsCarriedAs first now asking hold)
  all-carried txn is hold tree (Err why) runs can stands goes truly = tt
  all-carried txn is hold tree (Ok found) runs can stands goes truly =
      goes-carried hold tree found runs can stands (subst (λ (n : ℕ). GoesInTime hold n before now found) is goes)
      (subst (λ (n : ℕ). StandsTruly before now n found) is truly)

renumbered : {D T : Type 0} (told : D → Option Store) (faults : D → ℕ) (before now : House D) (txn number : ℕ) (result : Result T HouseFault) → txn ≡ number
    → IsPart told faults txn before now result → IsPart told faults number before now result
renumbered told faults before now txn number result is part = subst (λ (n : ℕ). IsPart told faults n before now result) is part

-- ---- it never started

never-started : (txn : ℕ) (hold : Option Stage) (why : Cause) → IsHold hold → EndsBefore hold txn (aborting txn why ∷ [])
never-started txn None why is = tt
never-started txn (Some stage.Start) why is = (why, refl)
never-started txn (Some stage.Read) why is = inl (why, refl)
never-started txn (Some stage.Commit) why is = inl (why, refl)
never-started txn (Some stage.Taken) why is = absurd is
never-started txn (Some stage.Replied) why is = absurd is

away-through : (first now : List Entry) (asking : Asking) (said : Stmt) (hold : Option Stage) (found : Done) → Runs asking.text said → IsHold hold
    → IsTurnedAway first now asking said found → IsAnswered now (next_number first) found → EndsThrough first now asking hold found
away-through first now asking said hold (done.Gone reply) runs is away answered = absurd answered
away-through first now asking said hold (done.Replied reply) runs is away answered = record {
  added = aborting (next_number first) away.why ∷ [];
  book = away.book;
  tree = said;
  runs = runs;
  starts = inr (away.why, away.is, refl);
  of_it = (why-own first said (next_number first) away.why away.is, tt);
  in_time = never-started (next_number first) hold away.why is;
  undamaged = (away.undamaged, tt);
  answered = answered;
  in_order = away.in_order;
}

module _ {D : Type 0} (told : D → Option Store) (faults : D → ℕ) (B : List TrailItem → Type 0) (meanwhile : ToldHouse D → ToldHouse D → Type 0)
    (acts : ActsAlone B meanwhile) where
  module _ (own own' : List ℕ) (a b : ToldHouse D) (asking : Asking) (said : Stmt) (runs : Runs asking.text said) (running : IsOpenHouse b)
      (kept : IsWholeOrClosed told b.house) where
    -- it was begun, and goes on
    pub started-carries : (way : Way) (hold : Option Stage) (c : ToldHouse D) (result : Result Carried HouseFault)
        → GainsSome faults B (faults_in faults a) (known own a) (known own' b) (Begins a b asking said (opened.Started way))
        → HasStarted (entries_of a.house) (entries_of b.house) asking said way
        → (IsOnWay (entries_of b.house) way said → GoesAlone told faults (on_course way (up_to said hold)) b.house c.house result)
        → CarriesAlone told faults (asked_up_to asking hold) a.house c.house result
    started-carries way hold c result begins started then =
        let v = begins.1 in
        let gained : HasGained faults a b v.added = adds-alone faults B acts.nothing own own' a b v.added v.adds in
        let under : IsUnderWay (entries_of b.house) asking way.txn.0 way.place said [] =
        begun-under (entries_of a.house) (entries_of b.house) asking said way.txn.0 way.place runs started.book started.txn_is started.place_is in
        let goes : GoesAlone told faults (on_course way (up_to said hold)) b.house c.house result = then (asking, under) in
        let passed : HasPassed told faults (next_number (entries_of a.house)) a.house b.house = record {
          whole = kept.whole running;
          start = gained.start;
          added = beginning_of (entries_of a.house) asking;
          book = started.book;
          of_it = (refl, (refl, tt));
          begun = (tt, (tt, tt));
          later = gained.later;
        } in
        record {
          taking = part-taking told faults asking a.house c.house result
              (part-behind told faults (next_number (entries_of a.house)) a.house b.house c.house passed result
              (renumbered told faults b.house c.house way.txn.0 (next_number (entries_of a.house)) result started.txn_is goes.part))
              (begins-behind told faults a.house b.house c.house asking started.book way.txn.0 result goes.part);
          held = all-kept (entries_of a.house) (entries_of b.house) (entries_of c.house) asking started.book way.txn.0 started.txn_is hold result goes.goes
              (goes.stands asking under);
          truly = λ is.
              all-carried (entries_of a.house) (entries_of b.house) (entries_of c.house) asking started.book way.txn.0 started.txn_is hold said result runs started.can
              (goes.stands asking under) goes.goes (goes.truly (told-stays told a.house b.house gained.start is));
        }

    -- nothing was opened
    same-taking : (Is : List Entry → Type 0) (found : Carried) → GainsSome faults B (faults_in faults a) (known own a) (known own' b) Is
        → entries_of b.house ≡ entries_of a.house
        → IsTaking told faults asking a.house b.house (Ok found)
    same-taking Is found begins same =
        let v = begins.1 in
        let gained : HasGained faults a b v.added = adds-alone faults B acts.nothing own own' a b v.added v.adds in
        part-taking told faults asking a.house b.house (Ok found)
        (passed-part told faults (next_number (entries_of a.house)) a.house b.house found
        (nothing-passed told faults (next_number (entries_of a.house)) a.house b.house same gained.start (kept.whole running) gained.later)) tt

    pub full-carries : (hold : Option Stage) (entries : ℕ) → GainsSome faults B (faults_in faults a) (known own a) (known own' b)
        (Begins a b asking said (opened.Full entries))
        → BeginsSo (entries_of a.house) (entries_of b.house) asking said (opened.Full entries)
        → CarriesAlone told faults (asked_up_to asking hold) a.house b.house (Ok (carried.Full entries))
    full-carries hold entries begins so = record {
      taking = same-taking (Begins a b asking said (opened.Full entries)) (carried.Full entries) begins so.book;
      held = so;
      truly = λ is. tt;
    }

    pub unopened-carries : (hold : Option Stage) → GainsSome faults B (faults_in faults a) (known own a) (known own' b) (Begins a b asking said opened.NoMemory)
        → BeginsSo (entries_of a.house) (entries_of b.house) asking said opened.NoMemory
        → CarriesAlone told faults (asked_up_to asking hold) a.house b.house (Ok carried.NoMemory)
    unopened-carries hold begins so = record {
      taking = same-taking (Begins a b asking said opened.NoMemory) carried.NoMemory begins so;
      held = so;
      truly = λ is. tt;
    }

    -- it was turned away
    pub away-carries : (hold : Option Stage) (found : Done) → IsHold hold
        → GainsSome faults B (faults_in faults a) (known own a) (known own' b) (Begins a b asking said (opened.Ended found))
        → BeginsSo (entries_of a.house) (entries_of b.house) asking said (opened.Ended found)
        → CarriesAlone told faults (asked_up_to asking hold) a.house b.house (Ok (carried.Ended found))
    away-carries hold found is begins so =
        let v = begins.1 in
        let gained : HasGained faults a b v.added = adds-alone faults B acts.nothing own own' a b v.added v.adds in
        let away : IsTurnedAway (entries_of a.house) (entries_of b.house) asking said found = so.0 in
        let added : List Entry = opening (entries_of a.house) asking ∷ aborting (next_number (entries_of a.house)) away.why ∷ [] in
        let same : v.added ≡ added = append_cancel_left (entries_of a.house) v.added added (sym gained.book ∙ away.book) in
        record {
          taking = record {
            done = record {
              whole = kept.whole running;
              added = record {
                added = added;
                book = away.book;
                of_it = (refl, (why-own (entries_of a.house) said (next_number (entries_of a.house)) away.why away.is, tt));
                counts = subst (AllByRecursion (KeepsCount (faults_in faults a) (faults_in faults b))) same v.counts;
              };
            };
            start = gained.start;
            stopped = tt;
            opens = λ told_is. tt;
            cause = record { later = gained.later; failed = tt };
          };
          held = away.own;
          truly = λ told_is. away-through (entries_of a.house) (entries_of b.house) asking said hold found runs is away so.1;
        }
