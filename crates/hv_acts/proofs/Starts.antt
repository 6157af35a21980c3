-- A transaction that an act starts, or aborts for what stands in its way.
use Rattle.std.proofs.Common.{◌≡◌, ◌↔◌, inl, ℕ, ◌+◌, Bool, true, false, Option, Some, None, Ok, Err, IsTrue, List, [], ◌∷◌, length, ltb-true, true≢false, refl, sym, ap, ◌∙◌, subst}
use Rattle.std.specs.Prelude.{IsSomeAnd, ◌&&◌, ◌||◌, not, if◌then◌else◌}
use Rattle.std.specs.List.{list_any}
use Rattle.hv_locks.specs.declared.table.Lock.{Lock}
use Rattle.hv_base.specs.declared.ids.TxnId.{TxnId}
use Rattle.hv_shelf.specs.Disk.{Store}
use Rattle.hv_history.specs.declared.entry.Entry.{Entry}
use Rattle.hv_history.specs.declared.entry.Entry.TheVariants as entry
use Rattle.hv_history.specs.declared.entry.Cause.{Cause}
use Rattle.hv_history.specs.declared.entry.Cause.TheVariants as cause
use Rattle.hv_history.specs.declared.state.Transaction.{Transaction}
use Rattle.hv_history.specs.State.{State, state_of, numbered}
use Rattle.hv_history.specs.Legal.{Of, is_open, is_started, locks_of, first_holder, holds_against, IsRunning, IsWaiting, StartFits, BlockedFits, FullFits, CauseIsTrue, profile}
use Rattle.hv_trail.specs.declared.trail.TrailItem.{TrailItem}
use Rattle.hv_trail.specs.Trail.{book_of, state_at}
use Rattle.hv_trail.specs.Kept.{trail_of}
use Rattle.hv_trail.specs.Steps.{Note, Done, Step}
use Rattle.hv_telling.specs.hv_house.specs.declared.house.House.{House}
use Rattle.hv_telling.specs.hv_house.specs.declared.fault.HouseFault.{HouseFault}
use Rattle.hv_telling.specs.hv_house.specs.House.{entries_of}
use Rattle.hv_telling.specs.hv_house.specs.Steps.{seen_of, fault_outcome}
use Rattle.hv_telling.specs.Telling.{IsWhole}
use Rattle.hv_acts.specs.declared.aborted.Aborted.{Aborted}
use Rattle.hv_acts.specs.declared.starting.Started.TheVariants as started
use Rattle.hv_acts.specs.declared.fault.ActFault.{ActFault}
use Rattle.hv_acts.specs.declared.fault.ActFault.TheVariants as act
use Rattle.hv_acts.specs.Answers.{call_behind, act_outcome, NoTest, StartTest, EntryFits, own_entry, EntryStep, aborted_line}
use Rattle.hv_acts.specs.Aborting.{AbortStep, is_full, abort_of}
use Rattle.hv_acts.specs.Starting.{start_entry, entry_to_start, to_start, WaitsWithoutRoom, WaitsInFull, IsShort, IsInItsWay, StartOrAbortStep}
use Rattle.hv_acts.specs.Waiting.{IsHeld, StartStep}
use Rattle.hv_acts.specs.Meant.{IsCauseTrue, RestsOnStart}
use Rattle.hv_acts.proofs.Steps.{asked, whole-keeps}
use Rattle.hv_acts.proofs.Notes.{why-for}
use Rattle.hv_acts.proofs.Puts.{runs-of, not-running}
use Rattle.hv_acts.proofs.Aborts.{is-full, room-of}

-- ---- whether it waits and has no room

unstarted : (t : Transaction) → (IsRunning t → ⊥) → IsTrue (is_open t) → IsWaiting t
unstarted t idle unended = by (is_started t) refl
  where
    by : (b : Bool) → is_started t ≡ b → IsWaiting t
    by true e = absurd (idle (record { unended = unended; started = e }))
    by false e = record { unended = unended; unstarted = e }

full-waits : (state : State) (o : Option Transaction) → (IsSomeAnd o IsRunning → ⊥) → IsSomeAnd o (FullFits profile state)
    → IsSomeAnd o (WaitsWithoutRoom state)
full-waits state None idle full = absurd full
full-waits state (Some t) idle full = (unstarted t idle full.unended, full)

waits-full : (state : State) (o : Option Transaction) → IsSomeAnd o (WaitsWithoutRoom state) → IsSomeAnd o (FullFits profile state)
waits-full state None waits = absurd waits
waits-full state (Some t) waits = waits.1

waits-idle : (state : State) (o : Option Transaction) → IsSomeAnd o IsRunning → IsSomeAnd o (WaitsWithoutRoom state) → ⊥
waits-idle state None runs waits = absurd waits
waits-idle state (Some t) runs waits = true≢false (sym runs.started ∙ waits.0.unstarted)

module _ {D : Type 0} (house : House D) (txn : TxnId) (entries : List Entry) (are : entries ≡ entries_of house) where
  pub full-idle : (runs full : Bool) → (Of (state_of entries) txn.0 IsRunning → IsTrue runs) → runs ≡ false
      → IsTrue full ↔ Of (state_at (trail_of house.trail)) txn.0 (FullFits profile (state_at (trail_of house.trail)))
      → IsTrue full ↔ WaitsInFull (trail_of house.trail) txn
  full-idle runs full tests is tested =
      let there : Option Transaction = numbered (state_at (trail_of house.trail)).transactions txn.0 in (
        λ so. full-waits (state_at (trail_of house.trail)) there (not-running house txn entries runs are tests is) (tested.0 so),
        λ waits. tested.1 (waits-full (state_at (trail_of house.trail)) there waits),
      )

  pub not-idle : (runs : Bool) → (IsTrue runs → Of (state_of entries) txn.0 IsRunning) → runs ≡ true → IsTrue (not runs) ↔ WaitsInFull (trail_of house.trail) txn
  not-idle runs tests is = (
    λ so. absurd (true≢false (sym so ∙ ap not is)),
    λ waits. absurd (waits-idle (state_at (trail_of house.trail)) (numbered (state_at (trail_of house.trail)).transactions txn.0)
        (runs-of house txn entries are (tests is)) waits),
  )

-- ---- what is noted

-- of one that waits
waits-entry : (state : State) (txn : TxnId) (t : Transaction) → IsWaiting t
    → entry_to_start state txn (Some t) ≡ start_entry txn (is_full state) (first_holder (locks_of t) 1 state.transactions)
waits-entry state txn t waits =
    ap (λ b. if b && not (is_started t) then start_entry txn (is_full state) (first_holder (locks_of t) 1 state.transactions) else entry.Start txn 0) waits.unended
    ∙ ap (λ b. if not b then start_entry txn (is_full state) (first_holder (locks_of t) 1 state.transactions) else entry.Start txn 0) waits.unstarted

held-entry : (state : State) (txn by : TxnId) (o : Option Transaction) → IsSomeAnd o (BlockedFits state by.0) → entry_to_start state txn o ≡ entry.Abort txn (cause.Blocked by)
held-entry state txn by None held = absurd held
held-entry state txn by (Some t) held = waits-entry state txn t held.waiting ∙ ap (start_entry txn (is_full state)) held.held

-- nobody holds a lock against one that waits
unheld-none : (state : State) (t : Transaction) → IsWaiting t → ((by : ℕ) → BlockedFits state by t → ⊥) → first_holder (locks_of t) 1 state.transactions ≡ None
unheld-none state t waits unheld = by (first_holder (locks_of t) 1 state.transactions) refl
  where
    by : (f : Option ℕ) → first_holder (locks_of t) 1 state.transactions ≡ f → first_holder (locks_of t) 1 state.transactions ≡ None
    by None e = e
    by (Some n) e = absurd (unheld n (record { waiting = waits; held = e }))

held-any : (b : Bool) (number : ℕ) (rest : Option ℕ) (more : Bool) → (rest ≡ None → more ≡ false) → (if b then Some number else rest) ≡ None → b || more ≡ false
held-any true number rest more f none = cc
held-any false number rest more f none = f none

-- so no lock conflicts with its own
unheld-all : (locks : List Lock) (number : ℕ) (ts : List Transaction) → first_holder locks number ts ≡ None → list_any (holds_against locks) ts ≡ false
unheld-all locks number [] none = refl
unheld-all locks number (t ∷ ts) none =
    held-any (holds_against locks t) number (first_holder locks (number + 1) ts) (list_any (holds_against locks) ts) (unheld-all locks (number + 1) ts) none

-- where it waits, nobody holds a lock against it and there is room, its Start fits
start-fits : (state : State) (o : Option Transaction) → (IsSomeAnd o (WaitsWithoutRoom state) → ⊥) → ((by : ℕ) → IsSomeAnd o (BlockedFits state by) → ⊥)
    → IsSomeAnd o IsWaiting → IsSomeAnd o (StartFits profile state 0)
start-fits state None free unheld waits = absurd waits
start-fits state (Some t) free unheld waits = record {
  waiting = waits;
  first = refl;
  unlocked = unheld-all (locks_of t) 1 state.transactions (unheld-none state t waits unheld);
  room = room-of state t waits.unended (λ full. free (waits, full));
}

full-entry : (state : State) (txn : TxnId) (o : Option Transaction) → IsSomeAnd o (WaitsWithoutRoom state)
    → ((by : ℕ) → IsSomeAnd o (BlockedFits state by) → ⊥) → entry_to_start state txn o ≡ entry.Abort txn cause.Full
full-entry state txn None waits unheld = absurd waits
full-entry state txn (Some t) waits unheld =
    waits-entry state txn t waits.0 ∙ ap (start_entry txn (is_full state)) (unheld-none state t waits.0 unheld)
    ∙ ap (λ b. start_entry txn b None) (is-full state (Some t) waits.1)

free-by : (state : State) (txn : TxnId) (t : Transaction) (open_ begun full : Bool) → is_open t ≡ open_ → is_started t ≡ begun → is_full state ≡ full
    → (WaitsWithoutRoom state t → ⊥) → ((by : ℕ) → BlockedFits state by t → ⊥) → entry_to_start state txn (Some t) ≡ entry.Start txn 0
free-by state txn t false begun full is was room free unheld =
    ap (λ b. if b && not (is_started t) then start_entry txn (is_full state) (first_holder (locks_of t) 1 state.transactions) else entry.Start txn 0) is
free-by state txn t true true full is was room free unheld =
    ap (λ b. if b && not (is_started t) then start_entry txn (is_full state) (first_holder (locks_of t) 1 state.transactions) else entry.Start txn 0) is
    ∙ ap (λ b. if not b then start_entry txn (is_full state) (first_holder (locks_of t) 1 state.transactions) else entry.Start txn 0) was
free-by state txn t true false true is was room free unheld =
    absurd (free (record { unended = is; unstarted = was }, record { unended = is; full = ltb-true _ _ room }))
free-by state txn t true false false is was room free unheld =
    let waits : IsWaiting t = record { unended = is; unstarted = was } in
    waits-entry state txn t waits ∙ ap (start_entry txn (is_full state)) (unheld-none state t waits unheld) ∙ ap (λ b. start_entry txn b None) room

free-entry : (state : State) (txn : TxnId) (o : Option Transaction) → (IsSomeAnd o (WaitsWithoutRoom state) → ⊥)
    → ((by : ℕ) → IsSomeAnd o (BlockedFits state by) → ⊥) → entry_to_start state txn o ≡ entry.Start txn 0
free-entry state txn None free unheld = refl
free-entry state txn (Some t) free unheld = free-by state txn t (is_open t) (is_started t) (is_full state) refl refl refl free unheld

module _ (trail : List TrailItem) (txn : TxnId) where
  pub to-held : (by : TxnId) → IsHeld trail txn by → to_start trail txn ≡ entry.Abort txn (cause.Blocked by)
  unfolding to_start
  to-held by held = held-entry (state_at trail) txn by (numbered (state_at trail).transactions txn.0) held

  pub to-full : WaitsInFull trail txn → ((by : TxnId) → IsHeld trail txn by → ⊥) → to_start trail txn ≡ entry.Abort txn cause.Full
  unfolding to_start
  to-full waits unheld = full-entry (state_at trail) txn (numbered (state_at trail).transactions txn.0) waits (λ n. unheld (record { 0 = n }))

  to-free : (WaitsInFull trail txn → ⊥) → ((by : TxnId) → IsHeld trail txn by → ⊥) → to_start trail txn ≡ entry.Start txn 0
  unfolding to_start
  to-free free unheld = free-entry (state_at trail) txn (numbered (state_at trail).transactions txn.0) free (λ n. unheld (record { 0 = n }))

-- ---- what stands in its way, and is true

short-of : (state : State) (o : Option Transaction) → IsSomeAnd o (WaitsWithoutRoom state) → ((by : ℕ) → IsSomeAnd o (BlockedFits state by) → ⊥)
    → IsSomeAnd o (IsShort state)
short-of state None waits unheld = absurd waits
short-of state (Some t) waits unheld = record { waiting = waits.0; full = waits.1; unheld = unheld }

full-truly : (state : State) (o : Option Transaction) → IsSomeAnd o (WaitsWithoutRoom state) → IsSomeAnd o (CauseIsTrue state cause.Full)
full-truly state None waits = absurd waits
full-truly state (Some t) waits = inl waits.0.unstarted

held-truly : (state : State) (by : TxnId) (o : Option Transaction) → IsSomeAnd o (BlockedFits state by.0) → IsSomeAnd o (CauseIsTrue state (cause.Blocked by))
held-truly state by None held = absurd held
held-truly state by (Some t) held = tt

module _ (trail : List TrailItem) (txn : TxnId) where
  pub full-fits : WaitsInFull trail txn → Of (state_at trail) txn.0 (FullFits profile (state_at trail))
  full-fits waits = waits-full (state_at trail) (numbered (state_at trail).transactions txn.0) waits

  pub full-true : WaitsInFull trail txn → IsCauseTrue trail txn cause.Full
  full-true waits = full-truly (state_at trail) (numbered (state_at trail).transactions txn.0) waits

  pub held-true : (by : TxnId) → IsHeld trail txn by → IsCauseTrue trail txn (cause.Blocked by)
  held-true by held = held-truly (state_at trail) by (numbered (state_at trail).transactions txn.0) held

  pub rests-start : (WaitsInFull trail txn → ⊥) → ((by : TxnId) → IsHeld trail txn by → ⊥) → RestsOnStart trail txn → EntryFits trail (entry.Start txn 0)
  rests-start free unheld waits =
      start-fits (state_at trail) (numbered (state_at trail).transactions txn.0) free (λ n. unheld (record { 0 = n })) waits

  pub full-way : WaitsInFull trail txn → ((by : TxnId) → IsHeld trail txn by → ⊥) → IsInItsWay trail txn cause.Full
  full-way waits unheld = short-of (state_at trail) (numbered (state_at trail).transactions txn.0) waits (λ n. unheld (record { 0 = n }))

-- ---- who holds a lock against it

pub same-holder : (o : Option TxnId) (by other : TxnId) → o ≡ Some by → o ≡ Some other → by ≡ other
same-holder o by other e f = let both : Some by ≡ Some other = sym e ∙ f in cc

pub none-held : (o : Option TxnId) (by : TxnId) (P : Type 0) → o ≡ None → (o ≡ Some by) ↔ P → P → ⊥
none-held o by P none same is = let both : None ≡ Some by = sym none ∙ same.1 is in absurd (cc)

-- ---- the step of one that starts

module _ {D : Type 0} (told : D → Option Store) (faults : D → ℕ) (txn : TxnId) where
  pub start-held : (by : TxnId) (house : House D) → IsWhole told house → IsHeld (trail_of house.trail) txn by
      → ((other : TxnId) → IsHeld (trail_of house.trail) txn other → by ≡ other) → StartStep told faults txn house house (Err (act.Held by))
  start-held by house whole held only = record {
    keeps = whole-keeps told house whole;
    step = asked told faults (seen_of house);
    answers = record { answers = (tt, held); held = only };
    leaves = whole.ready.kept.running;
  }

  pub start-short : (entries : ℕ) (house : House D) → IsWhole told house → entries ≡ length (book_of (trail_of house.trail))
      → Of (state_at (trail_of house.trail)) txn.0 (FullFits profile (state_at (trail_of house.trail)))
      → ((by : TxnId) → IsHeld (trail_of house.trail) txn by → ⊥) → StartStep told faults txn house house (Err (act.Full entries))
  start-short entries house whole count full unheld = record {
    keeps = whole-keeps told house whole;
    step = asked told faults (seen_of house);
    answers = record { answers = (tt, count, full); held = λ by held. absurd (unheld by held) };
    leaves = whole.ready.kept.running;
  }

  pub start-noted : (place : ℕ) (before now : House D) → ((by : TxnId) → IsHeld (trail_of before.trail) txn by → ⊥)
      → place ≡ length (book_of (trail_of before.trail)) → EntryStep {T = Unit {0}} told faults (own_entry txn (entry.Start txn 0)) before now (Ok tt)
      → StartStep told faults txn before now (Ok place)
  start-noted place before now unheld is s = record {
    keeps = s.keeps;
    step = s.step;
    answers = record { answers = (s.answers.0, is); held = λ by held. absurd (unheld by held) };
    leaves = s.leaves;
  }

  pub start-refused : (why : ActFault) (before now : House D) → (Of (state_at (trail_of before.trail)) txn.0 (FullFits profile (state_at (trail_of before.trail))) → ⊥)
      → ((by : TxnId) → IsHeld (trail_of before.trail) txn by → ⊥)
      → EntryStep {T = Unit {0}} told faults (own_entry txn (entry.Start txn 0)) before now (Err why) → StartStep told faults txn before now (Err why)
  start-refused why before now room unheld s = record {
    keeps = s.keeps;
    step = s.step;
    answers = record {
      answers = why-for StartTest (trail_of before.trail) txn _ (RestsOnStart (trail_of before.trail) txn)
          (rests-start (trail_of before.trail) txn (λ waits. room (full-fits (trail_of before.trail) txn waits)) unheld) why s.answers;
      held = λ by held. absurd (unheld by held);
    };
    leaves = s.leaves;
  }

  -- ---- the step of one that starts or is aborted

  pub stop-aborted : (why : Cause) (aborted : Aborted) (before now : House D) → IsInItsWay (trail_of before.trail) txn why
      → AbortStep told faults (abort_of txn why (aborted_line why)) before now (Ok aborted)
      → StartOrAbortStep told faults txn before now (Ok (started.Aborted aborted))
  stop-aborted why aborted before now way s = record {
    keeps = s.keeps;
    step = subst (λ (w : Cause). Step told faults (Note (entry.Abort txn w)) Done (seen_of before) (seen_of now)) (sym s.tells.cause_is) s.step;
    answers = (
      record { place = s.tells.place; line = s.tells.line_is ∙ ap aborted_line (sym s.tells.cause_is) },
      subst (IsInItsWay (trail_of before.trail) txn) (sym s.tells.cause_is) way,
    );
    leaves = s.running;
  }

  pub stop-halted : (why : Cause) (fault : HouseFault) (before now : House D) → to_start (trail_of before.trail) txn ≡ entry.Abort txn why
      → AbortStep told faults (abort_of txn why (aborted_line why)) before now (Err fault) → StartOrAbortStep told faults txn before now (Err (act.House fault))
  stop-halted why fault before now is s = record {
    keeps = s.keeps;
    step = subst (λ (e : Entry). Step told faults (Note e) (fault_outcome fault) (seen_of before) (seen_of now)) (sym is) s.step;
    answers = tt;
    leaves = s.leaves;
  }

  pub go-noted : (place : ℕ) (before now : House D) → place ≡ length (book_of (trail_of before.trail))
      → EntryStep {T = Unit {0}} told faults (own_entry txn (entry.Start txn 0)) before now (Ok tt)
      → StartOrAbortStep told faults txn before now (Ok (started.At place))
  go-noted place before now is s = record { keeps = s.keeps; step = s.step; answers = (s.answers.0, is); leaves = s.leaves }

  pub go-refused : (why : ActFault) (before now : House D) → (WaitsInFull (trail_of before.trail) txn → ⊥)
      → ((by : TxnId) → IsHeld (trail_of before.trail) txn by → ⊥)
      → EntryStep {T = Unit {0}} told faults (own_entry txn (entry.Start txn 0)) before now (Err why) → StartOrAbortStep told faults txn before now (Err why)
  go-refused why before now free unheld s = record {
    keeps = s.keeps;
    step =
        subst (λ (e : Entry). Step told faults (call_behind (Note e) why) (act_outcome why) (seen_of before) (seen_of now))
        (sym (to-free (trail_of before.trail) txn free unheld)) s.step;
    answers = why-for NoTest (trail_of before.trail) txn _ (RestsOnStart (trail_of before.trail) txn) (rests-start (trail_of before.trail) txn free unheld) why s.answers;
    leaves = s.leaves;
  }
