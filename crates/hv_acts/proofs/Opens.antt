-- A transaction that an act opens, and what its Start waits for.
use Rattle.std.proofs.Common.{◌≡◌, ℕ, ◌↔◌, true, false, Option, Some, None, Ok, Err, IsTrue, List, [], ◌∷◌, length, true≢false, eqb-true, eq-eqb, refl, sym, ap, ◌∙◌, subst}
use Rattle.std.specs.Prelude.{◌==◌, ◌&&◌, IsSomeAnd}
use Rattle.hv_base.specs.declared.ids.TxnId.{TxnId}
use Rattle.hv_shelf.specs.Disk.{Store}
use Rattle.hv_ast.specs.declared.statement.Stmt.{Stmt}
use Rattle.hv_logic.specs.Names.{names_in}
use Rattle.hv_book.specs.Briefs.{tree_in}
use Rattle.hv_showing.specs.hv_fits.specs.Texts.{TextsRun}
use Rattle.hv_showing.specs.hv_fits.proofs.LockLemmas.{texts-run, no-text, blocked-law}
use Rattle.hv_history.specs.declared.entry.Entry.{Entry}
use Rattle.hv_history.specs.declared.entry.Entry.TheVariants as entry
use Rattle.hv_history.specs.declared.state.Transaction.{Transaction}
use Rattle.hv_history.specs.State.{State, state_of, numbered}
use Rattle.hv_history.specs.Legal.{Of, Fits, IsWaiting, BlockedFits, HasRoom, first_holder, profile}
use Rattle.hv_built.specs.Running.{Runs}
use Rattle.hv_stands.specs.Running.{next_number}
use Rattle.hv_trail.specs.Trail.{book_of}
use Rattle.hv_trail.specs.Kept.{trail_of}
use Rattle.hv_trail.specs.Steps.{Note, Done, Step}
use Rattle.hv_telling.specs.hv_house.specs.declared.fault.HouseFault.{HouseFault}
use Rattle.hv_telling.specs.hv_house.specs.declared.fault.HouseFault.TheVariants as fault
use Rattle.hv_telling.specs.hv_house.specs.declared.house.House.{House}
use Rattle.hv_telling.specs.hv_house.specs.Faults.{HasRisen}
use Rattle.hv_telling.specs.hv_house.specs.House.{entries_of, IsReady, Leaves, IsHalted}
use Rattle.hv_locks.specs.declared.table.LockState.TheVariants.{Granted, Waiting}
use Rattle.hv_telling.specs.hv_house.specs.Asking.{holder_against, lock_state}
use Rattle.hv_telling.specs.Telling.{IsToldHouse, IsWhole, StaysWhole, StillOpens}
use Rattle.hv_telling.specs.hv_house.specs.Steps.{seen_of, fault_outcome}
use Rattle.hv_acts.specs.declared.fault.ActFault.TheVariants as act
use Rattle.hv_acts.specs.Answers.{EntryFits}
use Rattle.hv_acts.specs.Waiting.{next_txn, next_opened, IsHeld, OpenLeaves, OpenStep}
use Rattle.hv_acts.proofs.Steps.{book-is, asked, whole-keeps, keeps-behind}
use Rattle.hv_acts.proofs.Notes.{fits-trail}

-- ---- what a Start waits for

waits-in : (o : Option Transaction) (state : State) (by : ℕ) → IsSomeAnd o (BlockedFits state by) → IsSomeAnd o IsWaiting
waits-in None state by fits = absurd fits
waits-in (Some t) state by fits = fits.waiting

-- of one that waits, the first holder of its tree's locks
found-by : (state : State) (n by : ℕ) (tree : Stmt) → TextsRun state → Some tree ≡ tree_in (numbered state.transactions n) → Of state n (BlockedFits state by)
    → (f : Option ℕ) → first_holder (names_in tree) 1 state.transactions ≡ f → f ≡ Some by
found-by state n by tree texts at fits None is =
    let never : IsTrue (true && false) =
    (blocked-law state by n tree texts at true false (λ e. waits-in (numbered state.transactions n) state by fits, λ w. refl)
    (λ e. cc, λ (h : first_holder (names_in tree) 1 state.transactions ≡ Some by). let both : None ≡ Some by = sym is ∙ h in cc)).1 fits in
    absurd (true≢false (sym never))
found-by state n by tree texts at fits (Some x) is =
    let same : IsTrue (true && (x == by)) =
    (blocked-law state by n tree texts at true (x == by) (λ e. waits-in (numbered state.transactions n) state by fits, λ w. refl)
    (λ e. is ∙ ap Some (eqb-true x by e), λ (h : first_holder (names_in tree) 1 state.transactions ≡ Some by). let both : Some x ≡ Some by = sym is ∙ h in let here : x ≡ by = cc in eq-eqb x by here)).1 fits in
    ap Some (eqb-true x by same)

-- there is one at most
one-holder : (state : State) (o : Option Transaction) (a b : ℕ) → IsSomeAnd o (BlockedFits state a) → IsSomeAnd o (BlockedFits state b) → a ≡ b
one-holder state None a b first other = absurd first
one-holder state (Some t) a b first other = let both : Some a ≡ Some b = sym first.held ∙ other.held in cc

pub not-held : (o : Option TxnId) (by : TxnId) (P : Type 0) → o ≡ None → (P → ⊥) → (o ≡ Some by) ↔ P
not-held o by P none not = (λ e. let both : None ≡ Some by = sym none ∙ e in absurd (cc), λ p. absurd (not p))

module _ {D : Type 0} (told : D → Option Store) (house : House D) (ready : IsReady told house) (txn : TxnId) where
  abbrev held-in : List Entry → TxnId → Type 0
  held-in book by = Of (state_of book) txn.0 (BlockedFits (state_of book) by.0)

  to-trail : (by : TxnId) → held-in (entries_of house) by → IsHeld (trail_of house.trail) txn by
  to-trail by held = subst (λ (book : List Entry). held-in book by) (sym (book-is house)) held

  of-trail : (by : TxnId) → IsHeld (trail_of house.trail) txn by → held-in (entries_of house) by
  of-trail by held = subst (λ (book : List Entry). held-in book by) (book-is house) held

  -- no text, no transaction
  pub textless : None ≡ tree_in (numbered (state_of (entries_of house)).transactions txn.0) → (by : TxnId) → IsHeld (trail_of house.trail) txn by → ⊥
  textless none by held =
      true≢false (sym ((no-text (state_of (entries_of house)) txn.0 (BlockedFits (state_of (entries_of house)) by.0) (texts-run profile (entries_of house) ready.fit) none).1 (of-trail by held)))

  -- the one that was found is the one
  pub held-there : (blocker : TxnId) → held-in (entries_of house) blocker → (by : TxnId) → (Some blocker ≡ Some by) ↔ IsHeld (trail_of house.trail) txn by
  held-there blocker here by = (
    λ e. let same : blocker ≡ by = cc in to-trail by (subst (held-in (entries_of house)) same here),
    λ held. let same : blocker.0 ≡ by.0 = one-holder (state_of (entries_of house)) (numbered (state_of (entries_of house)).transactions txn.0) blocker.0 by.0 here (of-trail by held) in
        λ i. Some (record { 0 = same i }),
  )

  -- the house's test finds no other
  pub held-found : (tree : Stmt) → Some tree ≡ tree_in (numbered (state_of (entries_of house)).transactions txn.0) → (f : Option ℕ)
      → holder_against (entries_of house) tree ≡ f → (by : TxnId) → IsHeld (trail_of house.trail) txn by → f ≡ Some by.0
  held-found tree at f is by held =
      found-by (state_of (entries_of house)) txn.0 by.0 tree (texts-run profile (entries_of house) ready.fit) at (of-trail by held) f is

  -- another than the one that waits for it by the house's test would be that one
  pub other-unheld : (tree : Stmt) (blocker : TxnId) → Some tree ≡ tree_in (numbered (state_of (entries_of house)).transactions txn.0)
      → Waiting blocker ≡ lock_state (holder_against (entries_of house) tree) → (held-in (entries_of house) blocker → ⊥)
      → (by : TxnId) → IsHeld (trail_of house.trail) txn by → ⊥
  other-unheld tree blocker at waits not by held =
      let found : holder_against (entries_of house) tree ≡ Some by.0 = held-found tree at (holder_against (entries_of house) tree) refl by held in
      let both : Waiting blocker ≡ Waiting by = waits ∙ ap lock_state found in
      let same : by ≡ blocker = cc in
      not (subst (held-in (entries_of house)) same (of-trail by held))

  pub granted-unheld : (tree : Stmt) → Some tree ≡ tree_in (numbered (state_of (entries_of house)).transactions txn.0)
      → Granted ≡ lock_state (holder_against (entries_of house) tree) → (by : TxnId) → IsHeld (trail_of house.trail) txn by → ⊥
  granted-unheld tree at granted by held =
      let found : holder_against (entries_of house) tree ≡ Some by.0 = held-found tree at (holder_against (entries_of house) tree) refl by held in
      let both : Granted ≡ Waiting by = granted ∙ ap lock_state found in
      cc

-- ---- its number

pub next-of : {D : Type 0} (house : House D) (txn : TxnId) → txn.0 ≡ next_number (entries_of house) → txn ≡ next_txn (trail_of house.trail)
next-of house txn is = λ i. record { 0 = (is ∙ ap next_number (sym (book-is house))) i }

-- ---- its step

module _ {D : Type 0} (told : D → Option Store) (faults : D → ℕ) (session : List ℕ) (number : ℕ) (text : List ℕ) (txn : TxnId) where
  abbrev event : Entry
  event = entry.Opened txn session number text

  -- it is the next one's
  event-is : (house : House D) → txn.0 ≡ next_number (entries_of house) → event ≡ next_opened (trail_of house.trail) session number text
  event-is house next = λ i. entry.Opened (next-of house txn next i) session number text

  pub open-done : (before now : House D) → IsWhole told before → IsWhole told now → txn.0 ≡ next_number (entries_of before) → Fits profile (state_of (entries_of before)) event
      → Step told faults (Note event) Done (seen_of before) (seen_of now)
      → OpenStep told faults (record { session = session; number = number; text = text }) before now (Ok txn)
  open-done before now was whole next fits step = record {
    keeps = whole-keeps told now whole;
    step = subst (λ (e : Entry). Step told faults (Note e) Done (seen_of before) (seen_of now)) (event-is before next) step;
    answers = (
      subst (λ (book : List Entry). HasRoom profile (state_of book) 2) (sym (book-is before)) fits.room,
      next-of before txn next,
    );
    leaves = was.ready.kept.running;
  }

  pub open-full : (tree : Stmt) (entries : ℕ) (house : House D) → IsWhole told house → Runs text tree → txn.0 ≡ next_number (entries_of house)
      → entries ≡ length (book_of (trail_of house.trail)) → (Fits profile (state_of (entries_of house)) event → ⊥)
      → OpenStep told faults (record { session = session; number = number; text = text }) house house (Err (act.Full entries))
  open-full tree entries house whole runs next count not = record {
    keeps = whole-keeps told house whole;
    step = asked told faults (seen_of house);
    answers = (
      count,
      λ room. not (record {
        next = next;
        statement = (tree, runs);
        room = subst (λ (book : List Entry). HasRoom profile (state_of book) 2) (book-is house) room;
      }),
    );
    leaves = whole.ready.kept.running;
  }

  -- what it may have left
  opening-leaves : (why : HouseFault) (before now : House D) → before.trail.closed ≡ false → txn.0 ≡ next_number (entries_of before)
      → Fits profile (state_of (entries_of before)) event → IsHalted told event why before now → HasRisen (faults before.shelf) (faults now.shelf) why
      → OpenLeaves told faults (record { session = session; number = number; text = text }) (seen_of before) (seen_of now) (Err (act.House why))
  opening-leaves fault.Store before now running next fits halted risen = λ open_. (
    record {
      fits = subst (EntryFits (trail_of before.trail)) (event-is before next) (fits-trail before event fits);
      leaves =
          subst (λ (e : Entry). Leaves fault.Store (e ∷ []) (told now.shelf) (book_of (trail_of before.trail))) (event-is before next)
          (subst (λ (book : List Entry). Leaves fault.Store (event ∷ []) (told now.shelf) book) (sym (book-is before)) halted.leaves);
    },
    risen,
  )
  opening-leaves fault.NoMemory before now running next fits halted risen = running
  opening-leaves (fault.Failed count) before now running next fits halted risen = running

  pub open-failed : (why : HouseFault) (before now : House D) → IsWhole told before → txn.0 ≡ next_number (entries_of before)
      → Fits profile (state_of (entries_of before)) event → StaysWhole told why now → IsHalted told event why before now
      → HasRisen (faults before.shelf) (faults now.shelf) why → (IsToldHouse told before → StillOpens told now) → now.start ≡ before.start
      → Step told faults (Note event) (fault_outcome why) (seen_of before) (seen_of now)
      → OpenStep told faults (record { session = session; number = number; text = text }) before now (Err (act.House why))
  open-failed why before now was next fits stays halted risen opens start step = record {
    keeps = keeps-behind told before now why was stays opens start step.closed;
    step = subst (λ (e : Entry). Step told faults (Note e) (fault_outcome why) (seen_of before) (seen_of now)) (event-is before next) step;
    answers = tt;
    leaves = opening-leaves why before now was.ready.kept.running next fits halted risen;
  }
