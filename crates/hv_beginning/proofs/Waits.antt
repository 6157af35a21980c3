-- A statement that was opened waits while it has neither started nor ended, in a book that fits: no entry but its Start and its end changes it.
use Rattle.std.proofs.Common.{◌≡◌, ℕ, ◌==◌, Bool, true, false, cond, Option, Some, None, List, [], ◌∷◌, ◌++◌, fold, refl, sym, ap, ◌∙◌, subst, length}
use Rattle.std.specs.Prelude.{IsSomeAnd, IsTrue, IsFalse, is_some}
use Rattle.std.proofs.lemmas.List.Sums.{fold-append}
use Rattle.hv_base.specs.declared.ids.Limits.{Limits}
use Rattle.hv_ast.specs.declared.statement.Stmt.{Stmt}
use Rattle.hv_history.specs.declared.entry.Entry.{Entry}
use Rattle.hv_history.specs.declared.entry.Entry.TheVariants as entry
use Rattle.hv_history.specs.declared.state.Snapshot.{Snapshot}
use Rattle.hv_history.specs.declared.state.Transaction.{Transaction}
use Rattle.hv_history.specs.declared.state.Ending.{Ending}
use Rattle.hv_history.specs.declared.state.Ending.TheVariants.{Committed, Aborted, Made, Dropped}
use Rattle.hv_history.specs.State.{State, nothing_yet, numbered, changed, first_of, while_open, opened, started, given_id, did, committed, ended, acted, after, state_of}
use Rattle.hv_history.specs.Legal.{Of, is_started, GivenFits, Fits, AllFit, profile}
use Rattle.hv_history.specs.Legal.{IsWaiting as WaitsNow}
use Rattle.hv_history.proofs.LastingLaws.{kept-more, kept-changed}
use Rattle.hv_stands.specs.Running.{Asking, IsWaiting}
use Rattle.hv_stands.specs.Statements.{AllFitting}
use Rattle.hv_stands.proofs.Numbers.{found, numbered-changed}
use Rattle.hv_stands.proofs.Keeping.{still-open, open-by}
use Rattle.hv_trail.specs.declared.trail.TrailItem.{TrailItem}
use Rattle.hv_trail.specs.Trail.{book_of, state_at}
use Rattle.hv_trail.proofs.LastingLaws.{book-append}
use Rattle.hv_trail.proofs.KeptLaws.{trail-book}
use Rattle.hv_shelf.specs.Disk.{Store}
use Rattle.hv_steps.specs.hv_table_reader.specs.hv_acts.specs.declared.told.ToldHouse.{ToldHouse}
use Rattle.hv_steps.specs.hv_table_reader.specs.hv_acts.specs.Told.{IsWholeOrClosed, book_in}
use Rattle.hv_steps.specs.Going.{IsOpenHouse, HasWaited}

some-first : (o : Option Snapshot) (s : Snapshot) → first_of o s ≡ None → ⊥
some-first None s e = let never : Some s ≡ None = e in cc
some-first (Some b) s e = let never : Some b ≡ None = e in cc

none-started : (o : Option Snapshot) → IsFalse (is_some o) → o ≡ None
none-started None h = refl
none-started (Some s) h = let never : true ≡ false = h in cc

module _ (session : List ℕ) (number : ℕ) (text : List ℕ) where
  -- while it has neither started nor ended it is as it was opened
  record Waits (t : Transaction) : Type 0 where
    is : t.ending ≡ None → t.snapshot ≡ None → t ≡ opened session number text

  abbrev Keeps : Transaction → Transaction → Type 0
  Keeps t u = Waits t → Waits u

  keeps-same : (t : Transaction) → Keeps t t
  keeps-same t waits = waits

  keeps-open : (f : Transaction → Transaction) → ((t : Transaction) → Waits (f t)) → (t : Transaction) → Keeps t (while_open f t)
  keeps-open f step t waits = open-by Waits t (f t) t.ending waits (step t)

  start-waits : (state : State) (n : ℕ) (t : Transaction) → Waits (started state n t)
  start-waits state n t =
      record { is = λ unended unstarted. absurd (some-first t.snapshot (record { place = state.entries; tables = state.tables; opened = length state.transactions }) unstarted) }

  end-waits : (ending : Ending) (t : Transaction) → Waits (ended ending t)
  end-waits ending t = record { is = λ unended unstarted. let never : Some ending ≡ None = unended in cc }

  started-waits : (t : Transaction) → IsTrue (is_started t) → Waits t
  started-waits t s = record { is = λ unended unstarted. let never : true ≡ false = sym s ∙ ap is_some unstarted in cc }

  there : (o : Option Transaction) (t : Transaction) → o ≡ Some t → IsSomeAnd o (Keeps t)
  there o t e = subst (λ (p : Option Transaction). IsSomeAnd p (Keeps t)) (sym e) (keeps-same t)

  with-open : (f : Transaction → Transaction) → ((t : Transaction) → Waits (f t)) → (xs : List Transaction) (k n : ℕ) (t : Transaction)
      → numbered xs n ≡ Some t → IsSomeAnd (numbered (changed (while_open f) xs k) n) (Keeps t)
  with-open f step xs k n t e = kept-changed Keeps keeps-same (while_open f) (keeps-open f step) xs k n t e

  -- a write id is given only to one that has started
  by-number : (table write : ℕ) (here : Bool) (o : Option Transaction) (t x : Transaction) → o ≡ Some t → IsTrue (is_started x)
      → IsSomeAnd (cond here (Some (while_open (given_id table write) x)) o) (Keeps t)
  by-number table write true o t x e s = λ waits. open-by Waits x (given_id table write x) x.ending (started-waits x s) (started-waits (given_id table write x) s)
  by-number table write false o t x e s = there o t e

  gives-on : (state : State) (k table write n : ℕ) (t : Transaction) → Of state k (GivenFits profile state table write) → numbered state.transactions n ≡ Some t
      → IsSomeAnd (numbered (changed (while_open (given_id table write)) state.transactions k) n) (Keeps t)
  gives-on state k table write n t fits e =
      let here = found (GivenFits profile state table write) (numbered state.transactions k) fits in
      subst (λ (o : Option Transaction). IsSomeAnd o (Keeps t)) (sym (numbered-changed (while_open (given_id table write)) state.transactions k n here.0 here.1))
      (by-number table write (n == k) (numbered state.transactions n) t here.0 e here.2.running.started)

  entry-waits : (state : State) (event : Entry) (n : ℕ) (t : Transaction) → Fits profile state event → numbered state.transactions n ≡ Some t
      → IsSomeAnd (numbered (after state event).transactions n) (Keeps t)
  unfolding acted
  entry-waits state (entry.Opened txn s m words) n t fits e = kept-more Keeps keeps-same state.transactions (opened s m words ∷ []) n t e
  entry-waits state (entry.Start txn statement) n t fits e = with-open (started state statement) (start-waits state statement) state.transactions txn.0 n t e
  entry-waits state (entry.Given txn table write) n t fits e = gives-on state txn.0 table.0 write.0 n t fits e
  entry-waits state (entry.Commit txn wrote) n t fits e =
      with-open (committed state.entries wrote) (λ u. end-waits (Committed state.entries wrote) (did 0 u)) state.transactions txn.0 n t e
  entry-waits state (entry.Abort txn why) n t fits e =
      with-open (ended (Aborted state.entries why)) (end-waits (Aborted state.entries why)) state.transactions txn.0 n t e
  entry-waits state (entry.Create txn table) n t fits e =
      with-open (ended (Made state.entries table.0)) (end-waits (Made state.entries table.0)) state.transactions txn.0 n t e
  entry-waits state (entry.Drop txn table) n t fits e =
      with-open (ended (Dropped state.entries table.0)) (end-waits (Dropped state.entries table.0)) state.transactions txn.0 n t e
  entry-waits state (entry.Boot run) n t fits e = there (numbered state.transactions n) t e
  entry-waits state (entry.Asked job table partition kind by_) n t fits e = there (numbered state.transactions n) t e
  entry-waits state (entry.Picked job mark) n t fits e = there (numbered state.transactions n) t e
  entry-waits state (entry.Published job low high mark) n t fits e = there (numbered state.transactions n) t e
  entry-waits state (entry.Empty job) n t fits e = there (numbered state.transactions n) t e
  entry-waits state (entry.Cleaned job) n t fits e = there (numbered state.transactions n) t e
  entry-waits state (entry.Failed job why) n t fits e = there (numbered state.transactions n) t e
  entry-waits state (entry.Forgot table write) n t fits e = there (numbered state.transactions n) t e
  entry-waits state event n t fits e = absurd fits

  next-waits : (o : Option Transaction) (t : Transaction) (P : Type 0) → Waits t → ((u : Transaction) → o ≡ Some u → Waits u → P) → IsSomeAnd o (Keeps t) → P
  next-waits None t P waits go keeps = absurd keeps
  next-waits (Some u) t P waits go keeps = go u refl (keeps waits)

  entries-wait : (events : List Entry) (state : State) (n : ℕ) (t : Transaction) → AllFit profile state events → numbered state.transactions n ≡ Some t → Waits t
      → IsSomeAnd (numbered (fold after state events).transactions n) Waits
  entries-wait [] state n t fit e waits = subst (λ (p : Option Transaction). IsSomeAnd p Waits) (sym e) waits
  entries-wait (event ∷ events) state n t fit e waits =
      next-waits (numbered (after state event).transactions n) t (IsSomeAnd (numbered (fold after (after state event) events).transactions n) Waits) waits
      (λ u is on. entries-wait events (after state event) n u fit.1 is on) (entry-waits state event n t fit.0 e)

  of-this : (o : Option Transaction) (t : Transaction) → o ≡ Some t → IsSomeAnd o Waits → Waits t
  of-this o t e waits = subst (λ (p : Option Transaction). IsSomeAnd p Waits) e waits

-- what stands behind a front that fits, fits there
fit-behind : (limits : Limits) (xs ys : List Entry) (s : State) → AllFit limits s (xs ++ ys) → AllFit limits (fold after s xs) ys
fit-behind limits [] ys s fit = fit
fit-behind limits (x ∷ xs) ys s fit = fit-behind limits xs ys (after s x) fit.1

still-waits : (book more : List Entry) (asking : Asking) (txn : ℕ) (said : Stmt) → AllFitting (book ++ more) → IsWaiting book asking txn said
    → Of (state_of (book ++ more)) txn WaitsNow → IsWaiting (book ++ more) asking txn said
still-waits book more asking txn said fit waiting is =
    let here = found WaitsNow (numbered (state_of (book ++ more)).transactions txn) is in
    let waits =
    of-this asking.session asking.number asking.text (numbered (state_of (book ++ more)).transactions txn) here.0 here.1
    (subst (λ (s : State). IsSomeAnd (numbered s.transactions txn) (Waits asking.session asking.number asking.text)) (sym (fold-append after nothing_yet book more))
    (entries-wait asking.session asking.number asking.text more (state_of book) txn (opened asking.session asking.number asking.text)
    (fit-behind profile book more nothing_yet fit) waiting.here (record { is = λ unended unstarted. refl }))) in
    record {
      runs = waiting.runs;
      here = here.1 ∙ ap (λ (t : Transaction). Some t) (waits.is (still-open here.0 here.2.unended) (none-started here.0.snapshot here.2.unstarted));
    }

-- one that waited, and has neither started nor ended, waits
pub waits-at : (trail : List TrailItem) (asking : Asking) (txn : ℕ) (said : Stmt) → AllFitting (book_of trail) → HasWaited trail asking txn said
    → Of (state_at trail) txn WaitsNow → IsWaiting (book_of trail) asking txn said
waits-at trail asking txn said fit has is =
    let books : book_of trail ≡ book_of has.then_ ++ book_of has.front.more = ap book_of has.front.is ∙ book-append has.then_ has.front.more in
    subst (λ (b : List Entry). IsWaiting b asking txn said) (sym books)
    (still-waits (book_of has.then_) (book_of has.front.more) asking txn said (subst AllFitting books fit) has.was
    (subst (λ (b : List Entry). Of (state_of b) txn WaitsNow) books is))

-- the book of a told house that is open fits
pub open-fits : {D : Type 0} (told : D → Option Store) (house : ToldHouse D) → IsWholeOrClosed told house.house → IsOpenHouse house → AllFitting (book_in house)
open-fits told house kept running =
    subst AllFitting (sym (trail-book house.house.trail.entries house.house.trail.marks)) (kept.whole running).ready.fit
