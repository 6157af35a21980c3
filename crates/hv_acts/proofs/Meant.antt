-- What was under way at a front of the trail is under way while it is open, with the write ids that it had or more.
use Rattle.std.proofs.Common.{◌≡◌, ℕ, ◌+◌, zero, suc, Option, Some, None, List, [], ◌∷◌, ◌++◌, take, fold, refl, sym, ap, ◌∙◌, subst, append-nil, append_assoc, arith, length, map}
use Rattle.std.specs.Prelude.{IsSomeAnd}
use Rattle.std.proofs.lemmas.List.{length-append, take-append-le}
use Rattle.std.proofs.lemmas.List.Sums.{fold-append}
use Rattle.std.proofs.Math.Seq.{take-append_seam}
use Rattle.hv_base.specs.declared.ids.TxnId.{TxnId}
use Rattle.hv_base.specs.declared.ids.TableId.{TableId}
use Rattle.hv_base.specs.declared.ids.WriteId.{WriteId}
use Rattle.hv_built.specs.Running.{Runs}
use Rattle.hv_ast.specs.declared.statement.Stmt.{Stmt}
use Rattle.hv_logic.specs.declared.meaning.Meaning.{Meaning}
use Rattle.hv_history.specs.declared.entry.Entry.{Entry}
use Rattle.hv_history.specs.declared.entry.Entry.TheVariants as entry
use Rattle.hv_history.specs.declared.state.Snapshot.{Snapshot}
use Rattle.hv_history.specs.declared.state.Transaction.{Transaction}
use Rattle.hv_history.specs.declared.state.Ending.{Ending}
use Rattle.hv_history.specs.declared.state.Ending.TheVariants.{Committed, Aborted, Made, Dropped}
use Rattle.hv_history.specs.State.{State, nothing_yet, numbered, changed, while_open, unless_ended, started, given_id, did, committed, ended, opened, acted, after, state_of}
use Rattle.hv_history.proofs.LastingLaws.{kept-more, kept-changed}
use Rattle.hv_stands.specs.Running.{Asking, next_number, opening, starting, IsWaiting, meant, snapshot_at, running, IsUnderWay}
use Rattle.hv_stands.proofs.Behind.{front-stays}
use Rattle.hv_stands.proofs.Begun.{starts, begins, ids-given}
use Rattle.hv_trail.specs.declared.trail.TrailItem.{TrailItem}
use Rattle.hv_trail.specs.declared.trail.TrailItem.TheVariants.{Noted}
use Rattle.hv_trail.specs.Steps.{begun}
use Rattle.hv_trail.specs.Trail.{book_of, state_at}
use Rattle.hv_trail.proofs.LastingLaws.{book-append}
use Rattle.hv_acts.specs.Meant.{MeansNow, HasMeant}

module _ (asking : Asking) (means : Meaning) (snapshot : Snapshot) (given : List (ℕ × ℕ)) where
  abbrev on_way : List (ℕ × ℕ) → Transaction
  on_way more = running asking (Some means) snapshot (given ++ more)

  -- while it is open it is as it was, with more write ids perhaps
  record GoesOn (t : Transaction) : Type 0 where
    more : List (ℕ × ℕ)
    is : t.ending ≡ None → t ≡ on_way more

  abbrev Keeps : Transaction → Transaction → Type 0
  Keeps t u = GoesOn t → GoesOn u

  keeps-same : (t : Transaction) → Keeps t t
  keeps-same t goes = goes

  keeps-open : (f : Transaction → Transaction) → ((more : List (ℕ × ℕ)) → GoesOn (f (on_way more))) → (t : Transaction) → Keeps t (while_open f t)
  keeps-open f step t goes = by t.ending refl
    where
      by : (ending : Option Ending) → t.ending ≡ ending → GoesOn (unless_ended ending t (f t))
      by None e = subst (λ (x : Transaction). GoesOn (f x)) (sym (goes.is e)) (step goes.more)
      by (Some ending) e = goes

  start-goes : (state : State) (number : ℕ) (more : List (ℕ × ℕ)) → GoesOn (started state number (on_way more))
  start-goes state zero more = record { more = more; is = λ e. refl }
  start-goes state (suc number) more = record { more = more; is = λ e. refl }

  give-goes : (table write : ℕ) (more : List (ℕ × ℕ)) → GoesOn (given_id table write (on_way more))
  give-goes table write more = record {
    more = more ++ (table, write) ∷ [];
    is = λ e. ap (running asking (Some means) snapshot) (append_assoc given more ((table, write) ∷ []));
  }

  end-goes : (ending : Ending) (t : Transaction) → GoesOn (ended ending t)
  end-goes ending t = record { more = []; is = λ e. let never : Some ending ≡ None = e in cc }

  there : (o : Option Transaction) (t : Transaction) → o ≡ Some t → IsSomeAnd o (Keeps t)
  there o t e = subst (λ (p : Option Transaction). IsSomeAnd p (Keeps t)) (sym e) (keeps-same t)

  with-open : (f : Transaction → Transaction) → ((more : List (ℕ × ℕ)) → GoesOn (f (on_way more))) → (xs : List Transaction) (k n : ℕ) (t : Transaction)
      → numbered xs n ≡ Some t → IsSomeAnd (numbered (changed (while_open f) xs k) n) (Keeps t)
  with-open f step xs k n t e = kept-changed Keeps keeps-same (while_open f) (keeps-open f step) xs k n t e

  entry-goes : (state : State) (event : Entry) (n : ℕ) (t : Transaction) → numbered state.transactions n ≡ Some t
      → IsSomeAnd (numbered (after state event).transactions n) (Keeps t)
  unfolding acted
  entry-goes state (entry.Opened txn session number text) n t e = kept-more Keeps keeps-same state.transactions (opened session number text ∷ []) n t e
  entry-goes state (entry.Start txn statement) n t e = with-open (started state statement) (start-goes state statement) state.transactions txn.0 n t e
  entry-goes state (entry.Given txn table write) n t e = with-open (given_id table.0 write.0) (give-goes table.0 write.0) state.transactions txn.0 n t e
  entry-goes state (entry.Commit txn wrote) n t e =
      with-open (committed state.entries wrote) (λ more. end-goes (Committed state.entries wrote) (did 0 (on_way more))) state.transactions txn.0 n t e
  entry-goes state (entry.Abort txn cause) n t e =
      with-open (ended (Aborted state.entries cause)) (λ more. end-goes (Aborted state.entries cause) (on_way more)) state.transactions txn.0 n t e
  entry-goes state (entry.Create txn table) n t e =
      with-open (ended (Made state.entries table.0)) (λ more. end-goes (Made state.entries table.0) (on_way more)) state.transactions txn.0 n t e
  entry-goes state (entry.Drop txn table) n t e =
      with-open (ended (Dropped state.entries table.0)) (λ more. end-goes (Dropped state.entries table.0) (on_way more)) state.transactions txn.0 n t e
  entry-goes state (entry.Boot run) n t e = there (numbered state.transactions n) t e
  entry-goes state (entry.Asked job table partition kind by) n t e = there (numbered state.transactions n) t e
  entry-goes state (entry.Picked job watermark) n t e = there (numbered state.transactions n) t e
  entry-goes state (entry.Published job low high mark) n t e = there (numbered state.transactions n) t e
  entry-goes state (entry.Empty job) n t e = there (numbered state.transactions n) t e
  entry-goes state (entry.Cleaned job) n t e = there (numbered state.transactions n) t e
  entry-goes state (entry.Next txn statement number text) n t e = there (numbered state.transactions n) t e
  entry-goes state (entry.Did txn statement wrote) n t e = there (numbered state.transactions n) t e
  entry-goes state (entry.Alter txn table) n t e = there (numbered state.transactions n) t e
  entry-goes state (entry.Failed job cause) n t e = there (numbered state.transactions n) t e
  entry-goes state (entry.Forgot table write) n t e = there (numbered state.transactions n) t e

  next-goes : (o : Option Transaction) (t : Transaction) (P : Type 0) → GoesOn t → ((u : Transaction) → o ≡ Some u → GoesOn u → P) → IsSomeAnd o (Keeps t) → P
  next-goes None t P goes go keeps = absurd keeps
  next-goes (Some u) t P goes go keeps = go u refl (keeps goes)

  entries-go : (events : List Entry) (state : State) (n : ℕ) (t : Transaction) → numbered state.transactions n ≡ Some t → GoesOn t
      → IsSomeAnd (numbered (fold after state events).transactions n) GoesOn
  entries-go [] state n t e goes = subst (λ (p : Option Transaction). IsSomeAnd p GoesOn) (sym e) goes
  entries-go (event ∷ events) state n t e goes =
      next-goes (numbered (after state event).transactions n) t (IsSomeAnd (numbered (fold after (after state event) events).transactions n) GoesOn) goes
      (λ u is on. entries-go events (after state event) n u is on) (entry-goes state event n t e)

  of-this : (o : Option Transaction) (t : Transaction) → o ≡ Some t → IsSomeAnd o GoesOn → GoesOn t
  of-this o t e goes = subst (λ (p : Option Transaction). IsSomeAnd p GoesOn) e goes

-- ---- on a trail

module _ (book more : List Entry) (asking : Asking) (txn place : ℕ) (said : Stmt) (given : List (ℕ × ℕ)) (means : Meaning)
    (way : IsUnderWay book asking txn place said given) (means_it : meant (take place book) said ≡ Some means) where
  abbrev snapshot : Snapshot
  snapshot = snapshot_at book place

  goes-first : GoesOn asking means snapshot given (running asking (meant (take place book) said) snapshot given)
  goes-first = record {
    more = [];
    is = λ e. ap (λ (m : Option Meaning). running asking m snapshot given) means_it ∙ ap (running asking (Some means) snapshot) (sym (append-nil given));
  }

  pub meant-still : meant (take place (book ++ more)) said ≡ Some means
  meant-still = ap (λ (front : List Entry). meant front said) (take-append-le place book more (let early = way.early in omega (arith, early))) ∙ means_it

  goes : (t : Transaction) → numbered (state_of (book ++ more)).transactions txn ≡ Some t → GoesOn asking means snapshot given t
  goes t here =
      of-this asking means snapshot given (numbered (state_of (book ++ more)).transactions txn) t here
      (subst (λ (s : State). IsSomeAnd (numbered s.transactions txn) (GoesOn asking means snapshot given)) (sym (fold-append after nothing_yet book more))
      (entries-go asking means snapshot given more (state_of book) txn (running asking (meant (take place book) said) snapshot given) way.here goes-first))

  pub way-still : (t : Transaction) → numbered (state_of (book ++ more)).transactions txn ≡ Some t → t.ending ≡ None
      → (ids : List (ℕ × ℕ)) × IsUnderWay (book ++ more) asking txn place said (given ++ ids)
  way-still t here unended =
      let on = goes t here in (
        on.more,
        record {
          runs = way.runs;
          early = omega (arith, way.early, length-append book more);
          here = here ∙ ap (λ (u : Transaction). Some u)
              (on.is unended ∙ ap (λ (m : Option Meaning). running asking m snapshot (given ++ on.more)) (sym means_it)
              ∙ front-stays book more asking place said (given ++ on.more) way.early);
        },
      )

-- Its statement is under way, and means what it meant.
pub record IsOnWay (book : List Entry) (txn : TxnId) (given : List (ℕ × ℕ)) (means : Meaning) (t : Transaction) : Type 0 where
  pub asking : Asking
  pub place : ℕ
  pub said : Stmt
  pub ids : List (ℕ × ℕ)
  pub under_way : IsUnderWay book asking txn.0 place said (given ++ ids)
  pub means_it : meant (take place book) said ≡ Some means

abbrev pub on-way : (trail : List TrailItem) (txn : TxnId) (given : List (ℕ × ℕ)) (means : Meaning) (t : Transaction) → HasMeant trail txn given means
    → numbered (state_at trail).transactions txn.0 ≡ Some t → t.ending ≡ None → IsOnWay (book_of trail) txn given means t
on-way trail txn given means t has here unended =
    let books : book_of trail ≡ book_of has.then_ ++ book_of has.front.more = ap book_of has.front.is ∙ book-append has.then_ has.front.more in
    let still =
    way-still (book_of has.then_) (book_of has.front.more) has.was.asking txn.0 has.was.place has.was.said given means has.was.under_way has.was.means_it t
    (subst (λ (book : List Entry). numbered (state_of book).transactions txn.0 ≡ Some t) books here) unended in
    record {
      asking = has.was.asking;
      place = has.was.place;
      said = has.was.said;
      ids = still.0;
      under_way = subst (λ (book : List Entry). IsUnderWay book has.was.asking txn.0 has.was.place has.was.said (given ++ still.0)) (sym books) still.1;
      means_it =
          subst (λ (book : List Entry). meant (take has.was.place book) has.was.said ≡ Some means) (sym books)
          (meant-still (book_of has.then_) (book_of has.front.more) has.was.asking txn.0 has.was.place has.was.said given means has.was.under_way has.was.means_it);
    }

-- ---- how it comes to be

pub started-means : (trail : List TrailItem) (asking : Asking) (txn : TxnId) (said : Stmt) (means : Meaning) → IsWaiting (book_of trail) asking txn.0 said
    → meant (book_of trail) said ≡ Some means → MeansNow (trail ++ Noted (entry.Start txn 0) ∷ []) txn [] means
started-means trail asking txn said means waiting is =
    let event : Entry = entry.Start txn 0 in
    let books : book_of (trail ++ Noted event ∷ []) ≡ book_of trail ++ event ∷ [] = book-append trail (Noted event ∷ []) in
    record {
      asking = asking;
      place = length (book_of trail);
      said = said;
      under_way =
          subst (λ (book : List Entry). IsUnderWay book asking txn.0 (length (book_of trail)) said []) (sym books) (starts (book_of trail) asking txn.0 said waiting);
      means_it =
          ap (λ (book : List Entry). meant (take (length (book_of trail)) book) said) books
          ∙ ap (λ (front : List Entry). meant front said) (take-append_seam (book_of trail) (event ∷ [])) ∙ is;
    }

pub given-means : (trail : List TrailItem) (txn : TxnId) (table : TableId) (write : WriteId) (given : List (ℕ × ℕ)) (means : Meaning) → MeansNow trail txn given means
    → MeansNow (trail ++ Noted (entry.Given txn table write) ∷ []) txn (given ++ (table.0, write.0) ∷ []) means
given-means trail txn table write given means now =
    let event : Entry = entry.Given txn table write in
    let books : book_of (trail ++ Noted event ∷ []) ≡ book_of trail ++ event ∷ [] = book-append trail (Noted event ∷ []) in
    record {
      asking = now.asking;
      place = now.place;
      said = now.said;
      under_way =
          subst (λ (book : List Entry). IsUnderWay book now.asking txn.0 now.place now.said (given ++ (table.0, write.0) ∷ [])) (sym books)
          (ids-given (book_of trail) now.asking txn.0 now.place now.said given table write now.under_way);
      means_it =
          subst (λ (book : List Entry). meant (take now.place book) now.said ≡ Some means) (sym books)
          (meant-still (book_of trail) (event ∷ []) now.asking txn.0 now.place now.said given means now.under_way now.means_it);
    }

pub begun-means : (trail : List TrailItem) (asking : Asking) (said : Stmt) (means : Meaning) → Runs asking.text said
    → meant (book_of trail ++ opening (book_of trail) asking ∷ []) said ≡ Some means
    → MeansNow (trail ++ map Noted (begun (record { 0 = next_number (book_of trail) }) asking.session asking.number asking.text)) (record { 0 = next_number (book_of trail) }) [] means
begun-means trail asking said means runs is =
    let book : List Entry = book_of trail in
    let event : Entry = opening book asking in
    let next : Entry = starting (next_number book) in
    let books : book_of (trail ++ Noted event ∷ Noted next ∷ []) ≡ book ++ event ∷ next ∷ [] = book-append trail (Noted event ∷ Noted next ∷ []) in
    record {
      asking = asking;
      place = length book + 1;
      said = said;
      under_way =
          subst (λ (b : List Entry). IsUnderWay b asking (next_number book) (length book + 1) said []) (sym books) (begins book asking said runs);
      means_it =
          ap (λ (b : List Entry). meant (take (length book + 1) b) said) (books ∙ sym (append_assoc book (event ∷ []) (next ∷ [])))
          ∙ ap (λ n. meant (take n ((book ++ event ∷ []) ++ next ∷ [])) said) (sym (length-append book (event ∷ [])))
          ∙ ap (λ (front : List Entry). meant front said) (take-append_seam (book ++ event ∷ []) (next ∷ [])) ∙ is;
    }
