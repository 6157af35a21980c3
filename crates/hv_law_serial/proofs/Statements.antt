-- A statement of a run in which no device failed and memory was found is taken up, held and released as by one thread.
use Rattle.std.proofs.Common.{◌≡◌, ℕ, ◌+◌, ◌<◌, inl, inr, Option, Some, None, List, [], ◌∷◌, ◌++◌, refl, sym, ap, ◌∙◌, subst, append_assoc, length, append-nil}
use Rattle.std.specs.Prelude.{Bool, true, false, not, ◌||◌, is_none, is_some, IsSomeAnd}
use Rattle.std.specs.List.{AllByRecursion}
use Rattle.std.proofs.lemmas.Bool.{le-ltb, lt-ltb}
use Rattle.std.proofs.lemmas.List.Sums.{fold-append}
use Rattle.hv_base.specs.declared.gate.Stage.{Stage}
use Rattle.hv_base.specs.declared.gate.Stage.TheVariants as stage
use Rattle.hv_base.specs.declared.ids.TxnId.{TxnId}
use Rattle.hv_base.specs.declared.ids.JobId.{JobId}
use Rattle.hv_base.specs.declared.ids.TableId.{TableId}
use Rattle.hv_base.specs.declared.ids.WriteId.{WriteId}
use Rattle.hv_ast.specs.declared.statement.Stmt.{Stmt}
use Rattle.hv_grammar.specs.Texts.{tree_of}
use Rattle.hv_built.specs.Built.{is_built}
use Rattle.hv_built.specs.Running.{IsRefused}
use Rattle.hv_reading.proofs.Either.{runs-not_refused}
use Rattle.hv_history.specs.declared.entry.Entry.{Entry}
use Rattle.hv_history.specs.declared.entry.Entry.TheVariants as entry
use Rattle.hv_history.specs.declared.entry.Cause.{Cause}
use Rattle.hv_history.specs.declared.entry.Cause.TheVariants as cause
use Rattle.hv_history.specs.declared.entry.JobKind.{JobKind}
use Rattle.hv_history.specs.declared.state.Ending.{Ending}
use Rattle.hv_history.specs.declared.state.Snapshot.{Snapshot}
use Rattle.hv_history.specs.declared.state.Transaction.{Transaction}
use Rattle.hv_history.specs.State.{numbered, meaning, opened, first_of, started, given_id, state_of, nothing_yet, after}
use Rattle.hv_history.specs.Legal.{OpenedFits, IsStatement, IsRunning, IsLegal, is_started, load, profile}
use Rattle.hv_history.specs.Answers.{answer, answer_in, answer_of}
use Rattle.hv_stands.specs.Running.{Asking, next_number, opening, starting, AreOf, IsNotOf, AreNotOf}
use Rattle.hv_stands.proofs.Numbers.{one_value}
use Rattle.hv_stands.proofs.Others.{others-leave}
use Rattle.hv_stands.proofs.Behind.{one-behind, numbered-behind, started-there, given-there}
use Rattle.hv_law_next.specs.Next.{comes_before, due, carried_on}
use Rattle.hv_law_next.specs.Order.{IsFaultless, AreSteady, AllInOrder}
use Rattle.hv_law_next.specs.Carrying.{started_of, AreBefore, IsAtHold, HasAskedAt}
use Rattle.hv_law_next.proofs.Holding.{stays-at-hold}
use Rattle.hv_law_next.proofs.Going.{all-before, ended-due, legal-parts, carries-on-by}
use Rattle.hv_program.specs.Change.{from_to}
use Rattle.hv_session.specs.hv_beginning.specs.hv_steps.specs.Ending.{EndsUncommitted, IsAskBy, AddsNoneOrOne, AddsAbort, job_asked}
use Rattle.hv_session.specs.Taking.{EndsEarly, EndsBefore, HoldsAt}
use Rattle.hv_session.proofs.JobsAsked.{job-apart}
use Rattle.hv_program.specs.Doing.{Waiting, Standing, without, WentOn, RepliesAtOnce, Replies, IsPutOff, GoesOnHeld}
use Rattle.hv_law_serial.specs.Serial.{tree_runs, text_runs, is_open_one, waits_if, stood, if_room, if_runs, taken_up, released}
use Rattle.hv_law_serial.specs.History.{AddsSteadily, memory_line}
use Rattle.hv_law_serial.proofs.Actions.{IsThere, there-later, held-of, opened-in, opened-later, running-opened}

-- ---- what a reply says: its transaction has ended

went-answers : (start book before now : List Entry) (asking : Asking) (hold : Option Stage) (reply : List ℕ) (refused : Bool)
    → WentOn (from_to start book) (from_to before now) asking hold reply refused → answer (state_of now) (next_number before) ≡ Some reply
went-answers start book before now asking hold reply refused went = went.answered_then.answered.answer_is

held-answers : (start book before now : List Entry) (txn : ℕ) (reply : List ℕ) (refused : Bool)
    → GoesOnHeld (from_to start book) before now txn reply refused → answer (state_of now) txn ≡ Some reply
held-answers start book before now txn reply refused goes = goes.answered_then.answered.answer_is

abbrev HasEnded : Transaction → Type 0
HasEnded t = (e : Ending) × (t.ending ≡ Some e)

has-ended : (t : Transaction) (reply : List ℕ) → answer_of t ≡ Some reply → HasEnded t
has-ended t reply says = by t.ending refl says
  where
    by : (o : Option Ending) → t.ending ≡ o → answer_of t ≡ Some reply → HasEnded t
    by None is says =
        let none : answer_of t ≡ None = ap (λ (o : Option Ending). answer_of (record t { ending = o })) is in
        let never : None ≡ Some reply = sym none ∙ says in cc
    by (Some e) is says = (e, is)

ended-there : (book : List Entry) (txn : ℕ) (t : Transaction) (reply : List ℕ) → numbered (state_of book).transactions txn ≡ Some t
    → answer (state_of book) txn ≡ Some reply → HasEnded t
ended-there book txn t reply at says = has-ended t reply (sym (ap answer_in at) ∙ says)

-- ---- which texts run

tree-refused : (text : List ℕ) (tree : Stmt) (b : Bool) → tree_of text ≡ Some tree → IsRefused text → is_built tree ≡ b → is_built tree ≡ false
tree-refused text tree false read refused is = is
tree-refused text tree true read refused is = absurd (runs-not_refused text tree (record { read = read; built = is }) refused)

text-refused : (text : List ℕ) → IsRefused text → text_runs text ≡ false
text-refused text refused = by (tree_of text) refl
  where
    by : (o : Option Stmt) → tree_of text ≡ o → tree_runs (tree_of text) ≡ false
    by None is = ap tree_runs is
    by (Some tree) is = ap tree_runs is ∙ tree-refused text tree (is_built tree) is refused refl

text-runs : (text : List ℕ) → IsStatement text → text_runs text ≡ true
text-runs text is = ap tree_runs is.1.read ∙ is.1.built

-- ---- what comes before a hold

first-before : (hold : Option Stage) (event : Entry) → comes_before hold false event ≡ true
first-before None event = refl
first-before (Some stage.Start) event = refl
first-before (Some stage.Read) event = refl
first-before (Some stage.Commit) event = refl
first-before (Some stage.Taken) event = refl
first-before (Some stage.Replied) event = refl

or-true : (b : Bool) → (b || true) ≡ true
or-true true = refl
or-true false = refl

early-before : (id : TxnId) (why : Cause) (b : Bool) → EndsEarly why → IsFaultless why → comes_before (Some stage.Read) b (entry.Abort id why) ≡ true
early-before id (cause.Refused number) b early steady = or-true (not b)
early-before id (cause.ReadFault count) b early steady = absurd steady
early-before id (cause.Damaged place) b early steady = absurd steady
early-before id cause.Memory b early steady = absurd steady
early-before id why b early steady = absurd early

uncommitted-before : (id : TxnId) (why : Cause) (b : Bool) → EndsUncommitted why → comes_before (Some stage.Commit) b (entry.Abort id why) ≡ true
uncommitted-before id (cause.Conflict by_ table partition) b ends = absurd ends
uncommitted-before id (cause.Request by_) b ends = absurd ends
uncommitted-before id why b ends = or-true (not b)

module _ (txn : ℕ) (book : List Entry) (fresh : started_of (numbered (state_of book).transactions txn) ≡ false) where
  first : (hold : Option Stage) (event : Entry) → comes_before hold (started_of (numbered (state_of book).transactions txn)) event ≡ true
  first hold event = ap (λ b. comes_before hold b event) fresh ∙ first-before hold event

  abbrev there : List Entry → Bool
  there xs = started_of (numbered (state_of xs).transactions txn)

  -- what it asks for, its write id and its abort come before its commit
  asks-before : (at asks more : List Entry) → AllByRecursion (IsAskBy txn) asks → AreBefore (Some stage.Commit) txn (at ++ asks) more
      → AreBefore (Some stage.Commit) txn at (asks ++ more)
  asks-before at [] more all rest = subst (λ b. AreBefore (Some stage.Commit) txn b more) (append-nil at) rest
  asks-before at (event ∷ asks) more all rest = (
    subst (λ e. comes_before (Some stage.Commit) (there at) e ≡ true) (sym all.0.event_is) (or-true (not (there at))),
    asks-before (at ++ event ∷ []) asks more all.1
        (subst (λ b. AreBefore (Some stage.Commit) txn b more) (sym (append_assoc at (event ∷ []) asks)) rest),
  )

  id-before : (at more : List Entry) → AddsNoneOrOne txn more → AreBefore (Some stage.Commit) txn at more
  id-before at more (inl none) = subst (AreBefore (Some stage.Commit) txn at) (sym none) tt
  id-before at more (inr (inl id)) = subst (AreBefore (Some stage.Commit) txn at) (sym id.2) (or-true (not (there at)), tt)
  id-before at more (inr (inr job)) = subst (AreBefore (Some stage.Commit) txn at) (sym job.4) (or-true (not (there at)), tt)

  cut-before : (at more : List Entry) → AddsAbort txn more → AreBefore (Some stage.Commit) txn at more
  cut-before at more cut = subst (AreBefore (Some stage.Commit) txn at) (sym cut.4) (by cut.0 cut.2)
    where
      end : Entry
      end = entry.Abort (record { 0 = txn }) cut.1

      by : (ids : List Entry) → AddsNoneOrOne txn ids → AreBefore (Some stage.Commit) txn at (ids ++ end ∷ [])
      by ids (inl none) =
          subst (λ (xs : List Entry). AreBefore (Some stage.Commit) txn at (xs ++ end ∷ [])) (sym none) (uncommitted-before (record { 0 = txn }) cut.1 (there at) cut.3, tt)
      by ids (inr (inl id)) =
          let given : Entry = entry.Given (record { 0 = txn }) id.0 id.1 in
          subst (λ (xs : List Entry). AreBefore (Some stage.Commit) txn at (xs ++ end ∷ [])) (sym id.2)
          (or-true (not (there at)), (uncommitted-before (record { 0 = txn }) cut.1 (there (at ++ given ∷ [])) cut.3, tt))
      by ids (inr (inr job)) =
          let asked : Entry = job_asked txn job.0 job.1 job.2 job.3 in
          subst (λ (xs : List Entry). AreBefore (Some stage.Commit) txn at (xs ++ end ∷ [])) (sym job.4)
          (or-true (not (there at)), (uncommitted-before (record { 0 = txn }) cut.1 (there (at ++ asked ∷ [])) cut.3, tt))

  pub ends-before : (hold : Option Stage) (added : List Entry) → EndsBefore hold txn added → AreSteady added → AreBefore hold txn book added
  ends-before None added ends steady = all-before txn book added
  ends-before (Some stage.Start) added ends steady = subst (AreBefore (Some stage.Start) txn book) (sym ends.1) (first (Some stage.Start) (entry.Abort (record { 0 = txn }) ends.0), tt)
  ends-before (Some stage.Read) added (inl ends) steady = subst (AreBefore (Some stage.Read) txn book) (sym ends.1) (first (Some stage.Read) (entry.Abort (record { 0 = txn }) ends.0), tt)
  ends-before (Some stage.Read) added (inr ends) steady =
      let all : AreSteady (starting txn ∷ entry.Abort (record { 0 = txn }) ends.0 ∷ []) = subst AreSteady ends.2 steady in
      subst (AreBefore (Some stage.Read) txn book) (sym ends.2) (
        first (Some stage.Read) (starting txn),
        (early-before (record { 0 = txn }) ends.0 (there (book ++ starting txn ∷ [])) ends.1 all.1.0, tt),
      )
  ends-before (Some stage.Commit) added (inl ends) steady = subst (AreBefore (Some stage.Commit) txn book) (sym ends.1) (first (Some stage.Commit) (entry.Abort (record { 0 = txn }) ends.0), tt)
  ends-before (Some stage.Commit) added (inr ends) steady =
      subst (AreBefore (Some stage.Commit) txn book) (sym ends.4) (
        first (Some stage.Commit) (starting txn),
        asks-before (book ++ starting txn ∷ []) ends.0 ends.1 ends.2 (cut-before ((book ++ starting txn ∷ []) ++ ends.0) ends.1 ends.3),
      )
  ends-before (Some stage.Taken) added ends steady = absurd ends
  ends-before (Some stage.Replied) added ends steady = absurd ends

  pub holds-before : (hold : Option Stage) (added : List Entry) → HoldsAt hold txn added → AreBefore hold txn book added
  holds-before None added holds = absurd holds
  holds-before (Some stage.Start) added holds = subst (AreBefore (Some stage.Start) txn book) (sym holds) (first (Some stage.Start) (starting txn), tt)
  holds-before (Some stage.Read) added holds = subst (AreBefore (Some stage.Read) txn book) (sym holds) (first (Some stage.Read) (starting txn), tt)
  holds-before (Some stage.Commit) added holds =
      subst (AreBefore (Some stage.Commit) txn book) (sym holds.4) (
        first (Some stage.Commit) (starting txn),
        asks-before (book ++ starting txn ∷ []) holds.0 holds.1 holds.2 (id-before ((book ++ starting txn ∷ []) ++ holds.0) holds.1 holds.3),
      )
  holds-before (Some stage.Taken) added holds = absurd holds
  holds-before (Some stage.Replied) added holds = absurd holds

-- ---- what is held is open

-- it is open, and has started
record IsOpenIn (book : List Entry) (txn : ℕ) : Type 0 where
  pub t : Transaction
  pub at : numbered (state_of book).transactions txn ≡ Some t
  pub unended : t.ending ≡ None
  pub started : is_started t ≡ true

gives-open : (book : List Entry) (txn : ℕ) (table : TableId) (write : WriteId) → IsOpenIn book txn → IsOpenIn (book ++ entry.Given (record { 0 = txn }) table write ∷ []) txn
gives-open book txn table write is = record {
  t = given_id table.0 write.0 is.t;
  at = numbered-behind book (entry.Given (record { 0 = txn }) table write) txn (Some (given_id table.0 write.0 is.t))
      (given-there (state_of book) txn is.t is.at is.unended table write);
  unended = is.unended;
  started = is.started;
}

job-open : (book : List Entry) (txn : ℕ) (job : JobId) (table : TableId) (partition : List ℕ) (kind : JobKind) → IsOpenIn book txn
    → IsOpenIn (book ++ job_asked txn job table partition kind ∷ []) txn
job-open book txn job table partition kind is =
    let event : Entry = job_asked txn job table partition kind in
    record {
      t = is.t;
      at = ap (λ s. numbered s.transactions txn) (fold-append after nothing_yet book (event ∷ []))
          ∙ others-leave (event ∷ []) (state_of book) txn is.t (job-apart txn txn job table partition kind, tt) is.at;
      unended = is.unended;
      started = is.started;
    }

id-open : (book : List Entry) (txn : ℕ) (more : List Entry) → AddsNoneOrOne txn more → IsOpenIn book txn → IsOpenIn (book ++ more) txn
id-open book txn more (inl none) is = subst (λ xs. IsOpenIn (book ++ xs) txn) (sym none) (subst (λ xs. IsOpenIn xs txn) (sym (append-nil book)) is)
id-open book txn more (inr (inl id)) is = subst (λ xs. IsOpenIn (book ++ xs) txn) (sym id.2) (gives-open book txn id.0 id.1 is)
id-open book txn more (inr (inr job)) is = subst (λ xs. IsOpenIn (book ++ xs) txn) (sym job.4) (job-open book txn job.0 job.1 job.2 job.3 is)

-- what it asks for is about others
asks-others : (txn : ℕ) (asks : List Entry) → AllByRecursion (IsAskBy txn) asks → AreNotOf txn asks
asks-others txn [] all = tt
asks-others txn (event ∷ asks) all =
    (subst (IsNotOf txn) (sym all.0.event_is) (λ e. all.0.apart (one_value all.0.other txn e)), asks-others txn asks all.1)

asks-open : (book : List Entry) (txn : ℕ) (asks : List Entry) → AllByRecursion (IsAskBy txn) asks → IsOpenIn book txn → IsOpenIn (book ++ asks) txn
asks-open book txn asks all is = record {
  t = is.t;
  at = ap (λ s. numbered s.transactions txn) (fold-append after nothing_yet book asks) ∙ others-leave asks (state_of book) txn is.t (asks-others txn asks all) is.at;
  unended = is.unended;
  started = is.started;
}

module _ (book : List Entry) (txn : ℕ) (t : Transaction) (there : numbered (state_of book).transactions txn ≡ Some t)
    (unended : t.ending ≡ None) (unstarted : t.snapshot ≡ None) where
  starts-open : IsOpenIn (book ++ starting txn ∷ []) txn
  starts-open = record {
    t = started (state_of book) 0 t;
    at = numbered-behind book (starting txn) txn (Some (started (state_of book) 0 t)) (started-there (state_of book) txn t there unended);
    unended = unended;
    started = ap (λ (o : Option Snapshot). is_some (first_of o (record { place = (state_of book).entries; tables = (state_of book).tables; opened = length (state_of book).transactions }))) unstarted;
  }

  just-open : (added : List Entry) → added ≡ starting txn ∷ [] → IsOpenIn (book ++ added) txn
  just-open added just = subst (λ xs. IsOpenIn (book ++ xs) txn) (sym just) starts-open

  holds-open : (hold : Option Stage) (added : List Entry) → HoldsAt hold txn added → IsOpenIn (book ++ added) txn
  holds-open None added holds = absurd holds
  holds-open (Some stage.Start) added holds = just-open added holds
  holds-open (Some stage.Read) added holds = just-open added holds
  holds-open (Some stage.Commit) added holds =
      let started_book : List Entry = book ++ starting txn ∷ [] in
      subst (λ xs. IsOpenIn (book ++ xs) txn) (sym holds.4)
      (subst (λ xs. IsOpenIn xs txn) (append_assoc started_book holds.0 holds.1 ∙ append_assoc book (starting txn ∷ []) (holds.0 ++ holds.1))
      (id-open (started_book ++ holds.0) txn holds.1 holds.3 (asks-open started_book txn holds.0 holds.2 starts-open)))
  holds-open (Some stage.Taken) added holds = absurd holds
  holds-open (Some stage.Replied) added holds = absurd holds

-- ---- a statement is taken up

module _ (start book : List Entry) (before between : Standing) (asking : Asking) (hold : Option Stage) (legal : IsLegal profile between.book)
    (steady : AddsSteadily before.book between.book) where
  abbrev txn : ℕ
  txn = next_number before.book

  abbrev first_book : List Entry
  first_book = before.book ++ opening before.book asking ∷ []

  abbrev waiter : Waiting
  waiter = record { session = asking.session; txn = txn }

  -- it was opened, and went on by these entries
  module _ (added : List Entry) (goes : between.book ≡ before.book ++ opening before.book asking ∷ added) where
    split : first_book ++ added ≡ between.book
    split = append_assoc before.book (opening before.book asking ∷ []) added ∙ sym goes

    fits : OpenedFits profile (state_of before.book) txn asking.text
    fits = (legal-parts before.book (opening before.book asking ∷ added) (subst (IsLegal profile) goes legal)).behind.fit.0

    fresh : started_of (numbered (state_of first_book).transactions txn) ≡ false
    fresh = ap started_of (opened-in before.book asking)

    module _ (order : AllInOrder (state_of before.book) (opening before.book asking ∷ added)) (whose : AreOf txn added) (comes : AreBefore hold txn first_book added) (none : due hold (state_of between.book) txn ≡ None) where
      carried : carried_on hold txn first_book ≡ between.book
      carried =
          carries-on-by hold txn first_book added (record {
            running = running-opened before.book asking;
            there = (opened asking.session asking.number asking.text, opened-in before.book asking);
            legal = subst (IsLegal profile) (sym split) legal;
            of_it = whose;
            steady = (steady (opening before.book asking ∷ added) goes).1;
            in_order = subst (λ s. AllInOrder s added) (sym (one-behind before.book (opening before.book asking))) order.1;
            before = comes;
            no_more = ap (λ xs. due hold (state_of xs) txn) split ∙ none;
          })
          ∙ split

      taken : taken_up before asking hold ≡ stood before.waiting asking txn between.book
      taken =
          ap (λ b. if_runs b before asking hold) (text-runs asking.text fits.statement)
          ∙ ap (λ b. if_room b before asking hold) (le-ltb profile.entries (load (state_of before.book) + 2) fits.room)
          ∙ ap (stood before.waiting asking txn) carried

      stands : between.waiting ≡ waits_if (is_open_one (numbered (state_of between.book).transactions txn)) waiter before.waiting
          → between ≡ taken_up before asking hold
      stands waits = ap (λ ws. record { book = between.book; waiting = ws }) waits ∙ sym taken

  -- it went on to its end
  went : (reply : List ℕ) (refused : Bool) → WentOn (from_to start book) (from_to before.book between.book) asking hold reply refused → between.waiting ≡ before.waiting
      → between ≡ taken_up before asking hold
  went reply refused w same =
      let there = opened-later before.book between.book w.added asking w.goes in
      let ended = ended-there between.book txn there.0 reply there.1 (went-answers start book before.book between.book asking hold reply refused w) in
      let none : due hold (state_of between.book) txn ≡ None = ended-due hold (state_of between.book) txn there.0 ended.0 there.1 ended.1 in
      let shut : is_open_one (numbered (state_of between.book).transactions txn) ≡ false = ap is_open_one there.1 ∙ ap is_none ended.1 in
      stands w.added w.goes w.in_order w.of_it (ends-before txn first_book (fresh w.added w.goes) hold w.added w.in_time (steady (opening before.book asking ∷ w.added) w.goes).1) none
      (same ∙ sym (ap (λ b. waits_if b waiter before.waiting) shut))

  -- it is held
  pub put-off : (output : List ℕ) (refused : Bool) → IsPutOff (from_to start book) (from_to before between) asking hold output refused → between ≡ taken_up before asking hold
  put-off output refused w =
      let added : List Entry = w.goes.added in
      let is : IsOpenIn (first_book ++ added) txn =
      holds-open first_book txn (opened asking.session asking.number asking.text) (opened-in before.book asking) refl refl hold added w.goes.at_hold in
      let at : numbered (state_of between.book).transactions txn ≡ Some is.t =
      sym (ap (λ xs. numbered (state_of xs).transactions txn) (split added w.goes.goes)) ∙ is.at in
      let runs : IsRunning is.t = record { unended = ap is_none is.unended; started = is.started } in
      let held : IsAtHold hold is.t.given (meaning is.t) × HasAskedAt hold (state_of between.book) txn is.t =
      subst (λ (o : Option Transaction). IsSomeAnd o (λ t. IsAtHold hold t.given (meaning t) × HasAskedAt hold (state_of between.book) txn t)) at
      w.goes.up_to_hold in
      let none : due hold (state_of between.book) txn ≡ None = stays-at-hold hold (state_of between.book) txn is.t at runs held.0 held.1 in
      let open_ : is_open_one (numbered (state_of between.book).transactions txn) ≡ true = ap is_open_one at ∙ ap is_none is.unended in
      stands added w.goes.goes w.goes.in_order (held-of hold txn added w.goes.at_hold) (holds-before txn first_book (fresh added w.goes.goes) hold added w.goes.at_hold) none
      (w.waits ∙ sym (ap (λ b. waits_if b waiter before.waiting) open_))

  -- nothing was noted
  abbrev both : between.book ≡ before.book → between.waiting ≡ before.waiting → between ≡ before
  both = λ books waits. λ i. record { book = books i; waiting = waits i }

  refused-text : between.book ≡ before.book → between.waiting ≡ before.waiting → IsRefused asking.text → between ≡ taken_up before asking hold
  refused-text books waits refused =
      both books waits ∙ sym (ap (λ b. if_runs b before asking hold) (text-refused asking.text refused))

  lacks : between.book ≡ before.book → between.waiting ≡ before.waiting → profile.entries < load (state_of before.book) + 2
      → between ≡ taken_up before asking hold
  lacks books waits full = both books waits ∙ sym (by (text_runs asking.text))
    where
      by : (b : Bool) → if_runs b before asking hold ≡ before
      by false = refl
      by true = ap (λ c. if_room c before asking hold) (lt-ltb profile.entries (load (state_of before.book) + 2) full)

  pub at-once : (reply : List ℕ) (refused : Bool) → Replies (from_to start book) (from_to before between) asking hold reply refused → (reply ≡ memory_line → ⊥)
      → between ≡ taken_up before asking hold
  at-once reply refused replies in_memory = by replies.goes
    where
      by : RepliesAtOnce (from_to start book) (from_to before.book between.book) asking hold reply refused → between ≡ taken_up before asking hold
      by (inl w) = went reply refused w replies.waiting_same
      by (inr (inl text)) = refused-text text.0 replies.waiting_same text.1
      by (inr (inr (inl full))) = lacks full.0 replies.waiting_same full.1
      by (inr (inr (inr memory))) = absurd (in_memory memory.1.line_is)

-- ---- one that waits is released

pub goes-on-held : (start book : List Entry) (before between : Standing) (name : List ℕ) (w : Waiting) (output : List ℕ) (refused : Bool)
    → IsThere before.book w → IsLegal profile between.book → AddsSteadily before.book between.book
    → GoesOnHeld (from_to start book) before.book between.book w.txn output refused → between.waiting ≡ without name before.waiting
    → between ≡ released before name (Some w)
goes-on-held start book before between name w output refused there legal steady goes waits =
    let later = there-later before.book between.book goes.added w.txn there.0 goes.goes there.1 in
    let ended = ended-there between.book w.txn later.0 output later.1 (held-answers start book before.book between.book w.txn output refused goes) in
    let none : due None (state_of between.book) w.txn ≡ None = ended-due None (state_of between.book) w.txn later.0 ended.0 later.1 ended.1 in
    let carried : carried_on None w.txn before.book ≡ before.book ++ goes.added =
    carries-on-by None w.txn before.book goes.added (record {
      running = there.2;
      there = (there.0, there.1);
      legal = subst (IsLegal profile) goes.goes legal;
      of_it = goes.of_it;
      steady = steady goes.added goes.goes;
      in_order = goes.in_order;
      before = all-before w.txn before.book goes.added;
      no_more = sym (ap (λ xs. due None (state_of xs) w.txn) goes.goes) ∙ none;
    }) in
    let books : between.book ≡ carried_on None w.txn before.book = goes.goes ∙ sym carried in
    λ i. record { book = books i; waiting = waits i }
