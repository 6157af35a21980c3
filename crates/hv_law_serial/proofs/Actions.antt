-- What actions leave of the transactions that are there: the book grows, and those that wait are there.
use Rattle.std.proofs.Common.{◌≡◌, ◌⊎◌, ℕ, inl, inr, Option, Some, None, List, [], ◌∷◌, ◌++◌, fold, refl, sym, ap, ◌∙◌, subst, append-nil, append_assoc}
use Rattle.std.specs.Prelude.{Bool, true, false, if◌then◌else◌}
use Rattle.std.specs.List.{AllByRecursion}
use Rattle.std.proofs.lemmas.List.Sums.{fold-append}
use Rattle.hv_base.specs.declared.gate.Stage.{Stage}
use Rattle.hv_base.specs.declared.gate.Stage.TheVariants as stage
use Rattle.hv_script.specs.declared.actions.Action.{Action}
use Rattle.hv_script.specs.declared.actions.Action.TheVariants as action
use Rattle.hv_history.specs.declared.entry.Entry.{Entry}
use Rattle.hv_history.specs.declared.state.Transaction.{Transaction}
use Rattle.hv_history.specs.State.{State, nothing_yet, numbered, opened, after, state_of}
use Rattle.hv_history.specs.Lasting.{Later}
use Rattle.hv_history.proofs.LastingLaws.{goes-on-all}
use Rattle.hv_stands.specs.Running.{Asking, next_number, opening, IsOf, AreOf}
use Rattle.hv_stands.proofs.Numbers.{found, one_value}
use Rattle.hv_stands.proofs.Soundness.{all-mapped, all-more}
use Rattle.hv_stands.proofs.Behind.{one-behind, opened-there, numbered-behind}
use Rattle.hv_law_next.specs.Carrying.{IsRunningStore}
use Rattle.hv_law_next.proofs.Going.{runs-on}
use Rattle.hv_program.specs.Background.{IsCompacting, IsCleaning}
use Rattle.hv_program.specs.Change.{from_to}
use Rattle.hv_session.specs.hv_beginning.specs.hv_steps.specs.Ending.{IsAskBy, AddsNoneOrOne}
use Rattle.hv_session.specs.hv_beginning.specs.hv_steps.proofs.Books.{all-append}
use Rattle.hv_session.specs.Taking.{HoldsAt}
use Rattle.hv_program.specs.Doing.{Waiting, Standing, waiting_in, without, is_session, asking_of, RepliesAtOnce, ReleasesOne, IsDone, AreDone}
use Rattle.hv_program.proofs.Besides.{compacting-unlost, cleaning-unlost}

-- ---- those that wait

abbrev pub IsThere : List Entry → Waiting → Type 0
IsThere book waiting =
    (t : Transaction) × (numbered (state_of book).transactions waiting.txn ≡ Some t) × IsRunningStore (state_of book)

pub record IsSettled (standing : Standing) : Type 0 where
  pub there : AllByRecursion (IsThere standing.book) standing.waiting

-- the one that waits in a session is among them
pub all-found : (P : Waiting → Type 0) (name : List ℕ) (ws : List Waiting) (w : Waiting) → waiting_in name ws ≡ Some w → AllByRecursion P ws → P w
all-found P name [] w e h = cc
all-found P name (x ∷ ws) w e h = by (λ rest. all-found P name ws w rest h.1) (is_session name x) e
  where
    by : (waiting_in name ws ≡ Some w → P w) → (b : Bool) → (if b then Some x else waiting_in name ws) ≡ Some w → P w
    by rest true e = subst P (one_value x w e) h.0
    by rest false e = rest e

pub all-without : (P : Waiting → Type 0) (name : List ℕ) (ws : List Waiting) → AllByRecursion P ws → AllByRecursion P (without name ws)
all-without P name [] h = tt
all-without P name (x ∷ ws) h = by (all-without P name ws h.1) (is_session name x)
  where
    by : AllByRecursion P (without name ws) → (b : Bool) → AllByRecursion P (if b then ws else x ∷ without name ws)
    by rest true = h.1
    by rest false = (h.0, rest)

-- ---- the book grows, by entries of transactions, of compactions and of cleaning

abbrev pub IsOwned : Entry → Type 0
IsOwned event = ((txn : ℕ) × IsOf txn event) ⊎ IsCompacting event ⊎ IsCleaning event

abbrev pub AreOwned : List Entry → Type 0
AreOwned events = AllByRecursion IsOwned events

abbrev pub Grown : List Entry → List Entry → Type 0
Grown before now = (added : List Entry) × (now ≡ before ++ added) × AreOwned added

same-grown : (before now : List Entry) → now ≡ before → Grown before now
same-grown before now same = ([], same ∙ sym (append-nil before), tt)

owned-of : (txn : ℕ) (events : List Entry) → AreOf txn events → AreOwned events
owned-of txn events h = all-mapped (IsOf txn) IsOwned (λ event whose. inl (txn, whose)) events h

owned-compacting : (events : List Entry) → AllByRecursion IsCompacting events → AreOwned events
owned-compacting events h = all-mapped IsCompacting IsOwned (λ event is. inr (inl is)) events h

owned-cleaning : (events : List Entry) → AllByRecursion IsCleaning events → AreOwned events
owned-cleaning events h = all-mapped IsCleaning IsOwned (λ event is. inr (inr is)) events h

owned-more : (events more : List Entry) → AreOwned events → AreOwned more → AreOwned (events ++ more)
owned-more [] more h later = later
owned-more (event ∷ events) more h later = (h.0, owned-more events more h.1 later)

runs-on-one : (s : State) (event : Entry) → IsOwned event → IsRunningStore s → IsRunningStore (after s event)
runs-on-one s event (inl owned) running = runs-on s event owned.0 owned.1 running
runs-on-one s event (inr (inl is)) running = compacting-unlost s event is
runs-on-one s event (inr (inr is)) running = cleaning-unlost s event is

runs-on-by : (s : State) (events : List Entry) → AreOwned events → IsRunningStore s → IsRunningStore (fold after s events)
runs-on-by s [] h running = running
runs-on-by s (event ∷ events) h running = runs-on-by (after s event) events h.1 (runs-on-one s event h.0 running)

-- what is held has added entries of its own alone
pub held-of : (hold : Option Stage) (txn : ℕ) (added : List Entry) → HoldsAt hold txn added → AreOf txn added
held-of None txn added h = absurd h
held-of (Some stage.Start) txn added h = subst (AreOf txn) (sym h) (refl, tt)
held-of (Some stage.Read) txn added h = subst (AreOf txn) (sym h) (refl, tt)
held-of (Some stage.Commit) txn added h =
    subst (AreOf txn) (sym h.4) (
      refl,
      all-append (IsOf txn) h.0 h.1 (all-mapped (IsAskBy txn) (IsOf txn) (λ event ask. subst (IsOf txn) (sym ask.event_is) refl) h.0 h.2) (id-of h.1 h.3),
    )
  where
    id-of : (ids : List Entry) → AddsNoneOrOne txn ids → AreOf txn ids
    id-of ids (inl none) = subst (AreOf txn) (sym none) tt
    id-of ids (inr (inl id)) = subst (AreOf txn) (sym id.2) (refl, tt)
    id-of ids (inr (inr job)) = subst (AreOf txn) (sym job.4) (refl, tt)
held-of (Some stage.Taken) txn added h = absurd h
held-of (Some stage.Replied) txn added h = absurd h

pub grows-one : (start book : List Entry) (before now : Standing) (action : Action) (output : List ℕ) (refused : Bool)
    → IsDone (from_to start book) before now action output refused → Grown before.book now.book
grows-one start book before now (action.Announce session) output refused done = same-grown before.book now.book (ap (λ (s : Standing). s.book) done.0)
grows-one start book before now action.Barrier output refused done = same-grown before.book now.book (ap (λ (s : Standing). s.book) done.0)
grows-one start book before now (action.Run statement) output refused (inl replies) = by replies.goes
  where
    by : RepliesAtOnce (from_to start book) (from_to before.book now.book) (asking_of statement) statement.hold output refused → Grown before.book now.book
    by (inl went) =
        (opening before.book (asking_of statement) ∷ went.added, went.goes, (inl (next_number before.book, refl), owned-of (next_number before.book) went.added went.of_it))
    by (inr (inl text)) = same-grown before.book now.book text.0
    by (inr (inr (inl full))) = same-grown before.book now.book full.0
    by (inr (inr (inr memory))) = same-grown before.book now.book memory.0
grows-one start book before now (action.Run statement) output refused (inr off) = (
  opening before.book (asking_of statement) ∷ off.goes.added,
  off.goes.goes,
  (
    inl (next_number before.book, refl),
    owned-of (next_number before.book) off.goes.added (held-of statement.hold (next_number before.book) off.goes.added off.goes.at_hold),
  ),
)
grows-one start book before now (action.Release session) output refused done = by (waiting_in session.name before.waiting) done
  where
    by : (o : Option Waiting) → ReleasesOne (from_to start book) before now session.name o output refused → Grown before.book now.book
    by None done = same-grown before.book now.book (ap (λ (s : Standing). s.book) done.0)
    by (Some w) done = (done.0.added, done.0.goes, owned-of w.txn done.0.added done.0.of_it)
grows-one start book before now action.Compact output refused done =
    (done.beside.added, done.beside.book, owned-compacting done.beside.added done.beside.of_it)
grows-one start book before now action.Clean output refused done =
    (done.beside.added, done.beside.book, owned-cleaning done.beside.added done.beside.of_it)

pub grows-all : (start book : List Entry) (before now : Standing) (actions : List Action) (output : List ℕ) (refused : Bool)
    → AreDone (from_to start book) before now actions output refused → Grown before.book now.book
grows-all start book before now [] output refused done = same-grown before.book now.book (ap (λ (s : Standing). s.book) done.0)
grows-all start book before now (first ∷ more) output refused done =
    let one = grows-one start book before done.0 first done.1 done.3 done.5 in
    let rest = grows-all start book done.0 now more done.2 done.4 done.6 in
    (one.0 ++ rest.0, rest.1 ∙ ap (λ xs. xs ++ rest.0) one.1 ∙ append_assoc before.book one.0 rest.0, owned-more one.0 rest.0 one.2 rest.2)

-- what is there stays there
pub there-later : (before now added : List Entry) (txn : ℕ) (t : Transaction) → now ≡ before ++ added → numbered (state_of before).transactions txn ≡ Some t
    → (later : Transaction) × (numbered (state_of now).transactions txn ≡ Some later)
there-later before now added txn t goes at =
    let here = found (Later t) (numbered (fold after (state_of before) added).transactions txn) ((goes-on-all added (state_of before)).transactions txn t at) in (
      here.0,
      ap (λ xs. numbered (state_of xs).transactions txn) goes
          ∙ ap (λ (s : State). numbered s.transactions txn) (fold-append after nothing_yet before added) ∙ here.1,
    )

running-later : (before now : List Entry) → Grown before now → IsRunningStore (state_of before) → IsRunningStore (state_of now)
running-later before now grown running =
    subst IsRunningStore (sym (ap (λ xs. state_of xs) grown.1 ∙ fold-append after nothing_yet before grown.0)) (runs-on-by (state_of before) grown.0 grown.2 running)

is-there-later : (before now : List Entry) (w : Waiting) → Grown before now → IsThere before w → IsThere now w
is-there-later before now w grown is =
    let later = there-later before now grown.0 w.txn is.0 grown.1 is.1 in (later.0, later.1, running-later before now grown is.2)

there-all : (before now : List Entry) (ws : List Waiting) → Grown before now → AllByRecursion (IsThere before) ws → AllByRecursion (IsThere now) ws
there-all before now ws grown h = all-mapped (IsThere before) (IsThere now) (λ w is. is-there-later before now w grown is) ws h

-- ---- those that wait are there

-- it is there behind its opening
pub opened-in : (before : List Entry) (asking : Asking)
    → numbered (state_of (before ++ opening before asking ∷ [])).transactions (next_number before) ≡ Some (opened asking.session asking.number asking.text)
opened-in before asking =
    numbered-behind before (opening before asking) (next_number before) (Some (opened asking.session asking.number asking.text))
    (opened-there (state_of before) asking.session asking.number asking.text)

pub opened-later : (before now added : List Entry) (asking : Asking) → now ≡ before ++ opening before asking ∷ added
    → (t : Transaction) × (numbered (state_of now).transactions (next_number before) ≡ Some t)
opened-later before now added asking goes =
    there-later (before ++ opening before asking ∷ []) now added (next_number before) (opened asking.session asking.number asking.text)
    (goes ∙ sym (append_assoc before (opening before asking ∷ []) added)) (opened-in before asking)

-- and the store runs on there
pub running-opened : (before : List Entry) (asking : Asking) → IsRunningStore (state_of (before ++ opening before asking ∷ []))
running-opened before asking = subst IsRunningStore (sym (one-behind before (opening before asking))) refl

running-behind : (before now added : List Entry) (asking : Asking) → now ≡ before ++ opening before asking ∷ added → AreOwned added → IsRunningStore (state_of now)
running-behind before now added asking goes owned =
    running-later (before ++ opening before asking ∷ []) now (added, goes ∙ sym (append_assoc before (opening before asking ∷ []) added), owned) (running-opened before asking)

settled-same : (before now : Standing) → now ≡ before → IsSettled before → IsSettled now
settled-same before now same settled = subst IsSettled (sym same) settled

settled-beside : (before now : Standing) → Grown before.book now.book → now.waiting ≡ before.waiting → IsSettled before → IsSettled now
settled-beside before now grown waiting settled = record {
  there = subst (AllByRecursion (IsThere now.book)) (sym waiting) (there-all before.book now.book before.waiting grown settled.there);
}

pub settled-one : (start book : List Entry) (before now : Standing) (action : Action) (output : List ℕ) (refused : Bool)
    → IsDone (from_to start book) before now action output refused → IsSettled before → IsSettled now
settled-one start book before now (action.Announce session) output refused done settled = settled-same before now done.0 settled
settled-one start book before now action.Barrier output refused done settled = settled-same before now done.0 settled
settled-one start book before now (action.Run statement) output refused (inl replies) settled =
    settled-beside before now (grows-one start book before now (action.Run statement) output refused (inl replies)) replies.waiting_same settled
settled-one start book before now (action.Run statement) output refused (inr off) settled =
    let w : Waiting = record { session = (asking_of statement).session; txn = next_number before.book } in
    let grown = grows-one start book before now (action.Run statement) output refused (inr off) in
    let there = opened-later before.book now.book off.goes.added (asking_of statement) off.goes.goes in
    record {
      there = subst (AllByRecursion (IsThere now.book)) (sym off.waits)
          (all-more (IsThere now.book) before.waiting w (there-all before.book now.book before.waiting grown settled.there) (
            there.0,
            there.1,
            running-behind before.book now.book off.goes.added (asking_of statement) off.goes.goes
                (owned-of (next_number before.book) off.goes.added (held-of statement.hold (next_number before.book) off.goes.added off.goes.at_hold)),
          ));
    }
settled-one start book before now (action.Release session) output refused done settled = by (waiting_in session.name before.waiting) refl done
  where
    by : (o : Option Waiting) → waiting_in session.name before.waiting ≡ o → ReleasesOne (from_to start book) before now session.name o output refused → IsSettled now
    by None is done = settled-same before now done.0 settled
    by (Some w) is done = record {
      there = subst (AllByRecursion (IsThere now.book)) (sym done.1)
          (all-without (IsThere now.book) session.name before.waiting
          (there-all before.book now.book before.waiting (done.0.added, done.0.goes, owned-of w.txn done.0.added done.0.of_it) settled.there));
    }
settled-one start book before now action.Compact output refused done settled =
    settled-beside before now (grows-one start book before now action.Compact output refused done) done.waiting_same settled
settled-one start book before now action.Clean output refused done settled =
    settled-beside before now (grows-one start book before now action.Clean output refused done) done.waiting_same settled
