-- A statement's entries come in the order of its way: a write id only for a change of rows, in its table, and a conflict only behind it.
use Rattle.std.proofs.Common.{◌≡◌, ◌⊎◌, inl, inr, ℕ, ◌<◌, Option, Some, None, List, [], ◌∷◌, ◌++◌, fold, take, refl, sym, ap, ◌∙◌, subst, append-nil, arith}
use Rattle.std.specs.Prelude.{Bool, true, false, nat_lt, IsSomeAnd}
use Rattle.std.specs.List.{AllByRecursion}
use Rattle.std.proofs.lemmas.Bool.{false≢true, lt-ltb}
use Rattle.std.proofs.lemmas.Bool.Decides.{nat_tests}
use Rattle.std.proofs.lemmas.List.{append_cancel_left}
use Rattle.hv_base.specs.declared.gate.Stage.{Stage}
use Rattle.hv_base.specs.declared.gate.Stage.TheVariants as stage
use Rattle.hv_base.specs.declared.ids.TableId.{TableId}
use Rattle.hv_base.specs.declared.ids.WriteId.{WriteId}
use Rattle.hv_base.specs.declared.ids.Touch.{Touch}
use Rattle.hv_ast.specs.declared.statement.Stmt.{Stmt}
use Rattle.hv_grammar.specs.Texts.{tree_of}
use Rattle.hv_logic.specs.Names.{names_in}
use Rattle.hv_logic.specs.declared.meaning.Meaning.{Meaning}
use Rattle.hv_logic.specs.declared.meaning.Meaning.TheVariants.{Refused, Listing, Change, Make, Unmake, Plain, Ask, Twice, RowLimit, PartitionLimit}
use Rattle.hv_history.specs.declared.entry.Entry.{Entry}
use Rattle.hv_history.specs.declared.entry.Entry.TheVariants as entry
use Rattle.hv_history.specs.declared.entry.Cause.{Cause}
use Rattle.hv_history.specs.declared.entry.Cause.TheVariants as cause
use Rattle.hv_history.specs.declared.state.Transaction.{Transaction}
use Rattle.hv_history.specs.State.{State, numbered, meaning, opened, after, state_of}
use Rattle.hv_history.specs.Legal.{Of, IsMake, TouchesAreMeant, is_started, locks_of, locks_of_tree}
use Rattle.hv_stands.specs.Laws.{changes_in}
use Rattle.hv_stands.specs.Running.{Asking, next_number, opening, starting, IsOwnCause, IsOf, AreOf, meant, IsWaiting, IsUnderWay}
use Rattle.hv_stands.proofs.Numbers.{one_value}
use Rattle.hv_stands.proofs.Begun.{ids-given}
use Rattle.hv_stands.proofs.Behind.{one-behind}
use Rattle.hv_law_next.specs.Next.{needs_id}
use Rattle.hv_law_next.specs.Order.{IsOfTable, AsksForId, CauseInOrder, IsInOrder, AllInOrder}
use Rattle.hv_law_next.specs.Carrying.{IsUnrefused as IsUnrefusedMeaning, IsToCommit, IsAtHold}
use Rattle.hv_beginning.specs.hv_steps.specs.declared.ready.End.{End}
use Rattle.hv_beginning.specs.hv_steps.specs.declared.ready.End.TheVariants as end
use Rattle.hv_beginning.specs.hv_steps.specs.Ending.{aborting, giving, IsOneEnd, EndsUncommitted, AddsNoneOrOne, AddsAbort, IsOfRows, IsAskedBy, AddsAsked, IsChangeReady, EndIsTrue}
use Rattle.hv_beginning.specs.hv_steps.specs.hv_table_reader.specs.hv_acts.specs.Meant.{IsNoEnd}
use Rattle.hv_beginning.specs.hv_steps.proofs.Touched.{some-touched}
use Rattle.hv_session.specs.declared.paused.Point.{Point}
use Rattle.hv_session.specs.declared.paused.Point.TheVariants as point
use Rattle.hv_session.specs.Doing.{IsUnrefused}
use Rattle.hv_session.specs.Taking.{EndsEarly, WaitsUnrefused, IsAtPlace, PointIsTrue}
use Rattle.hv_beginning.specs.hv_steps.proofs.Books.{state-behind}
use Rattle.hv_session.proofs.JobsAsked.{job-under}

-- ---- entries behind others

pub order-behind : (s : State) (events more : List Entry) → AllInOrder s events → AllInOrder (fold after s events) more → AllInOrder s (events ++ more)
order-behind s [] more first then = then
order-behind s (event ∷ events) more first then = (first.0, order-behind (after s event) events more first.1 then)

all-front : {A : Type 0} (P : A → Type 0) (xs ys : List A) → AllByRecursion P (xs ++ ys) → AllByRecursion P xs
all-front P [] ys all = tt
all-front P (x ∷ xs) ys all = (all.0, all-front P xs ys all.1)

-- ---- one entry of a started transaction

-- no abort that another transaction asks for
abbrev pub IsOwnEntry : Entry → Type 0
IsOwnEntry (entry.Abort id why) = IsOwnCause why
IsOwnEntry event = Unit {0}

module _ (s : State) (txn : ℕ) (t : Transaction) (at : numbered s.transactions txn ≡ Some t) (begun : is_started t ≡ true) where
  of-it : (P : Transaction → Type 0) → P t → Of s txn P
  of-it P p = subst (λ (o : Option Transaction). IsSomeAnd o P) (sym at) p

  abort-in-order : (why : Cause) → EndsUncommitted why → IsInOrder s (aborting txn why)
  abort-in-order (cause.Conflict by_ table partition) ends = absurd ends
  abort-in-order (cause.Request by_) ends = absurd ends
  abort-in-order cause.Full ends = of-it (CauseInOrder s txn cause.Full) (λ unstarted. absurd (false≢true (sym unstarted ∙ begun)))
  abort-in-order why ends = of-it (CauseInOrder s txn why) tt

  -- a conflict is met only behind the write id of a change of rows
  cause-in-order : needs_id t.given (meaning t) ≡ false → (why : Cause) → IsOwnCause why → Of s txn (CauseInOrder s txn why)
  cause-in-order has (cause.Conflict by_ table partition) own = of-it (CauseInOrder s txn (cause.Conflict by_ table partition)) has
  cause-in-order has (cause.Request by_) own = absurd own
  cause-in-order has cause.Full own = of-it (CauseInOrder s txn cause.Full) (λ unstarted. absurd (false≢true (sym unstarted ∙ begun)))
  cause-in-order has why own = of-it (CauseInOrder s txn why) tt

  end-in-order : needs_id t.given (meaning t) ≡ false → (event : Entry) → IsOf txn event → (IsNoEnd txn event → ⊥) → IsOwnEntry event → IsInOrder s event
  end-in-order has (entry.Abort id (cause.Request by_)) whose ends owns = absurd owns
  end-in-order has (entry.Abort id why) whose ends owns = subst (λ (n : ℕ). Of s n (CauseInOrder s n why)) (sym (one_value id.0 txn whose)) (cause-in-order has why owns)
  end-in-order has (entry.Given id table write) whose ends owns = absurd (ends tt)
  end-in-order has event whose ends owns = tt

pub early-uncommitted : (why : Cause) → EndsEarly why → EndsUncommitted why
early-uncommitted (cause.Refused number) early = tt
early-uncommitted (cause.ReadFault count) early = tt
early-uncommitted (cause.Damaged place) early = tt
early-uncommitted cause.Memory early = tt
early-uncommitted why early = absurd early

-- ---- of a statement that is under way

module _ (book : List Entry) (asking : Asking) (txn place : ℕ) (said : Stmt) (given : List (ℕ × ℕ)) (under : IsUnderWay book asking txn place said given) where
  pub aborted-in-order : (why : Cause) → EndsUncommitted why → AllInOrder (state_of book) (aborting txn why ∷ [])
  aborted-in-order why ends = (abort-in-order (state_of book) txn _ under.here refl why ends, tt)

  pub ended-in-order : needs_id given (meant (take place book) said) ≡ false → (added : List Entry) → AreOf txn added → (ends : IsOneEnd txn added)
      → IsOwnEntry ends.0 → AllInOrder (state_of book) added
  ended-in-order has added whose ends owns =
      subst (AllInOrder (state_of book)) (sym ends.2) (end-in-order (state_of book) txn _ under.here refl has ends.0 (subst (AreOf txn) ends.2 whose).0 ends.1 owns, tt)

-- a write id is asked for as it means
asks-as-meant : (table : TableId) (o : Option Meaning) (found : Meaning) → o ≡ Some found → IsOfRows table found → (needs_id [] o ≡ true) × IsOfTable table o
asks-as-meant table o (Change info effect) is rows =
    subst (λ (m : Option Meaning). (needs_id [] m ≡ true) × IsOfTable table m) (sym is) (lt-ltb 0 (changes_in effect) rows.1, rows.0)
asks-as-meant table o other is rows = absurd rows

module _ (book : List Entry) (asking : Asking) (txn place : ℕ) (said : Stmt) (under : IsUnderWay book asking txn place said [])
    (found : Meaning) (means : meant (take place book) said ≡ Some found) where
  given-in-order : (table : TableId) (write : WriteId) → IsOfRows table found → IsInOrder (state_of book) (giving txn table write)
  given-in-order table write rows =
      let asks = asks-as-meant table (meant (take place book) said) found means rows in
      of-it (state_of book) txn _ under.here refl (AsksForId table) (record { needs = asks.0; of_table = asks.1 })

  id-in-order : (added : List Entry) → AddsNoneOrOne txn added → AllByRecursion (IsAskedBy found) added → AllInOrder (state_of book) added
  id-in-order added (inl none) asks = subst (AllInOrder (state_of book)) (sym none) tt
  id-in-order added (inr (inr job)) asks = subst (AllInOrder (state_of book)) (sym job.4) (tt, tt)
  id-in-order added (inr (inl id)) asks =
      subst (AllInOrder (state_of book)) (sym id.2) (given-in-order id.0 id.1 (subst (AllByRecursion (IsAskedBy found)) id.2 asks).0, tt)

  still-under : (added : List Entry) → AddsNoneOrOne txn added → (given : List (ℕ × ℕ)) × IsUnderWay (book ++ added) asking txn place said given
  still-under added (inl none) = (
    [],
    subst (λ (es : List Entry). IsUnderWay (book ++ es) asking txn place said []) (sym none)
        (subst (λ (b : List Entry). IsUnderWay b asking txn place said []) (sym (append-nil book)) under),
  )
  still-under added (inr (inr job)) = (
    [],
    subst (λ (es : List Entry). IsUnderWay (book ++ es) asking txn place said []) (sym job.4)
        (job-under book asking txn place said job.0 job.1 job.2 job.3 under),
  )
  still-under added (inr (inl id)) = (
    (id.0.0, id.1.0) ∷ [],
    subst (λ (es : List Entry). IsUnderWay (book ++ es) asking txn place said ((id.0.0, id.1.0) ∷ [])) (sym id.2)
        (ids-given book asking txn place said [] id.0 id.1 under),
  )

  asked-so : (now added : List Entry) → now ≡ book ++ added → AddsAsked found book now → AllByRecursion (IsAskedBy found) added
  asked-so now added is asks =
      subst (AllByRecursion (IsAskedBy found)) (append_cancel_left book asks.added added (sym asks.book ∙ is)) asks.asked

  -- while it is prepared
  pub prepared-in-order : (now added : List Entry) → now ≡ book ++ added → AddsAsked found book now → AddsNoneOrOne txn added → AllInOrder (state_of book) added
  prepared-in-order now added is asks shape = id-in-order added shape (asked-so now added is asks)

  -- and where it ends there
  pub cut-in-order : (now added : List Entry) → now ≡ book ++ added → AddsAsked found book now → AddsAbort txn added → AllInOrder (state_of book) added
  cut-in-order now added is asks ends =
      let all : AllByRecursion (IsAskedBy found) (ends.0 ++ aborting txn ends.1 ∷ []) = subst (AllByRecursion (IsAskedBy found)) ends.4 (asked-so now added is asks) in
      let later = still-under ends.0 ends.2 in
      subst (AllInOrder (state_of book)) (sym ends.4)
      (order-behind (state_of book) ends.0 (aborting txn ends.1 ∷ []) (id-in-order ends.0 ends.2 (all-front (IsAskedBy found) ends.0 (aborting txn ends.1 ∷ []) all))
      (subst (λ (s : State). AllInOrder s (aborting txn ends.1 ∷ [])) (state-behind book ends.0)
      (aborted-in-order (book ++ ends.0) asking txn place said later.0 later.1 ends.1 ends.3)))

-- ---- what is ready to end has its write id where it needs one, and ends by no refusal

-- what it means, where it touches nothing
touches-nothing : (o : Option Meaning) → TouchesAreMeant [] o → IsToCommit [] o
touches-nothing (Some (Change info effect)) are = by (nat_lt 0 (changes_in effect)) refl
  where
    by : (b : Bool) → nat_lt 0 (changes_in effect) ≡ b → nat_lt 0 (changes_in effect) ≡ false
    by true is =
        let some : 0 < changes_in effect = grind (arith, nat_tests, is) in
        absurd (some-touched info effect some (sym are))
    by false is = is
touches-nothing (Some (Refused why)) are = absurd are
touches-nothing (Some (Make shape)) are = tt
touches-nothing (Some (Unmake table)) are = tt
touches-nothing (Some (Twice region row)) are = absurd are
touches-nothing (Some RowLimit) are = absurd are
touches-nothing (Some PartitionLimit) are = absurd are
touches-nothing (Some (Listing names rows)) are = tt
touches-nothing (Some Plain) are = tt
touches-nothing (Some (Ask asked region kind)) are = tt
touches-nothing None are = tt

makes-table : (o : Option Meaning) → IsMake o → IsToCommit [] o
makes-table (Some (Make shape)) makes = tt
makes-table o makes = absurd makes

pub true-to-commit : (o : Option Meaning) (given : List (ℕ × ℕ)) (last : End) (text : List ℕ) → EndIsTrue o given last text → IsToCommit given o
true-to-commit o given (end.Commit wrote name put) text is = by is.files_are
  where
    by : ((given ≡ []) × (wrote ≡ [])) ⊎ IsChangeReady o given name put → IsToCommit given o
    by (inl none) =
        subst (λ (ids : List (ℕ × ℕ)). IsToCommit ids o) (sym none.0)
        (touches-nothing o (subst (λ (ts : List Touch). TouchesAreMeant ts o) none.1 is.meant))
    by (inr change) =
        subst (λ (ids : List (ℕ × ℕ)). IsToCommit ids o) (sym change.id)
        (subst (λ (m : Option Meaning). IsToCommit ((change.info.table.0, change.write) ∷ []) m) (sym change.is_change) refl)
true-to-commit o given end.Create text is = subst (λ (ids : List (ℕ × ℕ)). IsToCommit ids o) (sym is.none) (makes-table o is.makes)
true-to-commit o given (end.Drop table) text is =
    subst (λ (ids : List (ℕ × ℕ)). IsToCommit ids o) (sym is.none) (subst (IsToCommit []) (sym is.drops) tt)

pub needs-no-id : (given : List (ℕ × ℕ)) (o : Option Meaning) → IsToCommit given o → needs_id given o ≡ false
needs-no-id (x ∷ given) o to_commit = refl
needs-no-id [] (Some (Change info effect)) to_commit = to_commit
needs-no-id [] (Some (Refused why)) to_commit = refl
needs-no-id [] (Some (Make shape)) to_commit = refl
needs-no-id [] (Some (Unmake table)) to_commit = refl
needs-no-id [] (Some (Twice region row)) to_commit = refl
needs-no-id [] (Some RowLimit) to_commit = refl
needs-no-id [] (Some PartitionLimit) to_commit = refl
needs-no-id [] (Some (Listing names rows)) to_commit = refl
needs-no-id [] (Some Plain) to_commit = refl
needs-no-id [] (Some (Ask asked region kind)) to_commit = refl
needs-no-id [] None to_commit = refl

-- ---- at its hold

read-unrefused : (found : Meaning) → IsUnrefused found → IsUnrefusedMeaning (Some found)
read-unrefused (Refused why) un = un
read-unrefused other un = tt

pub at-its-hold : (hold : Option Stage) (at : Point) (o : Option Meaning) (given : List (ℕ × ℕ)) → IsAtPlace hold at → WaitsUnrefused at
    → PointIsTrue o given at → IsAtHold hold given o
at-its-hold (Some stage.Start) point.Started o given place unrefused truly = tt
at-its-hold (Some stage.Read) (point.Meant found) o given place unrefused truly =
    subst IsUnrefusedMeaning (sym truly) (read-unrefused found unrefused)
at-its-hold (Some stage.Commit) (point.Ready ready) o given place unrefused truly = true-to-commit o given ready.end ready.text truly
at-its-hold hold other o given place unrefused truly = absurd place

-- ---- a statement is opened

pub opened-in-order : (book : List Entry) (asking : Asking) (more : List Entry) → AllInOrder (state_of (book ++ opening book asking ∷ [])) more
    → AllInOrder (state_of book) (opening book asking ∷ more)
opened-in-order book asking more rest = (tt, subst (λ (s : State). AllInOrder s more) (one-behind book (opening book asking)) rest)

-- and started at once
pub begun-in-order : (book : List Entry) (asking : Asking) (more : List Entry)
    → AllInOrder (state_of (book ++ opening book asking ∷ starting (next_number book) ∷ [])) more → AllInOrder (state_of book) (opening book asking ∷ starting (next_number book) ∷ more)
begun-in-order book asking more rest =
    (tt, (tt, subst (λ (s : State). AllInOrder s more) (state-behind book (opening book asking ∷ starting (next_number book) ∷ [])) rest))

-- one that waits for its Start
module _ (book : List Entry) (asking : Asking) (txn : ℕ) (said : Stmt) (waits : IsWaiting book asking txn said) where
  pub of-waiting : (P : Transaction → Type 0) → P (opened asking.session asking.number asking.text) → Of (state_of book) txn P
  of-waiting P p = subst (λ (o : Option Transaction). IsSomeAnd o P) (sym waits.here) p

  -- the lock set of a text is what its tree names
  pub locks-are : locks_of (opened asking.session asking.number asking.text) ≡ names_in said
  locks-are = append-nil (locks_of_tree (tree_of asking.text)) ∙ ap locks_of_tree waits.runs.read
