-- Where others do nothing, a statement begins at once where it can, and else it is turned away for what stood in its way; and where a run
-- stops in that, it stops as over a house alone.
use Rattle.std.proofs.Common.{◌≡◌, ◌⊎◌, inl, inr, ℕ, ◌+◌, ◌<◌, ◌≤◌, Bool, true, false, ◌||◌, Option, Some, None, List, [], ◌∷◌, ◌++◌, length, fold, refl, sym, ap, ◌∙◌, subst, append-nil, append_assoc, length-append, arith, Err}
use Rattle.std.specs.Prelude.{if◌then◌else◌, nat_lt, IsSomeAnd}
use Rattle.std.specs.List.{list_any}
use Rattle.std.proofs.lemmas.Bool.Decides.{nat_tests}
use Rattle.std.proofs.lemmas.List.{append_cancel_left}
use Rattle.std.proofs.lemmas.List.Sums.{fold-append}
use Rattle.hv_base.specs.declared.ids.TxnId.{TxnId}
use Rattle.hv_shelf.specs.Disk.{Store}
use Rattle.hv_ast.specs.declared.statement.Stmt.{Stmt}
use Rattle.hv_built.specs.Running.{Runs}
use Rattle.hv_locks.specs.declared.table.Lock.{Lock}
use Rattle.hv_history.specs.declared.entry.Entry.{Entry}
use Rattle.hv_history.specs.declared.entry.Entry.TheVariants as entry
use Rattle.hv_history.specs.declared.entry.Cause.{Cause}
use Rattle.hv_history.specs.declared.entry.Cause.TheVariants as cause
use Rattle.hv_history.specs.declared.state.Ending.TheVariants.{Aborted}
use Rattle.hv_history.specs.declared.state.Transaction.{Transaction}
use Rattle.hv_history.specs.State.{State, state_of, nothing_yet, acted, after, numbered, opened, ended}
use Rattle.hv_history.specs.Legal.{Of, AllFit, Fits, GivenFits, CommitFits, CreateFits, DropFits, CauseFits, StartFits, BlockedFits, HasRoom, holds_against, first_holder, locks_of, load, profile}
use Rattle.hv_history.specs.Legal.{IsWaiting as WaitsNow}
use Rattle.hv_history.proofs.LastingLaws.{goes-on-all}
use Rattle.hv_stands.specs.Running.{Asking, next_number, opening, starting, IsOf, AreOf, IsWaiting}
use Rattle.hv_stands.proofs.Begun.{opens}
use Rattle.hv_stands.proofs.Behind.{one-behind, aborted-there, numbered-behind}
use Rattle.hv_stands.proofs.Numbers.{one_value, found, numbered-within}
use Rattle.hv_trail.specs.declared.trail.TrailItem.{TrailItem}
use Rattle.hv_trail.specs.Trail.{book_of, state_at}
use Rattle.hv_trail.proofs.LastingLaws.{book-append}
use Rattle.hv_meta.specs.States.{state_in}
use Rattle.hv_law_next.specs.Order.{CauseInOrder, IsInOrder, AllInOrder}
use Rattle.hv_actor.specs.Acting.{IsAlone, known}
use Rattle.hv_beginning.specs.hv_steps.specs.hv_table_reader.specs.hv_acts.specs.hv_telling.specs.hv_house.specs.declared.fault.HouseFault.{HouseFault}
use Rattle.hv_beginning.specs.hv_steps.specs.hv_table_reader.specs.hv_acts.specs.hv_telling.specs.hv_house.specs.declared.fault.HouseFault.TheVariants as fault
use Rattle.hv_beginning.specs.hv_steps.specs.hv_table_reader.specs.hv_acts.specs.hv_telling.specs.hv_house.specs.House.{entries_of, Leaves, BeginFits, beginning_of}
use Rattle.hv_beginning.specs.hv_steps.specs.hv_table_reader.specs.hv_acts.specs.hv_telling.specs.hv_house.specs.Asking.{CanBegin, holder_against}
use Rattle.hv_beginning.specs.hv_steps.specs.hv_table_reader.specs.hv_acts.specs.hv_telling.specs.hv_house.proofs.Beginning.{load-behind-opened, holder-behind-opened}
use Rattle.hv_beginning.specs.hv_steps.specs.hv_table_reader.specs.hv_acts.specs.hv_telling.proofs.Told.{told-stays}
use Rattle.hv_beginning.specs.hv_steps.specs.hv_table_reader.specs.hv_acts.specs.declared.told.ToldHouse.{ToldHouse}
use Rattle.hv_beginning.specs.hv_steps.specs.hv_table_reader.specs.hv_acts.specs.Told.{IsWholeOrClosed, trail_in, book_in}
use Rattle.hv_beginning.specs.hv_steps.specs.hv_table_reader.specs.hv_acts.specs.Answers.{HasNotEnded}
use Rattle.hv_beginning.specs.hv_steps.specs.hv_table_reader.specs.hv_acts.specs.Starting.{IsShort, IsInItsWay}
use Rattle.hv_beginning.specs.hv_steps.specs.hv_table_reader.specs.hv_acts.proofs.Steps.{book-is}
use Rattle.hv_beginning.specs.hv_steps.specs.hv_table_reader.specs.hv_acts.proofs.RunsOn.{waits-unended}
use Rattle.hv_beginning.specs.hv_steps.specs.Ending.{HasStopped, HasReplied, IsUndamaged, aborting}
use Rattle.hv_beginning.specs.hv_steps.specs.declared.ready.Reply.{Reply}
use Rattle.hv_beginning.specs.hv_steps.specs.declared.ready.Way.{Way}
use Rattle.hv_beginning.specs.hv_steps.specs.declared.reply.Done.{Done}
use Rattle.hv_beginning.specs.hv_steps.specs.declared.reply.Done.TheVariants as done
use Rattle.hv_beginning.specs.hv_steps.specs.declared.reply.Opened.{Opened}
use Rattle.hv_beginning.specs.hv_steps.specs.declared.reply.Opened.TheVariants as opened_as
use Rattle.hv_beginning.specs.hv_steps.specs.Going.{IsOpenHouse, AddsOwn, IsGone}
use Rattle.hv_beginning.specs.hv_steps.specs.Phases.{WasSoBetween, OpensAt, IsHinderedBefore, IsNextAt, BeginsAt, StartsAt, IsStoppedAt, NeverStarts, HasBegun, HasNotBegun, Begins, IsShutBeginning, IsShutOpening, BegunBy}
use Rattle.hv_session.specs.Taking.{IsWhyNot}
use Rattle.hv_session.specs.Alone.{AddsNothing, HasGained}
use Rattle.hv_session.specs.Ways.{HasStarted, IsTurnedAway, IsAnswered, BeginsSo, IsPart, IsTaking, BeginsAlone, HaltsAlone}
use Rattle.hv_session.proofs.AloneBooks.{adds-alone}
use Rattle.hv_session.proofs.AloneEnds.{of-one}
use Rattle.hv_session.proofs.AloneStops.{parts-alone}
use Rattle.hv_beginning.specs.hv_steps.proofs.Books.{fit-behind}
use Rattle.hv_beginning.proofs.Openings.{no-fewer, way-waits}
use Rattle.hv_session.proofs.Orders.{opened-in-order, of-waiting, locks-are}
use Rattle.hv_session.proofs.Passing.{part-taking}

-- ---- numbers of transactions

next-more : (book more : List Entry) → next_number book ≤ next_number (book ++ more)
next-more book more =
    let few = no-fewer (state_of book) (fold after (state_of book) more) (goes-on-all more (state_of book)) in
    let same : next_number (book ++ more) ≡ length (fold after (state_of book) more).transactions + 1 =
    ap (λ (s : State). length s.transactions + 1) (fold-append after nothing_yet book more) in
    omega (arith, few, same)

behind-opened : (s : State) (txn : TxnId) (session : List ℕ) (number : ℕ) (text : List ℕ)
    → (after s (entry.Opened txn session number text)).transactions ≡ s.transactions ++ opened session number text ∷ []
unfolding acted
behind-opened s txn session number text = refl

next-one : (book : List Entry) (asking : Asking) → next_number (book ++ opening book asking ∷ []) ≡ next_number book + 1
next-one book asking =
    let s : State = state_of book in
    let same : next_number (book ++ opening book asking ∷ []) ≡ length (after s (opening book asking)).transactions + 1 =
    ap (λ (now : State). length now.transactions + 1) (one-behind book (opening book asking)) in
    let longer : length (after s (opening book asking)).transactions ≡ length (s.transactions ++ opened asking.session asking.number asking.text ∷ []) =
    ap length (behind-opened s (record { 0 = next_number book }) asking.session asking.number asking.text) in
    omega (arith, same, longer, length-append s.transactions (opened asking.session asking.number asking.text ∷ []))

-- an Opened that fits has the number that is next
opened-next : (book other : List Entry) (asking : Asking) (event : Entry) → event ≡ opening other asking → Fits profile (state_of book) event
    → next_number other ≡ next_number book
opened-next book other asking event is fit =
    let fits : Fits profile (state_of book) (opening other asking) = subst (Fits profile (state_of book)) is fit in fits.next

-- an entry that fits is of the transaction that it opens, or of one that is there
abbrev IsNextOrThere : State → ℕ → Type 0
IsNextOrThere s txn = (txn ≡ length s.transactions + 1) ⊎ (txn ≤ length s.transactions)

there : (s : State) (number txn : ℕ) (P : Transaction → Type 0) → Some number ≡ Some txn → Of s number P → IsNextOrThere s txn
there s number txn P whose fit =
    let here = found P (numbered s.transactions number) fit in
    let within = numbered-within s.transactions number here.0 here.1 in
    let same : number ≡ txn = one_value number txn whose in
    inr (omega (arith, within.1, same))

-- a job is asked for by nobody, or by one that is there
asker-there : (s : State) (by_ txn : ℕ) (P : Transaction → Type 0) → Some by_ ≡ Some txn → (by_ ≡ 0) ⊎ Of s by_ P → IsNextOrThere s txn
asker-there s by_ txn P whose (inl nobody) = let same : by_ ≡ txn = one_value by_ txn whose in inr (omega (arith, nobody, same))
asker-there s by_ txn P whose (inr asker) = there s by_ txn P whose asker

fits-of : (s : State) (event : Entry) (txn : ℕ) → Fits profile s event → IsOf txn event → IsNextOrThere s txn
fits-of s (entry.Opened id session number text) txn fits whose = inl (sym (one_value id.0 txn whose) ∙ fits.next)
fits-of s (entry.Start id statement) txn fits whose = there s id.0 txn (StartFits profile s statement) whose fits
fits-of s (entry.Given id table write) txn fits whose = there s id.0 txn (GivenFits profile s table.0 write.0) whose fits
fits-of s (entry.Commit id wrote) txn fits whose = there s id.0 txn (CommitFits s wrote) whose fits
fits-of s (entry.Abort id (cause.Request by_)) txn fits whose =
    let here = found (CauseFits profile s id.0 (cause.Request by_)) (numbered s.transactions id.0) fits in
    there s by_.0 txn _ whose here.2.asks
fits-of s (entry.Abort id why) txn fits whose = there s id.0 txn (CauseFits profile s id.0 why) whose fits
fits-of s (entry.Create id table) txn fits whose = there s id.0 txn (CreateFits s table.0) whose fits
fits-of s (entry.Drop id table) txn fits whose = there s id.0 txn (DropFits s table.0) whose fits
fits-of s (entry.Boot run) txn fits whose = let never : None ≡ Some txn = whose in let wrong : ⊥ = cc in absurd wrong
fits-of s (entry.Asked job table partition kind by_) txn fits whose = asker-there s by_ txn _ whose fits.asker
fits-of s (entry.Picked job mark) txn fits whose = let never : None ≡ Some txn = whose in let wrong : ⊥ = cc in absurd wrong
fits-of s (entry.Published job low high mark) txn fits whose = let never : None ≡ Some txn = whose in let wrong : ⊥ = cc in absurd wrong
fits-of s (entry.Empty job) txn fits whose = let never : None ≡ Some txn = whose in let wrong : ⊥ = cc in absurd wrong
fits-of s (entry.Cleaned job) txn fits whose = let never : None ≡ Some txn = whose in let wrong : ⊥ = cc in absurd wrong
fits-of s (entry.Failed job why) txn fits whose = let never : None ≡ Some txn = whose in let wrong : ⊥ = cc in absurd wrong
fits-of s (entry.Forgot table write) txn fits whose = let never : None ≡ Some txn = whose in let wrong : ⊥ = cc in absurd wrong
fits-of s event txn fits whose = absurd fits

-- so the first of its entries has the next number, where that is no lower
first-number : (book : List Entry) (added : List Entry) (txn : ℕ) → AllFit profile (state_of book) added → AreOf txn added → next_number book ≤ txn
    → (added ≡ []) ⊎ (txn ≡ next_number book)
first-number book [] txn fit whose low = inl refl
first-number book (event ∷ added) txn fit whose low = by (fits-of (state_of book) event txn fit.0 whose.0)
  where
    by : IsNextOrThere (state_of book) txn → (event ∷ added ≡ []) ⊎ (txn ≡ next_number book)
    by (inl is) = inr is
    by (inr is) = absurd (omega (arith, is, low))

-- ---- what was added, in two parts

-- a book between the first one and the last: of what was added these stand in it, and these behind it
record Between (book added at : List Entry) : Type 0 where
  pub others : List Entry
  pub more : List Entry
  pub at_is : at ≡ book ++ others
  pub parts : others ++ more ≡ added

is-between : {D : Type 0} (before now : ToldHouse D) (added : List Entry) (Is : List TrailItem → Type 0) → entries_of now.house ≡ entries_of before.house ++ added
    → (was : WasSoBetween before now Is) → Between (entries_of before.house) added (book_of was.trail)
is-between before now added Is book was =
    let first : List Entry = entries_of before.house in
    let others : List Entry = book_of was.later.0 in
    let more : List Entry = book_of was.front.0 in
    let at : book_of was.trail ≡ first ++ others =
    ap book_of was.later.1 ∙ book-append (trail_in before) was.later.0 ∙ ap (λ (xs : List Entry). xs ++ others) (book-is before.house) in
    let all : entries_of now.house ≡ first ++ (others ++ more) =
    sym (book-is now.house) ∙ ap book_of was.front.1 ∙ book-append was.trail was.front.0 ∙ ap (λ (xs : List Entry). xs ++ more) at ∙ append_assoc first others more in
    record { others = others; more = more; at_is = at; parts = append_cancel_left first (others ++ more) added (sym all ∙ book) }

-- none stands in it where no number was given
none-yet : (book others more rest : List Entry) (asking : Asking) → others ++ more ≡ opening book asking ∷ rest → next_number (book ++ others) ≤ next_number book → others ≡ []
none-yet book [] more rest asking e low = refl
none-yet book (x ∷ xs) more rest asking e low =
    let is : x ≡ opening book asking = cc in
    let one = next-one book asking in
    let on = next-more (book ++ opening book asking ∷ []) xs in
    let same : next_number (book ++ x ∷ xs) ≡ next_number ((book ++ opening book asking ∷ []) ++ xs) =
    ap (λ (first : Entry). next_number (book ++ first ∷ xs)) is ∙ ap next_number (sym (append_assoc book (opening book asking ∷ []) xs)) in
    absurd (omega (arith, low, one, on, same))

at-first : (book at rest : List Entry) (asking : Asking) → Between book (opening book asking ∷ rest) at → next_number at ≤ next_number book → at ≡ book
at-first book at rest asking between low =
    let none = none-yet book between.others between.more rest asking between.parts (subst (λ (b : List Entry). next_number b ≤ next_number book) between.at_is low) in
    between.at_is ∙ ap (λ (xs : List Entry). book ++ xs) none ∙ append-nil book

-- of two entries none stands in it, the first, or both
abbrev IsOneOfThree : List Entry → Entry → Entry → Type 0
IsOneOfThree others event last = (others ≡ []) ⊎ (others ≡ event ∷ []) ⊎ (others ≡ event ∷ last ∷ [])

one-of-three : (others more : List Entry) (event last : Entry) → others ++ more ≡ event ∷ last ∷ [] → IsOneOfThree others event last
one-of-three [] more event last e = inl refl
one-of-three (x ∷ []) more event last e = let is : x ≡ event = cc in inr (inl (ap (λ (z : Entry). z ∷ []) is))
one-of-three (x ∷ y ∷ []) more event last e =
    let is : x ≡ event = cc in
    let other : y ≡ last = cc in
    inr (inr (ap (λ (z : Entry). z ∷ y ∷ []) is ∙ ap (λ (z : Entry). event ∷ z ∷ []) other))
one-of-three (x ∷ y ∷ z ∷ others) more event last e = let never : z ∷ (others ++ more) ≡ [] = cc in let wrong : ⊥ = cc in absurd wrong

-- ---- its Opened

record OpensHere (book : List Entry) (asking : Asking) (txn : ℕ) (event : Entry) : Type 0 where
  pub txn_is : txn ≡ next_number book
  pub event_is : event ≡ opening book asking

opens-here : {D : Type 0} (before now : ToldHouse D) (asking : Asking) (txn : ℕ) (event : Entry) (rest : List Entry) → AllFit profile nothing_yet (entries_of now.house)
    → entries_of now.house ≡ entries_of before.house ++ event ∷ rest → WasSoBetween before now (OpensAt asking txn event)
    → OpensHere (entries_of before.house) asking txn event
opens-here before now asking txn event rest fit book was =
    let first : List Entry = entries_of before.house in
    let at = was.was in
    let here : Fits profile (state_of first) event = (fit-behind nothing_yet first (event ∷ rest) (subst (AllFit profile nothing_yet) book fit)).0 in
    let same : next_number (book_of was.trail) ≡ next_number first = opened-next first (book_of was.trail) asking event at.event_is here in
    record {
      txn_is = at.txn_is ∙ same;
      event_is = at.event_is ∙ ap (λ (n : ℕ). entry.Opened (record { 0 = n }) asking.session asking.number asking.text) same;
    }

-- ---- locks

free-held : (locks : List Lock) (number : ℕ) (ts : List Transaction) → list_any (holds_against locks) ts ≡ false → first_holder locks number ts ≡ None
free-held locks number [] free = refl
free-held locks number (t ∷ ts) free = by (holds_against locks t) free (λ rest. free-held locks (number + 1) ts rest)
  where
    by : (b : Bool) → b || list_any (holds_against locks) ts ≡ false → (list_any (holds_against locks) ts ≡ false → first_holder locks (number + 1) ts ≡ None)
        → (if b then Some number else first_holder locks (number + 1) ts) ≡ None
    by true never go = let wrong : true ≡ false = never in cc
    by false rest go = go rest

none-first : (o : Option ℕ) → ((holder : ℕ) → o ≡ Some holder → ⊥) → o ≡ None
none-first None never = refl
none-first (Some holder) never = absurd (never holder refl)

-- ---- one that was opened

module _ (book : List Entry) (asking : Asking) (said : Stmt) (runs : Runs asking.text said) where
  abbrev opened_book : List Entry
  opened_book = book ++ opening book asking ∷ []

  abbrev its_own : Transaction
  its_own = opened asking.session asking.number asking.text

  waits : IsWaiting opened_book asking (next_number book) said
  waits = opens book asking said runs

  -- what its locks meet behind its Opened they meet before it
  held-here : first_holder (locks_of its_own) 1 (state_of opened_book).transactions ≡ holder_against book said
  held-here =
      ap (λ (locks : List Lock). first_holder locks 1 (state_of opened_book).transactions) (locks-are opened_book asking (next_number book) said waits)
      ∙ holder-behind-opened book asking said

  here-is : (P : State → Transaction → Type 0) → Of (state_of opened_book) (next_number book) (P (state_of opened_book)) → P (state_of opened_book) its_own
  here-is P is = subst (λ (o : Option Transaction). IsSomeAnd o (P (state_of opened_book))) waits.here is

  -- where its Start fits behind its Opened, it can begin
  start-can : AllFit profile (state_of book) (beginning_of book asking) → CanBegin profile book said
  start-can fit =
      let fits : Of (state_of opened_book) (next_number book) (StartFits profile (state_of opened_book) 0) =
      subst (λ (s : State). Of s (next_number book) (StartFits profile s 0)) (sym (one-behind book (opening book asking))) fit.1.0 in
      let start : StartFits profile (state_of opened_book) 0 its_own = here-is (λ (s : State). StartFits profile s 0) fits in
      (omega (arith, start.room, load-behind-opened book asking), sym held-here ∙ free-held (locks_of its_own) 1 (state_of opened_book).transactions start.unlocked)

  -- what stood in its way behind its Opened
  why-at : (trail : List TrailItem) (why : Cause) → book_of trail ≡ opened_book → IsInItsWay trail (record { 0 = next_number book }) why → IsWhyNot book said why
  why-at trail (cause.Blocked holder) at is =
      let blocked : BlockedFits (state_of opened_book) holder.0 its_own =
      here-is (λ (s : State). BlockedFits s holder.0) (subst (λ (b : List Entry). Of (state_of b) (next_number book) (BlockedFits (state_of b) holder.0)) at is) in
      sym held-here ∙ blocked.held
  why-at trail cause.Full at is =
      let short : IsShort (state_of opened_book) its_own =
      here-is IsShort (subst (λ (b : List Entry). Of (state_of b) (next_number book) (IsShort (state_of b))) at is) in
      let none : first_holder (locks_of its_own) 1 (state_of opened_book).transactions ≡ None =
      none-first (first_holder (locks_of its_own) 1 (state_of opened_book).transactions)
      (λ holder held. short.unheld holder (record { waiting = short.waiting; held = held })) in
      (sym held-here ∙ none, omega (arith, short.full.full, load-behind-opened book asking))
  why-at trail why at is = absurd is

  -- it doesn't wait before its Opened, nor behind its abort
  not-before : (trail : List TrailItem) → book_of trail ≡ book → Of (state_at trail) (next_number book) WaitsNow → ⊥
  not-before trail at is =
      let here = found WaitsNow (numbered (state_of book).transactions (next_number book)) (subst (λ (b : List Entry). Of (state_of b) (next_number book) WaitsNow) at is) in
      let within = numbered-within (state_of book).transactions (next_number book) here.0 here.1 in
      absurd (omega (arith, within.1))

  not-behind : (trail : List TrailItem) (why : Cause) → book_of trail ≡ opened_book ++ aborting (next_number book) why ∷ [] → Of (state_at trail) (next_number book) WaitsNow → ⊥
  not-behind trail why at is =
      let end : Entry = aborting (next_number book) why in
      let gone : Transaction = ended (Aborted (state_of opened_book).entries why) its_own in
      let here : numbered (state_of (opened_book ++ end ∷ [])).transactions (next_number book) ≡ Some gone =
      numbered-behind opened_book end (next_number book) (Some gone) (aborted-there (state_of opened_book) (next_number book) its_own waits.here refl why) in
      let still : WaitsNow gone =
      subst (λ (o : Option Transaction). IsSomeAnd o WaitsNow) here (subst (λ (b : List Entry). Of (state_of b) (next_number book) WaitsNow) at is) in
      let never : false ≡ true = still.unended in cc

  -- so it was to start behind its Opened
  stopped-why : (trail : List TrailItem) (why other : Cause) (others : List Entry) → book_of trail ≡ book ++ others
      → IsOneOfThree others (opening book asking) (aborting (next_number book) other) → IsInItsWay trail (record { 0 = next_number book }) why → IsWhyNot book said why
  stopped-why trail why other others at (inl none) is =
      absurd (not-before trail (at ∙ ap (λ (xs : List Entry). book ++ xs) none ∙ append-nil book) (way-waits trail (record { 0 = next_number book }) why is))
  stopped-why trail why other others at (inr (inl one)) is = why-at trail why (at ∙ ap (λ (xs : List Entry). book ++ xs) one) is
  stopped-why trail why other others at (inr (inr both)) is =
      absurd (not-behind trail other
      (at ∙ ap (λ (xs : List Entry). book ++ xs) both ∙ sym (append_assoc book (opening book asking ∷ []) (aborting (next_number book) other ∷ [])))
      (way-waits trail (record { 0 = next_number book }) why is))

  -- the abort for that comes in order
  why-in-order : (why : Cause) → IsWhyNot book said why → IsInOrder (state_of opened_book) (aborting (next_number book) why)
  why-in-order (cause.Blocked holder) is =
      of-waiting opened_book asking (next_number book) said waits (CauseInOrder (state_of opened_book) (next_number book) (cause.Blocked holder)) tt
  why-in-order cause.Full is =
      of-waiting opened_book asking (next_number book) said waits (CauseInOrder (state_of opened_book) (next_number book) cause.Full) (λ unstarted. held-here ∙ is.0)
  why-in-order cause.Memory is = of-waiting opened_book asking (next_number book) said waits (CauseInOrder (state_of opened_book) (next_number book) cause.Memory) tt
  why-in-order why is = absurd is

  turned-in-order : (why : Cause) → IsWhyNot book said why → AllInOrder (state_of book) (opening book asking ∷ aborting (next_number book) why ∷ [])
  turned-in-order why is = opened-in-order book asking (aborting (next_number book) why ∷ []) (why-in-order why is, tt)

pub why-own : (book : List Entry) (said : Stmt) (txn : ℕ) (why : Cause) → IsWhyNot book said why → IsOf txn (aborting txn why)
why-own book said txn (cause.Blocked holder) is = refl
why-own book said txn cause.Full is = refl
why-own book said txn cause.Memory is = refl
why-own book said txn why is = absurd is

why-undamaged : (book : List Entry) (said : Stmt) (txn : ℕ) (why : Cause) → IsWhyNot book said why → IsUndamaged (aborting txn why)
why-undamaged book said txn (cause.Blocked holder) is = tt
why-undamaged book said txn cause.Full is = tt
why-undamaged book said txn cause.Memory is = tt
why-undamaged book said txn why is = absurd is

-- there is no room for its opening and its end
lacks-room : (state : State) → (HasRoom profile state 2 → ⊥) → profile.entries < load state + 2
lacks-room state cannot = by (nat_lt profile.entries (load state + 2)) refl
  where
    by : (b : Bool) → nat_lt profile.entries (load state + 2) ≡ b → profile.entries < load state + 2
    by true is = grind (arith, nat_tests, is)
    by false is = absurd (cannot (grind (arith, nat_tests, is)))

-- ---- behind what was added

module _ {D : Type 0} (before now : ToldHouse D) (fit : AllFit profile nothing_yet (entries_of now.house)) (asking : Asking) (said : Stmt) where
  abbrev first_book : List Entry
  first_book = entries_of before.house

  abbrev last_book : List Entry
  last_book = entries_of now.house

  -- it couldn't begin where it was hindered before it was opened
  hindered-first : (txn : ℕ) (rest : List Entry) → txn ≡ next_number first_book → last_book ≡ first_book ++ opening first_book asking ∷ rest
      → WasSoBetween before now (IsHinderedBefore txn said) → CanBegin profile first_book said → ⊥
  hindered-first txn rest number book was can =
      let low = was.was.before in
      let here : book_of was.trail ≡ first_book =
      at-first first_book (book_of was.trail) rest asking (is-between before now (opening first_book asking ∷ rest) (IsHinderedBefore txn said) book was)
      (omega (arith, low, number)) in
      was.was.hindered (subst (λ (b : List Entry). CanBegin profile b said) (sym here) can)

  started-by : (way : Way) (event : Entry) → Runs asking.text said → OpensHere first_book asking way.txn.0 event → last_book ≡ first_book ++ beginning_of first_book asking
      → WasSoBetween before now (BeginsAt asking said way event) ⊎ (WasSoBetween before now (IsHinderedBefore way.txn.0 said) × WasSoBetween before now (StartsAt way))
      → HasStarted first_book last_book asking said way
  started-by way event runs here book (inl was) =
      let number = was.was.opens.txn_is in
      let same = here.txn_is in
      let at : book_of was.trail ≡ first_book =
      at-first first_book (book_of was.trail) (starting (next_number first_book) ∷ []) asking
      (is-between before now (beginning_of first_book asking) (BeginsAt asking said way event) book was) (omega (arith, number, same)) in
      record {
        txn_is = here.txn_is;
        place_is = was.was.place ∙ ap (λ (b : List Entry). length b + 1) at;
        can = subst (λ (b : List Entry). CanBegin profile b said) at was.was.can;
        book = book;
      }
  started-by way event runs here book (inr was) =
      absurd (hindered-first way.txn.0 (starting (next_number first_book) ∷ []) here.txn_is book was.0
      (start-can first_book asking said runs (fit-behind nothing_yet first_book (beginning_of first_book asking) (subst (AllFit profile nothing_yet) book fit))))

  started-so : (way : Way) (added : List Entry) → last_book ≡ first_book ++ added → HasBegun before now asking said way added → HasStarted first_book last_book asking said way
  started-so way added book begun =
      let whole : last_book ≡ first_book ++ begun.event ∷ starting way.txn.0 ∷ [] = book ∙ ap (λ (xs : List Entry). first_book ++ xs) begun.added_is in
      let here = opens-here before now asking way.txn.0 begun.event (starting way.txn.0 ∷ []) fit whole begun.was_opened in
      started-by way begun.event begun.under_way.was.runs here
      (whole ∙ ap (λ (event : Entry). first_book ++ event ∷ starting way.txn.0 ∷ []) here.event_is
      ∙ ap (λ (n : ℕ). first_book ++ opening first_book asking ∷ starting n ∷ []) here.txn_is) begun.can

  -- it was turned away
  stopped-so : (txn : ℕ) (why : Cause) (reply : Reply) → Runs asking.text said → txn ≡ next_number first_book
      → last_book ≡ first_book ++ opening first_book asking ∷ aborting (next_number first_book) why ∷ []
      → (CanBegin profile first_book said → ⊥) → WasSoBetween before now (IsStoppedAt txn why reply) ⊎ (why ≡ cause.Memory) → IsWhyNot first_book said why
  stopped-so txn why reply runs number book cannot (inr memory) = subst (IsWhyNot first_book said) (sym memory) cannot
  stopped-so txn why reply runs number book cannot (inl was) =
      let event : Entry = opening first_book asking in
      let last : Entry = aborting (next_number first_book) why in
      let between = is-between before now (event ∷ last ∷ []) (IsStoppedAt txn why reply) book was in
      stopped-why first_book asking said runs was.trail why why between.others between.at_is (one-of-three between.others between.more event last between.parts)
      (subst (λ (n : ℕ). IsInItsWay was.trail (record { 0 = n }) why) number was.was.in_its_way)

  -- nobody else ends it
  never-gone : (txn at : ℕ) → Runs asking.text said → txn ≡ next_number first_book → last_book ≡ first_book ++ opening first_book asking ∷ [] → IsGone (trail_in now) txn at → ⊥
  never-gone txn at runs number book gone =
      let waiting = waits first_book asking said runs in
      let is : Of (state_of (first_book ++ opening first_book asking ∷ [])) (next_number first_book) WaitsNow =
      of-one WaitsNow (state_of (first_book ++ opening first_book asking ∷ [])) (next_number first_book) (opened asking.session asking.number asking.text) waiting.here
      (record { unended = refl; unstarted = refl }) in
      let there_ : Of (state_at (trail_in now)) txn WaitsNow =
      subst (λ (b : List Entry). Of (state_of b) txn WaitsNow) (sym (book-is now.house ∙ book))
      (subst (λ (n : ℕ). Of (state_of (first_book ++ opening first_book asking ∷ [])) n WaitsNow) (sym number) is) in
      let not : HasNotEnded (state_in (state_at (trail_in now)) txn) =
      subst (λ (trail : List TrailItem). HasNotEnded (state_in (state_at trail) txn)) (append-nil (trail_in now))
      (waits-unended (trail_in now) [] (record { 0 = txn }) there_ refl) in
      subst HasNotEnded gone not

  turned-so : (found : Done) (added : List Entry) → last_book ≡ first_book ++ added → HasNotBegun before now asking said found added
      → IsTurnedAway first_book last_book asking said found × IsAnswered last_book (next_number first_book) found
  turned-so (done.Gone reply) added book begun =
      let whole : last_book ≡ first_book ++ begun.event ∷ [] = book ∙ ap (λ (xs : List Entry). first_book ++ xs) begun.ends.0 in
      let here = opens-here before now asking begun.txn begun.event [] fit whole begun.was_opened in
      absurd (never-gone begun.txn begun.ends.1.at begun.runs here.txn_is (whole ∙ ap (λ (event : Entry). first_book ++ event ∷ []) here.event_is) begun.ends.1.gone)
  turned-so (done.Replied reply) added book begun =
      let last : Entry = begun.ends.0 in
      let never : NeverStarts before now begun.txn said last reply = begun.ends.2 in
      let whole : last_book ≡ first_book ++ begun.event ∷ last ∷ [] = book ∙ ap (λ (xs : List Entry). first_book ++ xs) begun.ends.1 in
      let here = opens-here before now asking begun.txn begun.event (last ∷ []) fit whole begun.was_opened in
      let number : begun.txn ≡ next_number first_book = here.txn_is in
      let all : last_book ≡ first_book ++ opening first_book asking ∷ aborting (next_number first_book) never.why ∷ [] =
      whole ∙ ap (λ (event : Entry). first_book ++ event ∷ last ∷ []) here.event_is
      ∙ ap (λ (end : Entry). first_book ++ opening first_book asking ∷ end ∷ []) (never.entry_is ∙ ap (λ (n : ℕ). aborting n never.why) number) in
      let cannot : CanBegin profile first_book said → ⊥ =
      hindered-first begun.txn (aborting (next_number first_book) never.why ∷ []) number all never.hindered in
      let why_not : IsWhyNot first_book said never.why = stopped-so begun.txn never.why reply begun.runs number all cannot never.stopped in (
        record {
          why = never.why;
          is = why_not;
          book = all;
          own = tt;
          undamaged = why-undamaged first_book said (next_number first_book) never.why why_not;
          in_order = turned-in-order first_book asking said begun.runs never.why why_not;
        },
        subst (λ (n : ℕ). HasReplied last_book n reply.text reply.refused reply.ended) number
            (subst (λ (b : List Entry). HasReplied b begun.txn reply.text reply.refused reply.ended) (book-is now.house) never.answered),
      )

  -- nothing was added
  same-book : (added : List Entry) → last_book ≡ first_book ++ added → added ≡ [] → last_book ≡ first_book
  same-book added book none = book ∙ ap (λ (xs : List Entry). first_book ++ xs) none ∙ append-nil first_book

  pub begins-so : (found : Opened) (added : List Entry) → last_book ≡ first_book ++ added → Begins before now asking said found added
      → BeginsSo first_book last_book asking said found
  begins-so (opened_as.Started way) added book begins = started-so way added book begins
  begins-so (opened_as.Full entries) added book begins =
      let same : last_book ≡ first_book = same-book added book begins.0 in
      record {
        book = same;
        lacks = lacks-room (state_of first_book)
            (λ room. begins.2 (subst (λ (b : List Entry). HasRoom profile (state_of b) 2) (sym (book-is now.house ∙ same)) room));
      }
  begins-so opened_as.NoMemory added book begins = same-book added book begins
  begins-so (opened_as.Ended found) added book begins = turned-so found added book begins

module _ {D : Type 0} (told : D → Option Store) (faults : D → ℕ) (B : List TrailItem → Type 0) (none : AddsNothing B) where
  pub begins-alone : BeginsAlone told faults B
  begins-alone asking said own own' before now found whole kept gains =
      let v = gains.1 in
      let gained : HasGained faults before now v.added = adds-alone faults B none own own' before now v.added v.adds in
      begins-so before now (kept.whole v.running).ready.fit asking said found v.added gained.book v.is

  module _ (meanwhile : ToldHouse D → ToldHouse D → Type 0) (alone : IsAlone meanwhile) where
    -- its number was the next where it began
    halts-number : (txn : ℕ) (why : HouseFault) (before now : ToldHouse D) → WasSoBetween before now (IsNextAt txn) → HasStopped told txn why before.house now.house
        → txn ≡ next_number (entries_of before.house)
    halts-number txn why before now next stopped =
        by (first-number first stopped.added txn stopped.fits stopped.of_it (omega (arith, low, was)))
      where
        first : List Entry
        first = entries_of before.house

        between : Between first stopped.added (book_of next.trail)
        between = is-between before now stopped.added (IsNextAt txn) stopped.book next

        was : txn ≡ next_number (book_of next.trail)
        was = next.was

        low : next_number first ≤ next_number (book_of next.trail)
        low = subst (λ (b : List Entry). next_number first ≤ next_number b) (sym between.at_is) (next-more first between.others)

        nothing : (xs ys : List Entry) → xs ++ ys ≡ [] → xs ≡ []
        nothing [] ys e = refl
        nothing (x ∷ xs) ys e = let never : x ∷ (xs ++ ys) ≡ [] = e in let wrong : ⊥ = cc in absurd wrong

        by : (stopped.added ≡ []) ⊎ (txn ≡ next_number first) → txn ≡ next_number first
        by (inr is) = is
        by (inl added) =
            let empty : between.others ≡ [] = nothing between.others between.more (between.parts ∙ added) in
            was ∙ ap next_number (between.at_is ∙ ap (λ (xs : List Entry). first ++ xs) empty ∙ append-nil first)

    stops-beginning : {T : Type 0} (asking : Asking) (own own' : List ℕ) (before now : ToldHouse D) → IsOpenHouse before → IsWholeOrClosed told now.house
        → AddsOwn faults B 0 (known own before) (known own' now) [] → IsShutBeginning told asking now
        → IsTaking {T = T} told faults asking before.house now.house (Err fault.Store)
    stops-beginning asking own own' before now running kept adds shut =
        let gained : HasGained faults before now [] = adds-alone faults B none own own' before now [] adds in
        let same : entries_of now.house ≡ entries_of before.house = gained.book ∙ append-nil (entries_of before.house) in
        let there_ : book_in shut.house ≡ entries_of before.house = ap book_of (sym shut.same) ∙ book-is now.house ∙ same in
        record {
          done = tt;
          start = gained.start;
          stopped = inr (inl (record {
            book = same;
            fits = subst (λ (b : List Entry). BeginFits b asking) there_ shut.cut.fits;
            leaves = subst (λ (b : List Entry). Leaves fault.Store (beginning_of (entries_of before.house) asking) (told now.house.shelf) b) (sym same)
                (subst (λ (b : List Entry). Leaves fault.Store (beginning_of b asking) (told now.house.shelf) b) there_ shut.cut.leaves);
          }));
          opens = λ is. kept.opens (told-stays told before.house now.house gained.start is);
          cause = record { later = gained.later; failed = adds.later.rises running shut.is.0 shut.is.1 };
        }

    stops-opening : {T : Type 0} (asking : Asking) (own own' : List ℕ) (before now : ToldHouse D) → IsOpenHouse before → IsWholeOrClosed told now.house
        → AddsOwn faults B 0 (known own before) (known own' now) [] → IsShutOpening told asking now
        → IsTaking {T = T} told faults asking before.house now.house (Err fault.Store)
    stops-opening asking own own' before now running kept adds shut =
        let gained : HasGained faults before now [] = adds-alone faults B none own own' before now [] adds in
        let same : entries_of now.house ≡ entries_of before.house = gained.book ∙ append-nil (entries_of before.house) in
        let there_ : book_in shut.house ≡ entries_of before.house = ap book_of (sym shut.same) ∙ book-is now.house ∙ same in
        record {
          done = tt;
          start = gained.start;
          stopped = inr (inr (record {
            book = same;
            fits = subst (λ (b : List Entry). Fits profile (state_of b) (opening b asking)) there_ shut.cut.fits;
            leaves = subst (λ (b : List Entry). Leaves fault.Store (opening (entries_of before.house) asking ∷ []) (told now.house.shelf) b) (sym same)
                (subst (λ (b : List Entry). Leaves fault.Store (opening b asking ∷ []) (told now.house.shelf) b) there_ shut.cut.leaves);
          }));
          opens = λ is. kept.opens (told-stays told before.house now.house gained.start is);
          cause = record { later = gained.later; failed = adds.later.rises running shut.is.0 shut.is.1 };
        }

    pub halts-alone : (T : Type 0) → HaltsAlone T told faults B meanwhile
    halts-alone T asking own own' before now why running kept (inl halts) =
        let txn : ℕ = halts.0 in
        let part : IsPart {T = T} told faults txn before.house now.house (Err why) =
        parts-alone told faults B none meanwhile alone T txn own own' before now (λ (x : T) (added : List Entry). Unit {0}) (Err why) running kept
        (record { done = tt; halted = halts.2.stop }) in
        let gained : HasGained faults before now halts.2.stop.added = adds-alone faults B none own own' before now halts.2.stop.added halts.2.stop.adds in
        part-taking told faults asking before.house now.house (Err why)
        (subst (λ (n : ℕ). IsPart {T = T} told faults n before.house now.house (Err why)) (halts-number txn why before now halts.1 part.stopped) part)
        (λ added is.
        subst (BegunBy asking) (append_cancel_left (entries_of before.house) halts.2.stop.added added (sym gained.book ∙ is)) halts.2.begun_by)
    halts-alone T asking own own' before now why running kept (inr (inl shut)) =
        subst (λ (w : HouseFault). IsTaking {T = T} told faults asking before.house now.house (Err w)) (sym shut.0)
        (stops-beginning {T = T} asking own own' before now running kept (shut.1 0) shut.2)
    halts-alone T asking own own' before now why running kept (inr (inr shut)) =
        subst (λ (w : HouseFault). IsTaking {T = T} told faults asking before.house now.house (Err w)) (sym shut.0)
        (stops-opening {T = T} asking own own' before now running kept (shut.1 0) shut.2)
