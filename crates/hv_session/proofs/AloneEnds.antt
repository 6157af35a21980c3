-- Where others add nothing, nobody else ends a transaction; and its end is the book's last entry.
use Rattle.std.proofs.Common.{◌≡◌, ◌⊎◌, inl, inr, ℕ, ◌+◌, true, is_none, Option, Some, None, List, [], ◌∷◌, ◌++◌, length, take, fold, refl, sym, ap, ◌∙◌, subst}
use Rattle.std.proofs.Common.{append_assoc, append-nil, length-append}
use Rattle.std.specs.Prelude.{IsSomeAnd, IsTrue}
use Rattle.std.specs.List.{AllByRecursion}
use Rattle.std.proofs.lemmas.List.Sums.{fold-append}
use Rattle.hv_shelf.specs.Disk.{Store}
use Rattle.hv_ast.specs.declared.statement.Stmt.{Stmt}
use Rattle.hv_history.specs.declared.entry.Entry.{Entry}
use Rattle.hv_history.specs.declared.entry.Entry.TheVariants as entry
use Rattle.hv_history.specs.declared.entry.Cause.{Cause}
use Rattle.hv_history.specs.declared.state.Ending.{Ending}
use Rattle.hv_history.specs.declared.state.Transaction.{Transaction}
use Rattle.hv_history.specs.State.{State, state_of, nothing_yet, after, numbered, opened}
use Rattle.hv_history.specs.Legal.{Of, is_open, IsRunning, AllFit, Fits, CommitFits, CreateFits, DropFits, CauseFits, profile}
use Rattle.hv_history.specs.Legal as legal
use Rattle.hv_history.specs.Lasting as lasting
use Rattle.hv_history.proofs.LastingLaws.{goes-on-all}
use Rattle.hv_stands.specs.Running.{Asking, meant, snapshot_at, running, IsWaiting, IsUnderWay}
use Rattle.hv_stands.proofs.Behind.{committed-there, created-there, dropped-there, aborted-there, numbered-behind}
use Rattle.hv_stands.proofs.Fitting.{cause-open}
use Rattle.hv_trail.specs.declared.trail.TrailItem.{TrailItem}
use Rattle.hv_trail.specs.Trail.{book_of, state_at}
use Rattle.hv_meta.specs.States.{state_in}
use Rattle.hv_beginning.specs.hv_steps.specs.hv_table_reader.specs.hv_acts.specs.hv_telling.specs.hv_house.specs.House.{entries_of}
use Rattle.hv_beginning.specs.hv_steps.specs.hv_table_reader.specs.hv_acts.specs.hv_telling.proofs.Told.{told-stays}
use Rattle.hv_beginning.specs.hv_steps.specs.hv_table_reader.specs.hv_acts.specs.declared.told.ToldHouse.{ToldHouse}
use Rattle.hv_beginning.specs.hv_steps.specs.hv_table_reader.specs.hv_acts.specs.Told.{IsWholeOrClosed, trail_in}
use Rattle.hv_beginning.specs.hv_steps.specs.hv_table_reader.specs.hv_acts.specs.Answers.{HasNotEnded}
use Rattle.hv_beginning.specs.hv_steps.specs.hv_table_reader.specs.hv_acts.proofs.Steps.{book-is}
use Rattle.hv_beginning.specs.hv_steps.specs.hv_table_reader.specs.hv_acts.proofs.RunsOn.{runs-on, runs-unended, waits-unended}
use Rattle.hv_beginning.specs.hv_steps.specs.Ending.{IsEndOf, HasEndedAt, HasReplied, CanEnd}
use Rattle.hv_beginning.specs.hv_steps.specs.hv_table_reader.specs.hv_acts.specs.Meant.{IsNoEnd}
use Rattle.hv_beginning.specs.hv_steps.specs.declared.reply.Done.{Done}
use Rattle.hv_beginning.specs.hv_steps.specs.declared.reply.Done.TheVariants as done
use Rattle.hv_beginning.specs.hv_steps.specs.declared.reply.Outcome.TheVariants as outcome
use Rattle.hv_beginning.specs.hv_steps.specs.Going.{IsGone, AddsOwn, Gains}
use Rattle.hv_beginning.specs.hv_steps.specs.Phases.{AbortsFor, IsAbortFor, IsUntoldDamage}
use Rattle.hv_session.specs.Alone.{AddsNothing, HasGained, IsAbortedAlone, IsRefusedAlone, RefusesAlone, RefusesWaiting, SeesAlone}
use Rattle.hv_session.proofs.AloneBooks.{went-alone, adds-alone}
use Rattle.hv_beginning.specs.hv_steps.proofs.Books.{fit-behind}
use Rattle.hv_beginning.specs.hv_steps.proofs.Ends.{open-here}
use Rattle.hv_actor.specs.Acting.{known}

-- ---- it runs

pub of-one : (P : Transaction → Type 0) (s : State) (txn : ℕ) (t : Transaction) → numbered s.transactions txn ≡ Some t → P t → Of s txn P
of-one P s txn t here holds = subst (λ (o : Option Transaction). IsSomeAnd o P) (sym here) holds

pub way-runs : (book : List Entry) (asking : Asking) (txn place : ℕ) (said : Stmt) (given : List (ℕ × ℕ)) → IsUnderWay book asking txn place said given
    → Of (state_of book) txn IsRunning
way-runs book asking txn place said given way =
    of-one IsRunning (state_of book) txn (running asking (meant (take place book) said) (snapshot_at book place) given) way.here
    (record { unended = refl; started = refl })

waiting-waits : (book : List Entry) (asking : Asking) (txn : ℕ) (said : Stmt) → IsWaiting book asking txn said → Of (state_of book) txn legal.IsWaiting
waiting-waits book asking txn said way =
    of-one legal.IsWaiting (state_of book) txn (opened asking.session asking.number asking.text) way.here (record { unended = refl; unstarted = refl })

at-trail : {D : Type 0} (house : ToldHouse D) (P : State → Type 0) → P (state_of (entries_of house.house)) → P (state_at (trail_in house))
at-trail house P holds = subst (λ (book : List Entry). P (state_of book)) (sym (book-is house.house)) holds

not-gone : (trail : List TrailItem) (txn at : ℕ) → HasNotEnded (state_in (state_at trail) txn) → IsGone trail txn at → ⊥
not-gone trail txn at not gone = subst HasNotEnded gone not

-- ---- it is open

abbrev pub IsOpenOne : Transaction → Type 0
IsOpenOne t = IsTrue (is_open t)

open-as : (P : Transaction → Type 0) → ((t : Transaction) → P t → IsOpenOne t) → (o : Option Transaction) → IsSomeAnd o P → IsSomeAnd o IsOpenOne
open-as P opens None is = is
open-as P opens (Some t) is = opens t is

pub runs-open : (s : State) (txn : ℕ) → Of s txn IsRunning → Of s txn IsOpenOne
runs-open s txn runs = open-as IsRunning (λ t is. is.unended) (numbered s.transactions txn) runs

-- ---- its end is the last entry

pub record IsEndedHere (book : List Entry) (txn : ℕ) : Type 0 where
  pub t : Transaction
  pub here : numbered (state_of book).transactions txn ≡ Some t
  pub ending : Ending
  pub is : t.ending ≡ Some ending

ended-of : (book : List Entry) (txn : ℕ) (t : Transaction) (ending : Ending) → numbered (state_of book).transactions txn ≡ Some t → t.ending ≡ Some ending → IsEndedHere book txn
ended-of book txn t ending here is = record { t = t; here = here; ending = ending; is = is }

-- what ends a transaction, and fits, has ended it
pub end-ends : (book : List Entry) (event : Entry) (txn : ℕ) → IsEndOf txn event → Fits profile (state_of book) event → IsEndedHere (book ++ event ∷ []) txn
end-ends book (entry.Commit other wrote) txn ends fits =
    let open_ = open-here book other.0 (CommitFits (state_of book) wrote) (λ t fit. fit.running.unended) fits in
    subst (IsEndedHere (book ++ entry.Commit other wrote ∷ [])) ends
    (ended-of (book ++ entry.Commit other wrote ∷ []) other.0 _ _
    (numbered-behind book (entry.Commit other wrote) other.0 _ (committed-there (state_of book) other.0 open_.t open_.here open_.unended wrote)) refl)
end-ends book (entry.Abort other why) txn ends fits =
    let open_ = open-here book other.0 (CauseFits profile (state_of book) other.0 why) (cause-open profile (state_of book) other.0 why) fits in
    subst (IsEndedHere (book ++ entry.Abort other why ∷ [])) ends
    (ended-of (book ++ entry.Abort other why ∷ []) other.0 _ _
    (numbered-behind book (entry.Abort other why) other.0 _ (aborted-there (state_of book) other.0 open_.t open_.here open_.unended why)) refl)
end-ends book (entry.Create other table) txn ends fits =
    let open_ = open-here book other.0 (CreateFits (state_of book) table.0) (λ t fit. fit.running.unended) fits in
    subst (IsEndedHere (book ++ entry.Create other table ∷ [])) ends
    (ended-of (book ++ entry.Create other table ∷ []) other.0 _ _
    (numbered-behind book (entry.Create other table) other.0 _ (created-there (state_of book) other.0 open_.t open_.here open_.unended table)) refl)
end-ends book (entry.Drop other table) txn ends fits =
    let open_ = open-here book other.0 (DropFits (state_of book) table.0) (λ t fit. fit.running.unended) fits in
    subst (IsEndedHere (book ++ entry.Drop other table ∷ [])) ends
    (ended-of (book ++ entry.Drop other table ∷ []) other.0 _ _
    (numbered-behind book (entry.Drop other table) other.0 _ (dropped-there (state_of book) other.0 open_.t open_.here open_.unended table)) refl)
end-ends book (entry.Opened other session number text) txn ends fits = absurd ends
end-ends book (entry.Start other statement) txn ends fits = absurd ends
end-ends book (entry.Given other table write) txn ends fits = absurd ends
end-ends book (entry.Boot run) txn ends fits = absurd ends
end-ends book (entry.Asked job table partition kind by_) txn ends fits = absurd ends
end-ends book (entry.Picked job watermark) txn ends fits = absurd ends
end-ends book (entry.Published job low high mark) txn ends fits = absurd ends
end-ends book (entry.Empty job) txn ends fits = absurd ends
end-ends book (entry.Cleaned job) txn ends fits = absurd ends
end-ends book (entry.Next its_txn statement number text) txn ends fits = absurd ends
end-ends book (entry.Did its_txn statement wrote) txn ends fits = absurd ends
end-ends book (entry.Alter its_txn table) txn ends fits = absurd ends
end-ends book (entry.Failed job why) txn ends fits = absurd ends
end-ends book (entry.Forgot table write) txn ends fits = absurd ends

still-ended : (o : Option Transaction) (t : Transaction) (ending : Ending) → t.ending ≡ Some ending → IsSomeAnd o (lasting.Later t) → IsSomeAnd o IsOpenOne → ⊥
still-ended None t ending is later runs = runs
still-ended (Some u) t ending is later runs =
    let same : u ≡ t = later.ending ending is in
    let never : is_none (Some ending) ≡ true = sym (ap (λ (e : Option Ending). is_none e) (ap (λ (x : Transaction). x.ending) same ∙ is)) ∙ runs in
    cc

-- it isn't open behind that
pub ended-stays : (book more : List Entry) (txn : ℕ) → IsEndedHere book txn → Of (state_of (book ++ more)) txn IsOpenOne → ⊥
ended-stays book more txn has runs =
    still-ended (numbered (fold after (state_of book) more).transactions txn) has.t has.ending has.is
    ((goes-on-all more (state_of book)).transactions txn has.t has.here)
    (subst (λ (s : State). Of s txn IsOpenOne) (fold-append after nothing_yet book more) runs)

-- where one book is split in two ways, the second time in front of its last entry
split-last : (front rest book : List Entry) (event last : Entry) → front ++ event ∷ rest ≡ book ++ last ∷ []
    → (rest ≡ []) ⊎ ((more : List Entry) × (book ≡ front ++ event ∷ more))
split-last [] rest [] event last e = let is : rest ≡ [] = cc in inl is
split-last [] rest (y ∷ book) event last e = let is : y ≡ event = cc in inr (book, ap (λ (z : Entry). z ∷ book) is)
split-last (x ∷ []) rest [] event last e = let never : event ∷ rest ≡ [] = cc in let wrong : ⊥ = cc in absurd wrong
split-last (x ∷ x' ∷ front) rest [] event last e = let never : x' ∷ (front ++ event ∷ rest) ≡ [] = cc in let wrong : ⊥ = cc in absurd wrong
split-last (x ∷ front) rest (y ∷ book) event last e =
    let same : y ≡ x = cc in
    let tails : front ++ event ∷ rest ≡ book ++ last ∷ [] = cc in
    by same (split-last front rest book event last tails)
  where
    by : y ≡ x → (rest ≡ []) ⊎ ((more : List Entry) × (book ≡ front ++ event ∷ more)) → (rest ≡ []) ⊎ ((more : List Entry) × (y ∷ book ≡ x ∷ (front ++ event ∷ more)))
    by same (inl is) = inl is
    by same (inr is) = inr (is.0, ap (λ (z : Entry). z ∷ book) same ∙ ap (λ (zs : List Entry). x ∷ zs) is.1)

-- Where a book fits and a transaction is open in front of its last entry, the entry by which it has ended is the last.
pub last-named : (now book : List Entry) (txn : ℕ) (last : Entry) (ended : Option ℕ) → now ≡ book ++ last ∷ [] → AllFit profile nothing_yet now
    → Of (state_of book) txn IsOpenOne → HasEndedAt now txn ended → (place : ℕ) × (ended ≡ Some place) × (length now ≡ place + 1)
last-named now book txn last ended is fit runs has = by (split-last has.front has.rest book has.event last (sym has.book_is ∙ is))
  where
    fits : Fits profile (state_of has.front) has.event
    fits = (fit-behind nothing_yet has.front (has.event ∷ has.rest) (subst (AllFit profile nothing_yet) has.book_is fit)).0

    by : (has.rest ≡ []) ⊎ ((more : List Entry) × (book ≡ has.front ++ has.event ∷ more)) → (place : ℕ) × (ended ≡ Some place) × (length now ≡ place + 1)
    by (inl none) =
        let all : now ≡ has.front ++ has.event ∷ [] = has.book_is ∙ ap (λ (xs : List Entry). has.front ++ has.event ∷ xs) none in
        let long : length now ≡ length has.front + 1 = ap length all ∙ length-append has.front (has.event ∷ []) in
        (length has.front, has.place, long)
    by (inr more) =
        absurd (ended-stays (has.front ++ has.event ∷ []) more.0 txn (end-ends has.front has.event txn has.ends fits)
        (subst (λ (b : List Entry). Of (state_of b) txn IsOpenOne) (more.1 ∙ sym (append_assoc has.front (has.event ∷ []) more.0)) runs))

-- ---- a refusal

module _ {D : Type 0} (faults : D → ℕ) (B : List TrailItem → Type 0) (none : AddsNothing B) where
  -- what runs isn't gone behind one's own entries that end nothing
  pub never-gone : (txn at : ℕ) (own own' : List ℕ) (before now : ToldHouse D) (added : List Entry) → Of (state_of (entries_of before.house)) txn IsRunning
      → AddsOwn faults B txn (known own before) (known own' now) added → AllByRecursion (IsNoEnd txn) added → IsGone (trail_in now) txn at → ⊥
  never-gone txn at own own' before now added runs v unended gone =
      let seen : trail_in now ≡ trail_in before ++ v.items = went-alone B none v.items own own' (trail_in before) (trail_in now) v.went in
      let there : Of (state_at (trail_in before)) txn IsRunning = at-trail before (λ (s : State). Of s txn IsRunning) runs in
      let items : AllByRecursion (IsNoEnd txn) (book_of v.items) = subst (AllByRecursion (IsNoEnd txn)) (sym v.entries) unended in
      let still : Of (state_at (trail_in now)) txn IsRunning =
      subst (λ (trail : List TrailItem). Of (state_at trail) txn IsRunning) (sym seen) (runs-on (trail_in before) v.items (record { 0 = txn }) there items) in
      not-gone (trail_in now) txn at (runs-unended (state_at (trail_in now)) txn still) gone

  never-gone-waiting : (txn at : ℕ) (own own' : List ℕ) (before now : ToldHouse D) → Of (state_of (entries_of before.house)) txn legal.IsWaiting
      → AddsOwn faults B txn (known own before) (known own' now) [] → IsGone (trail_in now) txn at → ⊥
  never-gone-waiting txn at own own' before now waits v gone =
      let seen : trail_in now ≡ trail_in before ++ v.items = went-alone B none v.items own own' (trail_in before) (trail_in now) v.went in
      let there : Of (state_at (trail_in before)) txn legal.IsWaiting = at-trail before (λ (s : State). Of s txn legal.IsWaiting) waits in
      not-gone (trail_in now) txn at
      (subst (λ (trail : List TrailItem). HasNotEnded (state_in (state_at trail) txn)) (sym seen)
      (waits-unended (trail_in before) v.items (record { 0 = txn }) there v.entries)) gone

  -- by whichever way it is known that it isn't gone, and is open before
  aborted-by : (told : D → Option Store) (low txn : ℕ) (own own' : List ℕ) (before now : ToldHouse D) (Causes : Cause → Type 0) (found : Done)
      → ((at : ℕ) → AddsOwn faults B txn (known own before) (known own' now) [] → IsGone (trail_in now) txn at → ⊥)
      → Of (state_of (entries_of before.house)) txn IsOpenOne
      → IsWholeOrClosed told now.house
      → Gains faults B low txn (known own before) (known own' now) (AbortsFor txn now [] Causes found) → IsAbortedAlone txn Causes before now found
  aborted-by told low txn own own' before now Causes (done.Gone reply) never open_ kept gains =
      absurd (never gains.is.1.at (subst (AddsOwn faults B txn (known own before) (known own' now)) gains.is.0 gains.adds) gains.is.1.gone)
  aborted-by told low txn own own' before now Causes (done.Replied reply) never open_ kept gains =
      let gained : HasGained faults before now gains.added = adds-alone faults B none own own' before now gains.added gains.adds in
      let last : Entry = gains.is.0 in
      let abort : IsAbortFor txn now Causes last reply = gains.is.2 in
      let book : entries_of now.house ≡ entries_of before.house ++ last ∷ [] = gained.book ∙ ap (λ (xs : List Entry). entries_of before.house ++ xs) gains.is.1 in
      let replied : HasReplied (entries_of now.house) txn reply.text reply.refused reply.ended =
      subst (λ (b : List Entry). HasReplied b txn reply.text reply.refused reply.ended) (book-is now.house) abort.answered in
      record {
        reply = reply;
        is = refl;
        why = abort.why;
        caused = abort.is;
        book = book ∙ ap (λ (e : Entry). entries_of before.house ++ e ∷ []) abort.entry_is;
        replied = replied;
        last = last-named (entries_of now.house) (entries_of before.house) txn last reply.ended book (kept.whole gains.running).ready.fit open_ replied.ended_at;
      }

  refused-as : (txn : ℕ) (before now : ToldHouse D) (why : Cause) (found : Done) → IsAbortedAlone txn (λ other. other ≡ why) before now found
      → IsRefusedAlone txn why before now found
  refused-as txn before now why found abort = record {
    reply = abort.reply;
    is = abort.is;
    aborted = record { of = abort.why; is = abort.caused; book = abort.book };
    replied = abort.replied;
    last = abort.last;
  }

  pub aborts-alone : (told : D → Option Store) (asking : Asking) (said : Stmt) (place : ℕ) (given : List (ℕ × ℕ)) (low txn : ℕ) (own own' : List ℕ) (before now : ToldHouse D)
      (Causes : Cause → Type 0) (found : Done) → IsUnderWay (entries_of before.house) asking txn place said given → IsWholeOrClosed told now.house
      → Gains faults B low txn (known own before) (known own' now) (AbortsFor txn now [] Causes found) → IsAbortedAlone txn Causes before now found
  aborts-alone told asking said place given low txn own own' before now Causes found way kept gains =
      let runs : Of (state_of (entries_of before.house)) txn IsRunning = way-runs (entries_of before.house) asking txn place said given way in
      aborted-by told low txn own own' before now Causes found (λ at v gone. never-gone txn at own own' before now [] runs v tt gone)
      (runs-open (state_of (entries_of before.house)) txn runs) kept gains

  pub refuses-alone : (told : D → Option Store) → RefusesAlone told faults B
  refuses-alone told asking said place given low txn own own' before now why found way kept gains =
      refused-as txn before now why found
      (aborts-alone told asking said place given low txn own own' before now (λ other. other ≡ why) found way kept gains)

  pub refuses-waiting : (told : D → Option Store) → RefusesWaiting told faults B
  refuses-waiting told asking said low txn own own' before now why found way kept gains =
      let waits : Of (state_of (entries_of before.house)) txn legal.IsWaiting = waiting-waits (entries_of before.house) asking txn said way in
      refused-as txn before now why found
      (aborted-by told low txn own own' before now (λ other. other ≡ why) found (λ at v gone. never-gone-waiting txn at own own' before now waits v gone)
      (open-as legal.IsWaiting (λ t is. is.unended) (numbered (state_of (entries_of before.house)).transactions txn) waits) kept gains)

  -- what it sees
  pub sees-alone : (told : D → Option Store) → SeesAlone told faults B
  sees-alone told asking said way low own own' before now (outcome.Means meaning) under kept gains =
      let gained : HasGained faults before now gains.added = adds-alone faults B none own own' before now gains.added gains.adds in (
        gained.book ∙ ap (λ (xs : List Entry). entries_of before.house ++ xs) gains.is.0 ∙ append-nil (entries_of before.house),
        subst (λ (b : List Entry). CanEnd b meaning) (book-is now.house) gains.is.1.can,
        λ is. subst (λ (b : List Entry). meant (take way.place b) said ≡ Some meaning) (book-is now.house)
            (gains.is.1.truly (told-stays told before.house now.house gained.start is)),
      )
  sees-alone told asking said way low own own' before now (outcome.Ended found) under kept gains =
      aborts-alone told asking said way.place [] low way.txn.0 own own' before now (IsUntoldDamage told now) found under kept gains
