-- The places of the openings of transactions, with one entry more.
use Rattle.std.proofs.Common.{◌≡◌, ℕ, zero, suc, ◌+◌, ◌<◌, Bool, true, false, List, [], ◌∷◌, ◌++◌, length, take, refl, sym, ap, ◌∙◌, arith}
use Rattle.std.specs.Prelude.{nat_lt}
use Rattle.std.specs.List.{AllByRecursion}
use Rattle.std.proofs.lemmas.Bool.{ltb-true, ltb-false}
use Rattle.std.proofs.lemmas.List.{length-append, take-append-le, take_all}
use Rattle.hv_history.specs.declared.entry.Entry.{Entry}
use Rattle.hv_history.specs.declared.entry.Entry.TheVariants as entry
use Rattle.hv_history.specs.declared.state.Ending.TheVariants.{Aborted, Made, Dropped}
use Rattle.hv_history.specs.State.{State, while_open, started, given_id, committed, ended, opened, acted, after, state_of}
use Rattle.hv_book.specs.Notes.{Notes, noted, ending}
use Rattle.hv_book.specs.Past.{only_if}
use Rattle.hv_book.specs.Commits.{IsRising}
use Rattle.hv_book.specs.Opened.{before_place, AreOpened}
use Rattle.hv_book.proofs.TextLaws.{length-snoc, all-snoc}
use Rattle.hv_book.proofs.IdLaws.{all-more, total-append, length-changed}
use Rattle.hv_book.proofs.BookLaws.{state_of-snoc}

opens : Entry → ℕ
opens (entry.Opened txn session number text) = 1
opens _ = 0

-- an Opened makes one transaction, and nothing else makes any
opens-next : (state : State) (event : Entry) → length (after state event).transactions ≡ length state.transactions + opens event
unfolding acted opens
opens-next state (entry.Opened txn session number text) = length-append state.transactions (opened session number text ∷ [])
opens-next state (entry.Start txn statement) = let same = length-changed (while_open (started state statement)) state.transactions txn.0 in omega (arith, same)
opens-next state (entry.Given txn table write) = let same = length-changed (while_open (given_id table.0 write.0)) state.transactions txn.0 in omega (arith, same)
opens-next state (entry.Commit txn wrote) = let same = length-changed (while_open (committed state.entries wrote)) state.transactions txn.0 in omega (arith, same)
opens-next state (entry.Abort txn cause) = let same = length-changed (while_open (ended (Aborted state.entries cause))) state.transactions txn.0 in omega (arith, same)
opens-next state (entry.Create txn table) = let same = length-changed (while_open (ended (Made state.entries table.0))) state.transactions txn.0 in omega (arith, same)
opens-next state (entry.Drop txn table) = let same = length-changed (while_open (ended (Dropped state.entries table.0))) state.transactions txn.0 in omega (arith, same)
opens-next state (entry.Boot run) = omega arith
opens-next state (entry.Asked job table partition kind by) = omega arith
opens-next state (entry.Picked job watermark) = omega arith
opens-next state (entry.Published job low high mark) = omega arith
opens-next state (entry.Empty job) = omega arith
opens-next state (entry.Cleaned job) = omega arith
opens-next state (entry.Next txn statement number text) = omega arith
opens-next state (entry.Did txn statement wrote) = omega arith
opens-next state (entry.Alter txn table) = omega arith
opens-next state (entry.Failed job cause) = omega arith
opens-next state (entry.Forgot table write) = omega arith

-- how many were opened before a place, with an entry more
count-next : (done : List Entry) (event : Entry) (position : ℕ)
    → length (state_of (take position (done ++ event ∷ []))).transactions
    ≡ length (state_of (take position done)).transactions + only_if (nat_lt (length done) position) (opens event)
count-next done event position = by (nat_lt (length done) position) refl
  where
    by : (b : Bool) → nat_lt (length done) position ≡ b
        → length (state_of (take position (done ++ event ∷ []))).transactions ≡ length (state_of (take position done)).transactions + only_if b (opens event)
    by true is =
        let lt = ltb-true (length done) position is in
        let long = length-snoc done event in
        let whole = take_all position done (omega (arith, lt)) in
        let all = take_all position (done ++ event ∷ []) (omega (arith, lt, long)) in
        ap (λ (xs : List Entry). length (state_of xs).transactions) all
        ∙ ap (λ (s : State). length s.transactions) (state_of-snoc done event)
        ∙ opens-next (state_of done) event
        ∙ ap (λ (xs : List Entry). length (state_of xs).transactions + opens event) (sym whole)
    by false is =
        let le = ltb-false (length done) position is in
        let same = ap (λ (xs : List Entry). length (state_of xs).transactions) (take-append-le position done (event ∷ []) le) in
        omega (arith, same)

rising-snoc : (places : List ℕ) (place : ℕ) → AllByRecursion (λ (at : ℕ). at < place) places → IsRising places → IsRising (places ++ place ∷ [])
rising-snoc [] place below h = (tt, tt)
rising-snoc (x ∷ places) place below h = (all-snoc (λ (other : ℕ). x < other) places place h.0 below.0, rising-snoc places place below.1 h.1)

pub only-none : (b : Bool) → only_if b 0 ≡ 0
only-none true = refl
only-none false = refl

stays : (done : List Entry) (event : Entry) (places : List ℕ) → opens event ≡ 0 → AreOpened done places → AreOpened (done ++ event ∷ []) places
stays done event places none h =
    let long = length-snoc done event in
    record {
      below = all-more (λ (at : ℕ). at < length done) (λ (at : ℕ). at < length (done ++ event ∷ [])) (λ at lt. omega (arith, lt, long)) places h.below;
      rising = h.rising;
      count = λ position.
          let before = h.count position in
          let next = count-next done event position in
          let nothing : only_if (nat_lt (length done) position) (opens event) ≡ 0 = ap (only_if (nat_lt (length done) position)) none ∙ only-none (nat_lt (length done) position) in
          omega (arith, before, next, nothing);
    }

grows : (done : List Entry) (event : Entry) (places : List ℕ) → opens event ≡ 1 → AreOpened done places → AreOpened (done ++ event ∷ []) (places ++ length done ∷ [])
grows done event places one h =
    let long = length-snoc done event in
    record {
      below =
          all-snoc (λ (at : ℕ). at < length (done ++ event ∷ [])) places (length done)
          (all-more (λ (at : ℕ). at < length done) (λ (at : ℕ). at < length (done ++ event ∷ [])) (λ at lt. omega (arith, lt, long)) places h.below) (omega (arith, long));
      rising = rising-snoc places (length done) h.below h.rising;
      count = λ position.
          let before = h.count position in
          let next = count-next done event position in
          let more = total-append (before_place position) places (length done ∷ []) in
          let last : only_if (nat_lt (length done) position) (opens event) ≡ before_place position (length done) = ap (only_if (nat_lt (length done) position)) one in
          omega (arith, before, next, more, last);
    }

pub opened-next : (done : List Entry) (event : Entry) (notes : Notes) → AreOpened done notes.opened
    → AreOpened (done ++ event ∷ []) (noted (length done) event notes).opened
unfolding ending opens
opened-next done (entry.Opened txn session number text) notes h = grows done (entry.Opened txn session number text) notes.opened refl h
opened-next done (entry.Start txn statement) notes h = stays done (entry.Start txn statement) notes.opened refl h
opened-next done (entry.Given txn table write) notes h = stays done (entry.Given txn table write) notes.opened refl h
opened-next done (entry.Commit txn wrote) notes h = stays done (entry.Commit txn wrote) notes.opened refl h
opened-next done (entry.Abort txn cause) notes h = stays done (entry.Abort txn cause) notes.opened refl h
opened-next done (entry.Create txn table) notes h = stays done (entry.Create txn table) notes.opened refl h
opened-next done (entry.Drop txn table) notes h = stays done (entry.Drop txn table) notes.opened refl h
opened-next done (entry.Boot run) notes h = stays done (entry.Boot run) notes.opened refl h
opened-next done (entry.Asked job table partition kind by) notes h = stays done (entry.Asked job table partition kind by) notes.opened refl h
opened-next done (entry.Picked job watermark) notes h = stays done (entry.Picked job watermark) notes.opened refl h
opened-next done (entry.Published job low high mark) notes h = stays done (entry.Published job low high mark) notes.opened refl h
opened-next done (entry.Empty job) notes h = stays done (entry.Empty job) notes.opened refl h
opened-next done (entry.Cleaned job) notes h = stays done (entry.Cleaned job) notes.opened refl h
opened-next done (entry.Next txn statement number text) notes h = stays done (entry.Next txn statement number text) notes.opened refl h
opened-next done (entry.Did txn statement wrote) notes h = stays done (entry.Did txn statement wrote) notes.opened refl h
opened-next done (entry.Alter txn table) notes h = stays done (entry.Alter txn table) notes.opened refl h
opened-next done (entry.Failed job cause) notes h = stays done (entry.Failed job cause) notes.opened refl h
opened-next done (entry.Forgot table write) notes h = stays done (entry.Forgot table write) notes.opened refl h

taken-none : (position : ℕ) → take {A = Entry} position [] ≡ []
taken-none zero = refl
taken-none (suc n) = refl

pub opened-none : AreOpened [] []
opened-none = record {
  below = tt;
  rising = tt;
  count = λ position. ap (λ (xs : List Entry). length (state_of xs).transactions) (sym (taken-none position));
}
