-- The entry by which a transaction has ended stands in the book at the place that its state names, and that stays so.
use Rattle.std.proofs.Common.{◌≡◌, ◌⊎◌, inl, inr, ℕ, zero, suc, ◌+◌, Option, Some, None, List, [], ◌∷◌, ◌++◌, length, fold, refl, sym, ap, ◌∙◌, arith}
use Rattle.std.specs.Prelude.{slice_get}
use Rattle.hv_history.specs.declared.entry.Entry.{Entry}
use Rattle.hv_history.specs.declared.entry.Entry.TheVariants as entry
use Rattle.hv_history.specs.declared.state.Ending.{Ending}
use Rattle.hv_history.specs.declared.state.Ending.TheVariants.{Aborted, Made, Dropped}
use Rattle.hv_history.specs.declared.state.Transaction.{Transaction}
use Rattle.hv_history.specs.State.{State, numbered, changed, changed_at, opened, started, given_id, committed, ended, unless_ended, while_open, acted, after, state_of, nothing_yet}
use Rattle.hv_history.specs.Legal.{is_started}
use Rattle.hv_history.proofs.StateLaws.{ended-stays-all, fold-append}
use Rattle.hv_meta.specs.declared.facts.TxnState.TheVariants as standing
use Rattle.hv_meta.specs.States.{ending_place, state_by, transaction_state, state_in}
use Rattle.hv_session.specs.hv_beginning.specs.hv_steps.specs.Ending.{IsEndOf}

-- it has ended, by the entry at this place
abbrev EndsAt : Option Ending → ℕ → Type 0
EndsAt None at = ⊥
EndsAt (Some ending) at = ending_place ending ≡ at

abbrev EndedAt : Option Transaction → ℕ → Type 0
EndedAt None at = ⊥
EndedAt (Some transaction) at = EndsAt transaction.ending at

-- ---- one entry

module _ (at : ℕ) (Now : Type 0) where
  open-step : (t next : Transaction) → (EndsAt next.ending at → EndsAt t.ending at ⊎ Now) → (o : Option Ending)
      → EndsAt (unless_ended o t next).ending at → EndsAt t.ending at ⊎ Now
  open-step t next step None h = step h
  open-step t next step (Some ending) h = inl h

  up : (then_ : Type 0) (k n : ℕ) → then_ ⊎ ((k ≡ n) × Now) → then_ ⊎ ((suc k ≡ suc n) × Now)
  up then_ k n (inl h) = inl h
  up then_ k n (inr h) = inr (ap (λ (i : ℕ). suc i) h.0, h.1)

  here : (then_ : Type 0) → then_ ⊎ Now → then_ ⊎ ((zero ≡ zero) × Now)
  here then_ (inl h) = inl h
  here then_ (inr h) = inr (refl, h)

  module _ (f : Transaction → Transaction) (step : (t : Transaction) → EndsAt (f t).ending at → EndsAt t.ending at ⊎ Now) where
    slice-changed : (xs : List Transaction) (k n : ℕ) → EndedAt (slice_get (changed_at f xs k) n) at → EndedAt (slice_get xs n) at ⊎ ((k ≡ n) × Now)
    slice-changed [] k n h = absurd h
    slice-changed (x ∷ xs) zero zero h = here (EndsAt x.ending at) (step x h)
    slice-changed (x ∷ xs) zero (suc n) h = inl h
    slice-changed (x ∷ xs) (suc k) zero h = inl h
    slice-changed (x ∷ xs) (suc k) (suc n) h = up (EndedAt (slice_get xs n) at) k n (slice-changed xs k n h)

    number-changed : (xs : List Transaction) (k n : ℕ) → EndedAt (numbered (changed f xs k) n) at → EndedAt (numbered xs n) at ⊎ ((k ≡ n) × Now)
    number-changed xs zero n h = inl h
    number-changed xs (suc k) zero h = absurd h
    number-changed xs (suc k) (suc n) h = up (EndedAt (slice_get xs n) at) k n (slice-changed xs k n h)

-- a change of those that are open, which ends one of them or none
changes : (at : ℕ) (Now : Type 0) (f : Transaction → Transaction) → ((t : Transaction) → EndsAt (f t).ending at → EndsAt t.ending at ⊎ Now)
    → (xs : List Transaction) (k n : ℕ) → EndedAt (numbered (changed (while_open f) xs k) n) at → EndedAt (numbered xs n) at ⊎ ((k ≡ n) × Now)
changes at Now f step xs k n h =
    number-changed at Now (while_open f) (λ (t : Transaction) (g : EndsAt (while_open f t).ending at). open-step at Now t (f t) (step t) t.ending g) xs k n h

kept : (Then : Type 0) (k n : ℕ) → Then ⊎ ((k ≡ n) × ⊥) → Then
kept Then k n (inl h) = h
kept Then k n (inr h) = absurd h.1

slice-more : (x : Transaction) (at : ℕ) → (EndsAt x.ending at → ⊥) → (xs : List Transaction) (n : ℕ) → EndedAt (slice_get (xs ++ x ∷ []) n) at → EndedAt (slice_get xs n) at
slice-more x at none [] zero h = absurd (none h)
slice-more x at none [] (suc n) h = absurd h
slice-more x at none (y ∷ ys) zero h = h
slice-more x at none (y ∷ ys) (suc n) h = slice-more x at none ys n h

number-more : (x : Transaction) (at : ℕ) → (EndsAt x.ending at → ⊥) → (xs : List Transaction) (n : ℕ) → EndedAt (numbered (xs ++ x ∷ []) n) at → EndedAt (numbered xs n) at
number-more x at none xs zero h = absurd h
number-more x at none xs (suc n) h = slice-more x at none xs n h

ended-step : (s : State) (event : Entry) (txn at : ℕ) → EndedAt (numbered (after s event).transactions txn) at
    → EndedAt (numbered s.transactions txn) at ⊎ (IsEndOf txn event × (s.entries ≡ at))
unfolding acted
ended-step s (entry.Boot run) txn at h = inl h
ended-step s (entry.Opened other session number text) txn at h = inl (number-more (opened session number text) at (λ g. g) s.transactions txn h)
ended-step s (entry.Start other statement) txn at h =
    inl (kept (EndedAt (numbered s.transactions txn) at) other.0 txn (changes at ⊥ (started s statement) (λ t g. inl g) s.transactions other.0 txn h))
ended-step s (entry.Given other table write) txn at h =
    inl (kept (EndedAt (numbered s.transactions txn) at) other.0 txn (changes at ⊥ (given_id table.0 write.0) (λ t g. inl g) s.transactions other.0 txn h))
ended-step s (entry.Commit other wrote) txn at h = changes at (s.entries ≡ at) (committed s.entries wrote) (λ t g. inr g) s.transactions other.0 txn h
ended-step s (entry.Abort other why) txn at h = changes at (s.entries ≡ at) (ended (Aborted s.entries why)) (λ t g. inr g) s.transactions other.0 txn h
ended-step s (entry.Create other table) txn at h = changes at (s.entries ≡ at) (ended (Made s.entries table.0)) (λ t g. inr g) s.transactions other.0 txn h
ended-step s (entry.Drop other table) txn at h = changes at (s.entries ≡ at) (ended (Dropped s.entries table.0)) (λ t g. inr g) s.transactions other.0 txn h
ended-step s (entry.Asked job table partition kind by) txn at h = inl h
ended-step s (entry.Picked job watermark) txn at h = inl h
ended-step s (entry.Published job low high mark) txn at h = inl h
ended-step s (entry.Empty job) txn at h = inl h
ended-step s (entry.Cleaned job) txn at h = inl h
ended-step s (entry.Failed job why) txn at h = inl h
ended-step s (entry.Forgot table write) txn at h = inl h
ended-step s (entry.Next other statement number text) txn at h = inl h
ended-step s (entry.Did other statement wrote) txn at h = inl h
ended-step s (entry.Alter other table) txn at h = inl h

-- ---- several

-- behind so many entries, the entry that ended it stands at this place
pub record EndStands (events : List Entry) (txn low at : ℕ) : Type 0 where
  pub front : List Entry
  pub event : Entry
  pub rest : List Entry
  pub is : events ≡ front ++ event ∷ rest
  pub ends : IsEndOf txn event
  pub place : low + length front ≡ at

first-end : (Then : Type 0) (event : Entry) (events : List Entry) (txn low at : ℕ) → Then ⊎ (IsEndOf txn event × (low ≡ at)) → Then ⊎ EndStands (event ∷ events) txn low at
first-end Then event events txn low at (inl h) = inl h
first-end Then event events txn low at (inr h) =
    let at_is = h.1 in
    inr (record { front = []; event = event; rest = events; is = refl; ends = h.0; place = omega (arith, at_is) })

later-end : (event : Entry) (events : List Entry) (txn low at : ℕ) → EndStands events txn (low + 1) at → EndStands (event ∷ events) txn low at
later-end event events txn low at stands =
    let place = stands.place in
    record {
      front = event ∷ stands.front;
      event = stands.event;
      rest = stands.rest;
      is = ap (λ (xs : List Entry). event ∷ xs) stands.is;
      ends = stands.ends;
      place = omega (arith, place);
    }

end-stands : (events : List Entry) (s : State) (txn at : ℕ) → EndedAt (numbered (fold after s events).transactions txn) at
    → EndedAt (numbered s.transactions txn) at ⊎ EndStands events txn s.entries at
end-stands [] s txn at h = inl h
end-stands (event ∷ events) s txn at h = by (end-stands events (after s event) txn at h)
  where
    by : EndedAt (numbered (after s event).transactions txn) at ⊎ EndStands events txn (s.entries + 1) at
        → EndedAt (numbered s.transactions txn) at ⊎ EndStands (event ∷ events) txn s.entries at
    by (inl h) = first-end (EndedAt (numbered s.transactions txn) at) event events txn s.entries at (ended-step s event txn at h)
    by (inr stands) = inr (later-end event events txn s.entries at stands)

-- ---- of a book

ended-by : (o : Option Transaction) (at : ℕ) → transaction_state o ≡ standing.Ended at → EndedAt o at
ended-by None at gone = let never : standing.Unknown ≡ standing.Ended at = gone in cc
ended-by (Some t) at gone = by t.ending gone
  where
    by : (x : Option Ending) → state_by x (is_started t) ≡ standing.Ended at → EndsAt x at
    by None g = let never : standing.Running (is_started t) ≡ standing.Ended at = g in cc
    by (Some e) g = let same : standing.Ended (ending_place e) ≡ standing.Ended at = g in cc

none-yet : (txn at : ℕ) → EndedAt (numbered nothing_yet.transactions txn) at → ⊥
none-yet zero at h = h
none-yet (suc n) at h = h

pub gone-stands : (book : List Entry) (txn at : ℕ) → state_in (state_of book) txn ≡ standing.Ended at → EndStands book txn 0 at
gone-stands book txn at gone = by (end-stands book nothing_yet txn at (ended-by (numbered (state_of book).transactions txn) at gone))
  where
    by : EndedAt (numbered nothing_yet.transactions txn) at ⊎ EndStands book txn 0 at → EndStands book txn 0 at
    by (inl h) = absurd (none-yet txn at h)
    by (inr stands) = stands

-- it stays so
gone-by : (o : Option Transaction) (at : ℕ) → transaction_state o ≡ standing.Ended at → (t : Transaction) × (e : Ending) × (o ≡ Some t) × (t.ending ≡ Some e)
gone-by None at gone = let never : standing.Unknown ≡ standing.Ended at = gone in cc
gone-by (Some t) at gone = by t.ending refl gone
  where
    by : (x : Option Ending) → t.ending ≡ x → state_by x (is_started t) ≡ standing.Ended at
        → (u : Transaction) × (e : Ending) × (Some t ≡ Some u) × (u.ending ≡ Some e)
    by None is g = let never : standing.Running (is_started t) ≡ standing.Ended at = g in cc
    by (Some e) is g = (t, e, refl, is)

pub gone-lasts : (book more : List Entry) (txn at : ℕ) → state_in (state_of book) txn ≡ standing.Ended at → state_in (state_of (book ++ more)) txn ≡ standing.Ended at
gone-lasts book more txn at gone =
    let has = gone-by (numbered (state_of book).transactions txn) at gone in
    ap (λ (s : State). transaction_state (numbered s.transactions txn)) (fold-append after nothing_yet book more)
    ∙ ap transaction_state (ended-stays-all more (state_of book) txn has.0 has.1 has.2 has.3)
    ∙ ap transaction_state (sym has.2)
    ∙ gone
