-- An abort of another transaction that an act asks for.
use Rattle.std.proofs.Common.{◌≡◌, ℕ, Bool, true, false, ◌↔◌, ◌==◌, ◌&&◌, not, Option, Some, None, IsTrue, Ok, Err, List, take, length, eq-eqb, refl, sym, ap, ◌∙◌}
use Rattle.std.specs.Prelude.{IsSomeAnd, nat_lt}
use Rattle.hv_base.specs.declared.ids.TxnId.{TxnId}
use Rattle.hv_shelf.specs.Disk.{Store}
use Rattle.hv_history.specs.declared.entry.Entry.{Entry}
use Rattle.hv_history.specs.declared.state.Transaction.{Transaction}
use Rattle.hv_history.specs.Asking.{is_there_open, is_asked}
use Rattle.hv_history.specs.State.{State, state_of, numbered, opening_tree}
use Rattle.hv_history.specs.Legal.{Of, is_open, IsRunning, RequestFits, asks_to_abort}
use Rattle.hv_trail.specs.declared.trail.TrailItem.{TrailItem}
use Rattle.hv_trail.specs.Trail.{book_of, state_at}
use Rattle.hv_trail.specs.Kept.{trail_of}
use Rattle.hv_trail.specs.Steps.{Note}
use Rattle.hv_telling.specs.hv_house.specs.declared.house.House.{House}
use Rattle.hv_telling.specs.hv_house.specs.House.{entries_of}
use Rattle.hv_telling.specs.hv_house.specs.Steps.{seen_of}
use Rattle.hv_telling.specs.Telling.{IsWhole, IsTrueNow}
use Rattle.hv_acts.specs.declared.fault.ActFault.{ActFault}
use Rattle.hv_acts.specs.Answers.{NoTest, IsLate, EntryFits, own_entry, EntryStep}
use Rattle.hv_acts.specs.Meant.{RunsWith}
use Rattle.hv_acts.specs.Passing.{opened_then, is_left}
use Rattle.hv_acts.specs.Requesting.{requested, RestsOnRequest, RequestStep}
use Rattle.hv_acts.proofs.Steps.{book-is, whole-keeps}
use Rattle.hv_acts.proofs.ReadSteps.{answered}
use Rattle.hv_acts.proofs.Leaves.{late-leaves}
use Rattle.hv_acts.proofs.Notes.{why-of, why-for, asked-late}

-- ---- whether it is left to ask for

bool-same : (b c : Bool) → (IsTrue b → IsTrue c) → (IsTrue c → IsTrue b) → b ≡ c
bool-same true true f g = refl
bool-same false false f g = refl
bool-same true false f g = let never : false ≡ true = f refl in cc
bool-same false true f g = let never : false ≡ true = g refl in cc

open-there : (o : Option Transaction) → IsSomeAnd o (λ t. IsTrue (is_open t)) → IsTrue (is_there_open o)
open-there None h = absurd h
open-there (Some t) h = h

there-open : (o : Option Transaction) → IsTrue (is_there_open o) → IsSomeAnd o (λ t. IsTrue (is_open t))
there-open None h = let never : false ≡ true = h in cc
there-open (Some t) h = h

-- what was tested is what is defined
pub left-is : {D : Type 0} (house : House D) (by : TxnId) (place : ℕ) (txn : TxnId) (entries : List Entry) (opened : ℕ) (unended : Bool) → entries ≡ entries_of house
    → opened ≡ length (state_of (take place entries)).transactions
    → IsTrue unended ↔ Of (state_of entries) txn.0 (λ t. IsTrue (is_open t))
    → (not (txn.0 == by.0) && (not (nat_lt opened txn.0) && unended)) ≡ is_left (trail_of house.trail) by place txn.0
left-is house by place txn entries opened unended are count tests =
    let books : entries ≡ book_of (trail_of house.trail) = are ∙ sym (book-is house) in
    let there : unended ≡ is_there_open (numbered (state_of entries).transactions txn.0) =
    bool-same unended (is_there_open (numbered (state_of entries).transactions txn.0))
    (λ h. open-there (numbered (state_of entries).transactions txn.0) (tests.0 h))
    (λ h. tests.1 (there-open (numbered (state_of entries).transactions txn.0) h)) in
    ap (λ (n : ℕ). not (txn.0 == by.0) && (not (nat_lt n txn.0) && unended)) count
    ∙ ap (λ (b : Bool). not (txn.0 == by.0) && (not (nat_lt (length (state_of (take place entries)).transactions) txn.0) && b)) there
    ∙ ap (λ (book : List Entry). is_asked (state_of book).transactions by.0 (length (state_of (take place book)).transactions) txn.0) books

-- ---- when it fits

and-last : (a b c : Bool) → (a && (b && c)) ≡ true → c ≡ true
and-last true true c h = h
and-last true false c h = cc
and-last false b c h = cc

and-first : (a b c : Bool) → (a && (b && c)) ≡ true → a ≡ true
and-first true b c h = refl
and-first false b c h = cc

unlike : (a b : ℕ) → not (a == b) ≡ true → b ≡ a → ⊥
unlike a b h e = by (a == b) (ap (λ (n : ℕ). a == n) e ∙ eq-eqb a a refl) h
  where
    by : (c : Bool) → c ≡ true → not c ≡ true → ⊥
    by true is g = cc
    by false is g = cc

both-some : (o : Option Transaction) (P Q : Transaction → Type 0) → IsSomeAnd o P → IsSomeAnd o Q → IsSomeAnd o (λ t. P t × Q t)
both-some None P Q p q = p
both-some (Some t) P Q p q = (p, q)

fits-by : (state : State) (by txn : TxnId) (o : Option Transaction) → is_there_open o ≡ true → (by.0 ≡ txn.0 → ⊥)
    → Of state by.0 (λ asker. IsRunning asker × IsTrue (asks_to_abort txn.0 (opening_tree asker))) → IsSomeAnd o (RequestFits state txn.0 by.0)
fits-by state by txn None there other asks = let never : false ≡ true = there in cc
fits-by state by txn (Some t) there other asks = record { unended = there; other = other; asks = asks }

-- what is left to ask for fits where it rests on what it may
rests-fit : (trail : List TrailItem) (by : TxnId) (place : ℕ) (txn : TxnId) → is_left trail by place txn.0 ≡ true → RestsOnRequest trail by txn
    → EntryFits trail (requested by txn)
rests-fit trail by place txn left rests =
    let state = state_at trail in
    let own = not (txn.0 == by.0) in
    let late = not (nat_lt (opened_then trail place) txn.0) in
    let there = is_there_open (numbered state.transactions txn.0) in
    fits-by state by txn (numbered state.transactions txn.0) (and-last own late there left) (unlike txn.0 by.0 (and-first own late there left))
    (both-some (numbered state.transactions by.0) IsRunning (λ (asker : Transaction). IsTrue (asks_to_abort txn.0 (opening_tree asker))) rests.runs.0 rests.asks)

-- ---- it is true

some-there : (o : Option Transaction) (P : Transaction → Type 0) → IsSomeAnd o P → IsSomeAnd o (λ t. Unit {0})
some-there None P h = h
some-there (Some t) P h = tt

pub request-true : (trail : List TrailItem) (by txn : TxnId) → EntryFits trail (requested by txn) → IsTrueNow (book_of trail) trail (requested by txn)
request-true trail by txn fits = some-there (numbered (state_at trail).transactions txn.0) (RequestFits (state_at trail) txn.0 by.0) fits

-- ---- its step

module _ {D : Type 0} (told : D → Option Store) (faults : D → ℕ) (by : TxnId) (place : ℕ) (txn : TxnId) where
  pub request-late : (why : ActFault) (house : House D) → IsWhole told house → IsLate (trail_of house.trail) by why → (RunsWith (trail_of house.trail) by 0 → ⊥)
      → RequestStep told faults (record { by = by; place = place; txn = txn }) house house (Err why)
  request-late why house whole late not_ = record {
    keeps = whole-keeps told house whole;
    step = asked-late told faults (seen_of house) (trail_of house.trail) by (Note (requested by txn)) why late;
    answers = why-of NoTest (trail_of house.trail) by (RestsOnRequest (trail_of house.trail) by txn) why late (λ rests. not_ rests.runs);
    leaves = late-leaves told faults (trail_of house.trail) by why (seen_of house) (seen_of house) late whole.ready.kept.running;
  }

  pub request-passed : (house : House D) → IsWhole told house → is_left (trail_of house.trail) by place txn.0 ≡ false
      → RequestStep told faults (record { by = by; place = place; txn = txn }) house house (Ok false)
  request-passed house whole left = record {
    keeps = whole-keeps told house whole;
    step = answered told faults (seen_of house);
    answers = left;
    leaves = whole.ready.kept.running;
  }

  pub request-done : (before now : House D) → is_left (trail_of before.trail) by place txn.0 ≡ true
      → EntryStep {T = Unit {0}} told faults (own_entry by (requested by txn)) before now (Ok tt)
      → RequestStep told faults (record { by = by; place = place; txn = txn }) before now (Ok true)
  request-done before now left s = record {
    keeps = s.keeps;
    step = s.step;
    answers = (left, s.answers.0);
    leaves = s.leaves;
  }

  pub request-failed : (why : ActFault) (before now : House D) → is_left (trail_of before.trail) by place txn.0 ≡ true
      → EntryStep {T = Unit {0}} told faults (own_entry by (requested by txn)) before now (Err why)
      → RequestStep told faults (record { by = by; place = place; txn = txn }) before now (Err why)
  request-failed why before now left s = record {
    keeps = s.keeps;
    step = s.step;
    answers = why-for NoTest (trail_of before.trail) by _ _ (rests-fit (trail_of before.trail) by place txn left) why s.answers;
    leaves = s.leaves;
  }
