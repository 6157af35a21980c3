-- What a transaction that is open behind an entry was before it.
use Rattle.std.proofs.Common.{◌≡◌, ℕ, zero, suc, ◌⊎◌, inl, inr, Bool, true, false, is_none, is_some, Option, Some, None, List, [], ◌∷◌, refl, sym, ap, ◌∙◌, subst, arith, length}
use Rattle.std.specs.Prelude.{IsTrue, IsFalse, slice_get}
use Rattle.std.specs.List.{list_any}
use Rattle.hv_history.specs.declared.state.Statement.{Statement}
use Rattle.hv_history.specs.declared.state.Snapshot.{Snapshot}
use Rattle.hv_history.specs.declared.state.Transaction.{Transaction}
use Rattle.hv_history.specs.declared.state.Ending.{Ending}
use Rattle.hv_history.specs.State.{State, numbered, changed, changed_at, while_open, unless_ended, started, meant_in, first_of}
use Rattle.hv_history.specs.Legal.{is_open, is_started, IsRunning, IsWaiting, locks_of}
use Rattle.hv_stands.proofs.Numbers.{one_value, same_one}
use Rattle.hv_stands.proofs.Keeping.{still-open}
use Rattle.hv_law_locks.proofs.Texts.{neither, locks-kept}

-- ---- the one of a number behind a change: another one as it was, or the changed one

abbrev pub IsBack : {A : Type 0} → (A → A) → ℕ → ℕ → A → A → Type 0
IsBack f k n before now = ((k ≡ n → ⊥) × (now ≡ before)) ⊎ ((k ≡ n) × (now ≡ f before))

further : {A : Type 0} (f : A → A) (k n : ℕ) (before now : A) → IsBack f k n before now → IsBack f (suc k) (suc n) before now
further f k n before now (inl h) = inl ((λ e. h.0 (omega (arith, e))), h.1)
further f k n before now (inr h) = inr (ap suc h.0, h.1)

back-slice : {A : Type 0} (f : A → A) (xs : List A) (k n : ℕ) (y : A) → slice_get (changed_at f xs k) n ≡ Some y
    → (x : A) × (slice_get xs n ≡ Some x) × IsBack f k n x y
back-slice f [] k n y e = cc
back-slice f (x ∷ xs) zero zero y e = (x, refl, inr (refl, sym (one_value (f x) y e)))
back-slice f (x ∷ xs) zero (suc n) y e = (y, e, inl ((λ i. omega (arith, i)), refl))
back-slice f (x ∷ xs) (suc k) zero y e = (x, refl, inl ((λ i. omega (arith, i)), sym (one_value x y e)))
back-slice f (x ∷ xs) (suc k) (suc n) y e = let h = back-slice f xs k n y e in (h.0, h.1, further f k n h.0 y h.2)

pub back : {A : Type 0} (f : A → A) (xs : List A) (k n : ℕ) (y : A) → numbered (changed f xs k) n ≡ Some y
    → (x : A) × (numbered xs n ≡ Some x) × IsBack f k n x y
back f xs zero zero y e = cc
back f xs zero (suc n) y e = (y, e, inl ((λ i. omega (arith, i)), refl))
back f xs (suc k) zero y e = cc
back f xs (suc k) (suc n) y e = let h = back-slice f xs k n y e in (h.0, h.1, further f k n h.0 y h.2)

pub none-numbered : {A : Type 0} (n : ℕ) (x : A) → numbered [] n ≡ Some x → ⊥
none-numbered zero x e = cc
none-numbered (suc n) x e = cc

none-slice : {A : Type 0} (p : A → Bool) (xs : List A) (n : ℕ) (x : A) → list_any p xs ≡ false → slice_get xs n ≡ Some x → p x ≡ false
none-slice p [] n x e at = cc
none-slice p (y ∷ xs) zero x e at = ap p (sym (one_value y x at)) ∙ (neither (p y) (list_any p xs) e).0
none-slice p (y ∷ xs) (suc n) x e at = none-slice p xs n x (neither (p y) (list_any p xs) e).1 at

pub none-at : {A : Type 0} (p : A → Bool) (xs : List A) (n : ℕ) (x : A) → list_any p xs ≡ false → numbered xs n ≡ Some x → p x ≡ false
none-at p xs zero x e at = cc
none-at p xs (suc n) x e at = none-slice p xs n x e at

-- ---- one that is open was open, with the same locks and snapshot

pub record WasOpen (xs : List Transaction) (n : ℕ) (now : Transaction) : Type 0 where
  pub before : Transaction
  pub here : numbered xs n ≡ Some before
  pub unended : is_open before ≡ true
  pub locks : locks_of now ≡ locks_of before
  pub snapshot : now.snapshot ≡ before.snapshot

pub was-same : (xs : List Transaction) (n : ℕ) (now : Transaction) → numbered xs n ≡ Some now → is_open now ≡ true → WasOpen xs n now
was-same xs n now here unended = record { before = now; here = here; unended = unended; locks = refl; snapshot = refl }

was-as : (xs : List Transaction) (n : ℕ) (x now : Transaction) → numbered xs n ≡ Some x → now ≡ x → is_open now ≡ true → WasOpen xs n now
was-as xs n x now here is unended = was-same xs n now (here ∙ ap Some (sym is)) unended

-- a change that keeps locks and snapshot
abbrev pub KeepsLocks : (Transaction → Transaction) → Type 0
KeepsLocks f = (x : Transaction) → (locks_of (f x) ≡ locks_of x) × ((f x).snapshot ≡ x.snapshot)

pub came-open : (f : Transaction → Transaction) → KeepsLocks f → (xs : List Transaction) (k n : ℕ) (now : Transaction)
    → numbered (changed (while_open f) xs k) n ≡ Some now → is_open now ≡ true → WasOpen xs n now
came-open f keeps xs k n now at unended = let h = back (while_open f) xs k n now at in by h.0 h.1 h.2
  where
    changing : (x : Transaction) (o : Option Ending) → x.ending ≡ o → numbered xs n ≡ Some x → now ≡ unless_ended o x (f x) → WasOpen xs n now
    changing x None none here is = record {
      before = x;
      here = here;
      unended = ap is_none none;
      locks = ap locks_of is ∙ (keeps x).0;
      snapshot = ap (λ (t : Transaction). t.snapshot) is ∙ (keeps x).1;
    }
    changing x (Some ending) some here is = was-as xs n x now here is unended

    by : (x : Transaction) → numbered xs n ≡ Some x → IsBack (while_open f) k n x now → WasOpen xs n now
    by x here (inl same) = was-as xs n x now here same.1 unended
    by x here (inr change) = changing x x.ending refl here change.1

-- ---- one that is open isn't the one that ends

ends-none : (x now : Transaction) (ending : Ending) → now ≡ x → x.ending ≡ Some ending → is_open now ≡ true → ⊥
ends-none x now ending is some unended =
    let wrong : false ≡ true = sym (ap (λ (t : Transaction). is_none t.ending) is ∙ ap is_none some) ∙ unended in
    cc

pub came-ended : (f : Transaction → Transaction) → ((x : Transaction) → is_open (f x) ≡ true → ⊥) → (xs : List Transaction) (k n : ℕ) (now : Transaction)
    → numbered (changed (while_open f) xs k) n ≡ Some now → is_open now ≡ true → (k ≡ n → ⊥) × (numbered xs n ≡ Some now)
came-ended f ends xs k n now at unended = let h = back (while_open f) xs k n now at in by h.0 h.1 h.2
  where
    never : (x : Transaction) (o : Option Ending) → x.ending ≡ o → now ≡ unless_ended o x (f x) → ⊥
    never x None none is = ends x (subst (λ (t : Transaction). is_open t ≡ true) is unended)
    never x (Some ending) some is = ends-none x now ending is some unended

    by : (x : Transaction) → numbered xs n ≡ Some x → IsBack (while_open f) k n x now → (k ≡ n → ⊥) × (numbered xs n ≡ Some now)
    by x here (inl same) = (same.0, here ∙ ap Some (sym same.1))
    by x here (inr change) = absurd (never x x.ending refl change.1)

-- ---- one is started

pub started-locks : (state : State) (number : ℕ) (t : Transaction) → locks_of (started state number t) ≡ locks_of t
started-locks state number t = locks-kept (meant_in state) (λ s. refl) t.statements number

-- its snapshot is of this state
pub record IsStartedHere (state : State) (k n : ℕ) (t now : Transaction) : Type 0 where
  pub same : k ≡ n
  pub locks : locks_of now ≡ locks_of t
  pub snapshot : now.snapshot ≡ Some (record { place = state.entries; tables = state.tables; opened = length state.transactions })

first-snapshot : (o : Option Snapshot) (s : Snapshot) → is_some o ≡ false → first_of o s ≡ Some s
first-snapshot None s e = refl
first-snapshot (Some other) s e = cc

pub came-started : (state : State) (number k n : ℕ) (t now : Transaction) → numbered state.transactions k ≡ Some t → IsWaiting t
    → numbered (changed (while_open (started state number)) state.transactions k) n ≡ Some now
    → ((k ≡ n → ⊥) × (numbered state.transactions n ≡ Some now)) ⊎ IsStartedHere state k n t now
came-started state number k n t now here waiting at =
    let h = back (while_open (started state number)) state.transactions k n now at in by h.0 h.1 h.2
  where
    opened : unless_ended t.ending t (started state number t) ≡ started state number t
    opened = ap (λ o. unless_ended o t (started state number t)) (still-open t waiting.unended)

    by : (x : Transaction) → numbered state.transactions n ≡ Some x → IsBack (while_open (started state number)) k n x now
        → ((k ≡ n → ⊥) × (numbered state.transactions n ≡ Some now)) ⊎ IsStartedHere state k n t now
    by x there (inl same) = inl (same.0, there ∙ ap Some (sym same.1))
    by x there (inr change) =
        let own : numbered state.transactions k ≡ Some x = ap (numbered state.transactions) change.0 ∙ there in
        let is : now ≡ started state number t = change.1 ∙ ap (while_open (started state number)) (same_one (numbered state.transactions k) x t own here) ∙ opened in
        inr (record {
          same = change.0;
          locks = ap locks_of is ∙ started-locks state number t;
          snapshot = ap (λ (y : Transaction). y.snapshot) is ∙ first-snapshot t.snapshot _ waiting.unstarted;
        })
