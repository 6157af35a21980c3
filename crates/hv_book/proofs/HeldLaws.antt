-- The write ids that are kept beside a book are those of its open transactions.
use Rattle.std.proofs.Common.{◌≡◌, ℕ, zero, suc, Option, Some, None, List, [], ◌∷◌, ◌++◌, map, filter, refl, sym, ap, ◌∙◌, inl, inr}
use Rattle.std.specs.Prelude.{Bool, true, false, not, is_none, ◌==◌, ◌⊎◌, if◌then◌else◌}
use Rattle.std.proofs.lemmas.List.{append-nil}
use Rattle.std.specs.Option.{option_map}
use Rattle.std.specs.List.{slice_get}
use Rattle.std.proofs.lemmas.Bool.{eq-eqb, eqb-true, eqb-false}
use Rattle.hv_history.specs.declared.entry.Entry.{Entry}
use Rattle.hv_history.specs.declared.entry.Entry.TheVariants as entry
use Rattle.hv_history.specs.declared.state.Transaction.{Transaction}
use Rattle.hv_history.specs.declared.state.Ending.{Ending}
use Rattle.hv_history.specs.declared.state.Ending.TheVariants.{Aborted, Made, Dropped}
use Rattle.hv_history.specs.State.{State, numbered, changed, changed_at, while_open, unless_ended, started, given_id, committed, ended, opened, acted, after}
use Rattle.hv_book.specs.declared.notes.Held.{Held}
use Rattle.hv_book.specs.declared.notes.TransactionNote.{TransactionNote}
use Rattle.hv_book.specs.Notes.{Notes, noted, ending, add_if, held_by_other, is_open_note}
use Rattle.hv_book.specs.Briefs.{brief, held_by, held_next, given_at, given_while, end_of}
use Rattle.hv_book.proofs.NoteLaws.{differ}
use Rattle.hv_book.proofs.TextLaws.{numbered-map}

pub same_or_not : (a b : ℕ) → (a ≡ b) ⊎ (a ≡ b → ⊥)
same_or_not a b = by (a == b) refl
  where
    by : (c : Bool) → (a == b) ≡ c → (a ≡ b) ⊎ (a ≡ b → ⊥)
    by true e = inl (eqb-true a b e)
    by false e = inr (eqb-false a b e)

-- ---- what stands at a number behind a change

module _ {A : Type 0} (f : A → A) where
  at-here : (xs : List A) (n : ℕ) → slice_get (changed_at f xs n) n ≡ option_map f (slice_get xs n)
  at-here [] n = refl
  at-here (x ∷ xs) zero = refl
  at-here (x ∷ xs) (suc n) = at-here xs n

  at-other : (xs : List A) (n k : ℕ) → (k ≡ n → ⊥) → slice_get (changed_at f xs n) k ≡ slice_get xs k
  at-other [] n k apart = refl
  at-other (x ∷ xs) zero zero apart = absurd (apart refl)
  at-other (x ∷ xs) zero (suc k) apart = refl
  at-other (x ∷ xs) (suc n) zero apart = refl
  at-other (x ∷ xs) (suc n) (suc k) apart = at-other xs n k (λ e. apart (ap suc e))

  pub numbered-here : (xs : List A) (n : ℕ) → numbered (changed f xs n) n ≡ option_map f (numbered xs n)
  numbered-here xs zero = refl
  numbered-here xs (suc n) = at-here xs n

  pub numbered-other : (xs : List A) (n k : ℕ) → (k ≡ n → ⊥) → numbered (changed f xs n) k ≡ numbered xs k
  numbered-other xs zero k apart = refl
  numbered-other xs (suc n) zero apart = refl
  numbered-other xs (suc n) (suc k) apart = at-other xs n k (λ e. apart (ap suc e))

-- ---- what is held

held-more : (k : ℕ) (xs : List Held) (x : Held) → held_by k (xs ++ x ∷ []) ≡ held_by k xs ++ held_next (x.txn == k) x []
held-more k [] x = refl
held-more k (y ∷ xs) x = by (held-more k xs x) (y.txn == k)
  where
    by : held_by k (xs ++ x ∷ []) ≡ held_by k xs ++ held_next (x.txn == k) x []
        → (b : Bool) → held_next b y (held_by k (xs ++ x ∷ [])) ≡ held_next b y (held_by k xs) ++ held_next (x.txn == k) x []
    by rest true = ap (λ given. (y.table, y.write) ∷ given) rest
    by rest false = rest

held-gone : (k : ℕ) (xs : List Held) → held_by k (filter (held_by_other k) xs) ≡ []
held-gone k [] = refl
held-gone k (y ∷ xs) = by (held-gone k xs) (y.txn == k) refl
  where
    by : held_by k (filter (held_by_other k) xs) ≡ [] → (b : Bool) → (y.txn == k) ≡ b
        → held_by k (if (not b) then y ∷ filter (held_by_other k) xs else filter (held_by_other k) xs) ≡ []
    by rest true is = rest
    by rest false is = ap (λ c. held_next c y (held_by k (filter (held_by_other k) xs))) is ∙ rest

held-stays : (k n : ℕ) → (k ≡ n → ⊥) → (xs : List Held) → held_by k (filter (held_by_other n) xs) ≡ held_by k xs
held-stays k n apart [] = refl
held-stays k n apart (y ∷ xs) = by (held-stays k n apart xs) (y.txn == n) refl
  where
    by : held_by k (filter (held_by_other n) xs) ≡ held_by k xs → (b : Bool) → (y.txn == n) ≡ b
        → held_by k (if (not b) then y ∷ filter (held_by_other n) xs else filter (held_by_other n) xs) ≡ held_next (y.txn == k) y (held_by k xs)
    by rest true is =
        let here : y.txn ≡ n = eqb-true y.txn n is in
        let other : (y.txn == k) ≡ false = differ y.txn k (λ e. apart (sym e ∙ here)) in
        rest ∙ ap (λ c. held_next c y (held_by k xs)) (sym other)
    by rest false is = ap (held_next (y.txn == k) y) rest

abbrev pub HeldFollows : State → Notes → Type 0
HeldFollows state notes = (k : ℕ) → held_by k notes.held ≡ given_at (numbered state.transactions k)

-- ---- the transactions' side

opened-none : (ts : List Transaction) (t : Transaction) → given_at (Some t) ≡ [] → (k : ℕ) → given_at (numbered (ts ++ t ∷ []) k) ≡ given_at (numbered ts k)
opened-none ts t none zero = refl
opened-none ts t none (suc k) = by ts k
  where
    by : (ts : List Transaction) (k : ℕ) → given_at (slice_get (ts ++ t ∷ []) k) ≡ given_at (slice_get ts k)
    by [] zero = none
    by [] (suc k) = refl
    by (x ∷ ts) zero = refl
    by (x ∷ ts) (suc k) = by ts k

given-same : (f : Transaction → Transaction) → ((t : Transaction) → given_at (Some (f t)) ≡ given_at (Some t))
    → (ts : List Transaction) (n k : ℕ) → given_at (numbered (changed (while_open f) ts n) k) ≡ given_at (numbered ts k)
given-same f same ts n k = by (same_or_not k n)
  where
    one : (t : Transaction) (e : Option Ending) → given_at (Some (unless_ended e t (f t))) ≡ given_at (Some t)
    one t None = same t
    one t (Some e) = refl

    here : (o : Option Transaction) → given_at (option_map (while_open f) o) ≡ given_at o
    here None = refl
    here (Some t) = one t t.ending

    by : (k ≡ n) ⊎ (k ≡ n → ⊥) → given_at (numbered (changed (while_open f) ts n) k) ≡ given_at (numbered ts k)
    by (inl e) =
        ap (λ m. given_at (numbered (changed (while_open f) ts n) m)) e ∙ ap given_at (numbered-here (while_open f) ts n) ∙ here (numbered ts n)
        ∙ ap (λ m. given_at (numbered ts m)) (sym e)
    by (inr apart) = ap given_at (numbered-other (while_open f) ts n k apart)

held-ended : (f : Transaction → Transaction) → ((t : Transaction) → given_at (Some (f t)) ≡ [])
    → (ts : List Transaction) (xs : List Held) (n : ℕ) → ((k : ℕ) → held_by k xs ≡ given_at (numbered ts k))
    → (k : ℕ) → held_by k (filter (held_by_other n) xs) ≡ given_at (numbered (changed (while_open f) ts n) k)
held-ended f ends ts xs n h k = by (same_or_not k n)
  where
    one : (t : Transaction) (e : Option Ending) → t.ending ≡ e → given_at (Some (unless_ended e t (f t))) ≡ []
    one t None is = ends t
    one t (Some e) is = ap (λ o. given_while o t.given) is

    here : (o : Option Transaction) → given_at (option_map (while_open f) o) ≡ []
    here None = refl
    here (Some t) = one t t.ending refl

    by : (k ≡ n) ⊎ (k ≡ n → ⊥) → held_by k (filter (held_by_other n) xs) ≡ given_at (numbered (changed (while_open f) ts n) k)
    by (inl e) =
        ap (λ m. held_by m (filter (held_by_other n) xs)) e ∙ held-gone n xs ∙ sym (here (numbered ts n))
        ∙ ap given_at (sym (numbered-here (while_open f) ts n)) ∙ ap (λ m. given_at (numbered (changed (while_open f) ts n) m)) (sym e)
    by (inr apart) = held-stays k n apart xs ∙ h k ∙ ap given_at (sym (numbered-other (while_open f) ts n k apart))

held-given : (table write n : ℕ) (ts : List Transaction) (xs : List Held) (notes : List TransactionNote) → notes ≡ map brief ts
    → ((k : ℕ) → held_by k xs ≡ given_at (numbered ts k))
    → (k : ℕ) → held_by k (add_if (is_open_note (numbered notes n)) (record { txn = n; table = table; write = write }) xs)
    ≡ given_at (numbered (changed (while_open (given_id table write)) ts n) k)
held-given table write n ts xs notes same h k =
    ap (λ (o : Option TransactionNote). held_by k (add_if (is_open_note o) x xs)) (ap (λ ns. numbered ns n) same ∙ numbered-map brief ts n)
    ∙ by (same_or_not k n) (numbered ts n) refl
  where
    x : Held
    x = record { txn = n; table = table; write = write }

    f : Transaction → Transaction
    f = given_id table write

    other : (k ≡ n → ⊥) → (b : Bool) → held_by k (add_if b x xs) ≡ held_by k xs
    other apart true =
        let no_more : (n == k) ≡ false = differ n k (λ e. apart (sym e)) in
        held-more k xs x ∙ ap (λ c. held_by k xs ++ held_next c x []) no_more ∙ append-nil (held_by k xs)
    other apart false = refl

    one : (t : Transaction) (e : Option Ending) → t.ending ≡ e → held_by n xs ≡ given_at (Some t)
        → held_by n (add_if (is_open_note (Some (brief t))) x xs) ≡ given_at (Some (unless_ended e t (f t)))
    one t None is held =
        let mine : (n == n) ≡ true = eq-eqb n n refl in
        ap (λ (o : Option Ending). held_by n (add_if (is_none (option_map end_of o)) x xs)) is
        ∙ held-more n xs x ∙ ap (λ c. held_by n xs ++ held_next c x []) mine
        ∙ ap (λ given. given ++ (table, write) ∷ []) (held ∙ ap (λ (o : Option Ending). given_while o t.given) is)
        ∙ ap (λ (o : Option Ending). given_while o (t.given ++ (table, write) ∷ [])) (sym is)
    one t (Some e) is held = ap (λ (o : Option Ending). held_by n (add_if (is_none (option_map end_of o)) x xs)) is ∙ held

    here : (o : Option Transaction) → held_by n xs ≡ given_at o
        → held_by n (add_if (is_open_note (option_map brief o)) x xs) ≡ given_at (option_map (while_open f) o)
    here None held = held
    here (Some t) held = one t t.ending refl held

    by : (k ≡ n) ⊎ (k ≡ n → ⊥) → (o : Option Transaction) → numbered ts n ≡ o
        → held_by k (add_if (is_open_note (option_map brief (numbered ts n))) x xs) ≡ given_at (numbered (changed (while_open f) ts n) k)
    by (inl e) o is =
        ap (λ m. held_by m (add_if (is_open_note (option_map brief (numbered ts n))) x xs)) e
        ∙ here (numbered ts n) (h n)
        ∙ ap given_at (sym (numbered-here (while_open f) ts n)) ∙ ap (λ m. given_at (numbered (changed (while_open f) ts n) m)) (sym e)
    by (inr apart) o is =
        other apart (is_open_note (option_map brief (numbered ts n))) ∙ h k ∙ ap given_at (sym (numbered-other (while_open f) ts n k apart))

pub held-next : (state : State) (event : Entry) (notes : Notes) → notes.transactions ≡ map brief state.transactions
    → HeldFollows state notes → HeldFollows (after state event) (noted state.entries event notes)
unfolding acted ending
held-next state (entry.Boot run) notes same h = h
held-next state (entry.Opened txn session number text) notes same h =
    λ k. h k ∙ sym (opened-none state.transactions (opened session number text) refl k)
held-next state (entry.Start txn statement) notes same h =
    λ k. h k ∙ sym (given-same (started state statement) (λ t. refl) state.transactions txn.0 k)
held-next state (entry.Given txn table write) notes same h =
    held-given table.0 write.0 txn.0 state.transactions notes.held notes.transactions same h
held-next state (entry.Commit txn wrote) notes same h = held-ended (committed state.entries wrote) (λ t. refl) state.transactions notes.held txn.0 h
held-next state (entry.Abort txn cause) notes same h = held-ended (ended (Aborted state.entries cause)) (λ t. refl) state.transactions notes.held txn.0 h
held-next state (entry.Create txn table) notes same h = held-ended (ended (Made state.entries table.0)) (λ t. refl) state.transactions notes.held txn.0 h
held-next state (entry.Drop txn table) notes same h = held-ended (ended (Dropped state.entries table.0)) (λ t. refl) state.transactions notes.held txn.0 h
held-next state (entry.Asked job table partition kind by) notes same h = h
held-next state (entry.Picked job watermark) notes same h = h
held-next state (entry.Published job low high mark) notes same h = h
held-next state (entry.Empty job) notes same h = h
held-next state (entry.Cleaned job) notes same h = h
held-next state (entry.Next txn statement number text) notes same h = h
held-next state (entry.Did txn statement wrote) notes same h = h
held-next state (entry.Alter txn table) notes same h = h
held-next state (entry.Failed job cause) notes same h = h
held-next state (entry.Forgot table write) notes same h = h
