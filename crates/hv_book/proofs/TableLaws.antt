-- What an entry does to the write ids of a table that were given, and to those that were forgotten.
use Rattle.std.proofs.Common.{◌≡◌, ℕ, zero, suc, Bool, true, false, Option, Some, None, List, [], ◌∷◌, ◌++◌, refl, sym, ap, ◌∙◌}
use Rattle.std.specs.Prelude.{◌==◌, ◌&&◌, is_some}
use Rattle.std.specs.Option.{option_map}
use Rattle.std.specs.List.{slice_get}
use Rattle.std.proofs.lemmas.Bool.{eq-eqb, eqb-true}
use Rattle.hv_history.specs.declared.entry.Entry.{Entry}
use Rattle.hv_history.specs.declared.entry.Entry.TheVariants as entry
use Rattle.hv_history.specs.declared.state.Table.{Table}
use Rattle.hv_history.specs.declared.state.Written.{Written}
use Rattle.hv_history.specs.State.{State, numbered, changed, changed_at, owned, dropped, forgot, written_to, tables_behind, commits, made_by, acted, after}
use Rattle.hv_book.specs.Notes.{add_if}
use Rattle.hv_book.specs.Past.{owners_in, forgotten_in}

-- ---- an entry's own part

abbrev pub owners_after : ℕ → Bool → List ℕ → Entry → List ℕ
owners_after table there owners (entry.Given txn other write) = add_if ((other.0 == table) && there) txn.0 owners
owners_after table there owners _ = owners

abbrev pub forgotten_after : ℕ → Bool → List ℕ → Entry → List ℕ
forgotten_after table there forgotten (entry.Forgot other write) = add_if ((other.0 == table) && there) write.0 forgotten
forgotten_after table there forgotten _ = forgotten

-- ---- what a table has, where one is changed

module _ {A B : Type 0} (has : Option A → B) (f : A → A) where
  kept_at : ((x : A) → has (Some (f x)) ≡ has (Some x)) → (xs : List A) (k n : ℕ) → has (slice_get (changed_at f xs k) n) ≡ has (slice_get xs n)
  kept_at same [] k n = refl
  kept_at same (x ∷ xs) zero zero = same x
  kept_at same (x ∷ xs) zero (suc n) = refl
  kept_at same (x ∷ xs) (suc k) zero = refl
  kept_at same (x ∷ xs) (suc k) (suc n) = kept_at same xs k n

  pub kept-changed : ((x : A) → has (Some (f x)) ≡ has (Some x)) → (xs : List A) (k n : ℕ) → has (numbered (changed f xs k) n) ≡ has (numbered xs n)
  kept-changed same xs zero n = refl
  kept-changed same xs (suc k) zero = refl
  kept-changed same xs (suc k) (suc n) = kept_at same xs k n

  other_at : (xs : List A) (k n : ℕ) → (k ≡ n → ⊥) → has (slice_get (changed_at f xs k) n) ≡ has (slice_get xs n)
  other_at [] k n other = refl
  other_at (x ∷ xs) zero zero other = absurd (other refl)
  other_at (x ∷ xs) zero (suc n) other = refl
  other_at (x ∷ xs) (suc k) zero other = refl
  other_at (x ∷ xs) (suc k) (suc n) other = other_at xs k n (λ e. other (ap suc e))

  other-changed : (xs : List A) (k n : ℕ) → (k ≡ n → ⊥) → has (numbered (changed f xs k) n) ≡ has (numbered xs n)
  other-changed xs zero n other = refl
  other-changed xs (suc k) zero other = refl
  other-changed xs (suc k) (suc n) other = other_at xs k n (λ e. other (ap suc e))

pub here_at : {A : Type 0} (f : A → A) (xs : List A) (n : ℕ) → slice_get (changed_at f xs n) n ≡ option_map f (slice_get xs n)
here_at f [] n = refl
here_at f (x ∷ xs) zero = refl
here_at f (x ∷ xs) (suc n) = here_at f xs n

here-changed : {A : Type 0} (f : A → A) (xs : List A) (n : ℕ) → numbered (changed f xs n) n ≡ option_map f (numbered xs n)
here-changed f xs zero = refl
here-changed f xs (suc n) = here_at f xs n

more_at : {A B : Type 0} (has : Option A → B) (x : A) → has (Some x) ≡ has None → (xs : List A) (n : ℕ) → has (slice_get (xs ++ x ∷ []) n) ≡ has (slice_get xs n)
more_at has x none [] zero = none
more_at has x none [] (suc n) = refl
more_at has x none (y ∷ xs) zero = refl
more_at has x none (y ∷ xs) (suc n) = more_at has x none xs n

pub has-more : {A B : Type 0} (has : Option A → B) (xs : List A) (x : A) (n : ℕ) → has (Some x) ≡ has None → has (numbered (xs ++ x ∷ []) n) ≡ has (numbered xs n)
has-more has xs x zero none = refl
has-more has xs x (suc n) none = more_at has x none xs n

-- one number more, where a table is changed that is there
grown : (has : Option Table → List ℕ) (f : Table → Table) (x : ℕ) → ((t : Table) → has (Some (f t)) ≡ has (Some t) ++ x ∷ []) → has None ≡ []
    → (ts : List Table) (k n : ℕ) → add_if ((k == n) && is_some (numbered ts n)) x (has (numbered ts n)) ≡ has (numbered (changed f ts k) n)
grown has f x more none ts k n = by (k == n) refl
  where
    there : (o : Option Table) → add_if (is_some o) x (has o) ≡ has (option_map f o)
    there None = refl
    there (Some t) = sym (more t)

    by : (b : Bool) → (k == n) ≡ b → add_if ((k == n) && is_some (numbered ts n)) x (has (numbered ts n)) ≡ has (numbered (changed f ts k) n)
    by true is =
        ap (λ b. add_if (b && is_some (numbered ts n)) x (has (numbered ts n))) is
        ∙ there (numbered ts n)
        ∙ sym (ap has (here-changed f ts n))
        ∙ ap (λ k. has (numbered (changed f ts k) n)) (sym (eqb-true k n is))
    by false is =
        ap (λ b. add_if (b && is_some (numbered ts n)) x (has (numbered ts n))) is
        ∙ sym (other-changed has f ts k n (λ e. let both : true ≡ false = sym (eq-eqb k n e) ∙ is in cc))

pub behind-keeps : {B : Type 0} (has : Option Table → B) → ((w : Written) (t : Table) → has (Some (written_to w t)) ≡ has (Some t))
    → (ws : List (ℕ × Written)) (ts : List Table) (n : ℕ) → has (numbered (tables_behind ws ts) n) ≡ has (numbered ts n)
behind-keeps has same [] ts n = refl
behind-keeps has same (w ∷ ws) ts n =
    behind-keeps has same ws (changed (written_to w.1) ts w.0) n ∙ kept-changed has (written_to w.1) (same w.1) ts w.0 n

abbrev pub there_in : State → ℕ → Bool
there_in state table = is_some (numbered state.tables table)

pub owners-next : (table : ℕ) (state : State) (event : Entry)
    → owners_after table (there_in state table) (owners_in (numbered state.tables table)) event ≡ owners_in (numbered (after state event).tables table)
unfolding acted
owners-next table state (entry.Boot run) = refl
owners-next table state (entry.Opened txn session number text) = refl
owners-next table state (entry.Start txn statement) = refl
owners-next table state (entry.Given txn other write) = grown owners_in (owned txn.0) txn.0 (λ t. refl) refl state.tables other.0 table
owners-next table state (entry.Commit txn wrote) =
    sym (behind-keeps owners_in (λ w t. refl) (commits (numbered state.transactions txn.0)) state.tables table)
owners-next table state (entry.Abort txn cause) = refl
owners-next table state (entry.Create txn other) = sym (has-more owners_in state.tables (made_by other.0 (numbered state.transactions txn.0)) table refl)
owners-next table state (entry.Drop txn other) = sym (kept-changed owners_in dropped (λ t. refl) state.tables other.0 table)
owners-next table state (entry.Asked job other partition kind by) = refl
owners-next table state (entry.Picked job watermark) = refl
owners-next table state (entry.Published job low high mark) = refl
owners-next table state (entry.Empty job) = refl
owners-next table state (entry.Cleaned job) = refl
owners-next table state (entry.Next txn statement number text) = refl
owners-next table state (entry.Did txn statement wrote) = refl
owners-next table state (entry.Alter txn its_table) = refl
owners-next table state (entry.Failed job cause) = refl
owners-next table state (entry.Forgot other write) = sym (kept-changed owners_in (forgot write.0) (λ t. refl) state.tables other.0 table)

pub forgotten-next : (table : ℕ) (state : State) (event : Entry)
    → forgotten_after table (there_in state table) (forgotten_in (numbered state.tables table)) event ≡ forgotten_in (numbered (after state event).tables table)
unfolding acted
forgotten-next table state (entry.Boot run) = refl
forgotten-next table state (entry.Opened txn session number text) = refl
forgotten-next table state (entry.Start txn statement) = refl
forgotten-next table state (entry.Given txn other write) = sym (kept-changed forgotten_in (owned txn.0) (λ t. refl) state.tables other.0 table)
forgotten-next table state (entry.Commit txn wrote) =
    sym (behind-keeps forgotten_in (λ w t. refl) (commits (numbered state.transactions txn.0)) state.tables table)
forgotten-next table state (entry.Abort txn cause) = refl
forgotten-next table state (entry.Create txn other) = sym (has-more forgotten_in state.tables (made_by other.0 (numbered state.transactions txn.0)) table refl)
forgotten-next table state (entry.Drop txn other) = sym (kept-changed forgotten_in dropped (λ t. refl) state.tables other.0 table)
forgotten-next table state (entry.Asked job other partition kind by) = refl
forgotten-next table state (entry.Picked job watermark) = refl
forgotten-next table state (entry.Published job low high mark) = refl
forgotten-next table state (entry.Empty job) = refl
forgotten-next table state (entry.Cleaned job) = refl
forgotten-next table state (entry.Next txn statement number text) = refl
forgotten-next table state (entry.Did txn statement wrote) = refl
forgotten-next table state (entry.Alter txn its_table) = refl
forgotten-next table state (entry.Failed job cause) = refl
forgotten-next table state (entry.Forgot other write) = grown forgotten_in (forgot write.0) write.0 (λ t. refl) refl state.tables other.0 table
