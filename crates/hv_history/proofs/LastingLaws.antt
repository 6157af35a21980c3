-- What one entry changes of transactions and tables, and what it leaves, over any state.
use Rattle.std.proofs.Common.{◌≡◌, ℕ, zero, suc, Option, Some, None, List, [], ◌∷◌, ◌++◌, fold, refl, sym, ap, ◌∙◌, subst, append_assoc, length}
use Rattle.std.specs.Prelude.{IsSomeAnd}
use Rattle.std.specs.List.{slice_get}
use Rattle.std.proofs.lemmas.List.{append-nil}
use Rattle.hv_meaning.specs.hv_typing.specs.hv_logic.specs.declared.meaning.Meaning.{Meaning}
use Rattle.hv_history.specs.declared.entry.Entry.{Entry}
use Rattle.hv_history.specs.declared.entry.Entry.TheVariants as entry
use Rattle.hv_history.specs.declared.state.Written.{Written}
use Rattle.hv_history.specs.declared.state.Snapshot.{Snapshot}
use Rattle.hv_history.specs.State.{State, Statement, Table, Transaction, Ending, Aborted, Made, Dropped, numbered, changed, changed_at, first_of, first_known, meaning_in, meant_in, started, given_id, wrote_as, committed, ended, while_open, unless_ended, owned, written_to, dropped, forgot, commits, tables_behind, made_by, opened, acted, after}
use Rattle.hv_history.specs.Lasting.{StatementLater, AllLater, IsFront, Later, TableLater, GoesOn, txn_of}

-- ---- what is there stays there, where one is changed and where some come behind

module _ {A : Type 0} (R : A → A → Type 0) (same : (x : A) → R x x) where
  there : (o : Option A) (x : A) → o ≡ Some x → IsSomeAnd o (R x)
  there o x e = subst (λ (p : Option A). IsSomeAnd p (R x)) (sym e) (same x)

  kept-more_slice : (xs ys : List A) (n : ℕ) (x : A) → slice_get xs n ≡ Some x → IsSomeAnd (slice_get (xs ++ ys) n) (R x)
  kept-more_slice [] ys n x e = cc
  kept-more_slice (y ∷ xs) ys zero x e = there (Some y) x e
  kept-more_slice (y ∷ xs) ys (suc n) x e = kept-more_slice xs ys n x e

  pub kept-more : (xs ys : List A) (n : ℕ) (x : A) → numbered xs n ≡ Some x → IsSomeAnd (numbered (xs ++ ys) n) (R x)
  kept-more xs ys zero x e = cc
  kept-more xs ys (suc n) x e = kept-more_slice xs ys n x e

  kept-changed_at : (f : A → A) → ((x : A) → R x (f x)) → (xs : List A) (k n : ℕ) (x : A) → slice_get xs n ≡ Some x
      → IsSomeAnd (slice_get (changed_at f xs k) n) (R x)
  kept-changed_at f step [] k n x e = cc
  kept-changed_at f step (y ∷ xs) zero zero x e = let is : y ≡ x = cc in subst (λ (z : A). R z (f y)) is (step y)
  kept-changed_at f step (y ∷ xs) zero (suc n) x e = there (slice_get xs n) x e
  kept-changed_at f step (y ∷ xs) (suc k) zero x e = there (Some y) x e
  kept-changed_at f step (y ∷ xs) (suc k) (suc n) x e = kept-changed_at f step xs k n x e

  pub kept-changed : (f : A → A) → ((x : A) → R x (f x)) → (xs : List A) (k n : ℕ) (x : A) → numbered xs n ≡ Some x
      → IsSomeAnd (numbered (changed f xs k) n) (R x)
  kept-changed f step xs zero n x e = there (numbered xs n) x e
  kept-changed f step xs (suc k) zero x e = cc
  kept-changed f step xs (suc k) (suc n) x e = kept-changed_at f step xs k n x e

-- ---- statements

statement-same : (s : Statement) → StatementLater s s
statement-same s = record { number = refl; text = refl; meaning = λ m e. e }

all-same : (xs : List Statement) → AllLater xs xs
all-same [] = tt
all-same (x ∷ xs) = (statement-same x, all-same xs)

all-changed_at : (f : Statement → Statement) → ((s : Statement) → StatementLater s (f s)) → (xs : List Statement) (k : ℕ) → AllLater xs (changed_at f xs k)
all-changed_at f step [] k = tt
all-changed_at f step (x ∷ xs) zero = (step x, all-same xs)
all-changed_at f step (x ∷ xs) (suc k) = (statement-same x, all-changed_at f step xs k)

meant-later : (state : State) (s : Statement) → StatementLater s (meant_in state s)
meant-later state s = record { number = refl; text = refl; meaning = λ m e. ap (λ (o : Option Meaning). first_known o (meaning_in state s.text)) e }

wrote-later : (given : List (ℕ × ℕ)) (number : ℕ) (s : Statement) → StatementLater s (wrote_as given number s)
wrote-later given number s = record { number = refl; text = refl; meaning = λ m e. e }

-- ---- transactions

front-same : {A : Type 0} (xs : List A) → IsFront xs xs
front-same xs = record { more = []; is = sym (append-nil xs) }

transaction-same : (t : Transaction) → Later t t
transaction-same t = record {
  session = refl;
  statements = all-same t.statements;
  snapshot = λ s e. e;
  given = front-same t.given;
  ending = λ e is. refl;
}

open-later : (f : Transaction → Transaction) → ((t : Transaction) → t.ending ≡ None → Later t (f t)) → (t : Transaction) → Later t (while_open f t)
open-later f step t = by t.ending refl
  where
    by : (ending : Option Ending) → t.ending ≡ ending → Later t (unless_ended ending t (f t))
    by None e = step t e
    by (Some ending) e = transaction-same t

-- an open transaction may end in any way
unended : (t now : Transaction) → t.ending ≡ None → (e : Ending) → t.ending ≡ Some e → now ≡ t
unended t now none e is = let both : None ≡ Some e = sym none ∙ is in cc

start-later : (state : State) (number : ℕ) (t : Transaction) → t.ending ≡ None → Later t (started state number t)
start-later state number t none = record {
  session = refl;
  statements = all-changed_at (meant_in state) (meant-later state) t.statements number;
  snapshot = λ s e. ap (λ (o : Option Snapshot). first_of o (record { place = state.entries; tables = state.tables; opened = length state.transactions })) e;
  given = front-same t.given;
  ending = unended t (started state number t) none;
}

give-later : (table write : ℕ) (t : Transaction) → t.ending ≡ None → Later t (given_id table write t)
give-later table write t none = record {
  session = refl;
  statements = all-same t.statements;
  snapshot = λ s e. e;
  given = record { more = (table, write) ∷ []; is = refl };
  ending = unended t (given_id table write t) none;
}

end-later : (ending : Ending) (t : Transaction) → t.ending ≡ None → Later t (ended ending t)
end-later ending t none = record {
  session = refl;
  statements = all-same t.statements;
  snapshot = λ s e. e;
  given = front-same t.given;
  ending = unended t (ended ending t) none;
}

commit-later : (place : ℕ) (wrote : List _) (t : Transaction) → t.ending ≡ None → Later t (committed place wrote t)
commit-later place wrote t none = record {
  session = refl;
  statements = all-changed_at (wrote_as t.given 0) (wrote-later t.given 0) t.statements 0;
  snapshot = λ s e. e;
  given = front-same t.given;
  ending = unended t (committed place wrote t) none;
}

-- ---- tables

table-same : (t : Table) → TableLater t t
table-same t = record { info = refl; owners = front-same t.owners; writes = front-same t.writes; forgotten = front-same t.forgotten }

owned-later : (txn : ℕ) (t : Table) → TableLater t (owned txn t)
owned-later txn t = record { info = refl; owners = record { more = txn ∷ []; is = refl }; writes = front-same t.writes; forgotten = front-same t.forgotten }

written-later : (written : Written) (t : Table) → TableLater t (written_to written t)
written-later written t = record { info = refl; owners = front-same t.owners; writes = record { more = written ∷ []; is = refl }; forgotten = front-same t.forgotten }

dropped-later : (t : Table) → TableLater t (dropped t)
dropped-later t = record { info = refl; owners = front-same t.owners; writes = front-same t.writes; forgotten = front-same t.forgotten }

forgot-later : (write : ℕ) (t : Table) → TableLater t (forgot write t)
forgot-later write t = record { info = refl; owners = front-same t.owners; writes = front-same t.writes; forgotten = record { more = write ∷ []; is = refl } }

-- ---- later than later

front-then : {A : Type 0} (xs ys zs : List A) → IsFront xs ys → IsFront ys zs → IsFront xs zs
front-then xs ys zs a b = record { more = a.more ++ b.more; is = b.is ∙ ap (λ l. l ++ b.more) a.is ∙ append_assoc xs a.more b.more }

statement-then : (a b c : Statement) → StatementLater a b → StatementLater b c → StatementLater a c
statement-then a b c x y = record { number = y.number ∙ x.number; text = y.text ∙ x.text; meaning = λ m e. y.meaning m (x.meaning m e) }

all-then : (xs ys zs : List Statement) → AllLater xs ys → AllLater ys zs → AllLater xs zs
all-then [] [] zs a b = b
all-then [] (y ∷ ys) zs a b = absurd a
all-then (x ∷ xs) [] zs a b = absurd a
all-then (x ∷ xs) (y ∷ ys) [] a b = absurd b
all-then (x ∷ xs) (y ∷ ys) (z ∷ zs) a b = (statement-then x y z a.0 b.0, all-then xs ys zs a.1 b.1)

transaction-then : (a b c : Transaction) → Later a b → Later b c → Later a c
transaction-then a b c x y = record {
  session = y.session ∙ x.session;
  statements = all-then a.statements b.statements c.statements x.statements y.statements;
  snapshot = λ s e. y.snapshot s (x.snapshot s e);
  given = front-then a.given b.given c.given x.given y.given;
  ending = λ e is. y.ending e (ap (λ (t : Transaction). t.ending) (x.ending e is) ∙ is) ∙ x.ending e is;
}

table-then : (a b c : Table) → TableLater a b → TableLater b c → TableLater a c
table-then a b c x y = record {
  info = y.info ∙ x.info;
  owners = front-then a.owners b.owners c.owners x.owners y.owners;
  writes = front-then a.writes b.writes c.writes x.writes y.writes;
  forgotten = front-then a.forgotten b.forgotten c.forgotten x.forgotten y.forgotten;
}

-- what follows from what is there
then-there : {A : Type 0} (R : A → A → Type 0) → ((a b c : A) → R a b → R b c → R a c) → (x : A) (o p : Option A) → IsSomeAnd o (R x)
    → ((y : A) → o ≡ Some y → IsSomeAnd p (R y)) → IsSomeAnd p (R x)
then-there R join x None p here next = absurd here
then-there R join x (Some y) None here next = next y refl
then-there R join x (Some y) (Some z) here next = join x y z here (next y refl)

-- ---- one entry

-- several writes, one after another
behind-later : (ws : List (ℕ × Written)) (tables : List Table) (n : ℕ) (t : Table) → numbered tables n ≡ Some t
    → IsSomeAnd (numbered (tables_behind ws tables) n) (TableLater t)
behind-later [] tables n t e = there TableLater table-same (numbered tables n) t e
behind-later (w ∷ ws) tables n t e =
    then-there TableLater table-then t (numbered (changed (written_to w.1) tables w.0) n) (numbered (tables_behind ws (changed (written_to w.1) tables w.0)) n)
    (kept-changed TableLater table-same (written_to w.1) (written-later w.1) tables w.0 n t e)
    (λ y is. behind-later ws (changed (written_to w.1) tables w.0) n y is)

with-open : (f : Transaction → Transaction) → ((t : Transaction) → t.ending ≡ None → Later t (f t)) → (xs : List Transaction) (k n : ℕ) (t : Transaction)
    → numbered xs n ≡ Some t → IsSomeAnd (numbered (changed (while_open f) xs k) n) (Later t)
with-open f step xs k n t e = kept-changed Later transaction-same (while_open f) (open-later f step) xs k n t e

transactions-later : (state : State) (event : Entry) (n : ℕ) (t : Transaction) → numbered state.transactions n ≡ Some t
    → IsSomeAnd (numbered (after state event).transactions n) (Later t)
unfolding acted
transactions-later state (entry.Opened txn session number text) n t e = kept-more Later transaction-same state.transactions (opened session number text ∷ []) n t e
transactions-later state (entry.Start txn statement) n t e = with-open (started state statement) (start-later state statement) state.transactions txn.0 n t e
transactions-later state (entry.Given txn table write) n t e = with-open (given_id table.0 write.0) (give-later table.0 write.0) state.transactions txn.0 n t e
transactions-later state (entry.Commit txn wrote) n t e = with-open (committed state.entries wrote) (commit-later state.entries wrote) state.transactions txn.0 n t e
transactions-later state (entry.Abort txn cause) n t e = with-open (ended (Aborted state.entries cause)) (end-later (Aborted state.entries cause)) state.transactions txn.0 n t e
transactions-later state (entry.Create txn table) n t e = with-open (ended (Made state.entries table.0)) (end-later (Made state.entries table.0)) state.transactions txn.0 n t e
transactions-later state (entry.Drop txn table) n t e = with-open (ended (Dropped state.entries table.0)) (end-later (Dropped state.entries table.0)) state.transactions txn.0 n t e
transactions-later state (entry.Boot run) n t e = there Later transaction-same (numbered state.transactions n) t e
transactions-later state (entry.Asked job table partition kind by) n t e = there Later transaction-same (numbered state.transactions n) t e
transactions-later state (entry.Picked job watermark) n t e = there Later transaction-same (numbered state.transactions n) t e
transactions-later state (entry.Published job low high mark) n t e = there Later transaction-same (numbered state.transactions n) t e
transactions-later state (entry.Empty job) n t e = there Later transaction-same (numbered state.transactions n) t e
transactions-later state (entry.Cleaned job) n t e = there Later transaction-same (numbered state.transactions n) t e
transactions-later state (entry.Failed job cause) n t e = there Later transaction-same (numbered state.transactions n) t e
transactions-later state (entry.Forgot table write) n t e = there Later transaction-same (numbered state.transactions n) t e
transactions-later state (entry.Next txn statement number text) n t e = there Later transaction-same (numbered state.transactions n) t e
transactions-later state (entry.Did txn statement wrote) n t e = there Later transaction-same (numbered state.transactions n) t e
transactions-later state (entry.Alter txn table) n t e = there Later transaction-same (numbered state.transactions n) t e

tables-later : (state : State) (event : Entry) (n : ℕ) (t : Table) → numbered state.tables n ≡ Some t
    → IsSomeAnd (numbered (after state event).tables n) (TableLater t)
unfolding acted
tables-later state (entry.Given txn table write) n t e = kept-changed TableLater table-same (owned txn.0) (owned-later txn.0) state.tables table.0 n t e
tables-later state (entry.Commit txn wrote) n t e = behind-later (commits (numbered state.transactions txn.0)) state.tables n t e
tables-later state (entry.Create txn table) n t e = kept-more TableLater table-same state.tables (made_by table.0 (numbered state.transactions txn.0) ∷ []) n t e
tables-later state (entry.Drop txn table) n t e = kept-changed TableLater table-same dropped dropped-later state.tables table.0 n t e
tables-later state (entry.Forgot table write) n t e = kept-changed TableLater table-same (forgot write.0) (forgot-later write.0) state.tables table.0 n t e
tables-later state (entry.Boot run) n t e = there TableLater table-same (numbered state.tables n) t e
tables-later state (entry.Opened txn session number text) n t e = there TableLater table-same (numbered state.tables n) t e
tables-later state (entry.Start txn statement) n t e = there TableLater table-same (numbered state.tables n) t e
tables-later state (entry.Abort txn cause) n t e = there TableLater table-same (numbered state.tables n) t e
tables-later state (entry.Asked job table partition kind by) n t e = there TableLater table-same (numbered state.tables n) t e
tables-later state (entry.Picked job watermark) n t e = there TableLater table-same (numbered state.tables n) t e
tables-later state (entry.Published job low high mark) n t e = there TableLater table-same (numbered state.tables n) t e
tables-later state (entry.Empty job) n t e = there TableLater table-same (numbered state.tables n) t e
tables-later state (entry.Cleaned job) n t e = there TableLater table-same (numbered state.tables n) t e
tables-later state (entry.Failed job cause) n t e = there TableLater table-same (numbered state.tables n) t e
tables-later state (entry.Next txn statement number text) n t e = there TableLater table-same (numbered state.tables n) t e
tables-later state (entry.Did txn statement wrote) n t e = there TableLater table-same (numbered state.tables n) t e
tables-later state (entry.Alter txn table) n t e = there TableLater table-same (numbered state.tables n) t e

pub goes-on : (state : State) (event : Entry) → GoesOn state (after state event)
goes-on state event = record { transactions = transactions-later state event; tables = tables-later state event }

-- ---- any number of entries

goes-same : (state : State) → GoesOn state state
goes-same state = record {
  transactions = λ n t e. there Later transaction-same (numbered state.transactions n) t e;
  tables = λ n t e. there TableLater table-same (numbered state.tables n) t e;
}

goes-then : (a b c : State) → GoesOn a b → GoesOn b c → GoesOn a c
goes-then a b c x y = record {
  transactions = λ n t e. then-there Later transaction-then t (numbered b.transactions n) (numbered c.transactions n) (x.transactions n t e) (y.transactions n);
  tables = λ n t e. then-there TableLater table-then t (numbered b.tables n) (numbered c.tables n) (x.tables n t e) (y.tables n);
}

pub goes-on-all : (more : List Entry) (state : State) → GoesOn state (fold after state more)
goes-on-all [] state = goes-same state
goes-on-all (event ∷ more) state =
    goes-then state (after state event) (fold after (after state event) more) (goes-on state event) (goes-on-all more (after state event))

-- ---- a transaction changes by its own entries alone

same-changed_at : {A : Type 0} (f : A → A) (xs : List A) (k n : ℕ) → (k ≡ n → ⊥) → slice_get (changed_at f xs k) n ≡ slice_get xs n
same-changed_at f [] k n other = refl
same-changed_at f (x ∷ xs) zero zero other = absurd (other refl)
same-changed_at f (x ∷ xs) zero (suc n) other = refl
same-changed_at f (x ∷ xs) (suc k) zero other = refl
same-changed_at f (x ∷ xs) (suc k) (suc n) other = same-changed_at f xs k n (λ e. other (ap suc e))

pub same-changed : {A : Type 0} (f : A → A) (xs : List A) (k n : ℕ) → (k ≡ n → ⊥) → numbered (changed f xs k) n ≡ numbered xs n
same-changed f xs zero n other = refl
same-changed f xs (suc k) zero other = refl
same-changed f xs (suc k) (suc n) other = same-changed_at f xs k n (λ e. other (ap suc e))

pub more-slice : {A : Type 0} (xs ys : List A) (n : ℕ) (x : A) → slice_get xs n ≡ Some x → slice_get (xs ++ ys) n ≡ Some x
more-slice [] ys n x e = cc
more-slice (y ∷ xs) ys zero x e = e
more-slice (y ∷ xs) ys (suc n) x e = more-slice xs ys n x e

more-numbered : {A : Type 0} (xs ys : List A) (n : ℕ) (x : A) → numbered xs n ≡ Some x → numbered (xs ++ ys) n ≡ Some x
more-numbered xs ys zero x e = cc
more-numbered xs ys (suc n) x e = more-slice xs ys n x e

pub others-stay : (state : State) (event : Entry) (n : ℕ) (t : Transaction) → (txn_of event ≡ Some n → ⊥) → numbered state.transactions n ≡ Some t
    → numbered (after state event).transactions n ≡ Some t
unfolding acted
others-stay state (entry.Opened txn session number text) n t other e = more-numbered state.transactions _ n t e
others-stay state (entry.Start txn statement) n t other e = same-changed _ state.transactions txn.0 n (λ i. other (ap Some i)) ∙ e
others-stay state (entry.Given txn table write) n t other e = same-changed _ state.transactions txn.0 n (λ i. other (ap Some i)) ∙ e
others-stay state (entry.Commit txn wrote) n t other e = same-changed _ state.transactions txn.0 n (λ i. other (ap Some i)) ∙ e
others-stay state (entry.Abort txn cause) n t other e = same-changed _ state.transactions txn.0 n (λ i. other (ap Some i)) ∙ e
others-stay state (entry.Create txn table) n t other e = same-changed _ state.transactions txn.0 n (λ i. other (ap Some i)) ∙ e
others-stay state (entry.Drop txn table) n t other e = same-changed _ state.transactions txn.0 n (λ i. other (ap Some i)) ∙ e
others-stay state (entry.Boot run) n t other e = e
others-stay state (entry.Asked job table partition kind by) n t other e = e
others-stay state (entry.Picked job watermark) n t other e = e
others-stay state (entry.Published job low high mark) n t other e = e
others-stay state (entry.Empty job) n t other e = e
others-stay state (entry.Cleaned job) n t other e = e
others-stay state (entry.Failed job cause) n t other e = e
others-stay state (entry.Forgot table write) n t other e = e
others-stay state (entry.Next txn statement number text) n t other e = e
others-stay state (entry.Did txn statement wrote) n t other e = e
others-stay state (entry.Alter txn table) n t other e = e
