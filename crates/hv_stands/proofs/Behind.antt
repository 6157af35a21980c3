-- A book with entries behind it: its state, its fronts, and what an entry leaves of the transaction that it is about.
use Rattle.std.proofs.Common.{◌≡◌, ℕ, ◌+◌, ◌<◌, Option, Some, None, List, [], ◌∷◌, ◌++◌, length, take, fold, sym, ap, ◌∙◌, length-append, arith}
use Rattle.std.proofs.lemmas.List.{take-append-le}
use Rattle.std.proofs.lemmas.List.Sums.{fold-append}
use Rattle.hv_base.specs.declared.ids.TableId.{TableId}
use Rattle.hv_base.specs.declared.ids.WriteId.{WriteId}
use Rattle.hv_base.specs.declared.ids.Touch.{Touch}
use Rattle.hv_ast.specs.declared.statement.Stmt.{Stmt}
use Rattle.hv_history.specs.declared.entry.Entry.{Entry}
use Rattle.hv_history.specs.declared.entry.Entry.TheVariants as entry
use Rattle.hv_history.specs.declared.entry.Cause.{Cause}
use Rattle.hv_history.specs.declared.state.Ending.TheVariants.{Aborted, Made, Dropped}
use Rattle.hv_history.specs.declared.state.Transaction.{Transaction}
use Rattle.hv_history.specs.State.{State, nothing_yet, numbered, opened, started, given_id, committed, ended, acted, after, state_of}
use Rattle.hv_stands.specs.Running.{Asking, meant, snapshot_at, running}
use Rattle.hv_stands.proofs.Numbers.{numbered-last}
use Rattle.hv_stands.proofs.Keeping.{open-here}

-- ---- the state

pub one-behind : (book : List Entry) (event : Entry) → state_of (book ++ event ∷ []) ≡ after (state_of book) event
one-behind book event = fold-append after nothing_yet book (event ∷ [])

counted : (book : List Entry) (s : State) → (fold after s book).entries ≡ s.entries + length book
counted [] s = omega arith
counted (event ∷ book) s =
    let rest : (fold after (after s event) book).entries ≡ s.entries + 1 + length book = counted book (after s event) in
    omega (arith, rest)

-- its entries are counted
pub entries-are : (book : List Entry) → (state_of book).entries ≡ length book
entries-are book =
    let all : (state_of book).entries ≡ 0 + length book = counted book nothing_yet in
    omega (arith, all)

pub one-longer : (book : List Entry) (event : Entry) → length (book ++ event ∷ []) ≡ length book + 1
one-longer book event = omega (arith, length-append book (event ∷ []))

-- ---- a statement that runs is seen from the front of the book

pub front-stays : (book more : List Entry) (asking : Asking) (place : ℕ) (said : Stmt) (given : List (ℕ × ℕ)) → place < length book
    → running asking (meant (take place book) said) (snapshot_at book place) given
    ≡ running asking (meant (take place (book ++ more)) said) (snapshot_at (book ++ more) place) given
front-stays book more asking place said given early =
    ap (λ (front : List Entry). running asking (meant front said) (record { place = place; tables = (state_of front).tables; opened = length (state_of front).transactions }) given)
    (sym (take-append-le place book more (omega (arith, early))))

-- ---- its transaction

pub opened-there : (s : State) (session : List ℕ) (number : ℕ) (text : List ℕ)
    → numbered (after s (entry.Opened (record { 0 = length s.transactions + 1 }) session number text)).transactions (length s.transactions + 1)
    ≡ Some (opened session number text)
unfolding acted
opened-there s session number text = numbered-last s.transactions (opened session number text)

module _ (s : State) (txn : ℕ) (t : Transaction) (at : numbered s.transactions txn ≡ Some t) (unended : t.ending ≡ None) where
  pub started-there : numbered (after s (entry.Start (record { 0 = txn }) 0)).transactions txn ≡ Some (started s 0 t)
  unfolding acted
  started-there = open-here (started s 0) s.transactions txn t at unended

  pub given-there : (table : TableId) (write : WriteId)
      → numbered (after s (entry.Given (record { 0 = txn }) table write)).transactions txn ≡ Some (given_id table.0 write.0 t)
  unfolding acted
  given-there table write = open-here (given_id table.0 write.0) s.transactions txn t at unended

  pub committed-there : (wrote : List Touch)
      → numbered (after s (entry.Commit (record { 0 = txn }) wrote)).transactions txn ≡ Some (committed s.entries wrote t)
  unfolding acted
  committed-there wrote = open-here (committed s.entries wrote) s.transactions txn t at unended

  pub created-there : (table : TableId)
      → numbered (after s (entry.Create (record { 0 = txn }) table)).transactions txn ≡ Some (ended (Made s.entries table.0) t)
  unfolding acted
  created-there table = open-here (ended (Made s.entries table.0)) s.transactions txn t at unended

  pub dropped-there : (table : TableId)
      → numbered (after s (entry.Drop (record { 0 = txn }) table)).transactions txn ≡ Some (ended (Dropped s.entries table.0) t)
  unfolding acted
  dropped-there table = open-here (ended (Dropped s.entries table.0)) s.transactions txn t at unended

  pub aborted-there : (why : Cause)
      → numbered (after s (entry.Abort (record { 0 = txn }) why)).transactions txn ≡ Some (ended (Aborted s.entries why) t)
  unfolding acted
  aborted-there why = open-here (ended (Aborted s.entries why)) s.transactions txn t at unended

-- the one of a number behind one entry
pub numbered-behind : (book : List Entry) (event : Entry) (txn : ℕ) (o : Option Transaction)
    → numbered (after (state_of book) event).transactions txn ≡ o → numbered (state_of (book ++ event ∷ [])).transactions txn ≡ o
numbered-behind book event txn o e = ap (λ (s : State). numbered s.transactions txn) (one-behind book event) ∙ e
