-- What is asked of the book before an entry is noted.
use Rattle.std.proofs.Common.{refl, ◌≡◌, ℕ, ◌+◌, ◌≤◌, Bool, true, false, Option, Some, None, List, [], ◌∷◌, ◌++◌, length, map, sym, ap, ◌∙◌, subst, arith, append-nil}
use Rattle.std.specs.Prelude.{◌||◌, if◌then◌else◌, IsTrue, IsSomeAnd, sum_by}
use Rattle.std.specs.List.{list_any}
use Rattle.std.specs.Option.{option_map}
use Rattle.std.proofs.lemmas.List.Sums.{sum_by-append, sum_by-cons}
use Rattle.hv_base.specs.declared.ids.Limits.{Limits}
use Rattle.hv_ast.specs.declared.statement.Stmt.{Stmt}
use Rattle.hv_locks.specs.declared.table.Lock.{Lock}
use Rattle.hv_locks.specs.declared.table.LockState.TheVariants.{Granted}
use Rattle.hv_built.specs.Running.{Runs}
use Rattle.hv_grammar.specs.Texts.{tree_of}
use Rattle.hv_logic.specs.Names.{names_in}
use Rattle.hv_history.specs.declared.entry.Entry.{Entry}
use Rattle.hv_history.specs.declared.entry.Entry.TheVariants.{Opened}
use Rattle.hv_history.specs.declared.state.Table.{Table}
use Rattle.hv_history.specs.declared.state.Transaction.{Transaction}
use Rattle.hv_history.specs.State.{State, numbered, opened, acted, after, state_of}
use Rattle.hv_history.specs.Legal.{is_open, open_one, working_one, load, StartFits, holds_against, first_holder, locks_of, locks_of_tree}
use Rattle.hv_book.specs.declared.notes.TableNote.{TableNote}
use Rattle.hv_book.specs.Briefs.{brief_table}
use Rattle.hv_book.specs.Notes.{notes_of}
use Rattle.hv_book.proofs.BookLaws.{follows, high-below}
use Rattle.hv_stands.specs.Running.{Asking, next_number, opening, IsWaiting}
use Rattle.hv_stands.proofs.Numbers.{numbered-map}
use Rattle.hv_stands.proofs.Soundness.{all-numbered}
use Rattle.hv_stands.proofs.Behind.{one-behind, opened-there}
use Rattle.hv_house.specs.House.{BeginFitsWithin}
use Rattle.hv_house.specs.Asking.{holder_against, lock_state}
use Rattle.hv_house.specs.Calls.{IfOpen, CanStart}

-- ---- locks

held-by : (b : Bool) (number : ℕ) (rest : Option ℕ) (more : Bool) → (rest ≡ None → more ≡ false) → (if b then Some number else rest) ≡ None → b || more ≡ false
held-by true number rest more f none = cc
held-by false number rest more f none = f none

none-held : (locks : List Lock) (number : ℕ) (ts : List Transaction) → first_holder locks number ts ≡ None → list_any (holds_against locks) ts ≡ false
none-held locks number [] none = refl
none-held locks number (t ∷ ts) none =
    held-by (holds_against locks t) number (first_holder locks (number + 1) ts) (list_any (holds_against locks) ts) (none-held locks (number + 1) ts) none

-- one that hasn't started holds none
none-held-more : (locks : List Lock) (ts : List Transaction) (session : List ℕ) (number : ℕ) (text : List ℕ) → list_any (holds_against locks) ts ≡ false
    → list_any (holds_against locks) (ts ++ opened session number text ∷ []) ≡ false
none-held-more locks [] session number text none = refl
none-held-more locks (t ∷ ts) session number text none = by (holds_against locks t) none (none-held-more locks ts session number text)
  where
    by : (b : Bool) → b || list_any (holds_against locks) ts ≡ false
        → (list_any (holds_against locks) ts ≡ false → list_any (holds_against locks) (ts ++ opened session number text ∷ []) ≡ false)
        → b || list_any (holds_against locks) (ts ++ opened session number text ∷ []) ≡ false
    by true e f = cc
    by false e f = f e

-- ---- the state behind an Opened

module _ (s : State) (session : List ℕ) (number : ℕ) (text : List ℕ) where
  abbrev opened-entry : Entry
  opened-entry = Opened (record { 0 = length s.transactions + 1 }) session number text

  behind-opened : (after s opened-entry).transactions ≡ s.transactions ++ opened session number text ∷ []
  unfolding acted
  behind-opened = refl

  jobs-same : (after s opened-entry).jobs ≡ s.jobs
  unfolding acted
  jobs-same = refl

  load-opened : load (after s opened-entry) ≡ load s + 2
  load-opened =
      omega (
        arith,
        ap (sum_by open_one) behind-opened,
        sum_by-append open_one s.transactions (opened session number text ∷ []),
        sum_by-cons open_one (opened session number text) [],
        ap (sum_by working_one) jobs-same,
      )

  started-fits : (limits : Limits) (tree : Stmt) → tree_of text ≡ Some tree → load s + 3 ≤ limits.entries → first_holder (names_in tree) 1 s.transactions ≡ None
      → StartFits limits (after s opened-entry) 0 (opened session number text)
  started-fits limits tree is room free = record {
    waiting = record { unended = refl; unstarted = refl };
    first = refl;
    unlocked = subst (λ ts. list_any (holds_against (locks_of (opened session number text))) ts ≡ false) (sym behind-opened)
        (none-held-more (locks_of (opened session number text)) s.transactions session number text
        (subst (λ locks. list_any (holds_against locks) s.transactions ≡ false) (sym (append-nil (locks_of_tree (tree_of text)) ∙ ap locks_of_tree is))
        (none-held (names_in tree) 1 s.transactions free)));
    room = omega (arith, load-opened, room);
  }

-- behind an Opened the load is two more, and the same transaction is the lowest that holds a lock against a statement
pub load-behind-opened : (book : List Entry) (asking : Asking) → load (state_of (book ++ opening book asking ∷ [])) ≡ load (state_of book) + 2
load-behind-opened book asking =
    ap load (one-behind book (opening book asking)) ∙ load-opened (state_of book) asking.session asking.number asking.text

holder-more : (locks : List Lock) (number : ℕ) (ts : List Transaction) (session : List ℕ) (n : ℕ) (text : List ℕ)
    → first_holder locks number (ts ++ opened session n text ∷ []) ≡ first_holder locks number ts
holder-more locks number [] session n text = refl
holder-more locks number (t ∷ ts) session n text =
    ap (λ (rest : Option ℕ). if holds_against locks t then Some number else rest) (holder-more locks (number + 1) ts session n text)

pub holder-behind-opened : (book : List Entry) (asking : Asking) (tree : Stmt) → holder_against (book ++ opening book asking ∷ []) tree ≡ holder_against book tree
holder-behind-opened book asking tree =
    ap (λ (s : State). first_holder (names_in tree) 1 s.transactions) (one-behind book (opening book asking))
    ∙ ap (first_holder (names_in tree) 1) (behind-opened (state_of book) asking.session asking.number asking.text)
    ∙ holder-more (names_in tree) 1 (state_of book).transactions asking.session asking.number asking.text

-- where there is room for three, and no lock stands against it, a statement may be opened and started at once
pub begin-fits : (limits : Limits) (book : List Entry) (tree : Stmt) → load (state_of book) + 3 ≤ limits.entries → first_holder (names_in tree) 1 (state_of book).transactions ≡ None
    → (asking : Asking) → Runs asking.text tree → BeginFitsWithin limits book asking
begin-fits limits book tree room free asking runs =
    let s : State = state_of book in (
      record { next = refl; statement = (tree, runs); room = omega (arith, room) },
      subst (λ (now : State). IsSomeAnd (numbered now.transactions (next_number book)) (StartFits limits now 0)) (sym (one-behind book (opening book asking)))
          (subst (λ (o : Option Transaction). IsSomeAnd o (StartFits limits (after s (opening book asking)) 0)) (sym (opened-there s asking.session asking.number asking.text))
          (started-fits s asking.session asking.number asking.text limits tree runs.read room free)),
    )

-- ---- an Opened and a Start noted one by one

pub opened-waits : (book : List Entry) (asking : Asking) (tree : Stmt) → Runs asking.text tree → IsWaiting (book ++ opening book asking ∷ []) asking (next_number book) tree
opened-waits book asking tree runs = record {
  runs = runs;
  here = ap (λ (now : State). numbered now.transactions (next_number book)) (one-behind book (opening book asking))
      ∙ opened-there (state_of book) asking.session asking.number asking.text;
}

pub waits-can-start : (book : List Entry) (asking : Asking) (txn : ℕ) (tree : Stmt) → IsWaiting book asking txn tree → holder_against book tree ≡ None
    → IfOpen (state_of book) txn (CanStart (state_of book))
waits-can-start book asking txn tree waits free =
    let ts : List Transaction = (state_of book).transactions in
    let own : locks_of (opened asking.session asking.number asking.text) ≡ names_in tree =
    append-nil (locks_of_tree (tree_of asking.text)) ∙ ap locks_of_tree waits.runs.read in
    subst (λ (o : Option Transaction). IsSomeAnd o (λ t. IsTrue (is_open t) → CanStart (state_of book) t)) (sym waits.here)
    (λ unended. record {
      waiting = record { unended = refl; unstarted = refl };
      unlocked = subst (λ locks. list_any (holds_against locks) ts ≡ false) (sym own) (none-held (names_in tree) 1 ts free);
    })

-- ---- what a call answers

pub free-of : (o : Option ℕ) → lock_state o ≡ Granted → o ≡ None
free-of None granted = refl
free-of (Some txn) granted = cc

next-in : (o : Option Table) (note : TableNote) → Some note ≡ option_map brief_table o → Some (note.high + 1) ≡ option_map (λ (t : Table). length t.owners + 1) o
next-in None note e = cc
next-in (Some table) note e =
    let is : note ≡ brief_table table = cc in
    ap (λ (n : TableNote). Some (n.high + 1)) is

none-in : (o : Option Table) → None ≡ option_map brief_table o → None ≡ option_map (λ (t : Table). length t.owners + 1) o
none-in None e = refl
none-in (Some table) e = cc

pub next-some : (tables : List Table) (number : ℕ) (note : TableNote) → Some note ≡ numbered (map brief_table tables) number
    → Some (note.high + 1) ≡ option_map (λ (t : Table). length t.owners + 1) (numbered tables number)
next-some tables number note e = next-in (numbered tables number) note (e ∙ numbered-map brief_table tables number)

pub next-none : (tables : List Table) (number : ℕ) → None ≡ numbered (map brief_table tables) number
    → None ≡ option_map (λ (t : Table). length t.owners + 1) (numbered tables number)
next-none tables number e = none-in (numbered tables number) (e ∙ numbered-map brief_table tables number)

-- no table has more ids than there are entries
pub next-few : (book : List Entry) (number : ℕ) (note : TableNote) → Some note ≡ numbered (map brief_table (state_of book).tables) number → note.high ≤ length book
next-few book number note e =
    all-numbered (λ (n : TableNote). n.high ≤ length book) (notes_of book).tables number note
    (ap (λ notes. numbered notes number) (follows book).tables ∙ sym e) (high-below book)
