-- A transaction's places rise, and its own entries make its record.
use Rattle.std.proofs.Common.{◌≡◌, ℕ, zero, suc, ◌+◌, ◌≤◌, Bool, true, false, true≢false, Option, Some, None, List, [], ◌∷◌, ◌++◌, length, fold, refl, sym, ap, ◌∙◌, subst, arith}
use Rattle.std.specs.Prelude.{if◌then◌else◌, ◌==◌, slice_get}
use Rattle.std.specs.Option.{option_map, option_to_list}
use Rattle.std.proofs.lemmas.Bool.{eqb-true, eq-eqb}
use Rattle.hv_ast.specs.declared.statement.Show.{Show}
use Rattle.hv_ast.specs.declared.statement.Show.TheVariants as show
use Rattle.hv_ast.specs.declared.statement.Stmt.{Stmt}
use Rattle.hv_grammar.specs.Texts.{tree_of}
use Rattle.hv_book.specs.hv_history.specs.hv_meaning.specs.Meaning.{meaning_of}
use Rattle.hv_book.specs.hv_history.specs.declared.entry.Entry.{Entry}
use Rattle.hv_book.specs.hv_history.specs.declared.entry.Entry.TheVariants as entry
use Rattle.hv_book.specs.hv_history.specs.Lasting.{IsFront}
use Rattle.hv_book.specs.hv_history.proofs.LastingLaws.{others-stay}
use Rattle.hv_book.specs.hv_history.specs.declared.state.Transaction.{Transaction}
use Rattle.hv_book.specs.hv_history.specs.declared.state.Ending.TheVariants.{Aborted, Made, Dropped}
use Rattle.hv_book.specs.hv_history.specs.declared.shown.Shown.{Shown}
use Rattle.hv_book.specs.hv_history.specs.Shown.{show_listed, show_of, listed_by, filled}
use Rattle.hv_book.specs.hv_history.specs.State.{State, nothing_yet, numbered, changed, changed_at, seen_tables, means, meaning_in, meant_in, first_of, first_known, started, given_id, committed, ended, opened, while_open, acted, after}
use Rattle.hv_book.proofs.TableLaws.{here_at as changed_at-here}
use Rattle.hv_trail.specs.declared.trail.TrailItem.{TrailItem}
use Rattle.hv_trail.specs.declared.trail.TrailItem.TheVariants.{Noted, Marked}
use Rattle.hv_trail.specs.Trail.{book_of, state_at}
use Rattle.hv_trail.specs.Own.{RiseWithin, items_at, acts_on, is_number, at_if, marks_txn, places_from, own_places, Moment, moment_of, moments_from, own_moments, state_there, record_after, record_from, AllSpare}
use Rattle.hv_trail.proofs.LastingLaws.{state-append}

-- ---- places rise

from-lower : (low : ℕ) (places : List ℕ) (high : ℕ) → RiseWithin (low + 1) places high → RiseWithin low places high
from-lower low [] high rise = omega (arith, rise)
from-lower low (place ∷ places) high rise = (omega (arith, rise.0), rise.1)

rise-if : (is : Bool) (at : ℕ) (places : List ℕ) (high : ℕ) → RiseWithin (at + 1) places high → RiseWithin at (at_if is at places) high
rise-if true at places high rise = (omega arith, rise)
rise-if false at places high rise = from-lower at places high rise

rises : (txn at : ℕ) (state : State) (items : List TrailItem) → RiseWithin at (places_from txn at state items) (at + length items)
rises txn at state [] = omega arith
rises txn at state (Noted event ∷ items) =
    rise-if (is_number txn (acts_on state event)) at (places_from txn (at + 1) (after state event) items) (at + length (Noted event ∷ items))
    (subst (RiseWithin (at + 1) (places_from txn (at + 1) (after state event) items)) (omega arith) (rises txn (at + 1) (after state event) items))
rises txn at state (Marked mark ∷ items) =
    rise-if (is_number txn (marks_txn mark)) at (places_from txn (at + 1) state items) (at + length (Marked mark ∷ items))
    (subst (RiseWithin (at + 1) (places_from txn (at + 1) state items)) (omega arith) (rises txn (at + 1) state items))

pub own-rise : (txn : ℕ) (trail : List TrailItem) → RiseWithin 0 (own_places txn trail) (length trail)
own-rise txn trail = subst (RiseWithin 0 (own_places txn trail)) (omega arith) (rises txn 0 nothing_yet trail)

-- ---- places and their items stay

if-more : {A : Type 0} (is : Bool) (x : A) (xs ys : List A) → at_if is x (xs ++ ys) ≡ at_if is x xs ++ ys
if-more true x xs ys = refl
if-more false x xs ys = refl

places-append : (txn at : ℕ) (state : State) (xs ys : List TrailItem)
    → places_from txn at state (xs ++ ys) ≡ places_from txn at state xs ++ places_from txn (at + length xs) (fold after state (book_of xs)) ys
places-append txn at state [] ys = ap (λ n. places_from txn n state ys) (omega arith)
places-append txn at state (Noted event ∷ xs) ys =
    let is = is_number txn (acts_on state event)
    in let next : at + 1 + length xs ≡ at + length (Noted event ∷ xs) = omega arith
    in ap (at_if is at) (places-append txn (at + 1) (after state event) xs ys)
    ∙ if-more is at (places_from txn (at + 1) (after state event) xs) (places_from txn (at + 1 + length xs) (fold after (after state event) (book_of xs)) ys)
    ∙ ap (λ n. at_if is at (places_from txn (at + 1) (after state event) xs) ++ places_from txn n (fold after (after state event) (book_of xs)) ys) next
places-append txn at state (Marked mark ∷ xs) ys =
    let is = is_number txn (marks_txn mark)
    in let next : at + 1 + length xs ≡ at + length (Marked mark ∷ xs) = omega arith
    in ap (at_if is at) (places-append txn (at + 1) state xs ys)
    ∙ if-more is at (places_from txn (at + 1) state xs) (places_from txn (at + 1 + length xs) (fold after state (book_of xs)) ys)
    ∙ ap (λ n. at_if is at (places_from txn (at + 1) state xs) ++ places_from txn n (fold after state (book_of xs)) ys) next

pub own-front : (txn : ℕ) (trail more : List TrailItem) → IsFront (own_places txn trail) (own_places txn (trail ++ more))
own-front txn trail more = record {
  more = places_from txn (0 + length trail) (state_at trail) more;
  is = places-append txn 0 nothing_yet trail more;
}

get-front : {A : Type 0} (xs ys : List A) (n : ℕ) → n + 1 ≤ length xs → slice_get (xs ++ ys) n ≡ slice_get xs n
get-front [] ys n below = absurd (omega (arith, below))
get-front (x ∷ xs) ys zero below = refl
get-front (x ∷ xs) ys (suc n) below = get-front xs ys n (omega (arith, below))

pub low-high : (low : ℕ) (places : List ℕ) (high : ℕ) → RiseWithin low places high → low ≤ high
low-high low [] high rise = rise
low-high low (place ∷ places) high rise = omega (arith, rise.0, low-high (place + 1) places high rise.1)

pub items-front : (low : ℕ) (places : List ℕ) (trail more : List TrailItem) → RiseWithin low places (length trail)
    → items_at places (trail ++ more) ≡ items_at places trail
items-front low [] trail more rise = refl
items-front low (place ∷ places) trail more rise =
    ap (λ o. option_to_list o ++ items_at places (trail ++ more)) (get-front trail more place (low-high (place + 1) places (length trail) rise.1))
    ∙ ap (λ items. option_to_list (slice_get trail place) ++ items) (items-front (place + 1) places trail more rise.1)

-- ---- what an entry does to the one of a number

-- a test of numbers, where it holds and where it doesn't
by-number : {A : Type 0} (n m : ℕ) (is not : A) (x : A) → (n ≡ m → x ≡ is) → ((n ≡ m → ⊥) → x ≡ not) → x ≡ (if n == m then is else not)
by-number {A = A} n m is not x same apart = decide (n == m) refl
  where
    other : (n == m) ≡ false → n ≡ m → ⊥
    other differ e = true≢false (sym (eq-eqb n m e) ∙ differ)

    decide : (b : Bool) → (n == m) ≡ b → x ≡ (if n == m then is else not)
    decide true e = same (eqb-true n m e) ∙ ap (λ (b : Bool). if b then is else not) (sym e)
    decide false e = apart (other e) ∙ ap (λ (b : Bool). if b then is else not) (sym e)

changed-here : {A : Type 0} (f : A → A) (xs : List A) (n : ℕ) → numbered (changed f xs n) n ≡ option_map f (numbered xs n)
changed-here f xs zero = refl
changed-here f xs (suc n) = changed_at-here f xs n

changed_at-there : {A : Type 0} (f : A → A) (xs : List A) (k n : ℕ) → (n ≡ k → ⊥) → slice_get (changed_at f xs k) n ≡ slice_get xs n
changed_at-there f [] k n other = refl
changed_at-there f (x ∷ xs) zero zero other = absurd (other refl)
changed_at-there f (x ∷ xs) zero (suc n) other = refl
changed_at-there f (x ∷ xs) (suc k) zero other = refl
changed_at-there f (x ∷ xs) (suc k) (suc n) other = changed_at-there f xs k n (λ e. other (ap suc e))

changed-there : {A : Type 0} (f : A → A) (xs : List A) (k n : ℕ) → (n ≡ k → ⊥) → numbered (changed f xs k) n ≡ numbered xs n
changed-there f xs zero n other = refl
changed-there f xs (suc k) zero other = refl
changed-there f xs (suc k) (suc n) other = changed_at-there f xs k n (λ e. other (ap suc e))

changed-as : (f : Transaction → Transaction) (xs : List Transaction) (k n : ℕ)
    → numbered (changed f xs k) n ≡ (if n == k then option_map f (numbered xs n) else numbered xs n)
changed-as f xs k n =
    by-number n k (option_map f (numbered xs n)) (numbered xs n) (numbered (changed f xs k) n)
    (λ same. subst (λ j. numbered (changed f xs j) n ≡ option_map f (numbered xs n)) same (changed-here f xs n))
    (changed-there f xs k n)

added_at-here : {A : Type 0} (xs : List A) (x : A) (n : ℕ) → n ≡ length xs → slice_get (xs ++ x ∷ []) n ≡ Some x
added_at-here [] x zero e = refl
added_at-here [] x (suc n) e = absurd (omega (arith, e))
added_at-here (y ∷ xs) x zero e = absurd (omega (arith, e))
added_at-here (y ∷ xs) x (suc n) e = added_at-here xs x n (omega (arith, e))

added_at-there : {A : Type 0} (xs : List A) (x : A) (n : ℕ) → (n ≡ length xs → ⊥) → slice_get (xs ++ x ∷ []) n ≡ slice_get xs n
added_at-there [] x zero other = absurd (other refl)
added_at-there [] x (suc n) other = refl
added_at-there (y ∷ xs) x zero other = refl
added_at-there (y ∷ xs) x (suc n) other = added_at-there xs x n (λ e. other (omega (arith, e)))

added-here : (xs : List Transaction) (x : Transaction) (n : ℕ) → n ≡ length xs + 1 → numbered (xs ++ x ∷ []) n ≡ Some x
added-here xs x zero e = absurd (omega (arith, e))
added-here xs x (suc n) e = added_at-here xs x n (omega (arith, e))

added-there : (xs : List Transaction) (x : Transaction) (n : ℕ) → (n ≡ length xs + 1 → ⊥) → numbered (xs ++ x ∷ []) n ≡ numbered xs n
added-there xs x zero other = refl
added-there xs x (suc n) other = added_at-there xs x n (λ e. other (omega (arith, e)))

added-as : (xs : List Transaction) (x : Transaction) (n : ℕ)
    → numbered (xs ++ x ∷ []) n ≡ (if n == (length xs + 1) then Some x else numbered xs n)
added-as xs x n = by-number n (length xs + 1) (Some x) (numbered xs n) (numbered (xs ++ x ∷ []) n) (added-here xs x n) (added-there xs x n)

-- what a SHOW lists depends on the tables, the transactions and the jobs alone
listed-same : (state : State) (event : Entry) (what : Option Show) → listed_by state what ≡ listed_by (state_there (moment_of state event)) what
unfolding show_listed
listed-same state event None = refl
listed-same state event (Some show.Tables) = refl
listed-same state event (Some (show.Partitions name)) = refl
listed-same state event (Some show.Transactions) = refl
listed-same state event (Some show.Locks) = refl
listed-same state event (Some show.Compactions) = refl

-- and so does what a statement comes to
means-same : (state : State) (event : Entry) (tree : Option Stmt) → means state tree ≡ means (state_there (moment_of state event)) tree
means-same state event None = refl
means-same state event (Some tree) =
    ap (λ (shown : Option Shown). filled shown (meaning_of (seen_tables state.tables) tree)) (listed-same state event (show_of tree))

meaning-same : (state : State) (event : Entry) (text : List ℕ) → meaning_in state text ≡ meaning_in (state_there (moment_of state event)) text
unfolding meaning_in
meaning-same state event text = means-same state event (tree_of text)

meant-same : (state : State) (event : Entry) → meant_in state ≡ meant_in (state_there (moment_of state event))
meant-same state event = λ i statement. record statement { meaning = first_known statement.meaning (meaning-same state event statement.text i) }

start-same : (state : State) (event : Entry) (number : ℕ) → started state number ≡ started (state_there (moment_of state event)) number
start-same state event number = λ i t. record t {
  statements = changed_at (meant-same state event i) t.statements number;
  snapshot = first_of t.snapshot (record { place = state.entries; tables = state.tables; opened = length state.transactions });
}

-- an entry makes of the one of its number what its moment says, and leaves the others
pub one-entry : (state : State) (event : Entry) (txn : ℕ)
    → numbered (after state event).transactions txn
    ≡ (if is_number txn (acts_on state event) then record_after (moment_of state event) event (numbered state.transactions txn) else numbered state.transactions txn)
unfolding acted
one-entry state (entry.Opened other session number text) txn = added-as state.transactions (opened session number text) txn
one-entry state (entry.Start other statement) txn =
    changed-as (while_open (started state statement)) state.transactions other.0 txn
    ∙ ap (λ (f : Transaction → Transaction). if txn == other.0 then option_map (while_open f) (numbered state.transactions txn) else numbered state.transactions txn)
    (start-same state (entry.Start other statement) statement)
one-entry state (entry.Given other table write) txn = changed-as (while_open (given_id table.0 write.0)) state.transactions other.0 txn
one-entry state (entry.Commit other wrote) txn = changed-as (while_open (committed state.entries wrote)) state.transactions other.0 txn
one-entry state (entry.Abort other why) txn = changed-as (while_open (ended (Aborted state.entries why))) state.transactions other.0 txn
one-entry state (entry.Create other table) txn = changed-as (while_open (ended (Made state.entries table.0))) state.transactions other.0 txn
one-entry state (entry.Drop other table) txn = changed-as (while_open (ended (Dropped state.entries table.0))) state.transactions other.0 txn
one-entry state (entry.Boot run) txn = refl
one-entry state (entry.Asked job table partition kind by) txn = refl
one-entry state (entry.Picked job watermark) txn = refl
one-entry state (entry.Published job low high mark) txn = refl
one-entry state (entry.Empty job) txn = refl
one-entry state (entry.Cleaned job) txn = refl
one-entry state (entry.Next its_txn statement number text) txn = refl
one-entry state (entry.Did its_txn statement wrote) txn = refl
one-entry state (entry.Alter its_txn table) txn = refl
one-entry state (entry.Failed job why) txn = refl
one-entry state (entry.Forgot table write) txn = refl

record-if : (is : Bool) (moment : Moment) (before : Option Transaction) (moments : List Moment)
    → record_from before (at_if is moment moments) ≡ record_from (if is then record_after moment moment.event before else before) moments
record-if true moment before moments = refl
record-if false moment before moments = refl

record-is : (txn : ℕ) (state : State) (items : List TrailItem)
    → record_from (numbered state.transactions txn) (moments_from txn state items) ≡ numbered (fold after state (book_of items)).transactions txn
record-is txn state [] = refl
record-is txn state (Noted event ∷ items) =
    record-if (is_number txn (acts_on state event)) (moment_of state event) (numbered state.transactions txn) (moments_from txn (after state event) items)
    ∙ ap (λ o. record_from o (moments_from txn (after state event) items)) (sym (one-entry state event txn))
    ∙ record-is txn (after state event) items
record-is txn state (Marked mark ∷ items) = record-is txn state items

no-number : (txn : ℕ) → numbered nothing_yet.transactions txn ≡ None
no-number zero = refl
no-number (suc n) = refl

pub own-record : (txn : ℕ) (trail : List TrailItem) → record_from None (own_moments txn trail) ≡ numbered (state_at trail).transactions txn
own-record txn trail =
    ap (λ o. record_from o (own_moments txn trail)) (sym (no-number txn)) ∙ record-is txn nothing_yet trail

pub same-record : (txn : ℕ) (trail other : List TrailItem) → own_moments txn trail ≡ own_moments txn other
    → numbered (state_at trail).transactions txn ≡ numbered (state_at other).transactions txn
same-record txn trail other e = sym (own-record txn trail) ∙ ap (record_from None) e ∙ own-record txn other

-- ---- others leave it alone

spared : (items : List TrailItem) (state : State) (txn : ℕ) (t : Transaction) → AllSpare txn items → numbered state.transactions txn ≡ Some t
    → numbered (fold after state (book_of items)).transactions txn ≡ Some t
spared [] state txn t spare e = e
spared (Noted event ∷ items) state txn t spare e = spared items (after state event) txn t spare.1 (others-stay state event txn t spare.0 e)
spared (Marked mark ∷ items) state txn t spare e = spared items state txn t spare.1 e

pub others-leave : (trail more : List TrailItem) (txn : ℕ) (t : Transaction) → AllSpare txn more → numbered (state_at trail).transactions txn ≡ Some t
    → numbered (state_at (trail ++ more)).transactions txn ≡ Some t
others-leave trail more txn t spare e =
    ap (λ (s : State). numbered s.transactions txn) (state-append trail more) ∙ spared more (state_at trail) txn t spare e
