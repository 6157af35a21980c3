-- An entry adds at most one transaction that is open, and one that ends an open one takes it away: so places that are there stay.
use Rattle.std.proofs.Common.{◌≡◌, ℕ, zero, suc, ◌+◌, ◌<◌, ◌≤◌, Bool, true, false, is_none, Option, Some, None, List, [], ◌∷◌, ◌++◌, length, map, refl, sym, subst, ap, ◌∙◌, arith}
use Rattle.std.specs.Prelude.{◌*◌, not, sum_by}
use Rattle.std.specs.Option.{option_map}
use Rattle.std.specs.List.{slice_get}
use Rattle.std.proofs.lemmas.List.Sums.{sum_by-append, sum_by-cons}
use Rattle.hv_book.specs.hv_history.specs.declared.entry.Entry.{Entry}
use Rattle.hv_book.specs.hv_history.specs.declared.entry.Entry.TheVariants as entry
use Rattle.hv_book.specs.hv_history.specs.declared.state.Ending.{Ending}
use Rattle.hv_book.specs.hv_history.specs.declared.state.Ending.TheVariants.{Aborted, Made, Dropped}
use Rattle.hv_book.specs.hv_history.specs.declared.state.Transaction.{Transaction}
use Rattle.hv_book.specs.hv_history.specs.State.{State, changed, changed_at, unless_ended, while_open, opened, started, given_id, committed, ended, acted, after, state_of}
use Rattle.hv_book.specs.hv_history.specs.Legal.{is_open, one_if, open_one}
use Rattle.hv_book.specs.Notes.{is_open_note, note_open}
use Rattle.hv_book.specs.Briefs.{brief, end_of, open_from}
use Rattle.hv_book.proofs.BookLaws.{state_of-snoc}
use Rattle.hv_book.proofs.LoadLaws.{open-count}
use Rattle.hv_trail.specs.Spare.{open_count, is_open_at, ends_one, ends_open, HavePlaces, HasPlace}

one-above : (m n : ℕ) → m ≤ n → m ≤ n + 1
one-above m n most = omega (arith, most)

none-most : 0 ≤ 0
none-most = omega arith

one-most : 1 ≤ 1
one-most = omega arith

at-most-one : (b : Bool) → one_if b ≤ 1
at-most-one true = one-most
at-most-one false = one-above 0 0 none-most

-- ---- one that is changed while it is open is open at most as it was

module _ (f : Transaction → Transaction) where
  open-most : (x : Transaction) → open_one (while_open f x) ≤ open_one x
  open-most x = by x.ending refl
    where
      by : (o : Option Ending) → x.ending ≡ o → one_if (is_none (unless_ended o x (f x)).ending) ≤ one_if (is_none o)
      by None is = at-most-one (is_none (f x).ending)
      by (Some e) is = subst (λ (o : Option Ending). one_if (is_none o) ≤ 0) (sym is) none-most

  open-most_at : (xs : List Transaction) (n : ℕ) → sum_by open_one (changed_at (while_open f) xs n) ≤ sum_by open_one xs
  open-most_at [] n = omega arith
  open-most_at (x ∷ xs) zero =
      omega (arith, sum_by-cons open_one (while_open f x) xs, sum_by-cons open_one x xs, open-most x)
  open-most_at (x ∷ xs) (suc n) =
      omega (arith, sum_by-cons open_one x (changed_at (while_open f) xs n), sum_by-cons open_one x xs, open-most_at xs n)

  most-open : (xs : List Transaction) (n : ℕ) → sum_by open_one (changed (while_open f) xs n) ≤ sum_by open_one xs + 1
  most-open xs zero = omega arith
  most-open xs (suc n) = one-above (sum_by open_one (changed_at (while_open f) xs n)) (sum_by open_one xs) (open-most_at xs n)

-- ---- one that is open and ends

module _ (f : Transaction → Transaction) (ends : (t : Transaction) → is_open (f t) ≡ false) where
  now-ended : (x : Transaction) → note_open (brief x) ≡ true → open_one (while_open f x) ≡ 0
  now-ended x open_ = by x.ending open_
    where
      by : (o : Option Ending) → is_none (option_map end_of o) ≡ true → open_one (unless_ended o x (f x)) ≡ 0
      by None h = ap one_if (ends x)
      by (Some e) h = cc

  was-open : (x : Transaction) → note_open (brief x) ≡ true → open_one x ≡ 1
  was-open x open_ = by x.ending open_
    where
      by : (o : Option Ending) → is_none (option_map end_of o) ≡ true → one_if (is_none o) ≡ 1
      by None h = refl
      by (Some e) h = cc

  open-fewer_at : (xs : List Transaction) (n : ℕ) → is_open_note (slice_get (map brief xs) n) ≡ true
      → sum_by open_one (changed_at (while_open f) xs n) + 1 ≡ sum_by open_one xs
  open-fewer_at [] n open_ = cc
  open-fewer_at (x ∷ xs) zero open_ =
      omega (arith, sum_by-cons open_one (while_open f x) xs, sum_by-cons open_one x xs, now-ended x open_, was-open x open_)
  open-fewer_at (x ∷ xs) (suc n) open_ =
      omega (arith, sum_by-cons open_one x (changed_at (while_open f) xs n), sum_by-cons open_one x xs, open-fewer_at xs n open_)

  open-fewer : (xs : List Transaction) (n : ℕ) → is_open_at xs n ≡ true → sum_by open_one (changed (while_open f) xs n) + 1 ≡ sum_by open_one xs
  open-fewer xs zero open_ = cc
  open-fewer xs (suc n) open_ = open-fewer_at xs n open_

-- ---- behind an entry

same-above : (n : ℕ) → n ≤ n + 1
same-above n = omega arith

one-more : (s : State) (event : Entry) → sum_by open_one (after s event).transactions ≤ sum_by open_one s.transactions + 1
unfolding acted
one-more s (entry.Boot run) = same-above (sum_by open_one s.transactions)
one-more s (entry.Opened txn session number text) =
    let t : Transaction = opened session number text in
    let all : sum_by open_one (s.transactions ++ t ∷ []) ≡ sum_by open_one s.transactions + sum_by open_one (t ∷ []) = sum_by-append open_one s.transactions (t ∷ []) in
    let last : sum_by open_one (t ∷ []) ≡ 1 + 0 = sum_by-cons open_one t [] in
    let most : sum_by open_one (s.transactions ++ t ∷ []) ≤ sum_by open_one s.transactions + 1 = omega (arith, all, last) in
    most
one-more s (entry.Start txn statement) = most-open (started s statement) s.transactions txn.0
one-more s (entry.Given txn table write) = most-open (given_id table.0 write.0) s.transactions txn.0
one-more s (entry.Commit txn wrote) = most-open (committed s.entries wrote) s.transactions txn.0
one-more s (entry.Abort txn cause) = most-open (ended (Aborted s.entries cause)) s.transactions txn.0
one-more s (entry.Create txn table) = most-open (ended (Made s.entries table.0)) s.transactions txn.0
one-more s (entry.Drop txn table) = most-open (ended (Dropped s.entries table.0)) s.transactions txn.0
one-more s (entry.Asked job table partition kind by_) = same-above (sum_by open_one s.transactions)
one-more s (entry.Picked job watermark) = same-above (sum_by open_one s.transactions)
one-more s (entry.Published job low high mark) = same-above (sum_by open_one s.transactions)
one-more s (entry.Empty job) = same-above (sum_by open_one s.transactions)
one-more s (entry.Cleaned job) = same-above (sum_by open_one s.transactions)
one-more s (entry.Failed job cause) = same-above (sum_by open_one s.transactions)
one-more s (entry.Forgot table write) = same-above (sum_by open_one s.transactions)
one-more s (entry.Next txn statement number text) = same-above (sum_by open_one s.transactions)
one-more s (entry.Did txn statement wrote) = same-above (sum_by open_one s.transactions)
one-more s (entry.Alter txn table) = same-above (sum_by open_one s.transactions)

one-fewer : (s : State) (event : Entry) → ends_one s.transactions event ≡ true → sum_by open_one (after s event).transactions + 1 ≡ sum_by open_one s.transactions
unfolding acted
one-fewer s (entry.Boot run) open_ = cc
one-fewer s (entry.Opened txn session number text) open_ = cc
one-fewer s (entry.Start txn statement) open_ = cc
one-fewer s (entry.Given txn table write) open_ = cc
one-fewer s (entry.Commit txn wrote) open_ = open-fewer (committed s.entries wrote) (λ t. refl) s.transactions txn.0 open_
one-fewer s (entry.Abort txn cause) open_ = open-fewer (ended (Aborted s.entries cause)) (λ t. refl) s.transactions txn.0 open_
one-fewer s (entry.Create txn table) open_ = open-fewer (ended (Made s.entries table.0)) (λ t. refl) s.transactions txn.0 open_
one-fewer s (entry.Drop txn table) open_ = open-fewer (ended (Dropped s.entries table.0)) (λ t. refl) s.transactions txn.0 open_
one-fewer s (entry.Asked job table partition kind by_) open_ = cc
one-fewer s (entry.Picked job watermark) open_ = cc
one-fewer s (entry.Published job low high mark) open_ = cc
one-fewer s (entry.Empty job) open_ = cc
one-fewer s (entry.Cleaned job) open_ = cc
one-fewer s (entry.Failed job cause) open_ = cc
one-fewer s (entry.Forgot table write) open_ = cc
one-fewer s (entry.Next txn statement number text) open_ = cc
one-fewer s (entry.Did txn statement wrote) open_ = cc
one-fewer s (entry.Alter txn table) open_ = cc

behind : (book : List Entry) (event : Entry) → open_count (book ++ event ∷ []) ≡ sum_by open_one (after (state_of book) event).transactions
behind book event = ap (λ (s : State). sum_by open_one s.transactions) (state_of-snoc book event)

-- ---- an entry that has its place leaves one for each that is open behind it

pub place-taken : (book : List Entry) (event : Entry) (spare next : ℕ) → open_count book ≤ spare → HasPlace book spare event → spare ≤ next + 1
    → open_count (book ++ event ∷ []) ≤ next
place-taken book event spare next enough place taken =
    subst (λ n. n ≤ next) (sym (behind book event)) (by (ends_open book event) refl)
  where
    by : (b : Bool) → ends_open book event ≡ b → sum_by open_one (after (state_of book) event).transactions ≤ next
    by true is = omega (arith, one-fewer (state_of book) event is, enough, taken)
    by false is = omega (arith, one-more (state_of book) event, place (ap not is), taken)

pub place-there : (book : List Entry) (event : Entry) (spare : ℕ) → open_count book ≤ spare → HasPlace book spare event → 0 < spare
place-there book event spare enough place = by (ends_open book event) refl
  where
    by : (b : Bool) → ends_open book event ≡ b → 0 < spare
    by true is = omega (arith, one-fewer (state_of book) event is, enough)
    by false is = omega (arith, place (ap not is))

-- two entries that have their places, one behind the other
pub first-place : (book : List Entry) (first : Entry) (spare : ℕ) → HavePlaces book spare first 1 → HasPlace book spare first
first-place book first spare places = λ needs. omega (arith, places refl)

pub second-place : (book : List Entry) (first second : Entry) (spare next : ℕ) → HavePlaces book spare first 1 → spare ≤ next + 1
    → HasPlace (book ++ first ∷ []) next second
second-place book first second spare next places taken = λ needs.
    subst (λ n. n + 2 * (1 + 0) ≤ next) (sym (behind book first)) (omega (arith, one-more (state_of book) first, places refl, taken))

-- those that are open are as many as the book names
pub open-named : (book : List Entry) (numbers : List ℕ) → numbers ≡ open_from 1 (map brief (state_of book).transactions)
    → length numbers ≡ open_count book
open-named book numbers is = ap length is ∙ open-count 1 (state_of book).transactions

-- room that is made takes no place away
pub places_stay : (book now : List Entry) (spare next : ℕ) → now ≡ book → open_count book ≤ spare → spare ≤ next → open_count now ≤ next
places_stay book now spare next same enough more = omega (arith, ap open_count same, enough, more)
