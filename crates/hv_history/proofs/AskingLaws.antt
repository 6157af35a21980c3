-- What ABORT TRANSACTIONS has asked for it has asked for, whatever follows: who has ended stays so, and who is opened later is left alone.
use Rattle.std.proofs.Common.{◌≡◌, ℕ, zero, suc, ◌<◌, ◌≤◌, ◌==◌, ◌&&◌, Bool, true, false, not, Option, Some, None, List, [], ◌∷◌, ◌++◌, length, take, drop, refl, sym, ap, ◌∙◌, subst, arith}
use Rattle.std.specs.Prelude.{if◌then◌else◌, IsSomeAnd, nat_lt, is_none, slice_get}
use Rattle.std.specs.List.{AllByRecursion}
use Rattle.std.proofs.lemmas.Bool.{ltb-false}
use Rattle.std.proofs.lemmas.List.{take-append-le, take-append-drop}
use Rattle.std.proofs.lemmas.List.Sums.{fold-append}
use Rattle.hv_base.specs.declared.ids.TxnId.{TxnId}
use Rattle.hv_meaning.specs.hv_typing.specs.hv_logic.specs.hv_ast.specs.declared.statement.Stmt.{Stmt}
use Rattle.hv_meaning.specs.hv_typing.specs.hv_logic.specs.hv_ast.specs.declared.statement.Stmt.TheVariants as stmt
use Rattle.hv_meaning.specs.hv_typing.specs.hv_logic.specs.declared.meaning.Meaning.{Meaning}
use Rattle.hv_meaning.specs.hv_typing.specs.hv_logic.specs.declared.meaning.Meaning.TheVariants.{Plain}
use Rattle.hv_meaning.specs.hv_typing.specs.hv_logic.specs.declared.meaning.Meaning.TheVariants as comes
use Rattle.hv_meaning.proofs.Requests.{aborts-mean}
use Rattle.hv_history.specs.declared.entry.Entry.{Entry}
use Rattle.hv_history.specs.declared.entry.Entry.TheVariants as entry
use Rattle.hv_history.specs.declared.entry.Cause.TheVariants as cause
use Rattle.hv_history.specs.declared.state.Ending.{Ending}
use Rattle.hv_history.specs.declared.state.Ending.TheVariants.{Aborted}
use Rattle.hv_history.specs.declared.state.Transaction.{Transaction}
use Rattle.hv_history.specs.Asking.{numbers_in, opened_before, is_there_open, is_asked, first_asked}
use Rattle.hv_history.specs.Standing.{is_open}
use Rattle.hv_history.specs.JobsTrue.{Ask, ask_of, stands_for}
use Rattle.hv_history.specs.Legal.{HasAsked}
use Rattle.hv_history.specs.Shown.{filled}
use Rattle.hv_history.specs.State.{State, nothing_yet, numbered, seen_tables, means, opening_tree, changed, changed_at, while_open, unless_ended, ended, acted, after, state_of}
use Rattle.hv_history.specs.Lasting.{GoesOn, Later}
use Rattle.hv_history.proofs.LastingLaws.{goes-on-all}

-- ---- numbers that are there

there-is : (xs : List Transaction) (n : ℕ) → n < length xs → (t : Transaction) × (slice_get xs n ≡ Some t)
there-is [] n h = absurd (omega (arith, h))
there-is (x ∷ xs) zero h = (x, refl)
there-is (x ∷ xs) (suc n) h = there-is xs n (omega (arith, h))

some-within : (xs : List Transaction) (n : ℕ) (P : Transaction → Type 0) → IsSomeAnd (slice_get xs n) P → n < length xs
some-within [] n P h = absurd h
some-within (x ∷ xs) zero P h = omega arith
some-within (x ∷ xs) (suc n) P h = let rest = some-within xs n P h in omega (arith, rest)

-- no transaction goes away
pub length-grows : (before now : State) → GoesOn before now → length before.transactions ≤ length now.transactions
length-grows before now goes = by (length before.transactions) refl
  where
    by : (n : ℕ) → length before.transactions ≡ n → n ≤ length now.transactions
    by zero is = omega arith
    by (suc n) is =
        let at = there-is before.transactions n (omega (arith, is)) in
        let within = some-within now.transactions n (Later at.0) (goes.transactions (suc n) at.0 at.1) in
        omega (arith, within)

-- ---- what is no more to be asked for stays so

ended-of : (t : Transaction) → is_open t ≡ false → (e : Ending) × (t.ending ≡ Some e)
ended-of t h = by t.ending refl
  where
    by : (o : Option Ending) → t.ending ≡ o → (e : Ending) × (o ≡ Some e)
    by None is = let never : true ≡ false = sym (ap (λ (o : Option Ending). is_none o) is) ∙ h in cc
    by (Some e) is = (e, refl)

shut-by : (t : Transaction) (e : Ending) (o : Option Transaction) → t.ending ≡ Some e → is_open t ≡ false → IsSomeAnd o (Later t) → is_there_open o ≡ false
shut-by t e None ends shut later = absurd later
shut-by t e (Some u) ends shut later = ap (λ (x : Transaction). is_open x) (later.ending e ends) ∙ shut

module _ (before now : State) (goes : GoesOn before now) where
  shut-stays : (n : ℕ) → n < length before.transactions → is_there_open (slice_get before.transactions n) ≡ false
      → is_there_open (slice_get now.transactions n) ≡ false
  shut-stays n within shut =
      let at = there-is before.transactions n within in
      let closed : is_open at.0 ≡ false = sym (ap is_there_open at.1) ∙ shut in
      let e = ended-of at.0 closed in
      shut-by at.0 e.0 (slice_get now.transactions n) e.1 closed (goes.transactions (suc n) at.0 at.1)

  passed-by : (a b c d : Bool) → (b ≡ true → c ≡ false → d ≡ false) → (a && (b && c)) ≡ false → (a && (b && d)) ≡ false
  passed-by true true c d f h = f refl h
  passed-by true false c d f h = refl
  passed-by false b c d f h = refl

  not-true : (b : Bool) → not b ≡ true → b ≡ false
  not-true true h = cc
  not-true false h = refl

  pub passed-stays : (own opened n : ℕ) → opened ≤ length before.transactions → is_asked before.transactions own opened n ≡ false
      → is_asked now.transactions own opened n ≡ false
  passed-stays own opened zero within h =
      passed-by (not (zero == own)) (not (nat_lt opened zero)) false false (λ below shut. refl) h
  passed-stays own opened (suc n) within h =
      passed-by (not (suc n == own)) (not (nat_lt opened (suc n))) (is_there_open (slice_get before.transactions n)) (is_there_open (slice_get now.transactions n))
      (λ below shut.
      let upto = ltb-false opened (suc n) (not-true (nat_lt opened (suc n)) below) in
      shut-stays n (omega (arith, upto, within)) shut) h

-- ---- one that was asked for has ended

module _ (e : Ending) where
  shut-now : (t : Transaction) → is_open (while_open (ended e) t) ≡ false
  shut-now t = by t.ending refl
    where
      by : (o : Option Ending) → t.ending ≡ o → is_open (unless_ended o t (ended e t)) ≡ false
      by None is = refl
      by (Some x) is = ap (λ (y : Option Ending). is_none y) is

  shut-at : (ts : List Transaction) (k : ℕ) → is_there_open (slice_get (changed_at (while_open (ended e)) ts k) k) ≡ false
  shut-at [] zero = refl
  shut-at [] (suc k) = refl
  shut-at (t ∷ ts) zero = shut-now t
  shut-at (t ∷ ts) (suc k) = shut-at ts k

  shut-here : (ts : List Transaction) (k : ℕ) → is_there_open (numbered (changed (while_open (ended e)) ts k) k) ≡ false
  shut-here ts zero = refl
  shut-here ts (suc k) = shut-at ts k

  and-none : (a b d : Bool) → d ≡ false → (a && (b && d)) ≡ false
  and-none true true d h = h
  and-none true false d h = refl
  and-none false b d h = refl

  pub ended-passed : (ts : List Transaction) (own opened k : ℕ) → is_asked (changed (while_open (ended e)) ts k) own opened k ≡ false
  ended-passed ts own opened k =
      and-none (not (k == own)) (not (nat_lt opened k)) (is_there_open (numbered (changed (while_open (ended e)) ts k) k)) (shut-here ts k)

-- so behind that abort
pub asked-passed : (book : List Entry) (by txn : TxnId) (place : ℕ) → place ≤ length book
    → is_asked (state_of (book ++ entry.Abort txn (cause.Request by) ∷ [])).transactions by.0
    (length (state_of (take place (book ++ entry.Abort txn (cause.Request by) ∷ []))).transactions) txn.0 ≡ false
unfolding acted
asked-passed book by txn place early =
    let event : Entry = entry.Abort txn (cause.Request by) in
    let same : take place (book ++ event ∷ []) ≡ take place book = take-append-le place book (event ∷ []) early in
    let behind : state_of (book ++ event ∷ []) ≡ after (state_of book) event = fold-append after nothing_yet book (event ∷ []) in
    ap (λ (front : List Entry). is_asked (state_of (book ++ event ∷ [])).transactions by.0 (length (state_of front).transactions) txn.0) same
    ∙ ap (λ (s : State). is_asked s.transactions by.0 (length (state_of (take place book)).transactions) txn.0) behind
    ∙ ended-passed (Aborted (state_of book).entries (cause.Request by)) (state_of book).transactions by.0 (length (state_of (take place book)).transactions) txn.0

-- ---- over books

-- what had been opened before a place of a book is there in it
pub opened-within : (book : List Entry) (place : ℕ) → length (state_of (take place book)).transactions ≤ length (state_of book).transactions
opened-within book place =
    length-grows (state_of (take place book)) (state_of book)
    (subst (λ (s : State). GoesOn (state_of (take place book)) s)
    (sym (fold-append after nothing_yet (take place book) (drop place book)) ∙ ap state_of (take-append-drop place book))
    (goes-on-all (drop place book) (state_of (take place book))))

-- one of whom nothing is to be asked any more stays so
pub passed-later : (book more : List Entry) (own place n : ℕ) → place ≤ length book
    → is_asked (state_of book).transactions own (length (state_of (take place book)).transactions) n ≡ false
    → is_asked (state_of (book ++ more)).transactions own (length (state_of (take place (book ++ more))).transactions) n ≡ false
passed-later book more own place n early passed =
    let same : take place (book ++ more) ≡ take place book = take-append-le place book more early in
    let goes : GoesOn (state_of book) (state_of (book ++ more)) =
    subst (λ (s : State). GoesOn (state_of book) s) (sym (fold-append after nothing_yet book more)) (goes-on-all more (state_of book)) in
    ap (λ (front : List Entry). is_asked (state_of (book ++ more)).transactions own (length (state_of front).transactions) n) same
    ∙ passed-stays (state_of book) (state_of (book ++ more)) goes own (length (state_of (take place book)).transactions) n (opened-within book place) passed

-- ---- the first that is left

-- none is, where each has passed
pub none-left : (ts : List Transaction) (own opened : ℕ) (ns : List ℕ) → AllByRecursion (λ (n : ℕ). is_asked ts own opened n ≡ false) ns
    → first_asked ts own opened ns ≡ None
none-left ts own opened [] passed = refl
none-left ts own opened (n ∷ ns) passed =
    ap (λ (b : Bool). if b then Some n else first_asked ts own opened ns) passed.0 ∙ none-left ts own opened ns passed.1

-- and this one is, where those before it have passed
pub first-left : (ts : List Transaction) (own opened : ℕ) (ns : List ℕ) (n : ℕ) (more : List ℕ) → AllByRecursion (λ (m : ℕ). is_asked ts own opened m ≡ false) ns
    → is_asked ts own opened n ≡ true → first_asked ts own opened (ns ++ n ∷ more) ≡ Some n
first-left ts own opened [] n more passed left = ap (λ (b : Bool). if b then Some n else first_asked ts own opened more) left
first-left ts own opened (m ∷ ns) n more passed left =
    ap (λ (b : Bool). if b then Some m else first_asked ts own opened (ns ++ n ∷ more)) passed.0 ∙ first-left ts own opened ns n more passed.1 left

-- ---- the first that is left is open

some-same : (x y : ℕ) → Some x ≡ Some y → x ≡ y
some-same x y e = cc

first-by : (ts : List Transaction) (own opened m : ℕ) (rest : Option ℕ) (n : ℕ) (b : Bool) → is_asked ts own opened m ≡ b
    → (rest ≡ Some n → is_asked ts own opened n ≡ true) → (if b then Some m else rest) ≡ Some n → is_asked ts own opened n ≡ true
first-by ts own opened m rest n true is next found = subst (λ (k : ℕ). is_asked ts own opened k ≡ true) (some-same m n found) is
first-by ts own opened m rest n false is next found = next found

first-is : (ts : List Transaction) (own opened : ℕ) (ns : List ℕ) (n : ℕ) → first_asked ts own opened ns ≡ Some n → is_asked ts own opened n ≡ true
first-is ts own opened [] n h = cc
first-is ts own opened (m ∷ ns) n h =
    first-by ts own opened m (first_asked ts own opened ns) n (is_asked ts own opened m) refl (first-is ts own opened ns n) h

and-third : (a b c : Bool) → (a && (b && c)) ≡ true → c ≡ true
and-third true true c h = h
and-third true false c h = cc
and-third false b c h = cc

pub first-open : (ts : List Transaction) (own opened : ℕ) (ns : List ℕ) (n : ℕ) → first_asked ts own opened ns ≡ Some n
    → is_there_open (numbered ts n) ≡ true
first-open ts own opened ns n h =
    and-third (not (n == own)) (not (nat_lt opened n)) (is_there_open (numbered ts n)) (first-is ts own opened ns n h)

-- who asks for one comes to nothing else
pub asks-plain : (s : State) (said : Stmt) (ts : List Transaction) (own opened n : ℕ) → first_asked ts own opened (numbers_in (Some said)) ≡ Some n
    → means s (Some said) ≡ Some Plain
asks-plain s (stmt.AbortTransactions txns) ts own opened n h = ap (λ (o : Option Meaning). filled None o) (aborts-mean txns (seen_tables s.tables))
asks-plain s other ts own opened n h = cc

-- ---- who has asked for all has asked for all later

passed-by-first : (ts : List Transaction) (own opened m : ℕ) (rest : Option ℕ) (b : Bool) → is_asked ts own opened m ≡ b → (if b then Some m else rest) ≡ None
    → (is_asked ts own opened m ≡ false) × (rest ≡ None)
passed-by-first ts own opened m rest true is found = let never : Some m ≡ None = found in cc
passed-by-first ts own opened m rest false is found = (is, found)

-- none is left, so each has passed
pub all-passed : (ts : List Transaction) (own opened : ℕ) (ns : List ℕ) → first_asked ts own opened ns ≡ None
    → AllByRecursion (λ (n : ℕ). is_asked ts own opened n ≡ false) ns
all-passed ts own opened [] h = tt
all-passed ts own opened (m ∷ ns) h =
    let first = passed-by-first ts own opened m (first_asked ts own opened ns) (is_asked ts own opened m) refl h in
    (first.0, all-passed ts own opened ns first.1)

module _ (before now : State) (goes : GoesOn before now) (own opened : ℕ) (within : opened ≤ length before.transactions) where
  pub all-passed-stay : (ns : List ℕ) → AllByRecursion (λ (n : ℕ). is_asked before.transactions own opened n ≡ false) ns
      → AllByRecursion (λ (n : ℕ). is_asked now.transactions own opened n ≡ false) ns
  all-passed-stay [] passed = tt
  all-passed-stay (n ∷ ns) passed = (passed-stays before now goes own opened n within passed.0, all-passed-stay ns passed.1)

  pub none-left-stays : (ns : List ℕ) → first_asked before.transactions own opened ns ≡ None → first_asked now.transactions own opened ns ≡ None
  none-left-stays ns h = none-left now.transactions own opened ns (all-passed-stay ns (all-passed before.transactions own opened ns h))

pub has-asked-stays : (before now : State) → GoesOn before now → (own : ℕ) (t : Transaction) (m : Option Meaning)
    → ((ask : Ask) → stands_for before t ask ≡ true → stands_for now t ask ≡ true) → opened_before t.snapshot ≤ length before.transactions → HasAsked before own t m → HasAsked now own t m
has-asked-stays before now goes own t (Some Plain) jobs within asked =
    none-left-stays before now goes own (opened_before t.snapshot) within (numbers_in (opening_tree t)) asked
has-asked-stays before now goes own t (Some (comes.Ask table partition kind)) jobs within asked = jobs (ask_of table partition kind) asked
has-asked-stays before now goes own t m jobs within asked = tt
