-- What one item keeps of a trail, and any number of items; the facts that last.
use Rattle.std.proofs.Common.{◌≡◌, ℕ, ◌+◌, Bool, true, false, Option, Some, None, List, [], ◌∷◌, ◌++◌, fold, refl, sym, ap, ◌∙◌, subst}
use Rattle.std.specs.Prelude.{if◌then◌else◌, IsSomeAnd, slice_get, ◌==◌}
use Rattle.hv_logic.specs.declared.meaning.Meaning.{Meaning}
use Rattle.hv_book.specs.hv_history.specs.declared.state.Transaction.{Transaction}
use Rattle.hv_book.specs.hv_history.specs.declared.state.Statement.{Statement}
use Rattle.hv_book.specs.hv_history.specs.declared.state.Snapshot.{Snapshot}
use Rattle.hv_book.specs.hv_history.specs.declared.state.Ending.{Ending}
use Rattle.hv_book.specs.hv_history.specs.State.{numbered, given_in, statement_meaning, state_of, after, nothing_yet}
use Rattle.hv_book.specs.hv_history.specs.Lasting as kept
use Rattle.hv_book.specs.hv_history.specs.Lasting.{IsFront}
use Rattle.hv_book.specs.hv_history.proofs.LastingLaws.{goes-on-all}
use Rattle.hv_book.specs.hv_history.proofs.StateLaws.{fold-append}
use Rattle.hv_trail.specs.declared.trail.Reader.{Reader}
use Rattle.hv_trail.specs.declared.trail.Mark.TheVariants.{Wrote, Went, Broke}
use Rattle.hv_trail.specs.declared.trail.TrailItem.{TrailItem}
use Rattle.hv_trail.specs.declared.trail.TrailItem.TheVariants.{Noted, Marked}
use Rattle.hv_trail.specs.Trail.{book_of, state_at, marks_from, broken, is_reader}
use Rattle.hv_trail.specs.Lasting.{Has, IsOpened, IsStarted, IsGiven, IsOpen, IsEnded, GoesOn}

-- ---- books and marks of two trails, one behind the other

pub book-append : (xs ys : List TrailItem) → book_of (xs ++ ys) ≡ book_of xs ++ book_of ys
book-append [] ys = refl
book-append (Noted entry ∷ xs) ys = ap (λ book. entry ∷ book) (book-append xs ys)
book-append (Marked mark ∷ xs) ys = book-append xs ys

-- the number of entries behind these items
abbrev pub entries_behind : ℕ → List TrailItem → ℕ
entries_behind before [] = before
entries_behind before (Noted entry ∷ items) = entries_behind (before + 1) items
entries_behind before (Marked mark ∷ items) = entries_behind before items

pub marks-append : (before : ℕ) (xs ys : List TrailItem) → marks_from before (xs ++ ys) ≡ marks_from before xs ++ marks_from (entries_behind before xs) ys
marks-append before [] ys = refl
marks-append before (Noted entry ∷ xs) ys = marks-append (before + 1) xs ys
marks-append before (Marked mark ∷ xs) ys = ap (λ marks. (before, mark) ∷ marks) (marks-append before xs ys)

pub state-append : (xs ys : List TrailItem) → state_at (xs ++ ys) ≡ fold after (state_at xs) (book_of ys)
state-append xs ys = ap state_of (book-append xs ys) ∙ fold-append after nothing_yet (book_of xs) (book_of ys)

-- ---- the first fault stays the first

fault-kept : (is : Bool) (found : Bool × ℕ) (rest more : Option (Bool × ℕ)) (why : Bool × ℕ) → (rest ≡ Some why → more ≡ Some why)
    → (if is then Some found else rest) ≡ Some why → (if is then Some found else more) ≡ Some why
fault-kept true found rest more why kept e = e
fault-kept false found rest more why kept e = kept e

pub fault-stays : (reader : Reader) (xs ys : List TrailItem) (why : Bool × ℕ) → broken reader xs ≡ Some why → broken reader (xs ++ ys) ≡ Some why
fault-stays reader [] ys why e = cc
fault-stays reader (Noted entry ∷ xs) ys why e = fault-stays reader xs ys why e
fault-stays reader (Marked (Wrote by place) ∷ xs) ys why e = fault-stays reader xs ys why e
fault-stays reader (Marked (Went dir) ∷ xs) ys why e = fault-stays reader xs ys why e
fault-stays reader (Marked (Broke by put count) ∷ xs) ys why e =
    fault-kept (is_reader reader by) (put, count) (broken reader xs) (broken reader (xs ++ ys)) why (fault-stays reader xs ys why) e

-- ---- any number of items

pub goes-on : (trail more : List TrailItem) → GoesOn trail (trail ++ more)
goes-on trail more = record {
  history = subst (λ s. kept.GoesOn (state_at trail) s) (sym (state-append trail more)) (goes-on-all (book_of more) (state_at trail));
  book = record { more = book_of more; is = book-append trail more };
  marks = record { more = marks_from (entries_behind 0 trail) more; is = marks-append 0 trail more };
  fault = λ reader why e. fault-stays reader trail more why e;
}

-- one trail is a front of the other
pub goes-on-front : (before now : List TrailItem) → IsFront before now → GoesOn before now
goes-on-front before now front = subst (λ xs. GoesOn before xs) (sym front.is) (goes-on before front.more)

-- ---- what is said of a transaction in words that last

moved : (P Q : Transaction → Type 0) → ((t u : Transaction) → kept.Later t u → P t → Q u) → (o p : Option Transaction)
    → ((t : Transaction) → o ≡ Some t → IsSomeAnd p (kept.Later t)) → IsSomeAnd o P → IsSomeAnd p Q
moved P Q keeps None p goes has = absurd has
moved P Q keeps (Some t) None goes has = absurd (goes t refl)
moved P Q keeps (Some t) (Some u) goes has = keeps t u (goes t refl) has

pub lasts : (P : Transaction → Type 0) → ((t u : Transaction) → kept.Later t u → P t → P u)
    → (before now : List TrailItem) (txn : ℕ) → GoesOn before now → Has before txn P → Has now txn P
lasts P keeps before now txn goes has =
    moved P P keeps (numbered (state_at before).transactions txn) (numbered (state_at now).transactions txn) (goes.history.transactions txn) has

-- ---- its words, one by one

same-first : (xs ys : List Statement) (number : ℕ) (text : List ℕ) → kept.AllLater xs ys
    → IsSomeAnd (slice_get xs 0) (λ s. (s.number ≡ number) × (s.text ≡ text)) → IsSomeAnd (slice_get ys 0) (λ s. (s.number ≡ number) × (s.text ≡ text))
same-first [] ys number text later is = absurd is
same-first (x ∷ xs) [] number text later is = absurd later
same-first (x ∷ xs) (y ∷ ys) number text later is = (later.0.number ∙ is.0, later.0.text ∙ is.1)

pub opened-keeps : (session : List ℕ) (number : ℕ) (text : List ℕ) (t u : Transaction) → kept.Later t u → IsOpened session number text t → IsOpened session number text u
opened-keeps session number text t u later is = record {
  session_is = later.session ∙ is.session_is;
  opens = same-first t.statements u.statements number text later.statements is.opens;
}

same-meaning : (xs ys : List Statement) (m : Meaning) → kept.AllLater xs ys → statement_meaning (slice_get xs 0) ≡ Some m → statement_meaning (slice_get ys 0) ≡ Some m
same-meaning [] ys m later e = cc
same-meaning (x ∷ xs) [] m later e = absurd later
same-meaning (x ∷ xs) (y ∷ ys) m later e = later.0.meaning m e

pub started-keeps : (snapshot : Snapshot) (means : Meaning) (t u : Transaction) → kept.Later t u → IsStarted snapshot means t → IsStarted snapshot means u
started-keeps snapshot means t u later is = record {
  snapshot_is = later.snapshot snapshot is.snapshot_is;
  means_it = same-meaning t.statements u.statements means later.statements is.means_it;
}

given-kept : (is : Bool) (found : ℕ) (rest more : Option ℕ) (write : ℕ) → (rest ≡ Some write → more ≡ Some write)
    → (if is then Some found else rest) ≡ Some write → (if is then Some found else more) ≡ Some write
given-kept true found rest more write kept e = e
given-kept false found rest more write kept e = kept e

given-stays : (table write : ℕ) (xs ys : List (ℕ × ℕ)) → given_in table xs ≡ Some write → given_in table (xs ++ ys) ≡ Some write
given-stays table write [] ys e = cc
given-stays table write (x ∷ xs) ys e =
    given-kept (x.0 == table) x.1 (given_in table xs) (given_in table (xs ++ ys)) write (given-stays table write xs ys) e

pub given-keeps : (table write : ℕ) (t u : Transaction) → kept.Later t u → IsGiven table write t → IsGiven table write u
given-keeps table write t u later is =
    ap (given_in table) later.given.is ∙ given-stays table write t.given later.given.more is

pub ended-keeps : (ending : Ending) (t u : Transaction) → kept.Later t u → IsEnded ending t → IsEnded ending u
ended-keeps ending t u later is = ap (λ (x : Transaction). x.ending) (later.ending ending is) ∙ is

-- what is open later was open before
was-open : (t u : Transaction) → kept.Later t u → IsOpen u → (ending : Option Ending) → t.ending ≡ ending → IsOpen t
was-open t u later unended None e = e
was-open t u later unended (Some ending) e = let both : Some ending ≡ None = sym (ended-keeps ending t u later e) ∙ unended in cc

open-before-by : (o p : Option Transaction) → ((t : Transaction) → o ≡ Some t → IsSomeAnd p (kept.Later t)) → (t : Transaction) → o ≡ Some t
    → IsSomeAnd p IsOpen → IsOpen t
open-before-by o None goes t e unended = absurd unended
open-before-by o (Some u) goes t e unended = was-open t u (goes t e) unended t.ending refl

pub open-before : (before now : List TrailItem) (txn : ℕ) (t : Transaction) → GoesOn before now → numbered (state_at before).transactions txn ≡ Some t
    → Has now txn IsOpen → IsOpen t
open-before before now txn t goes e unended =
    open-before-by (numbered (state_at before).transactions txn) (numbered (state_at now).transactions txn) (goes.history.transactions txn) t e unended

-- one that ended is the same later
ended-by : (o p : Option Transaction) → ((t : Transaction) → o ≡ Some t → IsSomeAnd p (kept.Later t)) → (t : Transaction) (ending : Ending) → o ≡ Some t
    → IsEnded ending t → p ≡ Some t
ended-by o None goes t ending e is = absurd (goes t e)
ended-by o (Some u) goes t ending e is = ap (λ x. Some x) ((goes t e).ending ending is)

pub ended-same : (before now : List TrailItem) (txn : ℕ) (t : Transaction) (ending : Ending) → GoesOn before now
    → numbered (state_at before).transactions txn ≡ Some t → IsEnded ending t → numbered (state_at now).transactions txn ≡ Some t
ended-same before now txn t ending goes e is =
    ended-by (numbered (state_at before).transactions txn) (numbered (state_at now).transactions txn) (goes.history.transactions txn) t ending e is
