-- Laws of the fold: how it goes on, what stays, and what changes a table's rows.
use Rattle.std.proofs.Common.{◌≡◌, ℕ, zero, suc, Option, Some, None, List, [], ◌∷◌, ◌++◌, fold, refl, sym, ap, ◌∙◌}
use Rattle.std.specs.List.{slice_get, AllByRecursion}
use Rattle.std.specs.declared.cmp.Ordering.TheVariants.{Less}
use Rattle.std.specs.Ordering.{is_eq}
use Rattle.std.specs.Prelude.{IsFalse}
use Rattle.std.specs.Option.{option_map}
use Rattle.hv_meaning.specs.hv_typing.specs.hv_logic.specs.declared.effect.Effect.{Effect}
use Rattle.hv_meaning.specs.hv_typing.specs.hv_logic.specs.declared.effect.Found.{Found}
use Rattle.hv_meaning.specs.hv_typing.specs.hv_logic.specs.Rows.{found_cmp}
use Rattle.hv_meaning.specs.hv_typing.specs.hv_logic.specs.declared.catalog.Shape.{Shape}
use Rattle.hv_meaning.specs.hv_route.specs.Routes.{numbered_rows}
use Rattle.hv_meaning.specs.hv_route.specs.Rising.{IsNumbered}
use Rattle.hv_meaning.specs.hv_route.proofs.NumberedLemmas.{rows-are-numbered}
use Rattle.std.specs.List.Sorted.{IsStrictlySortedBy}
use Rattle.hv_history.specs.Answers.{answer, answer_in, ending_text}
use Rattle.hv_history.specs.declared.entry.Entry.{Entry}
use Rattle.hv_history.specs.declared.entry.Entry.TheVariants as entry
use Rattle.hv_history.specs.State.{State, Transaction, Table, Ending, numbered, changed, changed_at, while_open, unless_ended, acted, after, state_of, nothing_yet, content, content_in, content_of, made_by, owned, dropped, forgot, written_by, IsNoCommit, Carry, Differ}

-- ---- the fold goes on by one entry

pub fold-snoc : {A B : Type 0} (f : B → A → B) (b : B) (xs : List A) (x : A) → fold f b (xs ++ x ∷ []) ≡ f (fold f b xs) x
fold-snoc f b [] x = refl
fold-snoc f b (y ∷ xs) x = fold-snoc f (f b y) xs x

pub state_of-snoc : (book : List Entry) (event : Entry) → state_of (book ++ event ∷ []) ≡ after (state_of book) event
state_of-snoc book event = fold-snoc after nothing_yet book event

-- ---- an ended transaction stays

slice_get-append : {A : Type 0} (xs ys : List A) (n : ℕ) (x : A) → slice_get xs n ≡ Some x → slice_get (xs ++ ys) n ≡ Some x
slice_get-append [] ys n x e = cc
slice_get-append (a ∷ xs) ys zero x e = e
slice_get-append (a ∷ xs) ys (suc n) x e = slice_get-append xs ys n x e

numbered-append : {A : Type 0} (xs ys : List A) (n : ℕ) (x : A) → numbered xs n ≡ Some x → numbered (xs ++ ys) n ≡ Some x
numbered-append xs ys zero x e = cc
numbered-append xs ys (suc n) x e = slice_get-append xs ys n x e

-- what the change leaves as it is stays
slice_get-changed_at : {A : Type 0} (f : A → A) (xs : List A) (k n : ℕ) (x : A) → slice_get xs n ≡ Some x → f x ≡ x → slice_get (changed_at f xs k) n ≡ Some x
slice_get-changed_at f [] k n x e same = cc
slice_get-changed_at f (a ∷ xs) zero zero x e same =
    let is : a ≡ x = cc in ap Some (ap f is ∙ same)
slice_get-changed_at f (a ∷ xs) zero (suc n) x e same = e
slice_get-changed_at f (a ∷ xs) (suc k) zero x e same = e
slice_get-changed_at f (a ∷ xs) (suc k) (suc n) x e same = slice_get-changed_at f xs k n x e same

numbered-changed : {A : Type 0} (f : A → A) (xs : List A) (k n : ℕ) (x : A) → numbered xs n ≡ Some x → f x ≡ x → numbered (changed f xs k) n ≡ Some x
numbered-changed f xs zero n x e same = e
numbered-changed f xs (suc k) zero x e same = cc
numbered-changed f xs (suc k) (suc n) x e same = slice_get-changed_at f xs k n x e same

-- a change of transactions keeps those that have ended
ended-kept : (f : Transaction → Transaction) (transaction : Transaction) (ending : Ending) → transaction.ending ≡ Some ending → while_open f transaction ≡ transaction
ended-kept f transaction ending e = ap (λ o. unless_ended o transaction (f transaction)) e

stays-with : (f : Transaction → Transaction) (xs : List Transaction) (k n : ℕ) (transaction : Transaction) (ending : Ending)
    → numbered xs n ≡ Some transaction → transaction.ending ≡ Some ending → numbered (changed (while_open f) xs k) n ≡ Some transaction
stays-with f xs k n transaction ending e h = numbered-changed (while_open f) xs k n transaction e (ended-kept f transaction ending h)

pub ended-stays : (state : State) (event : Entry) (n : ℕ) (transaction : Transaction) (ending : Ending)
    → numbered state.transactions n ≡ Some transaction → transaction.ending ≡ Some ending
    → numbered (after state event).transactions n ≡ Some transaction
unfolding acted
ended-stays state (entry.Boot run) n t d e h = e
ended-stays state (entry.Opened txn session number text) n t d e h = numbered-append state.transactions _ n t e
ended-stays state (entry.Start txn statement) n t d e h = stays-with _ state.transactions txn.0 n t d e h
ended-stays state (entry.Given txn table write) n t d e h = stays-with _ state.transactions txn.0 n t d e h
ended-stays state (entry.Commit txn wrote) n t d e h = stays-with _ state.transactions txn.0 n t d e h
ended-stays state (entry.Abort txn cause) n t d e h = stays-with _ state.transactions txn.0 n t d e h
ended-stays state (entry.Create txn table) n t d e h = stays-with _ state.transactions txn.0 n t d e h
ended-stays state (entry.Drop txn table) n t d e h = stays-with _ state.transactions txn.0 n t d e h
ended-stays state (entry.Asked job table partition kind by) n t d e h = e
ended-stays state (entry.Picked job watermark) n t d e h = e
ended-stays state (entry.Published job low high mark) n t d e h = e
ended-stays state (entry.Empty job) n t d e h = e
ended-stays state (entry.Cleaned job) n t d e h = e
ended-stays state (entry.Failed job cause) n t d e h = e
ended-stays state (entry.Forgot table write) n t d e h = e
ended-stays state (entry.Next txn statement number text) n t d e h = e
ended-stays state (entry.Did txn statement wrote) n t d e h = e
ended-stays state (entry.Alter txn table) n t d e h = e

pub ended-stays-all : (more : List Entry) (state : State) (n : ℕ) (transaction : Transaction) (ending : Ending)
    → numbered state.transactions n ≡ Some transaction → transaction.ending ≡ Some ending
    → numbered (fold after state more).transactions n ≡ Some transaction
ended-stays-all [] state n t d e h = e
ended-stays-all (event ∷ more) state n t d e h = ended-stays-all more (after state event) n t d (ended-stays state event n t d e h) h

pub fold-append : {A B : Type 0} (f : B → A → B) (b : B) (xs ys : List A) → fold f b (xs ++ ys) ≡ fold f (fold f b xs) ys
fold-append f b [] ys = refl
fold-append f b (x ∷ xs) ys = fold-append f (f b x) xs ys

-- an answer is that of a transaction that has ended
has_ended : (transaction : Transaction) (ending : Option Ending) (text : List ℕ) → option_map (ending_text transaction) ending ≡ Some text
    → (found : Ending) × (ending ≡ Some found)
has_ended t None text e = cc
has_ended t (Some found) text e = (found, refl)

answered : (o : Option Transaction) (text : List ℕ) → answer_in o ≡ Some text
    → (transaction : Transaction) × (ending : Ending) × (o ≡ Some transaction) × (transaction.ending ≡ Some ending)
answered None text e = cc
answered (Some t) text e = let found = has_ended t t.ending text e in (t, found.0, refl, found.1)

pub answer-stays : (book more : List Entry) (txn : ℕ) (text : List ℕ) → answer (state_of book) txn ≡ Some text → answer (state_of (book ++ more)) txn ≡ Some text
answer-stays book more txn text e =
    let found = answered (numbered (state_of book).transactions txn) text e in
    let stays = ended-stays-all more (state_of book) txn found.0 found.1 found.2 found.3 in
    let there : numbered (state_of (book ++ more)).transactions txn ≡ Some found.0 =
    ap (λ (s : State). numbered s.transactions txn) (fold-append after nothing_yet book more) ∙ stays in
    ap answer_in (there ∙ sym found.2) ∙ e

-- ---- a table's rows change at a Commit alone

content-changed_at : (f : Table → Table) → ((t : Table) → (f t).writes ≡ t.writes) → (xs : List Table) (k n : ℕ)
    → content_in (slice_get (changed_at f xs k) n) ≡ content_in (slice_get xs n)
content-changed_at f same [] k n = refl
content-changed_at f same (t ∷ xs) zero zero = ap content_of (same t)
content-changed_at f same (t ∷ xs) zero (suc n) = refl
content-changed_at f same (t ∷ xs) (suc k) zero = refl
content-changed_at f same (t ∷ xs) (suc k) (suc n) = content-changed_at f same xs k n

content-changed : (f : Table → Table) → ((t : Table) → (f t).writes ≡ t.writes) → (xs : List Table) (k n : ℕ)
    → content_in (numbered (changed f xs k) n) ≡ content_in (numbered xs n)
content-changed f same xs zero n = refl
content-changed f same xs (suc k) zero = refl
content-changed f same xs (suc k) (suc n) = content-changed_at f same xs k n

no_rows : content_of [] ≡ []
unfolding content_of
no_rows = refl

-- a table that is made has no rows
content-slice-more : (xs ys : List Table) (n : ℕ) → AllByRecursion (λ (t : Table). t.writes ≡ []) ys
    → content_in (slice_get (xs ++ ys) n) ≡ content_in (slice_get xs n)
content-slice-more [] [] n h = refl
content-slice-more [] (y ∷ ys) zero h = ap content_of h.0 ∙ no_rows
content-slice-more [] (y ∷ ys) (suc n) h = content-slice-more [] ys n h.1
content-slice-more (x ∷ xs) ys zero h = refl
content-slice-more (x ∷ xs) ys (suc n) h = content-slice-more xs ys n h

content-more : (xs ys : List Table) (n : ℕ) → AllByRecursion (λ (t : Table). t.writes ≡ []) ys
    → content_in (numbered (xs ++ ys) n) ≡ content_in (numbered xs n)
content-more xs ys zero h = refl
content-more xs ys (suc n) h = content-slice-more xs ys n h

pub rows-change_at_commits : (state : State) (event : Entry) (table : ℕ) → IsNoCommit event → content (after state event) table ≡ content state table
unfolding acted
rows-change_at_commits state (entry.Boot run) table h = refl
rows-change_at_commits state (entry.Opened txn session number text) table h = refl
rows-change_at_commits state (entry.Start txn statement) table h = refl
rows-change_at_commits state (entry.Given txn given write) table h = content-changed (owned txn.0) (λ t. refl) state.tables given.0 table
rows-change_at_commits state (entry.Commit txn wrote) table h = absurd h
rows-change_at_commits state (entry.Abort txn cause) table h = refl
rows-change_at_commits state (entry.Create txn made) table h = content-more state.tables (made_by made.0 (numbered state.transactions txn.0) ∷ []) table (refl, tt)
rows-change_at_commits state (entry.Drop txn gone) table h = content-changed dropped (λ t. refl) state.tables gone.0 table
rows-change_at_commits state (entry.Asked job asked partition kind by) table h = refl
rows-change_at_commits state (entry.Picked job watermark) table h = refl
rows-change_at_commits state (entry.Published job low high mark) table h = refl
rows-change_at_commits state (entry.Empty job) table h = refl
rows-change_at_commits state (entry.Cleaned job) table h = refl
rows-change_at_commits state (entry.Failed job cause) table h = refl
rows-change_at_commits state (entry.Forgot forgotten write) table h = content-changed (forgot write.0) (λ t. refl) state.tables forgotten.0 table
rows-change_at_commits state (entry.Next txn statement number text) table h = refl
rows-change_at_commits state (entry.Did txn statement wrote) table h = refl
rows-change_at_commits state (entry.Alter txn altered) table h = refl

-- ---- identifiers

carry : (shape : Shape) (write statement : ℕ) (founds : List Found) → AllByRecursion (IsNumbered shape write statement) founds → Carry write founds
carry shape write statement [] h = tt
carry shape write statement (found ∷ founds) h = let first : IsNumbered shape write statement found = h.0 in (first.write_is, carry shape write statement founds h.1)

apart : (found : Found) (founds : List Found) → AllByRecursion (λ other. found_cmp found other ≡ Less) founds
    → AllByRecursion (λ (other : Found). IsFalse (is_eq (found_cmp found other))) founds
apart found [] h = tt
apart found (other ∷ founds) h = (ap is_eq h.0, apart found founds h.1)

-- rows that rise differ
differ : (founds : List Found) → IsStrictlySortedBy found_cmp founds → Differ founds
unfolding IsStrictlySortedBy
differ [] h = tt
differ (found ∷ founds) h = (apart found founds h.0, differ founds h.1)

pub inserts-carry : (shape : Shape) (write statement : ℕ) (effect : Effect) → Carry write (written_by shape write statement effect).inserts
inserts-carry shape write statement effect =
    carry shape write statement (numbered_rows shape write statement effect.inserts) (rows-are-numbered shape write statement effect.inserts).each

pub inserts-differ : (shape : Shape) (write statement : ℕ) (effect : Effect) → Differ (written_by shape write statement effect).inserts
inserts-differ shape write statement effect =
    differ (numbered_rows shape write statement effect.inserts) (rows-are-numbered shape write statement effect.inserts).rise
