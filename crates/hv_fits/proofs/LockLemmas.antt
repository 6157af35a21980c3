-- Where the texts of a book run, each transaction has one text.
use Rattle.std.proofs.Common.{◌≡◌, ℕ, zero, suc, ◌+◌, Option, Some, None, List, [], ◌∷◌, ◌++◌, map, fold, refl, sym, ap, ◌∙◌, arith}
use Rattle.std.specs.Prelude.{if◌then◌else◌, Bool, true, false, not, ◌&&◌, ◌↔◌, IsTrue, IsSomeAnd, ◌||◌, is_none, is_some}
use Rattle.std.specs.Option.{option_map}
use Rattle.std.specs.List.{slice_get, flat_map, list_any, AllByRecursion}
use Rattle.std.proofs.lemmas.List.{append-nil}
use Rattle.hv_base.specs.declared.ids.Limits.{Limits}
use Rattle.hv_ast.specs.declared.statement.Stmt.{Stmt}
use Rattle.hv_grammar.specs.Texts.{tree_of}
use Rattle.hv_locks.specs.declared.table.Lock.{Lock}
use Rattle.hv_logic.specs.Names.{names_in}
use Rattle.hv_history.specs.declared.entry.Entry.{Entry}
use Rattle.hv_history.specs.declared.entry.Entry.TheVariants as entry
use Rattle.hv_history.specs.declared.state.Statement.{Statement}
use Rattle.hv_history.specs.declared.state.Transaction.{Transaction}
use Rattle.hv_history.specs.declared.state.Ending.{Ending}
use Rattle.hv_history.specs.declared.state.Ending.TheVariants.{Aborted, Made, Dropped}
use Rattle.hv_history.specs.State.{State, numbered, changed, changed_at, while_open, unless_ended, started, given_id, committed, ended, meant_in, wrote_as, opened, statement_tree, opening_tree, acted, after, nothing_yet, state_of}
use Rattle.hv_history.specs.Legal.{Fits, AllFit, Of, is_open, is_started, IsRunning, IsWaiting, BlockedFits, locks_of, locks_of_tree, locks_conflict, holds_against, first_holder}
use Rattle.hv_book.specs.Briefs.{brief, open_from, open_next, end_of, tree_in}
use Rattle.hv_meta.specs.States.{state_by, transaction_state}
use Rattle.hv_meta.proofs.FactLemmas.{and-left, and-right, and-both, false-is}
use Rattle.hv_book.specs.Said.{said}
use Rattle.hv_book.proofs.TextLaws.{all-snoc}
use Rattle.hv_book.proofs.SaidLaws.{names-said}
use Rattle.hv_fits.specs.Texts.{text_of, HasOneText, TextsRun, holds_at, holds_among, first_among, is_waiting_state, IsReady}

-- ---- a transaction's text stays

texts-same : (f : Statement → Statement) → ((s : Statement) → (f s).text ≡ s.text) → (ss : List Statement) (n : ℕ)
    → map text_of (changed_at f ss n) ≡ map text_of ss
texts-same f same [] n = refl
texts-same f same (s ∷ ss) zero = ap (λ x. x ∷ map text_of ss) (same s)
texts-same f same (s ∷ ss) (suc n) = ap (λ xs. s.text ∷ xs) (texts-same f same ss n)

kept : (t u : Transaction) → map text_of u.statements ≡ map text_of t.statements → HasOneText t → HasOneText u
kept t u same h = record { text = h.text; tree = h.tree; only = same ∙ h.only; runs = h.runs }

while-kept : (f : Transaction → Transaction) → ((t : Transaction) → map text_of (f t).statements ≡ map text_of t.statements)
    → (t : Transaction) → HasOneText t → HasOneText (while_open f t)
while-kept f same t h = by t.ending
  where
    by : (e : Option Ending) → HasOneText (unless_ended e t (f t))
    by None = kept t (f t) (same t) h
    by (Some e) = h

all-changed_at : {A : Type 0} (P : A → Type 0) (f : A → A) → ((x : A) → P x → P (f x)) → (xs : List A) (n : ℕ)
    → AllByRecursion P xs → AllByRecursion P (changed_at f xs n)
all-changed_at P f goes [] n h = tt
all-changed_at P f goes (x ∷ xs) zero h = (goes x h.0, h.1)
all-changed_at P f goes (x ∷ xs) (suc n) h = (h.0, all-changed_at P f goes xs n h.1)

all-changed : {A : Type 0} (P : A → Type 0) (f : A → A) → ((x : A) → P x → P (f x)) → (xs : List A) (n : ℕ)
    → AllByRecursion P xs → AllByRecursion P (changed f xs n)
all-changed P f goes xs zero h = h
all-changed P f goes xs (suc n) h = all-changed_at P f goes xs n h

on-one : (f : Transaction → Transaction) → ((t : Transaction) → map text_of (f t).statements ≡ map text_of t.statements)
    → (ts : List Transaction) (n : ℕ) → AllByRecursion HasOneText ts → AllByRecursion HasOneText (changed (while_open f) ts n)
on-one f same ts n h = all-changed HasOneText (while_open f) (while-kept f same) ts n h

texts-next : (limits : Limits) (state : State) (event : Entry) → Fits limits state event → TextsRun state → TextsRun (after state event)
unfolding acted
texts-next limits state (entry.Boot run) fits h = h
texts-next limits state (entry.Opened txn session number text) fits h =
    all-snoc HasOneText state.transactions (opened session number text) h
    (record { text = text; tree = fits.statement.0; only = refl; runs = fits.statement.1 })
texts-next limits state (entry.Start txn statement) fits h =
    on-one (started state statement) (λ (t : Transaction). texts-same (meant_in state) (λ s. refl) t.statements statement) state.transactions txn.0 h
texts-next limits state (entry.Given txn table write) fits h = on-one (given_id table.0 write.0) (λ t. refl) state.transactions txn.0 h
texts-next limits state (entry.Commit txn wrote) fits h =
    on-one (committed state.entries wrote) (λ (t : Transaction). texts-same (wrote_as t.given 0) (λ s. refl) t.statements 0) state.transactions txn.0 h
texts-next limits state (entry.Abort txn cause) fits h = on-one (ended (Aborted state.entries cause)) (λ t. refl) state.transactions txn.0 h
texts-next limits state (entry.Create txn table) fits h = on-one (ended (Made state.entries table.0)) (λ t. refl) state.transactions txn.0 h
texts-next limits state (entry.Drop txn table) fits h = on-one (ended (Dropped state.entries table.0)) (λ t. refl) state.transactions txn.0 h
texts-next limits state (entry.Asked job table partition kind by) fits h = h
texts-next limits state (entry.Picked job watermark) fits h = h
texts-next limits state (entry.Published job low high mark) fits h = h
texts-next limits state (entry.Empty job) fits h = h
texts-next limits state (entry.Cleaned job) fits h = h
texts-next limits state (entry.Next txn statement number text) fits h = h
texts-next limits state (entry.Did txn statement wrote) fits h = h
texts-next limits state (entry.Alter txn table) fits h = h
texts-next limits state (entry.Failed job cause) fits h = h
texts-next limits state (entry.Forgot table write) fits h = h

texts-all : (limits : Limits) (entries : List Entry) (state : State) → AllFit limits state entries → TextsRun state → TextsRun (fold after state entries)
texts-all limits [] state fit h = h
texts-all limits (x ∷ xs) state fit h = texts-all limits xs (after state x) fit.1 (texts-next limits state x fit.0 h)

-- of a book whose entries fit
pub texts-run : (limits : Limits) (entries : List Entry) → AllFit limits nothing_yet entries → TextsRun (state_of entries)
texts-run limits entries fit = texts-all limits entries nothing_yet fit tt

-- ---- one text, one tree, and its locks

locks-texts : (ss : List Statement) → flat_map (λ (s : Statement). locks_of_tree (tree_of s.text)) ss
    ≡ flat_map (λ (x : List ℕ). locks_of_tree (tree_of x)) (map text_of ss)
locks-texts [] = refl
locks-texts (s ∷ ss) = ap (λ locks. locks_of_tree (tree_of s.text) ++ locks) (locks-texts ss)

pub one-lock : (t : Transaction) (h : HasOneText t) → locks_of t ≡ names_in h.tree
one-lock t h =
    locks-texts t.statements ∙ ap (flat_map (λ (x : List ℕ). locks_of_tree (tree_of x))) h.only
    ∙ append-nil (locks_of_tree (tree_of h.text)) ∙ ap locks_of_tree h.runs.read

first-tree : (ss : List Statement) (text : List ℕ) → map text_of ss ≡ text ∷ [] → statement_tree (slice_get ss 0) ≡ tree_of text
first-tree [] text e = cc
first-tree (s ∷ ss) text e = let same : s.text ≡ text = cc in ap (λ x. tree_of x) same

pub one-tree : (t : Transaction) (h : HasOneText t) → opening_tree t ≡ Some h.tree
one-tree t h = first-tree t.statements h.text h.only ∙ h.runs.read

-- what is kept of it
pub kept-tree : (t : Transaction) (h : HasOneText t) → tree_in (Some t) ≡ Some (said h.tree)
kept-tree t h = ap (option_map said) (one-tree t h)

same-some : (a b : Stmt) → Some a ≡ Some b → a ≡ b
same-some a b e = cc

pub same-names : (t : Transaction) (h : HasOneText t) (tree : Stmt) → Some tree ≡ tree_in (Some t) → names_in h.tree ≡ names_in tree
same-names t h tree e = sym (names-said h.tree) ∙ ap names_in (same-some (said h.tree) tree (sym (kept-tree t h) ∙ sym e))

abbrev pub IfThere : Option Transaction → Type 0
IfThere None = Unit {0}
IfThere (Some t) = HasOneText t

get-all : (ts : List Transaction) (n : ℕ) → AllByRecursion HasOneText ts → IfThere (slice_get ts n)
get-all [] n h = tt
get-all (t ∷ ts) zero h = h.0
get-all (t ∷ ts) (suc n) h = get-all ts n h.1

pub numbered-all : (ts : List Transaction) (n : ℕ) → AllByRecursion HasOneText ts → IfThere (numbered ts n)
numbered-all ts zero h = tt
numbered-all ts (suc n) h = get-all ts n h

-- ---- who holds

holds-not : (a b x : Bool) → (a ≡ true → b ≡ true → false ≡ true) → false ≡ (a && b && x)
holds-not true true x h = absurd (let yes : false ≡ true = h refl refl in cc)
holds-not true false x h = refl
holds-not false b x h = refl

holds-in : (o : Option Transaction) (tree other : Stmt) → IfThere o → Some other ≡ tree_in o → (r c : Bool)
    → (IsTrue r ↔ IsSomeAnd o IsRunning) → c ≡ locks_conflict (names_in tree) (names_in other) → (r && c) ≡ holds_at (names_in tree) o
holds-in None tree other h e r c running conflict = cc
holds-in (Some t) tree other h e true c running conflict =
    let run = running.0 refl in
    let own : names_in other ≡ locks_of t = sym (same-names t h other e) ∙ sym (one-lock t h) in
    conflict ∙ ap (locks_conflict (names_in tree)) own
    ∙ sym (ap (λ b. b && is_started t && locks_conflict (names_in tree) (locks_of t)) run.unended
    ∙ ap (λ b. true && b && locks_conflict (names_in tree) (locks_of t)) run.started)
holds-in (Some t) tree other h e false c running conflict =
    holds-not (is_open t) (is_started t) (locks_conflict (names_in tree) (locks_of t)) (λ a b. running.1 (record { unended = a; started = b }))

pub holds-some : (state : State) (n : ℕ) (tree other : Stmt) → TextsRun state → Some other ≡ tree_in (numbered state.transactions n) → (r c : Bool)
    → (IsTrue r ↔ Of state n IsRunning) → c ≡ locks_conflict (names_in tree) (names_in other) → (r && c) ≡ holds_among (names_in tree) state.transactions n
unfolding holds_among
holds-some state n tree other h e r c running conflict =
    holds-in (numbered state.transactions n) tree other (numbered-all state.transactions n h) e r c running conflict

holds-no : (o : Option Transaction) (tree : Stmt) → IfThere o → None ≡ tree_in o → false ≡ holds_at (names_in tree) o
holds-no None tree h e = refl
holds-no (Some t) tree h e = let both : None ≡ Some (said h.tree) = e ∙ kept-tree t h in cc

pub holds-none : (state : State) (n : ℕ) (tree : Stmt) → TextsRun state → None ≡ tree_in (numbered state.transactions n)
    → false ≡ holds_among (names_in tree) state.transactions n
unfolding holds_among
holds-none state n tree h e = holds-no (numbered state.transactions n) tree (numbered-all state.transactions n h) e

-- ---- the first of the open ones is the first of all

first-from : (locks : List Lock) (p : ℕ → Bool) (ts : List Transaction) (m : ℕ) → ((i : ℕ) → p (m + i) ≡ holds_at locks (slice_get ts i))
    → first_among p (open_from m (map brief ts)) ≡ first_holder locks m ts
first-from locks p [] m same = refl
first-from locks p (t ∷ ts) m same =
    by t.ending refl (first-from locks p ts (m + 1) (λ i. ap p (let at : m + 1 + i ≡ m + suc i = omega arith in at) ∙ same (suc i)))
  where
    here : p m ≡ holds_against locks t
    here = ap p (let at : m ≡ m + 0 = omega arith in at) ∙ same 0

    by : (e : Option Ending) → t.ending ≡ e → first_among p (open_from (m + 1) (map brief ts)) ≡ first_holder locks (m + 1) ts
        → first_among p (open_next (is_none (option_map end_of t.ending)) m (open_from (m + 1) (map brief ts)))
        ≡ (if holds_against locks t then Some m else first_holder locks (m + 1) ts)
    by None is rest =
        ap (λ (o : Option Ending). first_among p (open_next (is_none (option_map end_of o)) m (open_from (m + 1) (map brief ts)))) is
        ∙ ap (λ b. if b then Some m else first_among p (open_from (m + 1) (map brief ts))) here
        ∙ ap (λ (o : Option ℕ). if holds_against locks t then Some m else o) rest
    by (Some e) is rest =
        let closed : holds_against locks t ≡ false = ap (λ (o : Option Ending). is_none o && is_started t && locks_conflict locks (locks_of t)) is in
        ap (λ (o : Option Ending). first_among p (open_next (is_none (option_map end_of o)) m (open_from (m + 1) (map brief ts)))) is
        ∙ rest ∙ sym (ap (λ b. if b then Some m else first_holder locks (m + 1) ts) closed)

pub first-open : (locks : List Lock) (ts : List Transaction) → first_among (holds_among locks ts) (open_from 1 (map brief ts)) ≡ first_holder locks 1 ts
unfolding holds_among
first-open locks ts = first-from locks (holds_among locks ts) ts 1 (λ i. ap (λ k. holds_at locks (numbered ts k)) (let at : 1 + i ≡ suc i = omega arith in at))

none-free : (locks : List Lock) (m : ℕ) (ts : List Transaction) → is_none (first_holder locks m ts) ≡ not (list_any (holds_against locks) ts)
none-free locks m [] = refl
none-free locks m (t ∷ ts) = by (holds_against locks t) refl (none-free locks (m + 1) ts)
  where
    by : (b : Bool) → holds_against locks t ≡ b → is_none (first_holder locks (m + 1) ts) ≡ not (list_any (holds_against locks) ts)
        → is_none (if holds_against locks t then Some m else first_holder locks (m + 1) ts) ≡ not (holds_against locks t || list_any (holds_against locks) ts)
    by true is rest =
        ap (λ b. is_none (if b then Some m else first_holder locks (m + 1) ts)) is ∙ sym (ap (λ b. not (b || list_any (holds_against locks) ts)) is)
    by false is rest =
        ap (λ b. is_none (if b then Some m else first_holder locks (m + 1) ts)) is ∙ rest ∙ sym (ap (λ b. not (b || list_any (holds_against locks) ts)) is)

-- ---- who waits

waits-by : (t : Transaction) (e : Option Ending) → t.ending ≡ e → IsTrue (is_waiting_state (state_by t.ending (is_started t))) ↔ IsWaiting t
waits-by t None is =
    let same : is_waiting_state (state_by t.ending (is_started t)) ≡ not (is_started t) = ap (λ (o : Option Ending). is_waiting_state (state_by o (is_started t))) is in (
      λ h. record { unended = ap is_none is; unstarted = (false-is (is_started t)).0 (sym same ∙ h) },
      λ w. same ∙ (false-is (is_started t)).1 w.unstarted,
    )
waits-by t (Some e) is =
    let same : is_waiting_state (state_by t.ending (is_started t)) ≡ false = ap (λ (o : Option Ending). is_waiting_state (state_by o (is_started t))) is in (
      λ h. absurd (let both : false ≡ true = sym same ∙ h in cc),
      λ w. absurd (let both : false ≡ true = sym (ap is_none is) ∙ w.unended in cc),
    )

pub waits : (o : Option Transaction) → IsTrue (is_waiting_state (transaction_state o)) ↔ IsSomeAnd o IsWaiting
waits None = (λ e. cc, λ e. absurd e)
waits (Some t) = waits-by t t.ending refl

free-one : (o : Option ℕ) (f : Bool) → is_some o ≡ not f → f ≡ is_none o
free-one None true e = refl
free-one None false e = cc
free-one (Some x) true e = cc
free-one (Some x) false e = refl

pub free-of : (o p : Option ℕ) (f : Bool) → is_some o ≡ not f → o ≡ p → f ≡ is_none p
free-of o p f e is = free-one o f e ∙ ap is_none is

-- ---- a Start, and an abort of one that is blocked

unfit : (o : Option Transaction) (P : Transaction → Type 0) → IfThere o → None ≡ tree_in o → IsTrue false ↔ IsSomeAnd o P
unfit None P h e = (λ x. cc, λ x. absurd x)
unfit (Some t) P h e = absurd (let both : None ≡ Some (said h.tree) = e ∙ kept-tree t h in cc)

pub no-text : (state : State) (n : ℕ) (P : Transaction → Type 0) → TextsRun state → None ≡ tree_in (numbered state.transactions n)
    → IsTrue false ↔ Of state n P
no-text state n P h e = unfit (numbered state.transactions n) P (numbered-all state.transactions n h) e

own-locks : (t : Transaction) (h : HasOneText t) (tree : Stmt) → Some tree ≡ tree_in (Some t) → locks_of t ≡ names_in tree
own-locks t h tree e = one-lock t h ∙ same-names t h tree e

ready-in : (state : State) (o : Option Transaction) (tree : Stmt) → IfThere o → Some tree ≡ tree_in o → (w f : Bool)
    → (IsTrue w ↔ IsSomeAnd o IsWaiting) → f ≡ is_none (first_holder (names_in tree) 1 state.transactions) → (IsTrue (w && f)) ↔ IsSomeAnd o (IsReady state)
ready-in state None tree h e w f waiting free = cc
ready-in state (Some t) tree h e w f waiting free =
    let held : list_any (holds_against (locks_of t)) state.transactions ≡ list_any (holds_against (names_in tree)) state.transactions =
    ap (λ locks. list_any (holds_against locks) state.transactions) (own-locks t h tree e) in
    let is_free = free ∙ none-free (names_in tree) 1 state.transactions in (
      λ x. record {
        waiting = waiting.0 (and-left w f x);
        unlocked = held ∙ (false-is (list_any (holds_against (names_in tree)) state.transactions)).0 (sym is_free ∙ and-right w f x);
      },
      λ ready.
          and-both w f (waiting.1 ready.waiting)
          (is_free ∙ (false-is (list_any (holds_against (names_in tree)) state.transactions)).1 (sym held ∙ ready.unlocked)),
    )

pub ready-law : (state : State) (n : ℕ) (tree : Stmt) → TextsRun state → Some tree ≡ tree_in (numbered state.transactions n) → (w f : Bool)
    → (IsTrue w ↔ Of state n IsWaiting) → f ≡ is_none (first_holder (names_in tree) 1 state.transactions) → (IsTrue (w && f)) ↔ Of state n (IsReady state)
ready-law state n tree h e w f waiting free =
    ready-in state (numbered state.transactions n) tree (numbered-all state.transactions n h) e w f waiting free

blocked-in : (state : State) (holder : ℕ) (o : Option Transaction) (tree : Stmt) → IfThere o → Some tree ≡ tree_in o → (w b : Bool)
    → (IsTrue w ↔ IsSomeAnd o IsWaiting) → (IsTrue b ↔ (first_holder (names_in tree) 1 state.transactions ≡ Some holder))
    → (IsTrue (w && b)) ↔ IsSomeAnd o (BlockedFits state holder)
blocked-in state holder None tree h e w b waiting first = cc
blocked-in state holder (Some t) tree h e w b waiting first =
    let same : first_holder (locks_of t) 1 state.transactions ≡ first_holder (names_in tree) 1 state.transactions =
    ap (λ locks. first_holder locks 1 state.transactions) (own-locks t h tree e) in (
      λ x. record { waiting = waiting.0 (and-left w b x); held = same ∙ first.0 (and-right w b x) },
      λ fits. and-both w b (waiting.1 fits.waiting) (first.1 (sym same ∙ fits.held)),
    )

pub blocked-law : (state : State) (holder n : ℕ) (tree : Stmt) → TextsRun state → Some tree ≡ tree_in (numbered state.transactions n) → (w b : Bool)
    → (IsTrue w ↔ Of state n IsWaiting) → (IsTrue b ↔ (first_holder (names_in tree) 1 state.transactions ≡ Some holder))
    → (IsTrue (w && b)) ↔ Of state n (BlockedFits state holder)
blocked-law state holder n tree h e w b waiting first =
    blocked-in state holder (numbered state.transactions n) tree (numbered-all state.transactions n h) e w b waiting first
