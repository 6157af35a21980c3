-- The places of texts that are kept beside a book lead to their trees, and the write ids that are kept are those of the
-- open transactions.
use Rattle.std.proofs.Common.{◌≡◌, ℕ, zero, suc, ◌+◌, ◌<◌, ◌≤◌, Option, Some, None, List, [], ◌∷◌, ◌++◌, length, map, refl, sym, ap, ◌∙◌, subst, arith}
use Rattle.std.specs.Prelude.{option_and_then}
use Rattle.std.specs.Option.{option_map}
use Rattle.std.specs.List.{slice_get, AllByRecursion}
use Rattle.std.proofs.lemmas.List.{map-append, length-append}
use Rattle.hv_ast.specs.declared.statement.Stmt.{Stmt}
use Rattle.hv_grammar.specs.Texts.{tree_of}
use Rattle.hv_history.specs.hv_meaning.specs.hv_typing.specs.hv_logic.specs.declared.catalog.Shape.{Shape}
use Rattle.hv_history.specs.declared.entry.Entry.{Entry}
use Rattle.hv_history.specs.declared.entry.Entry.TheVariants as entry
use Rattle.hv_history.specs.declared.state.Transaction.{Transaction}
use Rattle.hv_history.specs.declared.state.Statement.{Statement}
use Rattle.hv_history.specs.declared.state.Table.{Table}
use Rattle.hv_history.specs.declared.state.Written.{Written}
use Rattle.hv_history.specs.declared.state.Ending.{Ending}
use Rattle.hv_history.specs.declared.state.Ending.TheVariants.{Aborted, Made, Dropped}
use Rattle.hv_history.specs.Book.{tree_at, tree_of_entry}
use Rattle.hv_history.specs.State.{State, numbered, changed, changed_at, while_open, unless_ended, started, given_id, committed, ended, meant_in, wrote_as, owned, dropped, forgot, written_to, tables_behind, commits, opened, made_by, made_shape, created_shape, statement_tree, opening_tree, acted, after}
use Rattle.hv_book.specs.Notes.{Notes, noted, ending}
use Rattle.hv_book.specs.Briefs.{session_of_entry, session_at, session_of, shape_at, table_shape}
use Rattle.hv_book.proofs.NoteLaws.{map-same}

-- ---- what stands at a place of a longer list

pub get-front : {A : Type 0} (xs ys : List A) (n : ℕ) → n < length xs → slice_get (xs ++ ys) n ≡ slice_get xs n
get-front [] ys n p = absurd (omega arith)
get-front (x ∷ xs) ys zero p = refl
get-front (x ∷ xs) ys (suc n) p = get-front xs ys n (omega arith)

pub get-last : {A : Type 0} (xs : List A) (x : A) → slice_get (xs ++ x ∷ []) (length xs) ≡ Some x
get-last [] x = refl
get-last (y ∷ xs) x = get-last xs x

get-map : {A B : Type 0} (f : A → B) (xs : List A) (n : ℕ) → slice_get (map f xs) n ≡ option_map f (slice_get xs n)
get-map f [] n = refl
get-map f (x ∷ xs) zero = refl
get-map f (x ∷ xs) (suc n) = get-map f xs n

pub numbered-map : {A B : Type 0} (f : A → B) (xs : List A) (n : ℕ) → numbered (map f xs) n ≡ option_map f (numbered xs n)
numbered-map f xs zero = refl
numbered-map f xs (suc n) = get-map f xs n

pub tree-front : (done more : List Entry) (p : ℕ) → p < length done → tree_at (done ++ more) p ≡ tree_at done p
tree-front done more p below = ap (option_and_then tree_of_entry) (get-front done more p below)

abbrev pub IsBelow : ℕ → Option ℕ → Type 0
IsBelow limit None = Unit {0}
IsBelow limit (Some p) = p < limit

trees-front : (done more : List Entry) (ps : List ℕ) → AllByRecursion (λ (p : ℕ). p < length done) ps
    → map (tree_at (done ++ more)) ps ≡ map (tree_at done) ps
trees-front done more [] h = refl
trees-front done more (p ∷ ps) h =
    ap (λ t. t ∷ map (tree_at (done ++ more)) ps) (tree-front done more p h.0) ∙ ap (λ ts. tree_at done p ∷ ts) (trees-front done more ps h.1)

session-front : (done more : List Entry) (p : ℕ) → p < length done → session_at (done ++ more) p ≡ session_at done p
session-front done more p below = ap (option_and_then session_of_entry) (get-front done more p below)

sessions-front : (done more : List Entry) (ps : List ℕ) → AllByRecursion (λ (p : ℕ). p < length done) ps
    → map (session_at (done ++ more)) ps ≡ map (session_at done) ps
sessions-front done more [] h = refl
sessions-front done more (p ∷ ps) h =
    ap (λ t. t ∷ map (session_at (done ++ more)) ps) (session-front done more p h.0) ∙ ap (λ ts. session_at done p ∷ ts) (sessions-front done more ps h.1)

shape-front : (done more : List Entry) (o : Option ℕ) → IsBelow (length done) o → shape_at (done ++ more) o ≡ shape_at done o
shape-front done more None h = refl
shape-front done more (Some p) h = ap created_shape (tree-front done more p h)

shapes-front : (done more : List Entry) (os : List (Option ℕ)) → AllByRecursion (IsBelow (length done)) os
    → map (shape_at (done ++ more)) os ≡ map (shape_at done) os
shapes-front done more [] h = refl
shapes-front done more (o ∷ os) h =
    ap (λ t. t ∷ map (shape_at (done ++ more)) os) (shape-front done more o h.0) ∙ ap (λ ts. shape_at done o ∷ ts) (shapes-front done more os h.1)

pub all-below : (ps : List ℕ) (a b : ℕ) → a ≤ b → AllByRecursion (λ (p : ℕ). p < a) ps → AllByRecursion (λ (p : ℕ). p < b) ps
all-below [] a b le h = tt
all-below (p ∷ ps) a b le h = let first : p < a = h.0 in (omega (arith, first, le), all-below ps a b le h.1)

pub all-snoc : {A : Type 0} (P : A → Type 0) (xs : List A) (x : A) → AllByRecursion P xs → P x → AllByRecursion P (xs ++ x ∷ [])
all-snoc P [] x h p = (p, tt)
all-snoc P (y ∷ xs) x h p = (h.0, all-snoc P xs x h.1 p)

is-below : (o : Option ℕ) (a b : ℕ) → a ≤ b → IsBelow a o → IsBelow b o
is-below None a b le h = tt
is-below (Some p) a b le h = omega (arith, h, le)

all-is-below : (os : List (Option ℕ)) (a b : ℕ) → a ≤ b → AllByRecursion (IsBelow a) os → AllByRecursion (IsBelow b) os
all-is-below [] a b le h = tt
all-is-below (o ∷ os) a b le h = (is-below o a b le h.0, all-is-below os a b le h.1)

get-below : (ps : List ℕ) (limit n : ℕ) → AllByRecursion (λ (p : ℕ). p < limit) ps → IsBelow limit (slice_get ps n)
get-below [] limit n h = tt
get-below (p ∷ ps) limit zero h = h.0
get-below (p ∷ ps) limit (suc n) h = get-below ps limit n h.1

numbered-below : (ps : List ℕ) (limit n : ℕ) → AllByRecursion (λ (p : ℕ). p < limit) ps → IsBelow limit (numbered ps n)
numbered-below ps limit zero h = tt
numbered-below ps limit (suc n) h = get-below ps limit n h

-- ---- the text that opened a transaction stays

tree-same : (f : Statement → Statement) → ((s : Statement) → (f s).text ≡ s.text) → (ss : List Statement) (n k : ℕ)
    → statement_tree (slice_get (changed_at f ss n) k) ≡ statement_tree (slice_get ss k)
tree-same f same [] n k = refl
tree-same f same (s ∷ ss) zero zero = ap (λ text. tree_of text) (same s)
tree-same f same (s ∷ ss) zero (suc k) = refl
tree-same f same (s ∷ ss) (suc n) zero = refl
tree-same f same (s ∷ ss) (suc n) (suc k) = tree-same f same ss n k

pub while-same : {B : Type 0} (h : Transaction → B) (f : Transaction → Transaction) → ((t : Transaction) → h (f t) ≡ h t)
    → (t : Transaction) → h (while_open f t) ≡ h t
while-same h f same t = by t.ending
  where
    by : (e : Option Ending) → h (unless_ended e t (f t)) ≡ h t
    by None = same t
    by (Some e) = refl

trees-same : (state : State) (event : Entry) → (trees : List (Option Stmt)) → trees ≡ map opening_tree state.transactions
    → ((txn : _) (session : _) (number : _) (text : _) → event ≡ entry.Opened txn session number text → ⊥)
    → trees ≡ map opening_tree (after state event).transactions
unfolding acted
trees-same state (entry.Boot run) trees h other = h
trees-same state (entry.Opened txn session number text) trees h other = absurd (other txn session number text refl)
trees-same state (entry.Start txn statement) trees h other =
    h ∙ sym (map-same opening_tree (while_open (started state statement)) (while-same opening_tree (started state statement) (λ (t : Transaction). tree-same (meant_in state) (λ s. refl) t.statements statement 0)) state.transactions txn.0)
trees-same state (entry.Given txn table write) trees h other =
    h ∙ sym (map-same opening_tree (while_open (given_id table.0 write.0)) (while-same opening_tree (given_id table.0 write.0) (λ t. refl)) state.transactions txn.0)
trees-same state (entry.Commit txn wrote) trees h other =
    h ∙ sym (map-same opening_tree (while_open (committed state.entries wrote)) (while-same opening_tree (committed state.entries wrote) (λ (t : Transaction). tree-same (wrote_as t.given 0) (λ s. refl) t.statements 0 0)) state.transactions txn.0)
trees-same state (entry.Abort txn cause) trees h other =
    h ∙ sym (map-same opening_tree (while_open (ended (Aborted state.entries cause))) (while-same opening_tree (ended (Aborted state.entries cause)) (λ t. refl)) state.transactions txn.0)
trees-same state (entry.Create txn table) trees h other =
    h ∙ sym (map-same opening_tree (while_open (ended (Made state.entries table.0))) (while-same opening_tree (ended (Made state.entries table.0)) (λ t. refl)) state.transactions txn.0)
trees-same state (entry.Drop txn table) trees h other =
    h ∙ sym (map-same opening_tree (while_open (ended (Dropped state.entries table.0))) (while-same opening_tree (ended (Dropped state.entries table.0)) (λ t. refl)) state.transactions txn.0)
trees-same state (entry.Asked job table partition kind by) trees h other = h
trees-same state (entry.Picked job watermark) trees h other = h
trees-same state (entry.Published job low high mark) trees h other = h
trees-same state (entry.Empty job) trees h other = h
trees-same state (entry.Cleaned job) trees h other = h
trees-same state (entry.Next txn statement number text) trees h other = h
trees-same state (entry.Did txn statement wrote) trees h other = h
trees-same state (entry.Alter txn table) trees h other = h
trees-same state (entry.Failed job cause) trees h other = h
trees-same state (entry.Forgot table write) trees h other = h

-- ---- the session of a transaction stays

sessions-one : (f : Transaction → Transaction) → ((t : Transaction) → (f t).session ≡ t.session) → (sessions : List (Option (List ℕ)))
    → (ts : List Transaction) (txn : ℕ) → sessions ≡ map session_of ts → sessions ≡ map session_of (changed (while_open f) ts txn)
sessions-one f same sessions ts txn h =
    h ∙ sym (map-same session_of (while_open f) (while-same session_of f (λ (t : Transaction). ap (λ (s : List ℕ). Some s) (same t))) ts txn)

sessions-same : (state : State) (event : Entry) → (sessions : List (Option (List ℕ))) → sessions ≡ map session_of state.transactions
    → ((txn : _) (session : _) (number : _) (text : _) → event ≡ entry.Opened txn session number text → ⊥)
    → sessions ≡ map session_of (after state event).transactions
unfolding acted
sessions-same state (entry.Boot run) sessions h other = h
sessions-same state (entry.Opened txn session number text) sessions h other = absurd (other txn session number text refl)
sessions-same state (entry.Start txn statement) sessions h other = sessions-one (started state statement) (λ t. refl) sessions state.transactions txn.0 h
sessions-same state (entry.Given txn table write) sessions h other = sessions-one (given_id table.0 write.0) (λ t. refl) sessions state.transactions txn.0 h
sessions-same state (entry.Commit txn wrote) sessions h other = sessions-one (committed state.entries wrote) (λ t. refl) sessions state.transactions txn.0 h
sessions-same state (entry.Abort txn cause) sessions h other =
    sessions-one (ended (Aborted state.entries cause)) (λ t. refl) sessions state.transactions txn.0 h
sessions-same state (entry.Create txn table) sessions h other =
    sessions-one (ended (Made state.entries table.0)) (λ t. refl) sessions state.transactions txn.0 h
sessions-same state (entry.Drop txn table) sessions h other =
    sessions-one (ended (Dropped state.entries table.0)) (λ t. refl) sessions state.transactions txn.0 h
sessions-same state (entry.Asked job table partition kind by) sessions h other = h
sessions-same state (entry.Picked job watermark) sessions h other = h
sessions-same state (entry.Published job low high mark) sessions h other = h
sessions-same state (entry.Empty job) sessions h other = h
sessions-same state (entry.Cleaned job) sessions h other = h
sessions-same state (entry.Next txn statement number text) sessions h other = h
sessions-same state (entry.Did txn statement wrote) sessions h other = h
sessions-same state (entry.Alter txn table) sessions h other = h
sessions-same state (entry.Failed job cause) sessions h other = h
sessions-same state (entry.Forgot table write) sessions h other = h

-- ---- the shape of a table stays

shapes-behind : (ws : List (ℕ × Written)) (ts : List Table) → map table_shape (tables_behind ws ts) ≡ map table_shape ts
shapes-behind [] ts = refl
shapes-behind (w ∷ ws) ts = shapes-behind ws (changed (written_to w.1) ts w.0) ∙ map-same table_shape (written_to w.1) (λ t. refl) ts w.0

shapes-same : (state : State) (event : Entry) → (shapes : List Shape) → shapes ≡ map table_shape state.tables
    → ((txn : _) (table : _) → event ≡ entry.Create txn table → ⊥)
    → shapes ≡ map table_shape (after state event).tables
unfolding acted
shapes-same state (entry.Boot run) shapes h other = h
shapes-same state (entry.Opened txn session number text) shapes h other = h
shapes-same state (entry.Start txn statement) shapes h other = h
shapes-same state (entry.Given txn table write) shapes h other = h ∙ sym (map-same table_shape (owned txn.0) (λ t. refl) state.tables table.0)
shapes-same state (entry.Commit txn wrote) shapes h other = h ∙ sym (shapes-behind (commits (numbered state.transactions txn.0)) state.tables)
shapes-same state (entry.Abort txn cause) shapes h other = h
shapes-same state (entry.Create txn table) shapes h other = absurd (other txn table refl)
shapes-same state (entry.Drop txn table) shapes h other = h ∙ sym (map-same table_shape dropped (λ t. refl) state.tables table.0)
shapes-same state (entry.Asked job table partition kind by) shapes h other = h
shapes-same state (entry.Picked job watermark) shapes h other = h
shapes-same state (entry.Published job low high mark) shapes h other = h
shapes-same state (entry.Empty job) shapes h other = h
shapes-same state (entry.Cleaned job) shapes h other = h
shapes-same state (entry.Next txn statement number text) shapes h other = h
shapes-same state (entry.Did txn statement wrote) shapes h other = h
shapes-same state (entry.Alter txn table) shapes h other = h
shapes-same state (entry.Failed job cause) shapes h other = h
shapes-same state (entry.Forgot table write) shapes h other = h ∙ sym (map-same table_shape (forgot write.0) (λ t. refl) state.tables table.0)

-- ---- the places of texts

pub record IsSourced (done : List Entry) (state : State) (notes : Notes) : Type 0 where
  pub trees : map (tree_at done) notes.opened ≡ map opening_tree state.transactions
  pub sessions : map (session_at done) notes.opened ≡ map session_of state.transactions
  pub below : AllByRecursion (λ (p : ℕ). p < length done) notes.opened
  pub shapes : map (shape_at done) notes.texts ≡ map table_shape state.tables
  pub texts : AllByRecursion (IsBelow (length done)) notes.texts

tree-made : (done : List Entry) (o : Option ℕ) (t : Option Transaction) → option_map (tree_at done) o ≡ option_map opening_tree t
    → shape_at done o ≡ made_shape t
tree-made done None None h = refl
tree-made done None (Some t) h = cc
tree-made done (Some p) None h = cc
tree-made done (Some p) (Some t) h = let same : tree_at done p ≡ opening_tree t = cc in ap created_shape same

source-made : (done : List Entry) (state : State) (notes : Notes) → map (tree_at done) notes.opened ≡ map opening_tree state.transactions
    → (txn : ℕ) → shape_at done (numbered notes.opened txn) ≡ made_shape (numbered state.transactions txn)
source-made done state notes h txn =
    tree-made done (numbered notes.opened txn) (numbered state.transactions txn)
    (sym (numbered-map (tree_at done) notes.opened txn) ∙ ap (λ ts. numbered ts txn) h ∙ numbered-map opening_tree state.transactions txn)

pub length-snoc : (done : List Entry) (event : Entry) → length (done ++ event ∷ []) ≡ length done + 1
length-snoc done event = length-append done (event ∷ [])

-- an entry that neither opens a transaction nor makes a table
sourced-other : (done : List Entry) (state : State) (notes : Notes) (event : Entry) (next : Notes) → IsSourced done state notes
    → next.opened ≡ notes.opened → next.texts ≡ notes.texts
    → ((txn : _) (session : _) (number : _) (text : _) → event ≡ entry.Opened txn session number text → ⊥)
    → ((txn : _) (table : _) → event ≡ entry.Create txn table → ⊥)
    → IsSourced (done ++ event ∷ []) (after state event) next
sourced-other done state notes event next h same_opened same_texts unopened unmade =
    let more = length-snoc done event in
    record {
      trees =
          ap (map (tree_at (done ++ event ∷ []))) same_opened ∙ trees-front done (event ∷ []) notes.opened h.below
          ∙ trees-same state event (map (tree_at done) notes.opened) h.trees unopened;
      sessions =
          ap (map (session_at (done ++ event ∷ []))) same_opened ∙ sessions-front done (event ∷ []) notes.opened h.below
          ∙ sessions-same state event (map (session_at done) notes.opened) h.sessions unopened;
      below = subst (AllByRecursion (λ (p : ℕ). p < length (done ++ event ∷ []))) (sym same_opened)
          (all-below notes.opened (length done) (length (done ++ event ∷ [])) (omega (arith, more)) h.below);
      shapes =
          ap (map (shape_at (done ++ event ∷ []))) same_texts ∙ shapes-front done (event ∷ []) notes.texts h.texts
          ∙ shapes-same state event (map (shape_at done) notes.texts) h.shapes unmade;
      texts = subst (AllByRecursion (IsBelow (length (done ++ event ∷ [])))) (sym same_texts)
          (all-is-below notes.texts (length done) (length (done ++ event ∷ [])) (omega (arith, more)) h.texts);
    }

sourced-opened : (done : List Entry) (state : State) (notes : Notes) (txn : _) (session : _) (number : _) (text : _) → IsSourced done state notes
    → IsSourced (done ++ entry.Opened txn session number text ∷ []) (after state (entry.Opened txn session number text)) (noted (length done) (entry.Opened txn session number text) notes)
unfolding acted
sourced-opened done state notes txn session number text h =
    let event = entry.Opened txn session number text in
    let more = length-snoc done event in
    let last : tree_at (done ++ event ∷ []) (length done) ≡ tree_of text = ap (option_and_then tree_of_entry) (get-last done event) in
    record {
      trees =
          map-append (tree_at (done ++ event ∷ [])) notes.opened (length done ∷ [])
          ∙ ap (λ ts. ts ++ tree_at (done ++ event ∷ []) (length done) ∷ []) (trees-front done (event ∷ []) notes.opened h.below ∙ h.trees)
          ∙ ap (λ t. map opening_tree state.transactions ++ t ∷ []) last
          ∙ sym (map-append opening_tree state.transactions (opened session number text ∷ []));
      sessions =
          map-append (session_at (done ++ event ∷ [])) notes.opened (length done ∷ [])
          ∙ ap (λ ts. ts ++ session_at (done ++ event ∷ []) (length done) ∷ []) (sessions-front done (event ∷ []) notes.opened h.below ∙ h.sessions)
          ∙ ap (λ t. map session_of state.transactions ++ t ∷ []) (ap (option_and_then session_of_entry) (get-last done event))
          ∙ sym (map-append session_of state.transactions (opened session number text ∷ []));
      below = all-snoc (λ (p : ℕ). p < length (done ++ event ∷ [])) notes.opened (length done)
          (all-below notes.opened (length done) (length (done ++ event ∷ [])) (omega (arith, more)) h.below) (omega (arith, more));
      shapes = shapes-front done (event ∷ []) notes.texts h.texts ∙ h.shapes;
      texts = all-is-below notes.texts (length done) (length (done ++ event ∷ [])) (omega (arith, more)) h.texts;
    }

sourced-create : (done : List Entry) (state : State) (notes : Notes) (txn : _) (table : _) → IsSourced done state notes
    → IsSourced (done ++ entry.Create txn table ∷ []) (after state (entry.Create txn table)) (noted (length done) (entry.Create txn table) notes)
unfolding acted ending
sourced-create done state notes txn table h =
    let event = entry.Create txn table in
    let more = length-snoc done event in
    let made : shape_at (done ++ event ∷ []) (numbered notes.opened txn.0) ≡ made_shape (numbered state.transactions txn.0) =
    shape-front done (event ∷ []) (numbered notes.opened txn.0) (numbered-below notes.opened (length done) txn.0 h.below) ∙ source-made done state notes h.trees txn.0 in
    record {
      trees = trees-front done (event ∷ []) notes.opened h.below
          ∙ trees-same state event (map (tree_at done) notes.opened) h.trees (λ a b c d e. cc);
      sessions = sessions-front done (event ∷ []) notes.opened h.below
          ∙ sessions-same state event (map (session_at done) notes.opened) h.sessions (λ a b c d e. cc);
      below = all-below notes.opened (length done) (length (done ++ event ∷ [])) (omega (arith, more)) h.below;
      shapes =
          map-append (shape_at (done ++ event ∷ [])) notes.texts (numbered notes.opened txn.0 ∷ [])
          ∙ ap (λ ts. ts ++ shape_at (done ++ event ∷ []) (numbered notes.opened txn.0) ∷ []) (shapes-front done (event ∷ []) notes.texts h.texts ∙ h.shapes)
          ∙ ap (λ t. map table_shape state.tables ++ t ∷ []) made
          ∙ sym (map-append table_shape state.tables (made_by table.0 (numbered state.transactions txn.0) ∷ []));
      texts = all-snoc (IsBelow (length (done ++ event ∷ []))) notes.texts (numbered notes.opened txn.0)
          (all-is-below notes.texts (length done) (length (done ++ event ∷ [])) (omega (arith, more)) h.texts)
          (is-below (numbered notes.opened txn.0) (length done) (length (done ++ event ∷ [])) (omega (arith, more)) (numbered-below notes.opened (length done) txn.0 h.below));
    }

pub sourced-next : (done : List Entry) (state : State) (notes : Notes) (event : Entry) → IsSourced done state notes
    → IsSourced (done ++ event ∷ []) (after state event) (noted (length done) event notes)
unfolding ending
sourced-next done state notes (entry.Opened txn session number text) h = sourced-opened done state notes txn session number text h
sourced-next done state notes (entry.Create txn table) h = sourced-create done state notes txn table h
sourced-next done state notes (entry.Boot run) h = sourced-other done state notes (entry.Boot run) _ h refl refl (λ a b c d e. cc) (λ a b e. cc)
sourced-next done state notes (entry.Start txn statement) h = sourced-other done state notes (entry.Start txn statement) _ h refl refl (λ a b c d e. cc) (λ a b e. cc)
sourced-next done state notes (entry.Given txn table write) h = sourced-other done state notes (entry.Given txn table write) _ h refl refl (λ a b c d e. cc) (λ a b e. cc)
sourced-next done state notes (entry.Commit txn wrote) h = sourced-other done state notes (entry.Commit txn wrote) _ h refl refl (λ a b c d e. cc) (λ a b e. cc)
sourced-next done state notes (entry.Abort txn cause) h = sourced-other done state notes (entry.Abort txn cause) _ h refl refl (λ a b c d e. cc) (λ a b e. cc)
sourced-next done state notes (entry.Drop txn table) h = sourced-other done state notes (entry.Drop txn table) _ h refl refl (λ a b c d e. cc) (λ a b e. cc)
sourced-next done state notes (entry.Asked job table partition kind by) h = sourced-other done state notes (entry.Asked job table partition kind by) _ h refl refl (λ a b c d e. cc) (λ a b e. cc)
sourced-next done state notes (entry.Picked job watermark) h = sourced-other done state notes (entry.Picked job watermark) _ h refl refl (λ a b c d e. cc) (λ a b e. cc)
sourced-next done state notes (entry.Published job low high mark) h = sourced-other done state notes (entry.Published job low high mark) _ h refl refl (λ a b c d e. cc) (λ a b e. cc)
sourced-next done state notes (entry.Empty job) h = sourced-other done state notes (entry.Empty job) _ h refl refl (λ a b c d e. cc) (λ a b e. cc)
sourced-next done state notes (entry.Cleaned job) h = sourced-other done state notes (entry.Cleaned job) _ h refl refl (λ a b c d e. cc) (λ a b e. cc)
sourced-next done state notes (entry.Next txn statement number text) h = sourced-other done state notes (entry.Next txn statement number text) _ h refl refl (λ a b c d e. cc) (λ a b e. cc)
sourced-next done state notes (entry.Did txn statement wrote) h = sourced-other done state notes (entry.Did txn statement wrote) _ h refl refl (λ a b c d e. cc) (λ a b e. cc)
sourced-next done state notes (entry.Alter txn table) h = sourced-other done state notes (entry.Alter txn table) _ h refl refl (λ a b c d e. cc) (λ a b e. cc)
sourced-next done state notes (entry.Failed job cause) h = sourced-other done state notes (entry.Failed job cause) _ h refl refl (λ a b c d e. cc) (λ a b e. cc)
sourced-next done state notes (entry.Forgot table write) h = sourced-other done state notes (entry.Forgot table write) _ h refl refl (λ a b c d e. cc) (λ a b e. cc)
