-- Locks of texts: conflicts, and the lock that a CREATE TABLE and a DROP TABLE have of their name.
use Rattle.std.proofs.Common.{◌≡◌, ℕ, zero, suc, ◌&&◌, ◌||◌, Bool, true, false, Option, Some, None, List, [], ◌∷◌, ◌++◌, refl, sym, ap, ◌∙◌, subst}
use Rattle.std.specs.Prelude.{IsTrue, IsFalse, slice_get}
use Rattle.std.specs.List.{flat_map, list_any, AllByRecursion}
use Rattle.std.specs.Str.{bytes_eq}
use Rattle.std.proofs.lemmas.Slice.Eq.{bytes_eq-Decides}
use Rattle.hv_ast.specs.declared.statement.Stmt.{Stmt}
use Rattle.hv_ast.specs.declared.statement.Stmt.TheVariants as stmt
use Rattle.hv_grammar.specs.Texts.{tree_of}
use Rattle.hv_locks.specs.declared.table.Lock.{Lock}
use Rattle.hv_locks.specs.Locking.{conflict}
use Rattle.hv_logic.specs.Names.{exclusive}
use Rattle.hv_history.specs.declared.state.Statement.{Statement}
use Rattle.hv_history.specs.declared.state.Table.{Table}
use Rattle.hv_history.specs.declared.state.Transaction.{Transaction}
use Rattle.hv_history.specs.State.{statement_tree, opening_tree, created_shape, changed_at}
use Rattle.hv_history.specs.Legal.{locks_of_tree, locks_of, locks_conflict, conflicts_with_any, is_create, made_name, is_drop, dropped_name, is_named}
use Rattle.hv_law_locks.specs.Locked.{IsApart, AreApart}

-- ---- tests

pub neither : (a b : Bool) → (a || b) ≡ false → (a ≡ false) × (b ≡ false)
neither true b e = cc
neither false b e = (refl, e)

pub first-false : (a : Bool) → (a && true) ≡ false → a ≡ false
first-false true e = cc
first-false false e = refl

pub both : (a b : Bool) → (a && b) ≡ true → (a ≡ true) × (b ≡ true)
both true b e = (refl, e)
both false b e = cc

pub second-false : (a b : Bool) → b ≡ false → (a && b) ≡ false
second-false true b e = e
second-false false b e = refl

-- ---- names are equal where their test says so

pub same-name : (a b : List ℕ) → bytes_eq a b ≡ true → a ≡ b
same-name a b = (bytes_eq-Decides a b).0

other-way : (a b : List ℕ) (r : Bool) → bytes_eq b a ≡ r → bytes_eq a b ≡ false → r ≡ false
other-way a b false is e = refl
other-way a b true is e =
    let same : b ≡ a = same-name b a is in
    let turned : bytes_eq a b ≡ true = (bytes_eq-Decides a b).1 (sym same) in
    let wrong : true ≡ false = sym turned ∙ e in
    cc

pub other-name : (a b : List ℕ) → bytes_eq a b ≡ false → bytes_eq b a ≡ false
other-name a b e = other-way a b (bytes_eq b a) refl e

-- ---- locks

conflict-names : (a b : List ℕ) (x y : Bool) → (bytes_eq a b && (x || y)) ≡ false → (bytes_eq b a && (y || x)) ≡ false
conflict-names a b true y e = ap (λ (r : Bool). r && (y || true)) (other-name a b (first-false (bytes_eq a b) e))
conflict-names a b false true e = ap (λ (r : Bool). r && true) (other-name a b (first-false (bytes_eq a b) e))
conflict-names a b false false e = second-false (bytes_eq b a) false refl

pub conflict-turned : (a b : Lock) → conflict a b ≡ false → conflict b a ≡ false
conflict-turned a b e = conflict-names a.name b.name a.exclusive b.exclusive e

none-any : {X : Type 0} (p : X → Bool) (xs : List X) → list_any p xs ≡ false → AllByRecursion (λ (x : X). p x ≡ false) xs
none-any p [] e = tt
none-any p (x ∷ xs) e = let parts = neither (p x) (list_any p xs) e in (parts.0, none-any p xs parts.1)

-- where the test of two lock sets says no, they are apart
pub apart-by : (these those : List Lock) → locks_conflict these those ≡ false → AreApart these those
apart-by [] those e = tt
apart-by (lock ∷ these) those e =
    let parts = neither (conflicts_with_any those lock) (locks_conflict these those) e in
    (none-any (conflict lock) those parts.0, apart-by these those parts.1)

one-turned : (lock : Lock) (those : List Lock) → IsApart those lock → AllByRecursion (λ (other : Lock). conflict other lock ≡ false) those
one-turned lock [] h = tt
one-turned lock (other ∷ those) h = (conflict-turned lock other h.0, one-turned lock those h.1)

beside : (lock : Lock) (these those : List Lock) → AllByRecursion (λ (other : Lock). conflict other lock ≡ false) those → AreApart those these → AreApart those (lock ∷ these)
beside lock these [] h k = tt
beside lock these (other ∷ those) h k = ((h.0, k.0), beside lock these those h.1 k.1)

apart-none : (those : List Lock) → AreApart those []
apart-none [] = tt
apart-none (other ∷ those) = (tt, apart-none those)

pub apart-turned : (these those : List Lock) → AreApart these those → AreApart those these
apart-turned [] those h = apart-none those
apart-turned (lock ∷ these) those h = beside lock these those (one-turned lock those h.0) (apart-turned these those h.1)

-- ---- the locks of statements are those of their texts

pub locks-kept : (f : Statement → Statement) → ((s : Statement) → (f s).text ≡ s.text) → (xs : List Statement) (n : ℕ)
    → flat_map (λ (statement : Statement). locks_of_tree (tree_of statement.text)) (changed_at f xs n)
    ≡ flat_map (λ (statement : Statement). locks_of_tree (tree_of statement.text)) xs
locks-kept f same [] n = refl
locks-kept f same (x ∷ xs) zero =
    ap (λ (text : List ℕ). locks_of_tree (tree_of text) ++ flat_map (λ (statement : Statement). locks_of_tree (tree_of statement.text)) xs) (same x)
locks-kept f same (x ∷ xs) (suc n) = ap (λ (locks : List Lock). locks_of_tree (tree_of x.text) ++ locks) (locks-kept f same xs n)

-- ---- a statement that makes or drops a table has its name alone

module _ (Q : Lock → Type 0) where
  first-made : (tree : Option Stmt) (rest : List Lock) → is_create tree ≡ true → AllByRecursion Q (locks_of_tree tree ++ rest) → Q (exclusive (made_name tree))
  first-made None rest e h = cc
  first-made (Some (stmt.CreateTable create)) rest e h = h.0
  first-made (Some other) rest e h = cc

  made-in : (xs : List Statement) → is_create (statement_tree (slice_get xs 0)) ≡ true
      → AllByRecursion Q (flat_map (λ (statement : Statement). locks_of_tree (tree_of statement.text)) xs) → Q (exclusive (made_name (statement_tree (slice_get xs 0))))
  made-in [] e h = cc
  made-in (x ∷ xs) e h = first-made (tree_of x.text) _ e h

  pub made-lock : (t : Transaction) → is_create (opening_tree t) ≡ true → AllByRecursion Q (locks_of t) → Q (exclusive (made_name (opening_tree t)))
  made-lock t e h = made-in t.statements e h

  first-dropped : (tree : Option Stmt) (rest : List Lock) → is_drop tree ≡ true → AllByRecursion Q (locks_of_tree tree ++ rest) → Q (exclusive (dropped_name tree))
  first-dropped None rest e h = cc
  first-dropped (Some (stmt.DropTable drop)) rest e h = h.0
  first-dropped (Some other) rest e h = cc

  dropped-in : (xs : List Statement) → is_drop (statement_tree (slice_get xs 0)) ≡ true
      → AllByRecursion Q (flat_map (λ (statement : Statement). locks_of_tree (tree_of statement.text)) xs) → Q (exclusive (dropped_name (statement_tree (slice_get xs 0))))
  dropped-in [] e h = cc
  dropped-in (x ∷ xs) e h = first-dropped (tree_of x.text) _ e h

  pub dropped-lock : (t : Transaction) → is_drop (opening_tree t) ≡ true → AllByRecursion Q (locks_of t) → Q (exclusive (dropped_name (opening_tree t)))
  dropped-lock t e h = dropped-in t.statements e h

-- the table of a CREATE TABLE has its name
pub shape-name : (tree : Option Stmt) → is_create tree ≡ true → (created_shape tree).name ≡ made_name tree
shape-name None e = cc
shape-name (Some (stmt.CreateTable create)) e = refl
shape-name (Some other) e = cc
