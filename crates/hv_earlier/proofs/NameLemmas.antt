-- A table found by its name among live ones.
use Rattle.std.proofs.Common.{◌≡◌, ℕ, nat_eq, Bool, true, false, cond, Option, Some, None, Result, Ok, Err, List, [], ◌∷◌, ◌++◌, take, refl, sym, ap, ◌∙◌}
use Rattle.std.specs.Prelude.{is_some, IsSomeAnd, IfOk}
use Rattle.std.specs.Option.{option_map, option_to_list}
use Rattle.std.specs.Cmp.Lexicographic.{pointwise}
use Rattle.hv_ast.specs.declared.statement.Stmt.{Stmt}
use Rattle.hv_logic.specs.declared.catalog.Shape.{Shape}
use Rattle.hv_logic.specs.declared.catalog.TableInfo.{TableInfo}
use Rattle.hv_meta.specs.hv_book.specs.hv_history.specs.declared.entry.Entry.{Entry}
use Rattle.hv_meta.specs.hv_book.specs.hv_history.specs.declared.state.Table.{Table}
use Rattle.hv_meta.specs.hv_book.specs.hv_history.specs.State.{numbered, state_of, created_shape}
use Rattle.hv_meta.specs.hv_book.specs.hv_history.specs.Lasting.{TableLater}
use Rattle.hv_meta.specs.hv_book.specs.Past.{table_live}
use Rattle.hv_meta.specs.hv_book.specs.Names.{name_in}
use Rattle.hv_meta.specs.Catalogs.{info_if, info_in}
use Rattle.hv_earlier.specs.Lists.{info_of_name}
use Rattle.hv_earlier.specs.Places.{live_so}
use Rattle.hv_earlier.proofs.CatalogLemmas.{table-later}

module _ (name : List ℕ) where
  -- one of the first ones has it
  pub named-first : (xs ys : List TableInfo) → is_some (info_of_name name xs) ≡ true → info_of_name name (xs ++ ys) ≡ info_of_name name xs
  named-first [] ys some = cc
  named-first (x ∷ xs) ys some = by (pointwise nat_eq x.shape.name name) some (named-first xs ys)
    where
      by : (b : Bool) → is_some (cond b (Some x) (info_of_name name xs)) ≡ true
          → (is_some (info_of_name name xs) ≡ true → info_of_name name (xs ++ ys) ≡ info_of_name name xs)
          → cond b (Some x) (info_of_name name (xs ++ ys)) ≡ cond b (Some x) (info_of_name name xs)
      by true some rest = refl
      by false some rest = rest some

  -- none of the first ones has it
  pub named-later : (xs ys : List TableInfo) → is_some (info_of_name name xs) ≡ false → info_of_name name (xs ++ ys) ≡ info_of_name name ys
  named-later [] ys none = refl
  named-later (x ∷ xs) ys none = by (pointwise nat_eq x.shape.name name) none (named-later xs ys)
    where
      by : (b : Bool) → is_some (cond b (Some x) (info_of_name name xs)) ≡ false
          → (is_some (info_of_name name xs) ≡ false → info_of_name name (xs ++ ys) ≡ info_of_name name ys)
          → cond b (Some x) (info_of_name name (xs ++ ys)) ≡ info_of_name name ys
      by true none rest = cc
      by false none rest = rest none

  -- the one that there is has it
  named-one : (found : Option TableInfo) → is_some (info_of_name name (option_to_list found)) ≡ true → found ≡ info_of_name name (option_to_list found)
  named-one None some = cc
  named-one (Some x) some = by (pointwise nat_eq x.shape.name name) some
    where
      by : (b : Bool) → is_some (cond b (Some x) None) ≡ true → Some x ≡ cond b (Some x) None
      by true some = refl
      by false some = cc

  named-at : (found : Option TableInfo) (xs : List TableInfo) → option_to_list found ≡ xs → is_some (info_of_name name xs) ≡ true → found ≡ info_of_name name xs
  named-at found xs is some =
      named-one found (ap (λ ys. is_some (info_of_name name ys)) is ∙ some) ∙ ap (info_of_name name) is

  -- it is found among all, where none of the ones before has it
  pub found-here : {E : Type 0} (r : Result (Option TableInfo) E) (one rest all : List TableInfo) → is_some (info_of_name name one) ≡ true
      → info_of_name name (one ++ rest) ≡ info_of_name name all → IfOk r (λ found. option_to_list found ≡ one) → IfOk r (λ found. found ≡ info_of_name name all)
  found-here (Ok found) one rest all some same is = named-at found one is some ∙ sym (named-first one rest some) ∙ same
  found-here (Err e) one rest all some same is = tt

  is-named : (x : TableInfo) → is_some (info_of_name name (x ∷ [])) ≡ pointwise nat_eq x.shape.name name
  is-named x = by (pointwise nat_eq x.shape.name name)
    where
      by : (b : Bool) → is_some (cond b (Some x) None) ≡ b
      by true = refl
      by false = refl

  shape-as : (t : Table) (now : Option Table) (tree : Option Stmt) → IsSomeAnd now (TableLater t)
      → ((u : Table) → now ≡ Some u → u.info.shape ≡ created_shape tree) → t.info.shape ≡ created_shape tree
  shape-as t None tree later told = absurd later
  shape-as t (Some u) tree later told = ap (λ (info : TableInfo). info.shape) (sym later.info) ∙ told u refl

  -- a table that was live has the name that its text says
  pub live-named : (entries : List Entry) (position n : ℕ) (tree : Option Stmt) → live_so (option_map table_live (numbered (state_of (take position entries)).tables n)) ≡ true
      → ((u : Table) → numbered (state_of entries).tables n ≡ Some u → u.info.shape ≡ created_shape tree)
      → is_some (info_of_name name (info_in (numbered (state_of (take position entries)).tables n))) ≡ pointwise nat_eq (created_shape tree).name name
  live-named entries position n tree live told = by (numbered (state_of (take position entries)).tables n) refl live
    where
      by : (o : Option Table) → numbered (state_of (take position entries)).tables n ≡ o → live_so (option_map table_live o) ≡ true
          → is_some (info_of_name name (info_in o)) ≡ pointwise nat_eq (created_shape tree).name name
      by None is lives = cc
      by (Some t) is lives =
          ap (λ b. is_some (info_of_name name (info_if b t.info))) lives ∙ is-named t.info
          ∙ ap (λ (shape : Shape). pointwise nat_eq shape.name name) (shape-as t (numbered (state_of entries).tables n) tree (table-later entries position n t is) told)

-- ---- the name of a table, live or dropped

name-later : (t : Table) (now : Option Table) (tree : Option Stmt) → IsSomeAnd now (TableLater t)
    → ((u : Table) → now ≡ Some u → u.info.shape ≡ created_shape tree) → (created_shape tree).name ≡ t.info.shape.name
name-later t None tree later told = absurd later
name-later t (Some u) tree later told =
    ap (λ (shape : Shape). shape.name) (sym (told u refl)) ∙ ap (λ (info : TableInfo). info.shape.name) later.info

pub name-there : (entries : List Entry) (position n : ℕ) (live : Bool) (tree : Option Stmt)
    → Some live ≡ option_map table_live (numbered (state_of (take position entries)).tables n)
    → ((u : Table) → numbered (state_of entries).tables n ≡ Some u → u.info.shape ≡ created_shape tree)
    → (created_shape tree).name ≡ name_in (numbered (state_of (take position entries)).tables n)
name-there entries position n live tree there told = by (numbered (state_of (take position entries)).tables n) refl there
  where
    by : (o : Option Table) → numbered (state_of (take position entries)).tables n ≡ o → Some live ≡ option_map table_live o
        → (created_shape tree).name ≡ name_in o
    by None is there = cc
    by (Some t) is there = name-later t (numbered (state_of entries).tables n) tree (table-later entries position n t is) told

pub name-missing : (o : Option Table) → None ≡ option_map table_live o → [] ≡ name_in o
name-missing None none = refl
name-missing (Some t) none = cc
