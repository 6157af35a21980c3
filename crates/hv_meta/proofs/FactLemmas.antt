-- What a note says is what the transaction says.
use Rattle.std.proofs.Common.{◌≡◌, ℕ, suc, ◌+◌, zero, Option, Some, None, List, [], ◌∷◌, ◌++◌, drop, length, map, refl, sym, ap, ◌∙◌, subst, arith}
use Rattle.std.specs.Prelude.{Bool, true, false, not, ◌&&◌, ◌↔◌, IsTrue, IsFalse, IsSomeAnd, ◌==◌}
use Rattle.std.specs.Option.{option_map}
use Rattle.std.specs.List.{slice_get, list_all, list_any}
use Rattle.hv_ast.specs.declared.statement.Stmt.{Stmt}
use Rattle.hv_ast.specs.declared.statement.Stmt.TheVariants as stmt
use Rattle.hv_ast.specs.declared.table.ColumnDefinition.{ColumnDefinition}
use Rattle.hv_ast.specs.declared.types.TypeName.{TypeName}
use Rattle.hv_ast.specs.declared.types.TypeName.TheVariants as type_name
use Rattle.hv_ast.specs.declared.types.ScalarName.TheVariants as scalar
use Rattle.hv_book.specs.hv_history.specs.hv_meaning.specs.hv_typing.specs.hv_logic.specs.Shapes.{type_of, column_of}
use Rattle.hv_book.specs.hv_history.specs.hv_meaning.specs.hv_typing.specs.hv_logic.specs.declared.catalog.Shape.{Shape}
use Rattle.hv_book.specs.hv_history.specs.hv_meaning.specs.hv_route.specs.Back.{is_flat, AreFlat}
use Rattle.std.proofs.lemmas.Bool.{eq-eqb, eqb-true}
use Rattle.hv_book.specs.hv_history.specs.declared.state.Transaction.{Transaction}
use Rattle.hv_book.specs.hv_history.specs.declared.state.Table.{Table}
use Rattle.hv_book.specs.hv_history.specs.State.{State, numbered, opening_tree, created_shape}
use Rattle.hv_book.specs.hv_history.specs.Legal.{IsRunning, CreateFits, is_named, is_create, made_name}
use Rattle.hv_book.specs.Briefs.{brief_table, tree_in}
use Rattle.hv_book.specs.Said.{said}
use Rattle.hv_book.proofs.SaidLaws.{created-said}
use Rattle.hv_meta.specs.States.{is_flat_name, is_flat_definition, made_parts}
use Rattle.hv_meta.specs.Catalogs.{live_infos, info_in}
use Rattle.hv_book.specs.declared.notes.TableNote.{TableNote}
use Rattle.std.proofs.lemmas.List.{length-map}

pub and-left : (a b : Bool) → (a && b) ≡ true → a ≡ true
and-left true b e = refl
and-left false b e = e

pub and-right : (a b : Bool) → (a && b) ≡ true → b ≡ true
and-right true b e = e
and-right false b e = cc

pub and-both : (a b : Bool) → a ≡ true → b ≡ true → (a && b) ≡ true
and-both true b e h = h
and-both false b e h = e

-- ---- a fact of the transaction, beside one that isn't about it

pub both : (P Q : Type 0) (r b : Bool) → (IsTrue r ↔ P) → (IsTrue b ↔ Q) → (IsTrue (r && b)) ↔ (P × Q)
both P Q r b h k = (λ e. (h.0 (and-left r b e), k.0 (and-right r b e)), λ e. and-both r b (h.1 e.0) (k.1 e.1))

pub false-is : (b : Bool) → IsTrue (not b) ↔ IsFalse b
false-is true = (λ e. cc, λ e. cc)
false-is false = (λ e. refl, λ e. refl)

-- ---- the live tables

drop-nil : {A : Type 0} (n : ℕ) → drop {A = A} n [] ≡ []
drop-nil zero = refl
drop-nil (suc n) = refl

infos-at : (ts : List Table) (n : ℕ) → live_infos (drop n ts) ≡ info_in (slice_get ts n) ++ live_infos (drop (n + 1) ts)
infos-at [] zero = refl
infos-at [] (suc n) = ap live_infos (sym (drop-nil (suc n + 1)))
infos-at (t ∷ ts) zero = refl
infos-at (t ∷ ts) (suc n) =
    infos-at ts n ∙ ap (λ k. info_in (slice_get ts n) ++ live_infos (drop k (t ∷ ts))) (let at : suc (n + 1) ≡ suc n + 1 = omega arith in at)

pub infos-step : (ts : List Table) (i number : ℕ) → number ≡ i + 1
    → live_infos (drop i ts) ≡ info_in (numbered ts number) ++ live_infos (drop (i + 1) ts)
infos-step ts i zero e = absurd (omega (arith, e))
infos-step ts i (suc n) e =
    let same : n ≡ i = omega (arith, e) in
    infos-at ts i ∙ ap (λ k. info_in (slice_get ts k) ++ live_infos (drop (i + 1) ts)) (sym same)

-- ---- a table that is made

flat-type : (kind : TypeName) → is_flat (type_of kind) ≡ is_flat_name kind
flat-type (type_name.Array scalar) = refl
flat-type (type_name.Scalar scalar.Boolean) = refl
flat-type (type_name.Scalar scalar.Int) = refl
flat-type (type_name.Scalar scalar.BigInt) = refl
flat-type (type_name.Scalar scalar.String) = refl
flat-type (type_name.Scalar scalar.Date) = refl

flat-columns : (columns : List ColumnDefinition) → list_all is_flat_definition columns ≡ true → AreFlat (map column_of columns)
flat-columns [] e = tt
flat-columns (column ∷ columns) e = (
  flat-type column.kind ∙ and-left (is_flat_definition column) (list_all is_flat_definition columns) e,
  flat-columns columns (and-right (is_flat_definition column) (list_all is_flat_definition columns) e),
)

columns-flat : (columns : List ColumnDefinition) → AreFlat (map column_of columns) → list_all is_flat_definition columns ≡ true
columns-flat [] h = refl
columns-flat (column ∷ columns) h =
    and-both (is_flat_definition column) (list_all is_flat_definition columns) (sym (flat-type column.kind) ∙ h.0) (columns-flat columns h.1)

made-columns : (tree : Option Stmt) → (created_shape tree).parts ≡ map column_of (made_parts tree)
made-columns (Some (stmt.CreateTable create)) = refl
made-columns other = refl

flat-parts : (tree : Option Stmt) → list_all is_flat_definition (made_parts tree) ≡ true → AreFlat (created_shape tree).parts
flat-parts tree e = subst AreFlat (sym (made-columns tree)) (flat-columns (made_parts tree) e)

parts-flat : (tree : Option Stmt) → AreFlat (created_shape tree).parts → list_all is_flat_definition (made_parts tree) ≡ true
parts-flat tree h = columns-flat (made_parts tree) (subst AreFlat (made-columns tree) h)

-- what is kept of a text makes the same table
create-said : (tree : Option Stmt) → is_create (option_map said tree) ≡ is_create tree
create-said None = refl
create-said (Some (stmt.Insert insert)) = refl
create-said (Some tree) = refl

name-said : (tree : Option Stmt) → made_name (option_map said tree) ≡ made_name tree
name-said None = refl
name-said (Some (stmt.Insert insert)) = refl
name-said (Some tree) = refl

module _ (state : State) (table : ℕ) where
  pub create-law : (o : Option Transaction) (tree : Option Stmt) → tree ≡ tree_in o → is_create tree ≡ true → (f r h n : Bool)
      → f ≡ list_all is_flat_definition (made_parts tree) → f ≡ true
      → (IsTrue r ↔ IsSomeAnd o IsRunning) → h ≡ list_any (is_named (made_name tree)) state.tables → (IsTrue n ↔ (table ≡ length state.tables + 1))
      → (IsTrue (r && (not h && n))) ↔ IsSomeAnd o (CreateFits state table)
  create-law None tree is made f r h n flat are running named next = (λ e. absurd (running.0 (and-left r (not h && n) e)), λ e. absurd e)
  create-law (Some t) tree is made f r h n flat are running named next = (
    λ e.
        let rest = and-right r (not h && n) e in
        record {
          running = running.0 (and-left r (not h && n) e);
          create = sym (create-said (opening_tree t)) ∙ ap is_create (sym is) ∙ made;
          flat =
              subst (λ (shape : Shape). AreFlat shape.parts) (created-said (opening_tree t))
              (subst (λ (o : Option Stmt). AreFlat (created_shape o).parts) is (flat-parts tree (sym flat ∙ are)));
          absent =
              ap (λ name. list_any (is_named name) state.tables) (sym (name-said (opening_tree t)))
              ∙ ap (λ o. list_any (is_named (made_name o)) state.tables) (sym is) ∙ sym named ∙ (false-is h).0 (and-left (not h) n rest);
          next = next.0 (and-right (not h) n rest);
        },
    λ fits.
        let free : h ≡ false =
        named ∙ ap (λ o. list_any (is_named (made_name o)) state.tables) is
        ∙ ap (λ name. list_any (is_named name) state.tables) (name-said (opening_tree t)) ∙ fits.absent
        in
        and-both r (not h && n) (running.1 fits.running) (and-both (not h) n ((false-is h).1 free) (next.1 fits.next)),
  )

  -- of one that runs, where no live table has the name
  pub create-next : (o : Option Transaction) (tree : Option Stmt) → tree ≡ tree_in o → is_create tree ≡ true → (f r h : Bool) (notes : List TableNote)
      → f ≡ list_all is_flat_definition (made_parts tree) → f ≡ true → (IsTrue r ↔ IsSomeAnd o IsRunning) → r ≡ true
      → h ≡ list_any (is_named (made_name tree)) state.tables → h ≡ false → notes ≡ map brief_table state.tables
      → IsTrue (table == length notes + 1) ↔ IsSomeAnd o (CreateFits state table)
  create-next o tree is made f r h notes flat are running runs named free noted =
      let count : length notes ≡ length state.tables = ap length noted ∙ length-map state.tables brief_table in
      let next : IsTrue (table == length notes + 1) ↔ (table ≡ length state.tables + 1) =
      (λ e. eqb-true table (length notes + 1) e ∙ ap (λ n. n + 1) count, λ e. eq-eqb table (length notes + 1) (e ∙ ap (λ n. n + 1) (sym count))) in
      let law = create-law o tree is made f r h (table == length notes + 1) flat are running named next in (
        λ e. law.0 (and-both r (not h && (table == length notes + 1)) runs (and-both (not h) (table == length notes + 1) (ap not free) e)),
        λ fits. and-right (not h) (table == length notes + 1) (and-right r (not h && (table == length notes + 1)) (law.1 fits)),
      )

  -- where a partition column is an ARRAY
  pub unflat : (o : Option Transaction) (tree : Option Stmt) → tree ≡ tree_in o → (f : Bool) → f ≡ list_all is_flat_definition (made_parts tree) → f ≡ false
      → IsTrue false ↔ IsSomeAnd o (CreateFits state table)
  unflat None tree is f flat arrays = (λ e. cc, λ e. absurd e)
  unflat (Some t) tree is f flat arrays = (
    λ e. cc,
    λ fits.
        let whole : AreFlat (created_shape (tree_in (Some t))).parts =
        subst (λ (shape : Shape). AreFlat shape.parts) (sym (created-said (opening_tree t))) fits.flat
        in
        let parts : AreFlat (created_shape tree).parts = subst (λ (o : Option Stmt). AreFlat (created_shape o).parts) (sym is) whole in
        let both : true ≡ false = sym (parts-flat tree parts) ∙ sym flat ∙ arrays in cc,
  )
