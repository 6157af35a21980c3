-- A table of an earlier place is the table of that number in the whole book.
use Rattle.std.proofs.Common.{◌≡◌, ℕ, zero, suc, ◌≤◌, true, Option, Some, None, List, [], ◌∷◌, ◌++◌, length, take, drop, refl, sym, ap, ◌∙◌, subst, arith}
use Rattle.std.specs.Prelude.{is_some, IsSomeAnd}
use Rattle.std.specs.Option.{option_map}
use Rattle.std.specs.List.{slice_get}
use Rattle.std.proofs.lemmas.List.{append-nil, drop_all}
use Rattle.hv_ast.specs.declared.statement.Stmt.{Stmt}
use Rattle.hv_logic.specs.declared.catalog.TableInfo.{TableInfo}
use Rattle.hv_meta.specs.hv_book.specs.hv_history.specs.declared.entry.Entry.{Entry}
use Rattle.hv_meta.specs.hv_book.specs.hv_history.specs.declared.state.Table.{Table}
use Rattle.hv_meta.specs.hv_book.specs.hv_history.specs.State.{State, numbered, state_of, created_shape}
use Rattle.hv_meta.specs.hv_book.specs.hv_history.specs.Lasting.{TableLater}
use Rattle.hv_meta.specs.hv_book.specs.hv_history.proofs.LastingLaws.{goes-on-all}
use Rattle.hv_meta.specs.hv_book.specs.declared.notes.TableNote.{TableNote}
use Rattle.hv_meta.specs.hv_book.specs.Briefs.{brief_table}
use Rattle.hv_meta.specs.hv_book.specs.Past.{table_live}
use Rattle.hv_meta.specs.Catalogs.{info_if, info_in, live_infos}
use Rattle.hv_earlier.specs.Places.{live_so}
use Rattle.hv_earlier.proofs.PlaceLaws.{go-on}

pub table-later : (entries : List Entry) (position n : ℕ) (t : Table) → numbered (state_of (take position entries)).tables n ≡ Some t
    → IsSomeAnd (numbered (state_of entries).tables n) (TableLater t)
table-later entries position n t is =
    subst (λ (state : State). IsSomeAnd (numbered state.tables n) (TableLater t)) (sym (go-on entries position))
    ((goes-on-all (drop position entries) (state_of (take position entries))).tables n t is)

info-as : (t : Table) (now : Option Table) (note : TableNote) (tree : Option Stmt) → IsSomeAnd now (TableLater t) → Some note ≡ option_map brief_table now
    → ((u : Table) → now ≡ Some u → u.info.shape ≡ created_shape tree) → t.info ≡ record { table = record { 0 = note.id }; shape = created_shape tree }
info-as t None note tree later noted told = absurd later
info-as t (Some u) note tree later noted told =
    let same : note ≡ brief_table u = cc in
    let id : u.info.table.0 ≡ note.id = ap (λ (n : TableNote). n.id) (sym same) in
    sym later.info ∙ (λ i. record { table = record { 0 = id i }; shape = told u refl i })

-- a table that was live there
pub live-info : (entries : List Entry) (position n : ℕ) (note : TableNote) (tree : Option Stmt)
    → Some note ≡ option_map brief_table (numbered (state_of entries).tables n)
    → live_so (option_map table_live (numbered (state_of (take position entries)).tables n)) ≡ true
    → ((u : Table) → numbered (state_of entries).tables n ≡ Some u → u.info.shape ≡ created_shape tree)
    → info_in (numbered (state_of (take position entries)).tables n) ≡ record { table = record { 0 = note.id }; shape = created_shape tree } ∷ []
live-info entries position n note tree noted live told = by (numbered (state_of (take position entries)).tables n) refl live
  where
    by : (o : Option Table) → numbered (state_of (take position entries)).tables n ≡ o → live_so (option_map table_live o) ≡ true
        → info_in o ≡ record { table = record { 0 = note.id }; shape = created_shape tree } ∷ []
    by None is lives = cc
    by (Some t) is lives =
        ap (λ b. info_if b t.info) lives
        ∙ ap (λ info. info ∷ []) (info-as t (numbered (state_of entries).tables n) note tree (table-later entries position n t is) noted told)

pub live-there : (o : Option Table) → live_so (option_map table_live o) ≡ true → is_some o ≡ true
live-there None live = cc
live-there (Some t) live = refl

-- no more tables were there than are
there-at : {A : Type 0} (xs : List A) (n : ℕ) → slice_get xs n ≡ None → length xs ≤ n
there-at [] n is = omega arith
there-at (x ∷ xs) zero is = cc
there-at (x ∷ xs) (suc n) is = let rest = there-at xs n is in omega (arith, rest)

not-there : {A : Type 0} (xs : List A) (n : ℕ) → length xs ≤ n → slice_get xs n ≡ None
not-there [] n le = refl
not-there (x ∷ xs) zero le = absurd (omega (arith, le))
not-there (x ∷ xs) (suc n) le = not-there xs n (omega (arith, le))

pub no-more-tables : (entries : List Entry) (position : ℕ) → length (state_of (take position entries)).tables ≤ length (state_of entries).tables
no-more-tables entries position =
    there-at (state_of (take position entries)).tables (length (state_of entries).tables) (by (slice_get (state_of (take position entries)).tables (length (state_of entries).tables)) refl)
  where
    none : slice_get (state_of entries).tables (length (state_of entries).tables) ≡ None
    none = not-there (state_of entries).tables (length (state_of entries).tables) (omega arith)

    so : (t : Table) (now : Option Table) → now ≡ None → IsSomeAnd now (TableLater t) → Some t ≡ None
    so t None e later = absurd later
    so t (Some u) e later = cc

    by : (o : Option Table) → slice_get (state_of (take position entries)).tables (length (state_of entries).tables) ≡ o → o ≡ None
    by None is = refl
    by (Some t) is =
        so t (numbered (state_of entries).tables (suc (length (state_of entries).tables))) none
        (table-later entries position (suc (length (state_of entries).tables)) t is)

pub none-left : (entries : List Entry) (position i : ℕ) → length (state_of entries).tables ≤ i
    → live_infos (drop i (state_of (take position entries)).tables) ≡ []
none-left entries position i past =
    let fewer = no-more-tables entries position in
    ap live_infos (drop_all i (state_of (take position entries)).tables (omega (arith, fewer, past)))

-- the end of the loop over the tables
pub catalog-end : (entries : List Entry) (position i : ℕ) (infos : List TableInfo) → length (state_of entries).tables ≤ i
    → infos ++ live_infos (drop i (state_of (take position entries)).tables) ≡ live_infos (state_of (take position entries)).tables
    → infos ≡ live_infos (state_of (take position entries)).tables
catalog-end entries position i infos past kept =
    sym (append-nil infos) ∙ ap (λ (more : List TableInfo). infos ++ more) (sym (none-left entries position i past)) ∙ kept
