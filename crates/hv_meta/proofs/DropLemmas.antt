-- When the Drop of a table fits.
use Rattle.std.proofs.Common.{◌≡◌, ℕ, Option, Some, None, List, refl, sym, ap, ◌∙◌}
use Rattle.std.specs.Prelude.{Bool, true, false, nat_eq, ◌&&◌, ◌↔◌, IsTrue, IsSomeAnd}
use Rattle.std.specs.Option.{option_map}
use Rattle.std.specs.Cmp.Lexicographic.{pointwise}
use Rattle.hv_ast.specs.declared.statement.Stmt.{Stmt}
use Rattle.hv_ast.specs.declared.statement.Stmt.TheVariants as stmt
use Rattle.hv_book.specs.hv_history.specs.declared.state.Table.{Table}
use Rattle.hv_book.specs.hv_history.specs.declared.state.Transaction.{Transaction}
use Rattle.hv_book.specs.hv_history.specs.State.{State, numbered, opening_tree}
use Rattle.hv_book.specs.hv_history.specs.Legal.{Of, IsRunning, DropFits, is_drop, dropped_name, is_named_there}
use Rattle.hv_book.specs.Briefs.{brief_table, tree_in}
use Rattle.hv_book.specs.Names.{name_in}
use Rattle.hv_book.specs.Said.{said}
use Rattle.hv_meta.specs.States.{is_live_note, drops_table}
use Rattle.hv_meta.proofs.FactLemmas.{and-left, and-right, and-both}

-- ---- a live table of that name

pub named-law : (name : List ℕ) (o : Option Table) (live same : Bool) → live ≡ is_live_note (option_map brief_table o)
    → same ≡ pointwise nat_eq (name_in o) name → (live && same) ≡ is_named_there name o
named-law name None live same lives names = ap (λ (b : Bool). b && same) lives
named-law name (Some table) live same lives names =
    ap (λ (b : Bool). b && same) lives ∙ ap (λ (b : Bool). table.is_live && b) names

-- ---- the text and its table

text-drops : (tables : List Table) (table : ℕ) (tree : Option Stmt) → drops_table tables table tree ≡ true
    → IsTrue (is_drop tree) × IsTrue (is_named_there (dropped_name tree) (numbered tables table))
text-drops tables table None e = cc
text-drops tables table (Some (stmt.DropTable drop)) e = (refl, e)
text-drops tables table (Some other) e = cc

drops-text : (tables : List Table) (table : ℕ) (tree : Option Stmt) → is_drop tree ≡ true
    → is_named_there (dropped_name tree) (numbered tables table) ≡ true → drops_table tables table tree ≡ true
drops-text tables table None e named = cc
drops-text tables table (Some (stmt.DropTable drop)) e named = named
drops-text tables table (Some other) e named = cc

-- what is kept of a text drops the same
drops-said : (tables : List Table) (table : ℕ) (tree : Option Stmt) → drops_table tables table (option_map said tree) ≡ drops_table tables table tree
drops-said tables table None = refl
drops-said tables table (Some (stmt.Insert insert)) = refl
drops-said tables table (Some other) = refl

module _ (state : State) (table : ℕ) where
  drop-in : (o : Option Transaction) (tree : Option Stmt) → tree ≡ tree_in o → (r d : Bool) → (IsTrue r ↔ IsSomeAnd o IsRunning)
      → d ≡ drops_table state.tables table tree → (IsTrue (r && d)) ↔ IsSomeAnd o (DropFits state table)
  drop-in None tree is r d running drops = (λ e. running.0 (and-left r d e), λ h. absurd h)
  drop-in (Some t) tree is r d running drops =
      let same : d ≡ drops_table state.tables table (opening_tree t) =
      drops ∙ ap (drops_table state.tables table) is ∙ drops-said state.tables table (opening_tree t)
      in (
        λ e.
            let text = text-drops state.tables table (opening_tree t) (sym same ∙ and-right r d e) in
            record { running = running.0 (and-left r d e); drop = text.0; named = text.1 },
        λ h. and-both r d (running.1 h.running) (same ∙ drops-text state.tables table (opening_tree t) h.drop h.named),
      )

  pub drop-law : (txn : ℕ) (tree : Option Stmt) → tree ≡ tree_in (numbered state.transactions txn) → (r d : Bool) → (IsTrue r ↔ Of state txn IsRunning)
      → d ≡ drops_table state.tables table tree → (IsTrue (r && d)) ↔ Of state txn (DropFits state table)
  drop-law txn tree is r d running drops = drop-in (numbered state.transactions txn) tree is r d running drops

  idle-in : (o : Option Transaction) (r : Bool) → (IsTrue r ↔ IsSomeAnd o IsRunning) → r ≡ false → IsTrue r ↔ IsSomeAnd o (DropFits state table)
  idle-in None r running idle = (λ e. running.0 e, λ h. absurd h)
  idle-in (Some t) r running idle = (λ e. absurd (let both : false ≡ true = sym idle ∙ e in cc), λ h. running.1 h.running)

  -- one that doesn't run drops nothing
  pub idle-law : (txn : ℕ) (r : Bool) → (IsTrue r ↔ Of state txn IsRunning) → r ≡ false → IsTrue r ↔ Of state txn (DropFits state table)
  idle-law txn r running idle = idle-in (numbered state.transactions txn) r running idle
