-- A text that has a fault is no statement, and what a Start means rests on transactions and tables.
use Rattle.std.proofs.Common.{◌≡◌, ℕ, zero, suc, ◌<◌, ◌≤◌, Option, Some, None, List, [], ◌∷◌, length, refl, ap, ◌∙◌, arith}
use Rattle.std.specs.List.{slice_get}
use Rattle.std.specs.Prelude.{slice_set, slice_index_or, Ok, Err}
use Rattle.std.specs.Option.{option_map}
use Rattle.hv_ast.specs.declared.statement.Setting.{Setting}
use Rattle.hv_ast.specs.declared.statement.Stmt.TheVariants as s
use Rattle.hv_ast.specs.Tokens.{Text, Tokens, tokens_of}
use Rattle.hv_grammar.specs.Settings.{behind_set, setting_in}
use Rattle.hv_grammar.specs.StatementReading.{Answer, found, nesting, syntax, statement_of}
use Rattle.hv_grammar.specs.Texts.{TextFault, BadCharacter, OpenString, WideNumber, Syntax, Nesting, tree_of, fault_of, tree_in, fault_in, statement_tree, statement_fault, tree_by, fault_by, setting_fault}
use Rattle.hv_reading.specs.declared.fault.TextFault as reading
use Rattle.hv_reading.specs.declared.fault.TextFault.TheVariants as told
use Rattle.hv_reading.specs.Faults.{IsFaultOf}
use Rattle.hv_logic.specs.declared.meaning.Meaning.{Meaning}
use Rattle.hv_history.specs.declared.state.Statement.{Statement}
use Rattle.hv_history.specs.declared.state.Table.{Table}
use Rattle.hv_history.specs.declared.state.Transaction.{Transaction}
use Rattle.hv_history.specs.State.{State, changed_at, meant_in, started, statement_of as statement_at, first_of, first_known}
use Rattle.hv_history.proofs.NumberLemmas.{place-some, place-none, put_changed}
use Rattle.tests_books.specs.Replay.{state_at, state_now, comes_to, said_of, begun}
use Rattle.tests_books.proofs.Shows.{meaning-alone}

-- ---- what has a fault has no tree

module _ (fault : TextFault) where
  of-answer : (answer : Answer) → fault_in answer ≡ Some fault → tree_in answer ≡ None
  of-answer (found tree) e = cc
  of-answer (nesting at) e = refl
  of-answer syntax e = refl

  of-tokens : (tokens : Tokens) → statement_fault tokens ≡ Some fault → statement_tree tokens ≡ None
  of-tokens (Ok tokens) e = of-answer (statement_of tokens) e
  of-tokens (Err why) e = refl

  of-setting : (setting : Option Setting) → setting_fault setting ≡ Some fault → option_map s.Set setting ≡ None
  of-setting (Some setting) e = cc
  of-setting None e = refl

  of-parts : (rest : Option Text) (tokens : Tokens) → fault_by rest tokens ≡ Some fault → tree_by rest tokens ≡ None
  of-parts (Some rest) tokens e = of-setting (setting_in rest) e
  of-parts None tokens e = of-tokens tokens e

  pub no-tree : (text : Text) → fault_of text ≡ Some fault → tree_of text ≡ None
  unfolding tree_of fault_of
  no-tree text e = of-parts (behind_set text) (tokens_of text) e

-- an error that tells of a fault
pub no_tree_of : (fault : reading.TextFault) (text : Text) → IsFaultOf fault text → (fault ≡ told.NoMemory → ⊥) → tree_of text ≡ None
no_tree_of (told.BadCharacter at) text is not = no-tree (BadCharacter at) text is
no_tree_of (told.OpenString at) text is not = no-tree (OpenString at) text is
no_tree_of (told.WideNumber at) text is not = no-tree (WideNumber at) text is
no_tree_of told.Syntax text is not = no-tree Syntax text is
no_tree_of (told.Nesting at) text is not = no-tree (Nesting at) text is
no_tree_of told.NoMemory text is not = absurd (not refl)

-- ---- a Start by what its statement comes to

module _ (state : State) (meaning : Option Meaning) where
  said-at : (xs : List Statement) (n : ℕ) → meaning ≡ comes_to state (slice_get xs n) → changed_at (said_of meaning) xs n ≡ changed_at (meant_in state) xs n
  said-at [] n is = refl
  said-at (x ∷ xs) zero is = ap (λ (m : Option Meaning). record x { meaning = first_known x.meaning m } ∷ xs) is
  said-at (x ∷ xs) (suc n) is = ap (λ (ys : List Statement). x ∷ ys) (said-at xs n is)

  begun-started : (number : ℕ) (transaction : Transaction) → meaning ≡ comes_to state (statement_at transaction number)
      → begun state.entries (length state.transactions) state.tables number meaning transaction ≡ started state number transaction
  begun-started number transaction is =
      λ k. record transaction {
        statements = said-at transaction.statements number is k;
        snapshot = first_of transaction.snapshot (record { place = state.entries; tables = state.tables; opened = length state.transactions });
      }

comes-alone : (state : State) (place : ℕ) → state.jobs ≡ [] → (o : Option Statement) → comes_to (state_at place state.transactions state.tables) o ≡ comes_to state o
comes-alone state place none None = refl
comes-alone state place none (Some statement) = meaning-alone state place none statement.text

-- what it comes to doesn't rest on the place
pub begun-now : (place : ℕ) (transactions : List Transaction) (tables : List Table) (number : ℕ) (meaning : Option Meaning) (transaction : Transaction)
    → meaning ≡ comes_to (state_now transactions tables) (statement_at transaction number)
    → begun place (length transactions) tables number meaning transaction ≡ started (state_at place transactions tables) number transaction
begun-now place transactions tables number meaning transaction is =
    begun-started (state_at place transactions tables) meaning number transaction
    (is ∙ comes-alone (state_at place transactions tables) 0 refl (statement_at transaction number))

-- ---- the statement at a place

pub put_at : (f : Statement → Statement) (xs : List Statement) (at : ℕ) (x : Statement) → at < length xs
    → x ≡ slice_index_or xs at x → slice_set xs at (f x) ≡ changed_at f xs at
put_at f xs at x within is = put_changed (λ f. f) f xs xs (suc at) at x refl (place-some xs (suc at) at (omega arith) within).1 is

pub stays_at : (f : Statement → Statement) (xs : List Statement) (at : ℕ) → length xs ≤ at → changed_at f xs at ≡ xs
stays_at f xs at beyond = place-none xs (suc at) at (omega arith) beyond f
