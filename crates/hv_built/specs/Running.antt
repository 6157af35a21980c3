-- Which texts run today, as which tree, and why another one is refused. The language rests on nothing of this.
use Rattle.std.specs.Prelude.{◌≡◌, ◌⊎◌, Some}
use Rattle.hv_ast.specs.declared.statement.Stmt.{Stmt}
use Rattle.hv_ast.specs.Tokens.{Text}
use Rattle.hv_built.specs.Built.{IsBuilt}
use Rattle.hv_grammar.specs.Texts.{TextFault, Syntax, tree_of, fault_of}

-- the text is a statement of this tree, and of a form that is built
pub record Runs (text : Text) (tree : Stmt) : Type 0 where
  pub read : tree_of text ≡ Some tree
  pub built : IsBuilt tree

-- the text is a statement, of a form that isn't built
pub record IsUnbuilt (text : Text) : Type 0 where
  pub tree : Stmt
  pub read : tree_of text ≡ Some tree
  pub unbuilt : IsBuilt tree → ⊥

-- the text is refused for this: it is no statement, or one of a form that isn't built, which counts as Syntax
abbrev pub IsRefusedFor : Text → TextFault → Type 0
IsRefusedFor text fault = (fault_of text ≡ Some fault) ⊎ ((fault ≡ Syntax) × IsUnbuilt text)

-- the text doesn't run
abbrev pub IsRefused : Text → Type 0
IsRefused text = (fault : TextFault) × IsRefusedFor text fault
