-- A text that runs has a tree, and so no fault, and its tree is of a form that is built.
use Rattle.std.proofs.Common.{◌≡◌, ◌⊎◌, inl, inr, Some, None, sym, subst, ◌∙◌}
use Rattle.hv_ast.specs.declared.statement.Stmt.{Stmt}
use Rattle.hv_ast.specs.Tokens.{Text}
use Rattle.hv_built.specs.Built.{IsBuilt}
use Rattle.hv_built.specs.Running.{Runs, IsUnbuilt}
use Rattle.hv_grammar.specs.Texts.{TextFault, tree_of, fault_of}
use Rattle.hv_parse_stmt.specs.Exact.{IsGood, IsFaulty}
use Rattle.hv_parse_stmt.proofs.Texts.{tree_spelled, spelled_or_faulty}
use Rattle.hv_reading.specs.Laws.{RunsAndIsNotRefused}

none-not_some : (text : Text) (fault : TextFault) → fault_of text ≡ None → fault_of text ≡ Some fault → ⊥
none-not_some text fault none some = absurd (cc)

has-no_fault : (text : Text) (tree : Stmt) (fault : TextFault) → tree_of text ≡ Some tree → IsGood text ⊎ IsFaulty text → fault_of text ≡ Some fault → ⊥
has-no_fault text tree fault read (inl good) found = none-not_some text fault good.1 found
has-no_fault text tree fault read (inr faulty) found = faulty.1 tree ((tree_spelled text tree).0 read)

one-tree : (one other : Stmt) → Some one ≡ Some other → one ≡ other
one-tree one other e = cc

is-built : (text : Text) (tree : Stmt) → Runs text tree → IsUnbuilt text → ⊥
is-built text tree runs other = other.unbuilt (subst IsBuilt (one-tree tree other.tree (sym runs.read ∙ other.read)) runs.built)

pub runs-not_refused : RunsAndIsNotRefused
runs-not_refused text tree runs (fault, inl found) = has-no_fault text tree fault runs.read (spelled_or_faulty text) found
runs-not_refused text tree runs (fault, inr other) = is-built text tree runs other.1
