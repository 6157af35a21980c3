-- A function value that reads expressions that nest less deep than a number.
use Rattle.std.specs.Prelude.{ℕ, List, Result}
use Rattle.std.specs.declared.alloc.Global.{Global}
use denote.Ref.{MutBor}
use Rattle.hv_ast.specs.declared.token.Token.{Token}
use Rattle.hv_ast.specs.declared.expr.Expr.{Expr}
use Rattle.hv_grammar.specs.Reading.{expr}
use Rattle.hv_parse_expr.specs.declared.fault.ReadFault.{ReadFault}
use Rattle.hv_parse_expr.specs.Reads.{Reads}

pub record Nests (depth : ℕ) (pre : Global → MutBor (List Token) → ℕ → Type 0)
    (post : Global → MutBor (List Token) → ℕ → Result Expr ReadFault → MutBor (List Token) → Type 0) : Type 0 where
  pub callable : (alloc : Global) (old : MutBor (List Token)) → pre alloc old depth
  pub reads : (alloc : Global) (old new : MutBor (List Token)) (r : Result Expr ReadFault) → post alloc old depth r new
      → Reads (expr depth old.now) r new.now
