-- A function value that reads queries whose subqueries nest less deep than a number.
use Rattle.std.specs.Prelude.{ℕ, List, Result}
use Rattle.std.specs.declared.alloc.Global.{Global}
use denote.Ref.{MutBor}
use Rattle.hv_ast.specs.declared.token.Token.{Token}
use Rattle.hv_ast.specs.declared.query.Source.{Source}
use Rattle.hv_ast.specs.declared.query.Query.{Query}
use Rattle.hv_grammar.specs.Reading.{any_expr}
use Rattle.hv_grammar.specs.QueryReading.{query}
use Rattle.hv_parse_expr.specs.declared.fault.ReadFault.{ReadFault}
use Rattle.hv_parse_expr.specs.Reads.{Reads}

pub record Nests (depth : ℕ) (pre : Global → MutBor (List Token) → ℕ → Type 0)
    (post : Global → MutBor (List Token) → ℕ → Result (Query Source) ReadFault → MutBor (List Token) → Type 0) : Type 0 where
  pub callable : (alloc : Global) (old : MutBor (List Token)) → pre alloc old depth
  pub reads : (alloc : Global) (old new : MutBor (List Token)) (r : Result (Query Source) ReadFault) → post alloc old depth r new
      → Reads (query any_expr depth old.now) r new.now
