-- The rule of MERGE, whose condition is read up to WHEN.
use Rattle.std.proofs.Common.{◌≡◌, List, Option}
use Rattle.hv_ast.specs.declared.token.Token.{Token}
use Rattle.hv_ast.specs.declared.expr.Expr.{Expr}
use Rattle.hv_ast.specs.declared.query.Source.{Source}
use Rattle.hv_ast.specs.declared.statement.Stmt.{Stmt}
use Rattle.hv_ast.specs.declared.statement.Stmt.TheVariants as s
use Rattle.hv_ast.specs.Tokens.{Text}
use Rattle.hv_grammar.specs.declared.kind.Kind.TheVariants as k
use Rattle.hv_grammar.specs.Readers.{Reader, and_then, ◌>>=◌, ◌>>◌, give, expect}
use Rattle.hv_grammar.specs.Reading.{any_expr}
use Rattle.hv_grammar.specs.QueryReading.{any_query, table_name, optional_alias, source}
use Rattle.hv_grammar.specs.StatementReading.{merge, merge_clauses}
use Rattle.hv_parse_expr.specs.UpTo.{up_to}
use Rattle.hv_parse_expr.proofs.UpTo.{then_more}

abbrev pub behind_when : Text → Option Text → Source → Expr → Reader Stmt
behind_when table alias other on =
    merge_clauses any_expr any_query
    >>= (λ clauses. give (s.Merge (record { table = table; alias = alias; source = other; on = on; clauses = clauses })))

pub merge_is : (tokens : List Token)
    → merge any_expr any_query tokens
    ≡ and_then (expect k.Into tokens) (λ _. table_name >>= (λ table. optional_alias >>= (λ alias. expect k.Using
    >> (source any_expr any_query >>= (λ other. expect k.On >> (up_to k.When any_expr >>= behind_when table alias other))))))
unfolding merge up_to
merge_is tokens = λ i.
    and_then (expect k.Into tokens) (λ _. table_name >>= (λ table. optional_alias >>= (λ alias. expect k.Using
    >> (source any_expr any_query >>= (λ other. expect k.On >> (λ rest. then_more k.When (behind_when table alias other) (any_expr rest) i))))))
