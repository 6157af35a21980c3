-- What is spelled as a query is read, where no level is too deep.
use Rattle.std.proofs.Common.{◌≡◌, suc, true, nat_lt, refl, arith}
use Rattle.hv_grammar.specs.declared.kind.Kind.{Kind}
use Rattle.hv_grammar.specs.declared.kind.Kind.TheVariants as k
use Rattle.hv_grammar.specs.Nesting.{most_levels}
use Rattle.hv_grammar.specs.Readers.{kind_at}
use Rattle.hv_grammar.specs.Grammar as grammar
use Rattle.hv_grammar.specs.Reading as reading
use Rattle.hv_grammar.specs.QueryGrammar as g
use Rattle.hv_grammar.specs.QueryReading as r
use Rattle.hv_parse_expr.proofs.Spelled.{expr_sound}
use Rattle.hv_parse_expr.proofs.Found.{expr_whole}
use Rattle.hv_parse_expr.proofs.Wholes.{Whole}
use Rattle.hv_parse_query.specs.Exact.{EndsQuery, SpelledIsRead}
use Rattle.hv_parse_query.proofs.Ranks.{Behind, rank}
use Rattle.hv_parse_query.proofs.Found.{query_whole}
use Rattle.hv_parse_query.proofs.Starred.{no_expr}
use Rattle.hv_parse_query.proofs.Depth.{any_query_goes}

pub any_query_whole : Whole (Behind 1) (g.query (grammar.expr (suc most_levels)) (suc most_levels)) r.any_query
any_query_whole =
    let inner = expr_whole (suc most_levels) in
    query_whole (grammar.expr (suc most_levels)) reading.any_expr inner.0 inner.1 (expr_sound (suc most_levels)) (no_expr (suc most_levels)) (suc most_levels)

ends_behind : (kind : Kind) → EndsQuery kind → nat_lt (rank kind) 1 ≡ true
ends_behind k.Nothing e = refl
ends_behind k.Close e = refl
ends_behind kind e = absurd e

pub spelled_read : SpelledIsRead
spelled_read depth from to tree s room ends =
    any_query_whole.read tree from to ((any_query_goes depth most_levels (omega arith)).goes tree from to s room).0 (ends_behind (kind_at to) ends)
