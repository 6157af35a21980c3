-- What was read, and what the rest gives behind it, is the whole.
use Rattle.std.proofs.Common.{◌≡◌, ◌-◌}
use Rattle.hv_grammar.specs.declared.kind.Kind.TheVariants as k
use Rattle.hv_grammar.specs.Readers.{more}
use Rattle.hv_grammar.specs.Reading.{any_expr}
use Rattle.hv_grammar.specs.QueryReading.{query, union, unions}
use Rattle.hv_parse_query.proofs.queries.Queries.unions.Given as goal

abbrev pub invariant-loop-turn : goal.invariant-loop-turn
invariant-loop-turn g l =
    unions any_expr (query any_expr l.self.depth) l.fn.tokens
    ≡ more k.Union (union any_expr (query any_expr l.self.depth)) (l._turn-end - l._turn) l.found.items l.tokens
