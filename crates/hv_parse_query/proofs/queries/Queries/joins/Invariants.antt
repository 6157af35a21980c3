-- What was read, and what the rest gives behind it, is the whole.
use Rattle.std.proofs.Common.{◌≡◌, ◌-◌}
use Rattle.hv_grammar.specs.Choices.{begins_join}
use Rattle.hv_grammar.specs.Readers.{more_while}
use Rattle.hv_grammar.specs.Reading.{any_expr}
use Rattle.hv_grammar.specs.QueryReading.{query, join, joins}
use Rattle.hv_parse_query.proofs.queries.Queries.joins.Given as goal

abbrev pub invariant-loop-turn : goal.invariant-loop-turn
invariant-loop-turn g l =
    joins any_expr (query any_expr l.self.depth) l.fn.tokens
    ≡ more_while begins_join (join any_expr (query any_expr l.self.depth)) (l._turn-end - l._turn) l.found.items l.tokens
