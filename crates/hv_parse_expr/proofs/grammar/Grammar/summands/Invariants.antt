-- What was read, and what the rest gives behind it, is the whole.
use Rattle.std.proofs.Common.{◌≡◌, ◌-◌}
use Rattle.hv_grammar.specs.Readers.{more_operations}
use Rattle.hv_grammar.specs.Reading.{expr, summands, term}
use Rattle.hv_grammar.specs.Choices.{additive}
use Rattle.hv_parse_expr.proofs.grammar.Grammar.summands.Given as goal

abbrev pub invariant-loop-turn : goal.invariant-loop-turn
invariant-loop-turn g l =
    summands (expr l.self.depth) l.fn.tokens
    ≡ more_operations additive (term (expr l.self.depth)) (l._turn-end - l._turn) l.found.items l.tokens
