-- What was read, and what the rest gives behind it, is the whole.
use Rattle.std.proofs.Common.{◌≡◌, ◌-◌}
use Rattle.hv_grammar.specs.Choices.{is_number}
use Rattle.hv_grammar.specs.Readers.{more_while}
use Rattle.hv_grammar.specs.QueryReading.{number}
use Rattle.hv_grammar.specs.StatementReading.{more_numbers}
use Rattle.hv_parse_stmt.proofs.asked.more_numbers.Given as goal

abbrev pub invariant-loop-turn : goal.invariant-loop-turn
invariant-loop-turn l =
    more_numbers l.fn.first l.fn.tokens
    ≡ more_while is_number number (l._turn-end - l._turn) l.found.items l.tokens
