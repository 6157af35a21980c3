-- What was read, and what the rest gives behind it, is the whole.
use Rattle.std.proofs.Common.{◌≡◌, ◌-◌}
use Rattle.hv_grammar.specs.declared.kind.Kind.TheVariants as k
use Rattle.hv_grammar.specs.Readers.{more}
use Rattle.hv_grammar.specs.Reading.{name}
use Rattle.hv_grammar.specs.StatementReading.{names}
use Rattle.hv_parse_stmt.proofs.tables.names.Given as goal

abbrev pub invariant-loop-turn : goal.invariant-loop-turn
invariant-loop-turn l =
    names l.fn.tokens
    ≡ more k.Comma name (l._turn-end - l._turn) l.found.items l.tokens
