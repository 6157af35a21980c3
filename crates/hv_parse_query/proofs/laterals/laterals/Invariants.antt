-- What was read, and what the rest gives behind it, is the whole.
use Rattle.std.proofs.Common.{◌≡◌, ◌-◌}
use Rattle.hv_grammar.specs.declared.kind.Kind.TheVariants as k
use Rattle.hv_grammar.specs.Readers.{more}
use Rattle.hv_grammar.specs.Reading.{any_expr}
use Rattle.hv_grammar.specs.QueryReading.{lateral, laterals}
use Rattle.hv_parse_query.proofs.laterals.laterals.Given as goal

abbrev pub invariant-loop-turn : goal.invariant-loop-turn
invariant-loop-turn l =
    laterals any_expr l.fn.tokens ≡ more k.Lateral (lateral any_expr) (l._turn-end - l._turn) l.found.items l.tokens
