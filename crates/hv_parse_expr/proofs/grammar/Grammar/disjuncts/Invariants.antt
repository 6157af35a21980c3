-- What was read, and what the rest gives behind it, is the whole.
use Rattle.std.proofs.Common.{◌≡◌, ◌-◌}
use Rattle.hv_grammar.specs.declared.kind.Kind.TheVariants as k
use Rattle.hv_grammar.specs.Readers.{more}
use Rattle.hv_grammar.specs.Reading.{conjunction, disjuncts, expr}
use Rattle.hv_parse_expr.proofs.grammar.Grammar.disjuncts.Given as goal

abbrev pub invariant-loop-turn : goal.invariant-loop-turn
invariant-loop-turn g l =
    disjuncts (expr l.self.depth) l.fn.first l.fn.tokens
    ≡ more k.Or (conjunction (expr l.self.depth)) (l._turn-end - l._turn) l.found.items l.tokens
