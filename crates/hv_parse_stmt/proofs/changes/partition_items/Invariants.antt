-- What was read, and what the rest gives behind it, is the whole.
use Rattle.std.proofs.Common.{◌≡◌, ◌-◌}
use Rattle.hv_grammar.specs.declared.kind.Kind.TheVariants as k
use Rattle.hv_grammar.specs.Readers.{more}
use Rattle.hv_grammar.specs.Reading.{any_expr}
use Rattle.hv_grammar.specs.QueryReading.{any_query}
use Rattle.hv_grammar.specs.StatementReading.{partition_item, partition_items}
use Rattle.hv_parse_stmt.proofs.changes.partition_items.Given as goal

abbrev pub invariant-loop-turn : goal.invariant-loop-turn
invariant-loop-turn l =
    partition_items any_expr any_query l.fn.tokens
    ≡ more k.Comma (partition_item any_expr any_query) (l._turn-end - l._turn) l.found.items l.tokens
