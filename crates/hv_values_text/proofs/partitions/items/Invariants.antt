-- The items so far are written one after another, with commas between them, and what further turns take is what comes after them.
use Rattle.std.proofs.Common.{◌≡◌, ◌-◌}
use Rattle.hv_grammar.specs.declared.kind.Kind.TheVariants as k
use Rattle.hv_grammar.specs.Rules.{separated}
use Rattle.hv_grammar.specs.StatementGrammar as statement
use Rattle.hv_values_text.specs.Parts.{IsPart, flat, flat_query}
use Rattle.hv_values_text.specs.Ways.{item, items, more}
use Rattle.hv_values_text.proofs.partitions.items.Given as goal

abbrev pub invariant-loop-turn : goal.invariant-loop-turn
invariant-loop-turn l = record {
  part : IsPart 0 (separated k.Comma (statement.partition_item flat flat_query)) l.found.items l.fn.cursor l.cursor;
  known : items l.fn.cursor ≡ more item (l._turn-end - l._turn) l.cursor;
}
