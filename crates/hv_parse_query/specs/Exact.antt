-- That queries are read exactly as the grammar spells them.
use Rattle.std.specs.Prelude.{◌≡◌, ℕ, suc, List, Some, None}
use Rattle.hv_ast.specs.declared.token.Token.{Token}
use Rattle.hv_ast.specs.declared.query.Source.{Source}
use Rattle.hv_ast.specs.declared.query.Query.{Query}
use Rattle.hv_grammar.specs.declared.kind.Kind.{Kind}
use Rattle.hv_grammar.specs.declared.kind.Kind.TheVariants as k
use Rattle.hv_grammar.specs.Nesting.{too_deep, most_levels}
use Rattle.hv_grammar.specs.Readers.{kind_at}
use Rattle.hv_grammar.specs.Grammar.{expr}
use Rattle.hv_grammar.specs.QueryGrammar.{query}
use Rattle.hv_grammar.specs.QueryReading.{any_query}

-- what is read is spelled
abbrev pub ReadIsSpelled : Type 0
ReadIsSpelled = (from to : List Token) (tree : Query Source)
    → any_query from ≡ Some (tree, to) → query (expr (suc most_levels)) (suc most_levels) tree from to

-- what may stand behind a query: nothing, or the bracket that closes it
abbrev pub EndsQuery : Kind → Type 0
EndsQuery k.Nothing = Unit {0}
EndsQuery k.Close = Unit {0}
EndsQuery _ = ⊥

-- what is spelled, where no level is too deep and nothing behind it goes on, is read
abbrev pub SpelledIsRead : Type 0
SpelledIsRead = (depth : ℕ) (from to : List Token) (tree : Query Source)
    → query (expr depth) depth tree from to → too_deep most_levels from ≡ None → EndsQuery (kind_at to)
    → any_query from ≡ Some (tree, to)
