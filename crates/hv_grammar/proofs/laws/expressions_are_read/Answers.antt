-- Each table is computed.
use Rattle.std.proofs.Common.{refl}
use Rattle.hv_ast.specs.Tokens.{symbols, tokens_of}
use Rattle.hv_grammar.specs.Kinds.{kind_of, same_kind, words, reserved, placed}
use Rattle.hv_grammar.specs.Kinds as kinds
use Rattle.hv_grammar.specs.Readers as r
use Rattle.hv_grammar.specs.Reading as e
use Rattle.hv_grammar.specs.Worked as worked
use Rattle.hv_grammar.specs.Worked.{AreRead, expression_in}
use Rattle.hv_grammar.proofs.laws.expressions_are_read.Goals as goal

tables_read : AreRead worked.levels × AreRead worked.chains × AreRead worked.tests × AreRead worked.forms × AreRead worked.refused
unfolding worked.levels worked.chains worked.tests worked.forms worked.refused expression_in kinds.symbol_kind symbols tokens_of kind_of same_kind words reserved placed r.kind_at r.next r.sees r.after r.expect r.held r.more r.separated r.more_operations e.word e.string e.literal e.name e.scalar e.array e.type_name e.date e.column e.null_test e.list e.bracketed e.arguments e.call e.count e.named e.keyword_call e.when e.whens e.operand e.otherwise e.case e.cast e.primary e.element e.indexed e.signed e.suffixed e.factors e.term e.summands e.sum e.like e.between e.among e.matched e.compared e.tested e.predicate e.negation e.conjuncts e.conjunction e.disjuncts e.disjunction e.expr e.whole e.expression_at
tables_read = (refl, refl, refl, refl, refl)

pub returns : goal.returns
returns c = record { levels = tables_read.0; chains = tables_read.1; tests = tables_read.2; forms = tables_read.3; refused = tables_read.4 }
