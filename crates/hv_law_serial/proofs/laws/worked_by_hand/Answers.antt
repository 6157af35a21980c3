-- It is computed.
use Rattle.std.proofs.Common.{refl}
use Rattle.hv_ast.specs.Tokens.{symbols, tokens_of}
use Rattle.hv_grammar.specs.Kinds.{kind_of, same_kind, words, reserved, placed}
use Rattle.hv_grammar.specs.Kinds as kinds
use Rattle.hv_grammar.specs.Readers as r
use Rattle.hv_grammar.specs.Reading as e
use Rattle.hv_grammar.specs.QueryReading as q
use Rattle.hv_grammar.specs.StatementReading as s
use Rattle.hv_grammar.specs.Settings.{behind_set, setting_in}
use Rattle.hv_grammar.specs.Texts.{tree_of}
use Rattle.hv_typing.specs.Analysis.{is_form, form_analysed, analysed}
use Rattle.hv_typing.specs.Creates.{created}
use Rattle.hv_history.specs.State.{acted, meaning_in}
use Rattle.hv_meaning.specs.Meaning as m
use Rattle.hv_law_next.specs.Next.{next_of, carried_on}
use Rattle.hv_law_serial.proofs.Worked.{script}
use Rattle.hv_law_serial.proofs.laws.worked_by_hand.Goals as goal

pub returns : goal.returns
unfolding m.meaning_in is_form form_analysed analysed created acted meaning_in next_of carried_on behind_set setting_in tree_of kinds.symbol_kind symbols tokens_of kind_of same_kind words reserved placed r.kind_at r.next r.sees r.after r.expect r.held r.more r.separated r.more_operations r.more_while r.either e.word e.string e.literal e.name e.scalar e.array e.type_name e.date e.column e.null_test e.list e.bracketed e.arguments e.call e.count e.named e.keyword_call e.when e.whens e.operand e.otherwise e.case e.cast e.primary e.element e.indexed e.signed e.suffixed e.factors e.term e.summands e.sum e.like e.between e.among e.matched e.compared e.tested e.predicate e.negation e.conjuncts e.conjunction e.disjuncts e.disjunction e.expr q.table_name q.alias q.optional_alias q.number q.sees_all_of q.all_of q.key q.keys q.order q.one q.some_item q.item q.items q.exploded q.elements q.positions q.lateral q.laterals q.group q.condition q.table q.subquery q.source q.joined_on q.outer_join q.left_join q.inner_join q.cross_join q.join q.joins q.from q.optional_from q.select q.union q.unions q.query_over q.query s.names s.if_exists s.if_absent s.comment s.column s.column_list s.columns s.partitioned s.bracketed_names s.clustering s.clustered s.stored s.property s.property_list s.properties s.create s.drop_table s.show s.describe s.compaction s.more_numbers s.numbers s.abort s.partition_item s.partition_items s.partition s.column_names s.row s.row_list s.inserted s.overwrite s.insert s.assignment s.assignment_list s.assignments s.update s.delete s.matched_action s.unmatched_action s.matched_clause s.unmatched_clause s.merge_clause s.merge_clauses s.merge s.truncate s.compact s.explain s.queried s.statement_over s.statement s.statement_of
returns c = record {
  runs = refl;
  starts = refl;
  held = refl;
  blocked = refl;
  ended = refl;
  makes = refl;
  whole = refl;
  script = script refl refl refl refl refl refl refl;
}
