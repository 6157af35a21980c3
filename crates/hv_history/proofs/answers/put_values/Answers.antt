use Rattle.std.proofs.Common.{◌++◌, map, ap, ◌∙◌, arith}
use Rattle.std.specs.List.{join_with_byte}
use Rattle.std.proofs.lemmas.List.{length-map, take_all}
use Rattle.hv_value.specs.Printing.{printed}
use Rattle.hv_history.specs.Answers.{tab}
use Rattle.hv_history.proofs.AnswerLemmas.{written_more, mapped_read}
use Rattle.hv_history.proofs.answers.put_values.Goals as goal

pub loop-i-preserved : goal.loop-i-preserved
loop-i-preserved c =
    let count = length-map c.args.values.now printed in
    written_more tab (map printed c.args.values.now) c.loop-i.i c.args.out.now.items c.loop-i.out.items c.put_tab.new.out.items c.print_value.new.out.items
    (printed c.index-values-i.result) (omega (arith, count)) c.loop-i.invariant c.in_ok-put_tab.ensures c.in_ok-print_value.ensures
    (mapped_read printed c.args.values.now c.loop-i.i c.index-values-i.result (omega arith) c.index-values-i.is)

pub returns : goal.returns
returns c =
    let count = length-map c.args.values.now printed in
    let all = take_all c.loop-i.i (map printed c.args.values.now) (omega (arith, count)) in
    c.loop-i.invariant ∙ ap (λ pieces. c.args.out.now.items ++ join_with_byte tab pieces) all
