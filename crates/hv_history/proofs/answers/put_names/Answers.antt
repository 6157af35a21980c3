use Rattle.std.proofs.Common.{◌++◌, ap, ◌∙◌, arith}
use Rattle.hv_history.specs.Answers.{tab}
use Rattle.hv_history.proofs.AnswerLemmas.{written_more}
use Rattle.hv_history.proofs.answers.put_names.Goals as goal

pub loop-i-preserved : goal.loop-i-preserved
loop-i-preserved c =
    written_more tab c.args.names.now c.loop-i.i c.args.out.now.items c.loop-i.out.items c.put_tab.new.out.items c.put.new.out.items c.index-names-i.result
    (omega arith) c.loop-i.invariant c.in_ok-put_tab.ensures
    (c.in_ok-put.ensures ∙ ap (λ bytes. c.put_tab.new.out.items ++ bytes) c.bytes.ensures.value) c.index-names-i.is
