use Rattle.std.proofs.Common.{sym, ◌∙◌}
use Rattle.hv_lex.proofs.Quotes.{closing_more}
use Rattle.hv_lex.proofs.strings.closing.Goals as goal

pub loop-at-preserved : goal.loop-at-preserved
loop-at-preserved c =
    let step = closing_more _ _ _ _ c.loop-at-test.true (sym c.is_free.ensures ∙ c.if-is_free.false) in
    rw c.is_free-taken.ensures (c.loop-at.invariant ∙ step)
