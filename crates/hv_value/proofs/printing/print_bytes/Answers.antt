use Rattle.std.proofs.Common.{sym, ◌∙◌}
use Rattle.hv_value.proofs.PlainText.{plain-text}
use Rattle.hv_value.proofs.PrintSteps.{prints_same}
use Rattle.hv_value.proofs.printing.print_bytes.Goals as goal

pub returns-then-are_plain : goal.returns-then-are_plain
returns-then-are_plain c =
    prints_same _ _ _ _ _ (sym (plain-text c.args.in_array c.args.bytes.now (sym c.are_plain.ensures ∙ c.if-are_plain.true))) c.append.ensures
