use Rattle.std.proofs.Common.{get_or, refl, arith}
use Rattle.hv_value.specs.Printing.{escaped}
use Rattle.hv_value.proofs.PrintSteps.{prints_part, loop_cut}
use Rattle.hv_value.proofs.printing.print_each.Goals as goal

pub returns-in_err-print_byte : goal.returns-in_err-print_byte
returns-in_err-print_byte c =
    let bytes = c.args.bytes.now in
    let i = c.loop-byte.byte-index in
    prints_part _ _ _ _ c.from_residual.ensures.0
    (loop_cut (escaped c.args.in_array) bytes i (get_or bytes i 0) 0 _ _ _ (omega arith) refl c.loop-byte.invariant c.in_err-print_byte.ensures)
