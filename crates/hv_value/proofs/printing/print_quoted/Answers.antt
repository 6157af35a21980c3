use Rattle.std.proofs.Common.{◌∷◌, [], ◌++◌, true}
use Rattle.std.specs.List.{flat_map}
use Rattle.hv_value.specs.Bytes.{double_quote}
use Rattle.hv_value.specs.Printing.{escaped}
use Rattle.hv_value.proofs.PrintSteps.{prints_part, prints_then, cut_first, cut_second}
use Rattle.hv_value.proofs.printing.print_quoted.Goals as goal

pub returns-in_err-append : goal.returns-in_err-append
returns-in_err-append c =
    prints_part _ _ _ _ c.from_residual.ensures.0
    (cut_first (double_quote ∷ []) (flat_map (escaped true) c.args.bytes.now ++ double_quote ∷ []) _ _ c.in_err-append.ensures)

pub returns-in_err-print_bytes : goal.returns-in_err-print_bytes
returns-in_err-print_bytes c =
    let inner = flat_map (escaped true) c.args.bytes.now in
    let close = double_quote ∷ [] in
    prints_part _ _ _ _ c.from_residual-in_err-print_bytes.ensures.0
    (cut_second (double_quote ∷ []) (inner ++ close) _ _ _ c.in_ok-append.ensures (cut_first inner close _ _ c.in_err-print_bytes.ensures))

pub returns : goal.returns
returns c =
    let inner = flat_map (escaped true) c.args.bytes.now in
    let close = double_quote ∷ [] in
    prints_then (double_quote ∷ []) (inner ++ close) _ _ _ _ c.in_ok-append.ensures
    (prints_then inner close _ _ _ _ c.in_ok-print_bytes.ensures c.append-2.ensures)
