use Rattle.std.proofs.Common.{◌≡◌, drop}
use Rattle.std.specs.Prelude.{Some}
use Rattle.hv_logic.specs.Rows.{rows_in}
use Rattle.hv_typing.specs.Rows.{values_in}
use Rattle.hv_rewrite.specs.Wide.{all_have_width}
use Rattle.hv_rewrite.proofs.widths.rows_wide.Given as goal

abbrev pub invariant-loop-one : goal.invariant-loop-one
invariant-loop-one l =
    all_have_width l.width (values_in (Some (rows_in (drop l.one-index l.found)))) ≡ all_have_width l.width (values_in (Some (rows_in l.found)))
