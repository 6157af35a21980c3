use Rattle.std.proofs.Common.{◌≡◌, drop}
use Rattle.std.specs.List.{list_all}
use Rattle.hv_meta.specs.States.{is_flat_definition}
use Rattle.hv_meta.proofs.creating.are_flat.Given as goal

abbrev pub invariant-loop-column : goal.invariant-loop-column
invariant-loop-column l = list_all is_flat_definition (drop l.column-index l.columns) ≡ list_all is_flat_definition l.columns
