use Rattle.std.proofs.Common.{◌≡◌, drop}
use Rattle.std.specs.List.{list_any}
use Rattle.hv_typing.specs.Analysis.{is_window}
use Rattle.hv_built.proofs.windows.any_windows.Given as goal

abbrev pub invariant-loop-item : goal.invariant-loop-item
invariant-loop-item l = list_any is_window (drop l.item-index l.items) ≡ list_any is_window l.items
