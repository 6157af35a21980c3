use Rattle.std.proofs.Common.{◌≡◌, drop}
use Rattle.hv_script.specs.Script.{earlier}
use Rattle.hv_script.specs.Actions.{least, untaken_lines}
use Rattle.hv_script.proofs.serving.first_untaken.Given as goal

abbrev pub invariant-loop-item : goal.invariant-loop-item
invariant-loop-item l = earlier l.line (least (untaken_lines (drop l.item-index l.items))) ≡ least (untaken_lines l.items)
