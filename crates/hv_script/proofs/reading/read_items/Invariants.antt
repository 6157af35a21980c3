use Rattle.std.proofs.Common.{◌≡◌, ◌++◌, drop}
use Rattle.hv_script.specs.Script.{HaveUtf8, earlier}
use Rattle.hv_script.specs.Actions.{actions_from, least}
use Rattle.hv_script.specs.Standing.{fault_lines, first_standing}
use Rattle.hv_script.proofs.reading.read_items.Given as goal

abbrev pub invariant-loop-item : goal.invariant-loop-item
invariant-loop-item l =
    (earlier l.reader.fault (least (fault_lines l.reader.sessions (drop l.item-index l.items))) ≡ least (fault_lines first_standing l.items))
    × (HaveUtf8 l.items → l.reader.actions.items ++ actions_from l.reader.sessions (drop l.item-index l.items) ≡ actions_from first_standing l.items)
