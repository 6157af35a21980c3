use Rattle.std.proofs.Common.{◌≡◌, ◌++◌, map, take}
use Rattle.hv_value.specs.Printing.{items_text, item_text}
use Rattle.hv_value.proofs.printing.+printing.Given as goal

abbrev pub invariant-print_items-loop-i : goal.invariant-print_items-loop-i
invariant-print_items-loop-i l =
    l.out.items ≡ l.initial.out.items ++ items_text (map item_text (take l.i l.items))
