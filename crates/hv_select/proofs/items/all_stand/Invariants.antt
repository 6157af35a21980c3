use Rattle.std.proofs.Common.{◌≡◌, drop}
use Rattle.std.specs.List.{list_all}
use Rattle.hv_typing.specs.Selects.{shown_stands}
use Rattle.hv_select.proofs.items.all_stand.Given as goal

abbrev pub invariant-loop-one : goal.invariant-loop-one
invariant-loop-one l = list_all (shown_stands l.keys) (drop l.one-index l.shown) ≡ list_all (shown_stands l.keys) l.shown
