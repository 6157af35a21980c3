use Rattle.std.proofs.Common.{◌≡◌, take}
use Rattle.hv_typing.specs.Grouped.{keys_in}
use Rattle.hv_keyed.specs.Folds.{folds}
use Rattle.hv_keyed.proofs.grouping.fold_groups.Given as goal

-- keys and what is kept are those of the rows so far
abbrev pub invariant-loop-row : goal.invariant-loop-row
invariant-loop-row g l =
    let rows = take l.row-index l.rows in
    let by = g.G.GroupFold in
    record {
      keys : l.keys.keys ≡ keys_in g.K.PartialEq.eq (by.key_of l.grouping) rows;
      kept : l.kept.items ≡ folds g.K.PartialEq.eq (by.key_of l.grouping) (by.start l.grouping) (by.step l.grouping) rows;
    }
