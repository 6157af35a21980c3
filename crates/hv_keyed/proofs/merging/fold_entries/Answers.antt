use Rattle.std.proofs.Common.{◌∙◌}
use Rattle.hv_keyed.proofs.PartLaws.{folds_fit, entries_are}
use Rattle.hv_keyed.proofs.merging.fold_entries.Goals as goal

pub entries_of-requires : goal.entries_of-requires
entries_of-requires g c =
    let by = c.args.grouping.now in
    let grouping = g.G.GroupFold in
    record {
      fits = folds_fit g.K.PartialEq.eq (grouping.key_of by) (grouping.start by) (grouping.step by) c.args.rows.now
          c.in_ok-groups.groups.keys.keys c.in_ok-groups.groups.kept.items c.in_ok-groups.ensures.keys c.in_ok-groups.ensures.kept;
    }

pub returns : goal.returns
returns g c =
    let by = c.args.grouping.now in
    let grouping = g.G.GroupFold in
    c.in_ok-found.ensures
    ∙ entries_are g.K.PartialEq.eq (grouping.key_of by) (grouping.start by) (grouping.step by) c.args.rows.now
    c.in_ok-groups.groups.keys.keys c.in_ok-groups.groups.kept.items c.in_ok-groups.ensures.keys c.in_ok-groups.ensures.kept
