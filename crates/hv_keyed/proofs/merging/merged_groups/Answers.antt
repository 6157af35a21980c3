use Rattle.hv_keyed.proofs.PartLaws.{groups_keys, groups_kept, group_fits}
use Rattle.hv_keyed.proofs.merging.merged_groups.Goals as goal

pub loop-key-preserved : goal.loop-key-preserved
loop-key-preserved g c =
    let same = g.K.PartialEq.eq in
    let merge = g.M.Merging.merge c.args.merging.now in
    let before = c.loop-key.yielded in
    let key = c.in-Some.key in
    let value = c.in-Some.value in
    let keys = c.loop-key.keys.keys in
    let kept = c.loop-key.kept.items in
    let so_far = c.loop-key.invariant in
    let put = c.in_ok-put_group.ensures in
    record {
      keys = groups_keys same merge before key value keys c.put_group.new.keys.keys so_far.keys put.keys;
      kept = groups_kept same merge before key value keys kept c.put_group.new.kept.items so_far.keys so_far.kept put.kept;
      fits = group_fits same merge key value keys c.put_group.new.keys.keys kept c.put_group.new.kept.items so_far.fits put.keys put.kept;
    }
