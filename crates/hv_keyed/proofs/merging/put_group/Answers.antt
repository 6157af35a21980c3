use Rattle.hv_keyed.proofs.PartLaws.{known_within}
use Rattle.hv_keyed.proofs.merging.put_group.Goals as goal

pub merge_at-requires : goal.merge_at-requires
merge_at-requires g c =
    let entered = c.in_ok-number.ensures in
    known_within g.K.PartialEq.eq c.args.key c.args.keys.now.keys c.args.kept.now.items c.in_ok-number.added c.in_ok-number.number
    c.requires.fits entered.added entered.number c.if-added.false
