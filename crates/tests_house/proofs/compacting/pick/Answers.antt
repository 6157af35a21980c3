use Rattle.std.proofs.Common.{rules, refl}
use Rattle.tests_house.proofs.Facts.{short_picked}
use Rattle.tests_house.proofs.compacting.pick.Goals as goal

pub note-requires : goal.note-requires
note-requires g c κs within =
    let small = short_picked c.args.job c.args.watermark in
    (search rules, (c.requires.ready, (refl, (small, (c.fits.ensures.fits.0 c.if-not-fits.false, tt)))))
