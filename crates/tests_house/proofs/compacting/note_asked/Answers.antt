use Rattle.std.proofs.Common.{rules, refl}
use Rattle.tests_house.proofs.Facts.{short_asked}
use Rattle.tests_house.proofs.compacting.note_asked.Goals as goal

pub note-requires : goal.note-requires
note-requires g c κs within =
    let small = short_asked c.args.job c.args.table c.args.partition c.args.kind c.requires.short in
    (search rules, (c.requires.ready, (refl, (small, (c.fits.ensures.fits.0 c.if-not-fits.false, tt)))))
