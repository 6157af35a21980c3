use Rattle.std.proofs.Common.{rules}
use Rattle.tests_house.proofs.calls.begin.Goals as goal

pub begin-requires : goal.begin-requires
begin-requires g c κs within =
    let fits = c.can_begin.ensures.fits c.if-not-can_begin.false (record { session = c.args.session; number = 1; text = c.args.text }) c.requires.tree in
    (search rules, (c.requires.ready, (c.requires.tree, (c.requires.short, (c.requires.named, fits)))))
