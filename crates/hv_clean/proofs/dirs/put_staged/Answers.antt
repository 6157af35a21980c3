use Rattle.hv_clean.proofs.Texts.{staged-put}
use Rattle.hv_clean.proofs.dirs.put_staged.Goals as goal

pub returns : goal.returns
returns c =
    staged-put c.args.table c.args.live c.args.place.now c.args.dirs.now.items c.put_once.new.dirs.items c.put_once.result c.in_ok-staged.staged
    c.requires.here c.in_ok-staged.ensures.staged c.if-not-staged.false c.put_once.ensures
