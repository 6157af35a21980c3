use Rattle.std.proofs.Common.{sym, ◌∙◌, eqb-true}
use Rattle.hv_clean.proofs.Texts.{lost-put}
use Rattle.hv_clean.proofs.dirs.put_lost.Goals as goal

pub returns : goal.returns
returns c =
    lost-put c.args.id c.args.place.now c.args.dirs.now.items c.put_once.new.dirs.items c.put_once.result c.in_ok-own.own (eqb-true c.args.place.now.table.0 c.args.id.table.0 (sym c.is_of.ensures ∙ c.if-not-is_of.false))
    c.in_ok-own.ensures.own c.if-not-own.false c.put_once.ensures
