use Rattle.std.proofs.Common.{sym, ◌∙◌, eqb-true}
use Rattle.hv_clean.proofs.Texts.{dead-put}
use Rattle.hv_clean.proofs.dirs.put_sweepable.Goals as goal

pub put_staged-requires : goal.put_staged-requires
put_staged-requires c = record {
  here = eqb-true c.args.place.now.table.0 c.args.table (sym c.is_of.ensures ∙ c.if-not-is_of.false);
}

pub returns : goal.returns
returns c =
    dead-put c.args.table c.args.live c.args.place.now c.args.dirs.now.items c.put_once.new.dirs.items c.put_once.result (eqb-true c.args.place.now.table.0 c.args.table (sym c.is_of.ensures ∙ c.if-not-is_of.false))
    c.if-live.false c.put_once.ensures
