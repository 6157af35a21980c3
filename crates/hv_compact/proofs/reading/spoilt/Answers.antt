use Rattle.std.proofs.Common.{sym, subst}
use Rattle.hv_history.specs.declared.entry.FilePlace.{FilePlace}
use Rattle.hv_table_rows.specs.Faults.{IsShort}
use Rattle.hv_compact.proofs.reading.spoilt.Goals as goal

pub returns-in-Ok : goal.returns-in-Ok
returns-in-Ok c = record {
  spoilt = (
    subst (λ (found : FilePlace). IsShort found.partition found.dir) (sym c.in-Ok.ensures) (c.is_short.ensures c.if-not-is_short.false),
    (c.args.at, c.in-Ok.ensures),
  );
}
