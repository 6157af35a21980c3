use Rattle.std.proofs.Common.{◌≤◌, length, sym, subst}
use Rattle.std.specs.Prelude.{Option}
use Rattle.hv_base.specs.Told.{Tells}
use Rattle.hv_shelf.specs.Disk.{Store}
use Rattle.tests_files.proofs.Reaching.{reaches}
use Rattle.tests_files.proofs.steps.writes.Goals as goal

pub journal_write-requires : goal.journal_write-requires
journal_write-requires g c = record {
  reached = subst (λ (o : Option Store). Tells o (λ s. c.args.at ≤ length s.journal)) (sym c.in-Ok.ensures.same)
      (reaches (g.shelf.Shelf.told c.args.shelf.now) c.in-Ok.length c.args.at c.in-Ok.ensures.done c.if-at-length.true);
}
