use Rattle.std.proofs.Common.{◌≡◌, ◌-◌, ◌^◌, length, vec_len}
use Rattle.hv_shelf.specs.Causes.{HardCause}
use Rattle.hv_recovery.proofs.Blocks.{HasRead}
use Rattle.hv_recovery.proofs.bytes.journal_bytes.Given as goal

abbrev pub invariant-loop-bytes : goal.invariant-loop-bytes
invariant-loop-bytes g l = record {
  block : length l.block ≡ 65536;
  read : HasRead (g.D.Shelf.told l.initial.shelf) l.bytes.items;
  same : g.D.Shelf.told l.shelf ≡ g.D.Shelf.told l.initial.shelf;
  cause : HardCause ⊥ (g.D.Shelf.faults l.initial.shelf) (g.D.Shelf.faults l.shelf) (g.D.Shelf.hard l.initial.shelf) (g.D.Shelf.hard l.shelf);
}

abbrev pub decreases-loop-bytes : goal.decreases-loop-bytes
decreases-loop-bytes g l = 2 ^ 64 - vec_len l.bytes
