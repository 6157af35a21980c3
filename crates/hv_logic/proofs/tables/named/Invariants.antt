use Rattle.std.proofs.Common.{◌≡◌, drop}
use Rattle.hv_logic.specs.Tables.{named}
use Rattle.hv_logic.proofs.tables.named.Given as goal

abbrev pub invariant-loop-seen : goal.invariant-loop-seen
invariant-loop-seen l = named l.name (drop l.seen-index l.tables) ≡ named l.name l.tables
