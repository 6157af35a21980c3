-- A place up to which a journal reaches, where its length is told.
use Rattle.std.proofs.Common.{◌≡◌, ℕ, ◌≤◌, length, arith}
use Rattle.std.specs.Prelude.{Option, Some, None}
use Rattle.hv_base.specs.Told.{Tells}
use Rattle.hv_shelf.specs.Disk.{Store}

pub reaches : (o : Option Store) (found at : ℕ) → Tells o (λ s. found ≡ length s.journal) → at ≤ found → Tells o (λ s. at ≤ length s.journal)
reaches None found at e le = tt
reaches (Some s) found at e le = omega arith
