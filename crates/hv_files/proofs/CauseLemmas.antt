-- A count that rose for certain rose where a call failed.
use Rattle.std.proofs.Common.{ℕ}
use Rattle.hv_shelf.specs.Causes.{SoftCause, HardCause}

pub soft_where : (Fails : Type 0) (faults faults' hard hard' : ℕ) →
    SoftCause (Unit {0}) faults faults' hard hard' → SoftCause Fails faults faults' hard hard'
soft_where Fails faults faults' hard hard' rose =
    record {
      later = rose.later;
      hard_later = rose.hard_later;
      failed = λ _. rose.failed tt;
      failed_last = λ _. rose.failed_last tt;
      rose_last = rose.rose_last;
      below_last = rose.below_last;
    }

pub hard_where : (Fails : Type 0) (faults faults' hard hard' : ℕ) →
    HardCause (Unit {0}) faults faults' hard hard' → HardCause Fails faults faults' hard hard'
hard_where Fails faults faults' hard hard' rose =
    record {
      later = rose.later;
      hard_later = rose.hard_later;
      failed = λ _. rose.failed tt;
      failed_hard = λ _. rose.failed_hard tt;
      rose_last = rose.rose_last;
    }
