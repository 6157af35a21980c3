-- The two counts of a store: of faults, and of hard faults, after which it isn't used again. Both
-- never fall and end at 2^64 - 1. Source: this project's profile.

use Rattle.std.specs.Prelude.{◌≡◌, ℕ, ◌-◌, ◌^◌, ◌<◌, ◌≤◌}
use Rattle.hv_base.specs.Faults.{Rose}

abbrev pub last_count : ℕ
last_count = 2 ^ 64 - 1

-- A call on files: where it fails the count of faults rose, and the hard count rose where the
-- count of faults is at its last value then. Below that the call leaves the hard count.
pub record SoftCause (Fails : Type 0) (faults faults' hard hard' : ℕ) : Type 0 where
  pub later : faults ≤ faults'
  pub hard_later : hard ≤ hard'
  pub failed : Fails → Rose faults faults'
  pub failed_last : Fails → faults' ≡ last_count → Rose hard hard'
  pub rose_last : faults < faults' → faults' ≡ last_count → Rose hard hard'
  pub below_last : faults' < last_count → hard' ≡ hard

-- A call on the journal, or a rename: where it fails both counts rose.
pub record HardCause (Fails : Type 0) (faults faults' hard hard' : ℕ) : Type 0 where
  pub later : faults ≤ faults'
  pub hard_later : hard ≤ hard'
  pub failed : Fails → Rose faults faults'
  pub failed_hard : Fails → Rose hard hard'
  pub rose_last : faults < faults' → faults' ≡ last_count → Rose hard hard'
