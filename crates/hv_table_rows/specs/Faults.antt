-- How a store's fault is passed on, and which places an entry takes.
use Rattle.std.specs.Prelude.{ℕ, ◌+◌, ◌≤◌, List, length}
use Rattle.hv_base.specs.Faults.{Rose}

-- the store failed only where its count of faults rose
pub record StoreCause (faults faults' : ℕ) (Fails : Type 0) : Type 0 where
  pub later : faults ≤ faults'
  pub failed : Fails → Rose faults faults'

-- the names of a file's place are short enough for an entry
abbrev pub IsShort : List ℕ → List ℕ → Type 0
IsShort partition dir = length partition + length dir ≤ 1000
