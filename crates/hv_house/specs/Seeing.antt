-- By which list of write ids a statement sees a table that stood at a state of the book, and under which name it is found there.
use Rattle.std.specs.Prelude.{ℕ}
use Rattle.hv_wids.specs.WriteIds.{WriteIds}
use Rattle.hv_history.specs.State.{State}
use Rattle.hv_earlier.specs.Lists.{list_in}
pub use Rattle.hv_earlier.specs.Lists.{info_of_name}

-- the list of its write ids that a reader at this state reads a table by
abbrev pub ids_in : State → ℕ → WriteIds
ids_in state table = list_in state table
