-- How many rows a write has, worked out by hand: under write id 2 it inserted two rows in one partition and two in another, and deleted
-- one in the first.
use Rattle.std.specs.Prelude.{ℕ, Bool, List, [], ◌∷◌}
use Rattle.hv_stands.specs.Worked.{write_by_hand}
use Rattle.hv_law_dues.specs.Counting.{written_sum}

abbrev pub count_by_hand : Bool → ℕ → List ℕ → ℕ
count_by_hand deletes write partition = written_sum deletes write partition (write_by_hand ∷ [])
