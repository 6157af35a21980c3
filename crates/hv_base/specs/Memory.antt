-- A source and a sink in memory, which tests hand to the program: what they hold, and the list of
-- the calls that are to fail, numbered from 0. Source: this project's profile.

use Rattle.std.specs.Prelude.{ℕ, List, drop}
use Rattle.hv_base.specs.Faults.{one_more}

-- `left`: the bytes not read yet. `calls`: the reads made, which is the number of the next one.
pub record Input : Type 0 where
  pub left : List ℕ
  pub calls : ℕ
  pub fail : List ℕ
  pub faults : ℕ

-- after a read that gave so many bytes
abbrev pub input_after_read : Input → ℕ → Input
input_after_read input count =
    record { left = drop count input.left; calls = one_more input.calls; fail = input.fail; faults = input.faults }

-- after a read that failed
abbrev pub input_after_failure : Input → Input
input_after_failure input =
    record { left = input.left; calls = one_more input.calls; fail = input.fail; faults = one_more input.faults }

-- `calls`: the writes made, which is the number of the next one. `room`: how many bytes more it
-- takes without asking for memory.
pub record Output : Type 0 where
  pub written : List ℕ
  pub calls : ℕ
  pub fail : List ℕ
  pub faults : ℕ
  pub room : ℕ
