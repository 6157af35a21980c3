-- The thresholds of compaction behind texts of SET: what a text sets stands where its tree does.
use Rattle.std.proofs.Common.{ℕ, Option, Some, None, refl, ap}
use Rattle.hv_ast.specs.declared.statement.Stmt.{Stmt}
use Rattle.hv_history.specs.State.{acted}
use Rattle.hv_history.specs.Thresholds.{count_in, thousandths_in, set_by, set_at, value_or, delta_key, percent_key, delta_threshold, percent_threshold}
use Rattle.hv_law_jobs.specs.Sets.{ThresholdsByHand}

-- the number of deltas, and the thousandths, behind one commit at that place
abbrev deltas : Option ℕ → ℕ → Option Stmt → ℕ
deltas opening place tree = value_or 10 (set_at opening place (set_by delta_key count_in tree) None)

abbrev percents : Option ℕ → ℕ → Option Stmt → ℕ
percents opening place tree = value_or 100 (set_at opening place (set_by percent_key thousandths_in tree) None)

-- behind two commits at these places
abbrev both : ℕ → ℕ → Option Stmt → Option Stmt → ℕ
both place next tree later = value_or 10 (set_at (Some 0) next (set_by delta_key count_in later) (set_at (Some 0) place (set_by delta_key count_in tree) None))

pub thresholds-by-hand : ThresholdsByHand
unfolding acted delta_threshold percent_threshold
thresholds-by-hand three twenty half is_three is_twenty is_half = record {
  unset = refl;
  unset_percent = refl;
  set_delta = ap (deltas (Some 0) 2) is_three;
  set_percent = ap (percents (Some 0) 2) is_half;
  other_key = ap (percents (Some 0) 2) is_three;
  unended = refl;
  aborted = refl;
  opened_again = ap (deltas (Some 3) 2) is_three;
  set_again = λ i. both 2 4 (is_three i) (is_twenty i);
  last_commit = λ i. both 4 3 (is_three i) (is_twenty i);
}
