-- No more jobs work than there are.
use Rattle.std.proofs.Common.{ℕ, ◌+◌, ◌≤◌, Bool, true, false, List, [], ◌∷◌, length, arith}
use Rattle.std.specs.Prelude.{sum_by}
use Rattle.std.proofs.lemmas.List.Sums.{sum_by-cons}
use Rattle.hv_history.specs.Legal.{one_if}
use Rattle.hv_book.specs.declared.jobs.JobNote.{JobNote}
use Rattle.hv_book.specs.Jobs.{is_working_note, working_note}

pub one-most : (b : Bool) → one_if b ≤ 1
one-most true = omega arith
one-most false = omega arith

pub working-most : (jobs : List JobNote) → sum_by working_note jobs ≤ length jobs
working-most [] = omega arith
working-most (job ∷ jobs) = omega (arith, sum_by-cons working_note job jobs, one-most (is_working_note job), working-most jobs)
