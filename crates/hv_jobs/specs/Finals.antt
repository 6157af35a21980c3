-- The directories that a job at work is to make, by what commits say of its range: a delta of each kind of which it has something, or a base.
-- One that has nothing to merge makes none, whatever stands under its range.
-- Source: Hive Transactions, compactor.
use Rattle.std.specs.Prelude.{if◌then◌else◌, ℕ, Bool, true, false, List, [], ◌∷◌, ◌++◌}
use Rattle.hv_dirs.specs.declared.names.DirName.{DirName}
use Rattle.hv_history.specs.declared.entry.JobKind.{JobKind}
use Rattle.hv_history.specs.declared.entry.JobKind.TheVariants as kind
use Rattle.hv_history.specs.State.{State, Job}
use Rattle.hv_history.specs.Jobs.{Events, events_in, pieces_for, is_empty_of}
use Rattle.hv_jobs.specs.Covered.{base, wide, has_within}

abbrev pub final_if : Bool → DirName → List DirName
final_if made name = if made then name ∷ [] else []

abbrev pub final_names : List Events → JobKind → ℕ → ℕ → List DirName
final_names ids kind.Minor low high =
    final_if (has_within false low high ids) (wide false low high) ++ final_if (has_within true low high ids) (wide true low high)
final_names ids kind.Major low high = base high ∷ []

abbrev pub unless_bare : Bool → List DirName → List DirName
unless_bare true names = []
unless_bare false names = names

abbrev pub finals_of : State → Job → List DirName
finals_of state job =
    unless_bare (is_empty_of job.kind (pieces_for state job))
    (final_names (events_in state job.table job.partition) job.kind (pieces_for state job).low (pieces_for state job).high)
