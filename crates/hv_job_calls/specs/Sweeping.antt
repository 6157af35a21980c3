-- Which job stages in a directory.
use Rattle.std.specs.Prelude.{ℕ, Option, Some, None, List}
use Rattle.hv_base.specs.declared.ids.JobId.{JobId}
use Rattle.hv_dirs.specs.declared.names.DirName.{DirName}
use Rattle.hv_dirs.specs.declared.names.DirName.TheVariants as dir_name
use Rattle.hv_job_calls.specs.Refusals.{IsStagedText}

abbrev pub stager_named : DirName → Option JobId
stager_named (dir_name.Base high) = None
stager_named (dir_name.Own deletes write statement) = None
stager_named (dir_name.Wide deletes low high) = None
stager_named (dir_name.Staged job name) = Some job

abbrev pub IsStagerOf : List ℕ → Option JobId → Type 0
IsStagerOf text (Some job) = IsStagedText job.0 text
IsStagerOf text None = (number : ℕ) → IsStagedText number text → ⊥
