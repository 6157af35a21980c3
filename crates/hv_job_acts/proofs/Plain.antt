-- Directories that commits and compactions make have names, and those of compactions can be staged.
use Rattle.std.proofs.Common.{ℕ, refl}
use Rattle.hv_dirs.specs.declared.names.DirName.{DirName}
use Rattle.hv_dirs.specs.declared.names.DirName.TheVariants as dir
use Rattle.hv_dirs.specs.Names.{IsNumber, IsPlain, IsName}
use Rattle.hv_job_calls.specs.Staging.{IsStageable}
use Rattle.hv_job_acts.specs.Covering.{IsMadeName}

pub plain-named : (name : DirName) → IsPlain name → IsName name
plain-named (dir.Base high) is = is
plain-named (dir.Own deletes write statement) is = is
plain-named (dir.Wide deletes low high) is = is
plain-named (dir.Staged job name) is = absurd is

pub stageable : (job : ℕ) (name : DirName) → IsNumber job → IsMadeName name → IsStageable job name
stageable job (dir.Base high) number made = (made, (number, (dir.Base high, made, refl, refl)))
stageable job (dir.Own deletes write statement) number made = absurd made
stageable job (dir.Wide deletes low high) number made = (made, (number, (dir.Wide deletes low high, made, refl, refl)))
stageable job (dir.Staged by text) number made = absurd made
