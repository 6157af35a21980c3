-- What was done stays done over one call after another.
use Rattle.std.proofs.Common.{ℕ, List}
use Rattle.hv_files.specs.Acts.{Act, Keeps, Stands}

pub keeps_on : {first second third : Act → Type 0} → Keeps first second → Keeps second third → Keeps first third
keeps_on then_second then_third = λ act did. then_third act (then_second act did)

-- what was found stays found
pub stands_on : {changes : ℕ} {before now : Act → Type 0} {folder : List ℕ} →
    Stands changes before folder → Keeps before now → Stands changes now folder
stands_on stood then_now = record {
  in_place = then_now _ stood.in_place;
  journal = then_now _ stood.journal;
  tables = then_now _ stood.tables;
}
