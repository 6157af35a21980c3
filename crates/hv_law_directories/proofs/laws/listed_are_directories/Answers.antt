use Rattle.hv_law_directories.proofs.ListedLemmas.{listed-directories}
use Rattle.hv_law_directories.proofs.ThereLemmas.{there-are}
use Rattle.hv_law_directories.proofs.laws.listed_are_directories.Goals as goal

pub returns : goal.returns
returns c = record { law = listed-directories; there = there-are }
