use Rattle.hv_meaning.proofs.Twice.{first-is-named, none-match-twice}
use Rattle.hv_meaning.proofs.laws.merges_name_the_first.Goals as goal

pub returns : goal.returns
returns c = record { first = first-is-named; none = none-match-twice }
