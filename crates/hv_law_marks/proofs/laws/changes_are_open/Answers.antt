use Rattle.hv_law_marks.proofs.Standing.{changes-are-open, given-places-own}
use Rattle.hv_law_marks.proofs.laws.changes_are_open.Goals as goal

pub returns : goal.returns
returns c = record { open_ = changes-are-open; own = given-places-own }
