use Rattle.hv_law_made.proofs.NameBounds.{books-have-names}
use Rattle.hv_law_made.proofs.laws.books_have_names.Goals as goal

pub returns : goal.returns
returns c = record { law = books-have-names }
