use Rattle.hv_law_made.proofs.BookLemmas.{books-go-on}
use Rattle.hv_law_made.proofs.laws.books_go_on.Goals as goal

pub returns : goal.returns
returns c = record { law = books-go-on }
