use Rattle.hv_law_made.proofs.BookLemmas.{books-are-sound}
use Rattle.hv_law_made.proofs.laws.books_are_sound.Goals as goal

pub returns : goal.returns
returns c = record { law = books-are-sound }
