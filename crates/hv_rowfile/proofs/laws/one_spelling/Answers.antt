use Rattle.hv_rowfile.proofs.Books.{file_one}
use Rattle.hv_rowfile.proofs.laws.one_spelling.Goals as goal

pub returns : goal.returns
returns c = file_one
