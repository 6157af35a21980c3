-- A book is true where its front is, and what follows is behind that.
use Rattle.std.proofs.Common.{List, [], ◌∷◌, ◌++◌, fold}
use Rattle.hv_history.specs.declared.entry.Entry.{Entry}
use Rattle.hv_history.specs.State.{State, after}
use Rattle.hv_history.specs.Legal.{AllTruthful}

pub truthful-from : (s : State) (book more : List Entry) → AllTruthful s book → AllTruthful (fold after s book) more → AllTruthful s (book ++ more)
truthful-from s [] more truthful next = next
truthful-from s (e ∷ book) more truthful next = (truthful.0, truthful-from (after s e) book more truthful.1 next)
