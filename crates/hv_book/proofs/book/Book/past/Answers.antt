use Rattle.std.proofs.Common.{subst}
use Rattle.hv_history.specs.Book.{Kept}
use Rattle.hv_book.specs.Past.{IsPast, past_in}
use Rattle.hv_book.proofs.book.Book.past.Goals as goal

pub returns : goal.returns
returns c = record { past = subst (λ (k : Kept). IsPast k.entries (past_in c.self.inside.past)) c.self.view_is c.self.invariant.past }
