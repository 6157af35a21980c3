use Rattle.std.proofs.Common.{length, sym, ap, ◌∙◌}
use Rattle.hv_acts.proofs.Steps.{book-is}
use Rattle.hv_acts.proofs.noting.next_place.Goals as goal

pub returns : goal.returns
returns g c = record { place = ap length (c.entries.ensures.entries ∙ c.book.ensures.entries ∙ sym (book-is c.args.house.now)) }
