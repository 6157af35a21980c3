use Rattle.std.proofs.Common.{rules, tests}
use Rattle.std.proofs.lemmas.Fn.{filter_same}
use Rattle.hv_book.specs.Notes.{other_than}
use Rattle.hv_book.proofs.notes.close.Goals as goal

pub returns-clause-items : goal.returns-clause-items
returns-clause-items c = filter_same _ (other_than c.args.txn) _ (λ x b f k. search (rules, tests)) _ _ c.retain.ensures.filtered
