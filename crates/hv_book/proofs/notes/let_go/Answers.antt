use Rattle.std.proofs.Common.{rules, tests}
use Rattle.std.proofs.lemmas.Fn.{filter_same}
use Rattle.hv_book.specs.Notes.{held_by_other}
use Rattle.hv_book.proofs.notes.let_go.Goals as goal

pub returns-clause-items : goal.returns-clause-items
returns-clause-items c = filter_same _ (held_by_other c.args.txn) _ (λ x b f k. search (rules, tests)) _ _ c.retain.ensures.filtered
