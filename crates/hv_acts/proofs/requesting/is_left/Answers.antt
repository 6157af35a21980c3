use Rattle.std.proofs.Common.{◌∙◌}
use Rattle.hv_acts.proofs.Requests.{left-is}
use Rattle.hv_acts.proofs.requesting.is_left.Goals as goal

pub returns : goal.returns
returns g c = record {
  left =
      c.is_due.ensures.due
      ∙ left-is c.args.house.now c.args.by c.args.place c.args.txn c.book-book.result.now.entries c.opened_at-opened.result c.is_unended-unended.result
      c.book-book.ensures.entries c.opened_at-opened.ensures.opened c.is_unended-unended.ensures.unended;
}
