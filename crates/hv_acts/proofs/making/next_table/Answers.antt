use Rattle.hv_acts.proofs.Notes.{next-made}
use Rattle.hv_acts.proofs.making.next_table.Goals as goal

pub returns : goal.returns
returns g c = record { next = next-made c.args.house.now c.book.result.now.entries c.tables.result.now c.book.ensures.entries c.tables.ensures.tables }
