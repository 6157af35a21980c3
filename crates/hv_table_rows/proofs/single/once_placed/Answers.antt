use Rattle.hv_table_rows.proofs.Onces.{once-sorted}
use Rattle.hv_table_rows.proofs.single.once_placed.Goals as goal

pub returns : goal.returns
returns c =
    once-sorted c.args.rows.items c.sort.new.self.items c.dedup.new.self.items c.in_ok-sort.ensures.permutation c.in_ok-sort.ensures.sorted c.dedup.ensures.filtered
