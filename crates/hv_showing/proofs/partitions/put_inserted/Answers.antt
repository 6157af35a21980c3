use Rattle.std.proofs.Common.{◌≡◌, ◌++◌, List, ap, ◌∙◌, subst}
use Rattle.std.specs.Prelude.{OnOk}
use Rattle.hv_value.specs.declared.row.Row.{Row}
use Rattle.hv_showing.specs.Fronts.{then_at, inserted_in}
use Rattle.hv_showing.proofs.Thens.{inserted-then}
use Rattle.hv_showing.proofs.partitions.put_inserted.Goals as goal

pub returns : goal.returns
returns c =
    let there = then_at c.args.book.now.entries c.args.front.position c.args.txn in
    subst (λ (more : List Row). OnOk c.put_wrote.result (c.put_wrote.new.rows.items ≡ c.args.rows.now.items ++ more))
    (ap (inserted_in c.args.table) c.wrote_then.ensures ∙ inserted-then c.args.table c.args.txn there) c.put_wrote.ensures
