use Rattle.std.proofs.Common.{◌≤◌, arith, rules}
use Rattle.hv_history.specs.Shown.{each_from, inserted_of}
use Rattle.hv_showing.specs.Fronts.{transactions_then}
use Rattle.hv_showing.proofs.Each.{each-next, each-end}
use Rattle.hv_showing.proofs.partitions.inserted_rows.Goals as goal

pub loop-i-preserved : goal.loop-i-preserved
loop-i-preserved c =
    let ts = transactions_then c.args.book.now.entries c.args.front.position in
    each-next (inserted_of c.args.table) ts c.loop-i.i c.loop-i.rows.items c.put_inserted.new.rows.items (each_from (inserted_of c.args.table) 1 ts)
    c.in_ok-put_inserted.ensures c.loop-i.invariant

pub returns : goal.returns
returns c =
    let ts = transactions_then c.args.book.now.entries c.args.front.position in
    let past : c.args.front.opened ≤ c.loop-i.i = search rules in
    each-end (inserted_of c.args.table) ts c.loop-i.i c.loop-i.rows.items (each_from (inserted_of c.args.table) 1 ts) (omega (arith, c.requires.opened, past)) c.loop-i.invariant
