use Rattle.std.proofs.Common.{◌≤◌, length, rules}
use Rattle.hv_history.specs.Shown.{each_from, lock_rows}
use Rattle.hv_showing.proofs.Each.{each-end}
use Rattle.tests_books.proofs.Shows.{one-more}
use Rattle.tests_books.proofs.listing.lock_rows.Goals as goal

pub loop-at-preserved : goal.loop-at-preserved
loop-at-preserved c =
    let ts = c.args.transactions.now in
    one-more lock_rows ts c.loop-at.at c.index-transactions-at.result c.loop-at.rows.items c.put_running.new.rows.items (each_from lock_rows 1 ts)
    c.loop-at-test.true c.index-transactions-at.is c.in_ok-put_running.ensures c.loop-at.invariant

pub returns : goal.returns
returns c =
    let ts = c.args.transactions.now in
    let past : length ts ≤ c.loop-at.at = search rules in
    each-end lock_rows ts c.loop-at.at c.loop-at.rows.items (each_from lock_rows 1 ts) past c.loop-at.invariant
