use Rattle.std.proofs.lemmas.Result.{IfOk-equal}
use Rattle.tests_books.proofs.Steps.{start_acts}
use Rattle.tests_books.proofs.replay.act.Goals as goal

pub returns-in-Start-clause-transactions : goal.returns-in-Start-clause-transactions
returns-in-Start-clause-transactions c =
    IfOk-equal c.start.result c.start.new.transactions.items _ _ c.start.ensures
    (start_acts c.args.place c.args.transactions.now.items c.args.tables.now.items c.deref.result.now c.args.entry.now c.in-Start.txn c.in-Start.statement
    c.in-Start.is c.deref.ensures.value)
