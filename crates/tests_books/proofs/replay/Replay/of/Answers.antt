use Rattle.std.proofs.Common.{◌≡◌, get_or, sym, ap, ◌∙◌}
use Rattle.tests_books.proofs.Steps.{next_transactions, next_tables, next_jobs}
use Rattle.tests_books.proofs.replay.Replay.of.Goals as goal

pub loop-at-preserved : goal.loop-at-preserved
loop-at-preserved c =
    let entries = c.args.entries.now in
    let entry = c.index-entries-at.result in
    record {
      transactions = c.in_ok-act.ensures.transactions
          ∙ next_transactions entries c.loop-at.at entry c.loop-at.replay.transactions.items c.loop-at.replay.tables.items
          c.loop-at-test.true c.index-entries-at.is c.loop-at.invariant.transactions c.loop-at.invariant.tables c.loop-at.invariant.jobs;
      tables = c.in_ok-act.ensures.tables
          ∙ next_tables entries c.loop-at.at entry c.loop-at.replay.transactions.items c.loop-at.replay.tables.items
          c.loop-at-test.true c.index-entries-at.is c.loop-at.invariant.transactions c.loop-at.invariant.tables c.loop-at.invariant.jobs;
      jobs =
          next_jobs entries c.loop-at.at entry c.loop-at.replay.transactions.items c.loop-at.replay.tables.items
          c.loop-at-test.true c.index-entries-at.is c.loop-at.invariant.transactions c.loop-at.invariant.tables c.loop-at.invariant.jobs
          c.in_ok-act.ensures.asked;
    }
