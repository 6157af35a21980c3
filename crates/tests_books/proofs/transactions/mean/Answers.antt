use Rattle.std.proofs.Common.{◌<◌, ◌≤◌, length, sym, ap, ◌∙◌, arith}
use Rattle.std.specs.Prelude.{slice_set}
use Rattle.hv_history.specs.declared.state.Statement.{Statement}
use Rattle.tests_books.specs.Replay.{said_of}
use Rattle.tests_books.proofs.Starts.{put_at, stays_at}
use Rattle.tests_books.proofs.transactions.mean.Goals as goal

pub returns-then-at-len : goal.returns-then-at-len
returns-then-at-len c =
    let within : c.args.number < length c.args.statements.now.items = omega (arith, c.if-at-len.true, c.len.ensures, c.args.statements.now.ok.0) in
    ap (λ (s : Statement). slice_set c.args.statements.now.items c.args.number s) c.mean_one.ensures
    ∙ put_at (said_of c.args.meaning) c.args.statements.now.items c.args.number c.index_mut-statement.result.now within c.index_mut-statement.ensures.value

pub returns-else-at-len : goal.returns-else-at-len
returns-else-at-len c =
    let beyond : length c.args.statements.now.items ≤ c.args.number = omega (arith, c.if-at-len.false, c.len.ensures, c.args.statements.now.ok.0) in
    sym (stays_at (said_of c.args.meaning) c.args.statements.now.items c.args.number beyond)
