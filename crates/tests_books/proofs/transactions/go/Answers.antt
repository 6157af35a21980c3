use Rattle.std.proofs.Common.{ap, ◌∙◌}
use Rattle.std.specs.Prelude.{slice_set}
use Rattle.hv_history.specs.declared.state.Transaction.{Transaction}
use Rattle.hv_history.specs.State.{while_open}
use Rattle.hv_history.proofs.NumberLemmas.{put_changed}
use Rattle.tests_books.specs.Replay.{moved}
use Rattle.tests_books.proofs.transactions.go.Goals as goal

pub returns : goal.returns
returns c =
    ap (λ (t : Transaction). slice_set c.args.transactions.now.items c.in-Some.at t) c.in_ok-move_one.ensures
    ∙ put_changed while_open (moved c.args.place c.args.entry.now) c.args.transactions.now.items c.deref.result.now c.args.txn c.in-Some.at c.index_mut-transaction.result.now
    c.deref.ensures.value c.in-Some.ensures.1 c.index_mut-transaction.ensures.value
