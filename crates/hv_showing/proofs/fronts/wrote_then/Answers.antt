use Rattle.std.proofs.Common.{sym, ap, ◌∙◌}
use Rattle.hv_history.specs.State.{state_of, numbered}
use Rattle.hv_book.specs.Commits.{wrote_in}
use Rattle.hv_showing.proofs.Thens.{wrote_if, wrote-then}
use Rattle.hv_showing.proofs.fronts.wrote_then.Goals as goal

pub returns-then-had_committed : goal.returns-then-had_committed
returns-then-had_committed c =
    let entries = c.args.book.now.entries in
    let position = c.args.front.position in
    let txn = c.args.txn in
    c.committed.ensures.wrote
    ∙ ap (λ b. wrote_if entries position txn b (wrote_in (numbered (state_of entries).transactions txn))) (sym c.if-had_committed.true ∙ c.had_committed.ensures)
    ∙ sym (wrote-then entries position txn)

pub returns-else-had_committed : goal.returns-else-had_committed
returns-else-had_committed c =
    let entries = c.args.book.now.entries in
    let position = c.args.front.position in
    let txn = c.args.txn in
    ap (λ b. wrote_if entries position txn b (wrote_in (numbered (state_of entries).transactions txn))) (sym c.if-had_committed.false ∙ c.had_committed.ensures)
    ∙ sym (wrote-then entries position txn)
