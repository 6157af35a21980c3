use Rattle.std.proofs.Common.{◌≡◌, ◌++◌, List, sym, ap, ◌∙◌, subst, append-nil}
use Rattle.std.specs.Prelude.{OnOk}
use Rattle.hv_value.specs.declared.row.Row.{Row}
use Rattle.hv_showing.specs.Fronts.{then_at, held_in}
use Rattle.hv_showing.proofs.Thens.{held-then, none-held}
use Rattle.hv_showing.proofs.locks.put_running.Goals as goal

pub returns-then-was_running : goal.returns-then-was_running
returns-then-was_running c =
    let entries = c.args.book.now.entries in
    let position = c.args.front.position in
    let txn = c.args.txn in
    subst (λ (more : List Row). OnOk c.put_held.result (c.put_held.new.rows.items ≡ c.args.rows.now.items ++ more))
    (ap (held_in txn) c.opening_tree.ensures.tree
    ∙ held-then entries position txn c.requires.texts (sym c.was_running.ensures ∙ c.if-was_running.true))
    c.put_held.ensures

pub returns-else-was_running : goal.returns-else-was_running
returns-else-was_running c =
    let there = then_at c.args.book.now.entries c.args.front.position c.args.txn in
    sym (append-nil c.args.rows.now.items)
    ∙ ap (λ (more : List Row). c.args.rows.now.items ++ more)
    (none-held c.args.txn there (sym c.was_running.ensures ∙ c.if-was_running.false))
