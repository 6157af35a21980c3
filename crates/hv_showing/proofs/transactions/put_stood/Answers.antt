use Rattle.std.proofs.Common.{◌≡◌, ◌++◌, List, ap, ◌∙◌, subst}
use Rattle.std.specs.Prelude.{OnOk}
use Rattle.hv_value.specs.declared.row.Row.{Row}
use Rattle.hv_history.specs.State.{numbered}
use Rattle.hv_history.specs.Shown.{has_kept}
use Rattle.hv_book.proofs.TextLaws.{numbered-map}
use Rattle.hv_showing.specs.Fronts.{tables_then, transactions_then, shown_so}
use Rattle.hv_showing.specs.Marks.{is_marked}
use Rattle.hv_showing.proofs.Thens.{shown-then}
use Rattle.hv_showing.proofs.transactions.put_stood.Goals as goal

pub returns : goal.returns
returns c =
    let entries = c.args.book.now.entries in
    let position = c.args.front.position in
    let txn = c.args.txn in
    let kept =
    c.is_marked-kept.ensures
    ∙ ap is_marked
    (ap (λ marks. numbered marks txn) c.requires.marks ∙ numbered-map (has_kept (tables_then entries position)) (transactions_then entries position) txn)
    in
    subst (λ (more : List Row). OnOk c.put_transaction.result (c.put_transaction.new.rows.items ≡ c.args.rows.now.items ++ more))
    ((λ i. shown_so txn (c.stood-fate.ensures i) (kept i) (c.session.ensures.session i)) ∙ shown-then entries position txn)
    c.put_transaction.ensures
