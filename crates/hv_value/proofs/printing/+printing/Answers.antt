use Rattle.std.proofs.Common.{◌∷◌, [], ◌++◌, ◌∙◌, sym, ap, map, rules}
use Rattle.hv_value.specs.Bytes.{open_bracket, close_bracket}
use Rattle.hv_value.specs.Printing.{text_of, items_text, item_text, separator}
use Rattle.hv_value.specs.PrintingLaws.{text_of-Null, text_of-Bool, text_of-Int, text_of-Big, text_of-Str, text_of-Day, text_of-Array}
use Rattle.hv_value.proofs.PrintSteps.{prints_part, prints_then, prints_same, cut_first, cut_second, items_step, items_cut}
use Rattle.hv_value.proofs.printing.+printing.Goals as goal

pub print_within-returns-in-Null : goal.print_within-returns-in-Null
print_within-returns-in-Null t c =
    prints_same _ _ _ _ _ (sym (ap (λ v. text_of v c.args.in_array) c.in-Null.is ∙ text_of-Null c.args.in_array)) c.append.ensures

pub print_within-returns-in-Bool : goal.print_within-returns-in-Bool
print_within-returns-in-Bool t c =
    prints_same _ _ _ _ _ (sym (ap (λ v. text_of v c.args.in_array) c.in-Bool.is ∙ text_of-Bool c.in-Bool.truth c.args.in_array)) c.print_truth.ensures

pub print_within-returns-in-Int : goal.print_within-returns-in-Int
print_within-returns-in-Int t c =
    prints_same _ _ _ _ _ (sym (ap (λ v. text_of v c.args.in_array) c.in-Int.is ∙ text_of-Int c.in-Int.number c.args.in_array)) (search rules)

pub print_within-returns-in-Big : goal.print_within-returns-in-Big
print_within-returns-in-Big t c =
    prints_same _ _ _ _ _ (sym (ap (λ v. text_of v c.args.in_array) c.in-Big.is ∙ text_of-Big c.in-Big.number c.args.in_array)) (search rules)

pub print_within-returns-in-Str : goal.print_within-returns-in-Str
print_within-returns-in-Str t c =
    prints_same _ _ _ _ _ (sym (ap (λ v. text_of v c.args.in_array) c.in-Str.is ∙ text_of-Str c.in-Str.text c.args.in_array)) (search rules)

pub print_within-returns-in-Day : goal.print_within-returns-in-Day
print_within-returns-in-Day t c =
    prints_same _ _ _ _ _ (sym (ap (λ v. text_of v c.args.in_array) c.in-Day.is ∙ text_of-Day c.in-Day.day c.args.in_array)) (search rules)

pub print_within-returns-in-Array : goal.print_within-returns-in-Array
print_within-returns-in-Array t c =
    prints_same _ _ _ _ _ (sym (ap (λ v. text_of v c.args.in_array) c.in-Array.is ∙ text_of-Array c.in-Array.items c.args.in_array)) (search rules)

pub print_array-returns-in_err-append : goal.print_array-returns-in_err-append
print_array-returns-in_err-append t c =
    prints_part _ _ _ _ c.from_residual.ensures.0
    (cut_first (open_bracket ∷ []) (items_text (map item_text c.args.items.now) ++ close_bracket ∷ []) _ _ c.in_err-append.ensures)

pub print_array-returns-in_err-print_items : goal.print_array-returns-in_err-print_items
print_array-returns-in_err-print_items t c =
    let inner = items_text (map item_text c.args.items.now) in
    let close = close_bracket ∷ [] in
    prints_part _ _ _ _ c.from_residual-in_err-print_items.ensures.0
    (cut_second (open_bracket ∷ []) (inner ++ close) _ _ _ c.in_ok-append.ensures (cut_first inner close _ _ c.in_err-print_items.ensures))

pub print_array-returns : goal.print_array-returns
print_array-returns t c =
    let inner = items_text (map item_text c.args.items.now) in
    let close = close_bracket ∷ [] in
    prints_then (open_bracket ∷ []) (inner ++ close) _ _ _ _ c.in_ok-append.ensures
    (prints_then inner close _ _ _ _ c.in_ok-print_items.ensures c.append-2.ensures)

pub print_items-returns-in_err-print_item : goal.print_items-returns-in_err-print_item
print_items-returns-in_err-print_item t c =
    let i = c.loop-i.i in
    prints_part _ _ _ _ c.from_residual.ensures.0
    (items_cut c.args.items.now i c.index-items-i.result _ _ _ c.loop-i-test.true c.index-items-i.is c.loop-i.invariant
    c.in_err-print_item.ensures)

pub print_items-loop-i-preserved : goal.print_items-loop-i-preserved
print_items-loop-i-preserved t c =
    items_step c.args.items.now c.loop-i.i c.index-items-i.result _ _ _ c.loop-i-test.true c.index-items-i.is c.loop-i.invariant
    c.in_ok-print_item.ensures

pub print_item-returns-in_err-print_separator : goal.print_item-returns-in_err-print_separator
print_item-returns-in_err-print_separator t c =
    prints_part _ _ _ _ c.from_residual.ensures.0
    (cut_first (separator c.args.first) (item_text c.args.item.now) _ _ c.in_err-print_separator.ensures)

pub print_item-returns : goal.print_item-returns
print_item-returns t c =
    prints_then (separator c.args.first) (item_text c.args.item.now) _ _ _ _ c.in_ok-print_separator.ensures c.print_within.ensures
