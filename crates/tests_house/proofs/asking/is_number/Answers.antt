use Rattle.std.proofs.Common.{sym, ◌∙◌}
use Rattle.tests_house.proofs.Facts.{one_item}
use Rattle.tests_house.proofs.asking.is_number.Goals as goal

pub returns-in-len1 : goal.returns-in-len1
returns-in-len1 c = λ e.
    one_item c.args.row.now c.as_slice.result.now c.value-item.result _ c.number_of.result c.as_slice.ensures c.in-len1.len_at_least c.in-len1.len_below
    c.value-item.is c.number_of.ensures (sym c.is_some.ensures ∙ e)
