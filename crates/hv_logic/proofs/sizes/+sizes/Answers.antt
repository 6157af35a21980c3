-- Each arm counts what the variant's layer does.
use Rattle.std.proofs.Common.{sum_by, ap, ◌∙◌, arith}
use Rattle.hv_logic.specs.Sizes.{stored_size}
use Rattle.hv_logic.proofs.SizeLemmas.{size-Null, size-Bool, size-Int, size-Big, size-Str, size-Day, size-Array}
use Rattle.hv_logic.proofs.sizes.+sizes.Goals as goal

pub stored_size-returns-in-Null : goal.stored_size-returns-in-Null
stored_size-returns-in-Null t c = let size = ap stored_size c.in-Null.is ∙ size-Null in omega arith

pub stored_size-returns-in-Bool : goal.stored_size-returns-in-Bool
stored_size-returns-in-Bool t c = let size = ap stored_size c.in-Bool.is ∙ size-Bool c.in-Bool.field-0 in omega arith

pub stored_size-returns-in-Int : goal.stored_size-returns-in-Int
stored_size-returns-in-Int t c = let size = ap stored_size c.in-Int.is ∙ size-Int c.in-Int.field-0 in omega arith

pub stored_size-returns-in-Big : goal.stored_size-returns-in-Big
stored_size-returns-in-Big t c = let size = ap stored_size c.in-Big.is ∙ size-Big c.in-Big.field-0 in omega arith

pub stored_size-returns-in-Str : goal.stored_size-returns-in-Str
stored_size-returns-in-Str t c =
    let size = ap stored_size c.in-Str.is ∙ size-Str c.in-Str.text in
    omega (arith, size, c.len.ensures, c.saturating_add.ensures)

pub stored_size-returns-in-Day : goal.stored_size-returns-in-Day
stored_size-returns-in-Day t c = let size = ap stored_size c.in-Day.is ∙ size-Day c.in-Day.field-0 in omega arith

pub stored_size-returns-in-Array : goal.stored_size-returns-in-Array
stored_size-returns-in-Array t c =
    let size = ap stored_size c.in-Array.is ∙ size-Array c.in-Array.items in
    let items = ap (sum_by stored_size) c.as_slice.ensures in
    omega (arith, size, items, c.stored_sizes.ensures, c.saturating_add-in-Array.ensures)
