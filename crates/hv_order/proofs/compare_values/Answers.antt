use Rattle.hv_order.proofs.Scalars.{by_ints, by_bigs, by_days, by_texts}
use Rattle.hv_order.proofs.compare_values.Goals as goal

pub returns-in-Int-Int : goal.returns-in-Int-Int
returns-in-Int-Int c = by_ints _ _ c.in-Int-Int.is-0 c.in-Int-Int.is-1 c.cmp.ensures

pub returns-in-Big-Big : goal.returns-in-Big-Big
returns-in-Big-Big c = by_bigs _ _ c.in-Big-Big.is-0 c.in-Big-Big.is-1 c.cmp-in-Big-Big.ensures

pub returns-in-Str-Str : goal.returns-in-Str-Str
returns-in-Str-Str c = by_texts _ _ c.in-Str-Str.is-0 c.in-Str-Str.is-1 c.order_of_texts.ensures

pub returns-in-Day-Day : goal.returns-in-Day-Day
returns-in-Day-Day c = by_days _ _ c.in-Day-Day.is-0 c.in-Day-Day.is-1 c.cmp-in-Day-Day.ensures
