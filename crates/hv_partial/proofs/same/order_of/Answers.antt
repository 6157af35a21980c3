use Rattle.std.proofs.Common.{sym, ◌∙◌}
use Rattle.hv_partial.proofs.Ranks.{by_layers, ints, bigs, days, texts, both_null, null_int, null_big, null_text, null_day, int_null, big_null, text_null, day_null}
use Rattle.hv_partial.proofs.same.order_of.Goals as goal

pub returns-in-Null-Null : goal.returns-in-Null-Null
returns-in-Null-Null c = by_layers c.in-Null-Null.is-0 c.in-Null-Null.is-1 (sym both_null)

pub returns-in-Null-Int : goal.returns-in-Null-Int
returns-in-Null-Int c = by_layers c.in-Null-Int.is-0 c.in-Null-Int.is-1 (sym (null_int _))

pub returns-in-Null-Big : goal.returns-in-Null-Big
returns-in-Null-Big c = by_layers c.in-Null-Big.is-0 c.in-Null-Big.is-1 (sym (null_big _))

pub returns-in-Null-Str : goal.returns-in-Null-Str
returns-in-Null-Str c = by_layers c.in-Null-Str.is-0 c.in-Null-Str.is-1 (sym (null_text _))

pub returns-in-Null-Day : goal.returns-in-Null-Day
returns-in-Null-Day c = by_layers c.in-Null-Day.is-0 c.in-Null-Day.is-1 (sym (null_day _))

pub returns-in-Int-Null : goal.returns-in-Int-Null
returns-in-Int-Null c = by_layers c.in-Int-Null.is-0 c.in-Int-Null.is-1 (sym (int_null _))

pub returns-in-Big-Null : goal.returns-in-Big-Null
returns-in-Big-Null c = by_layers c.in-Big-Null.is-0 c.in-Big-Null.is-1 (sym (big_null _))

pub returns-in-Str-Null : goal.returns-in-Str-Null
returns-in-Str-Null c = by_layers c.in-Str-Null.is-0 c.in-Str-Null.is-1 (sym (text_null _))

pub returns-in-Day-Null : goal.returns-in-Day-Null
returns-in-Day-Null c = by_layers c.in-Day-Null.is-0 c.in-Day-Null.is-1 (sym (day_null _))

pub returns-in-Int-Int : goal.returns-in-Int-Int
returns-in-Int-Int c = by_layers c.in-Int-Int.is-0 c.in-Int-Int.is-1 (c.cmp.ensures ∙ sym (ints _ _))

pub returns-in-Big-Big : goal.returns-in-Big-Big
returns-in-Big-Big c = by_layers c.in-Big-Big.is-0 c.in-Big-Big.is-1 (c.cmp-in-Big-Big.ensures ∙ sym (bigs _ _))

pub returns-in-Str-Str : goal.returns-in-Str-Str
returns-in-Str-Str c = by_layers c.in-Str-Str.is-0 c.in-Str-Str.is-1 (c.order_of_texts.ensures ∙ sym (texts _ _))

pub returns-in-Day-Day : goal.returns-in-Day-Day
returns-in-Day-Day c = by_layers c.in-Day-Day.is-0 c.in-Day-Day.is-1 (c.cmp-in-Day-Day.ensures ∙ sym (days _ _))
