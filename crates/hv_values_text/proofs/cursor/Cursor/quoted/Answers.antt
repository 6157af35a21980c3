use Rattle.std.proofs.Common.{sym, ◌∙◌}
use Rattle.hv_values_text.proofs.Begun.{plain_is}
use Rattle.hv_values_text.proofs.Quotes.{plain_passes, plain_fails}
use Rattle.hv_values_text.proofs.Turns.{handed}
use Rattle.hv_values_text.proofs.cursor.Cursor.quoted.Goals as goal

pub returns-in_err-text-clause-known : goal.returns-in_err-text-clause-known
returns-in_err-text-clause-known c =
    handed _ _ _ _ c.from_residual-in_err-text.ensures.1
    (λ other.
    plain_fails c.next-quote.result c.plain_length-length.result c.inner-inner.result.now c.after-last.result.now c.args.self.now
    c.next-quote.ensures c.inner-inner.ensures c.plain_length-length.ensures c.after-last.ensures
    (sym c.is_quote.ensures ∙ c.if-not-is_quote.false) (sym c.first_byte.ensures ∙ c.if-first_byte-quote.false)
    _ c.in_ok-content.ensures.items (c.in_err-text.ensures.known other))

pub returns-clause-front : goal.returns-clause-front
returns-clause-front c =
    plain_is c.next-quote.result c.plain_length-length.result c.inner-inner.result.now c.after-last.result.now _ c.args.self.now _
    c.next-quote.ensures c.inner-inner.ensures c.plain_length-length.ensures c.after-last.ensures
    (sym c.is_quote.ensures ∙ c.if-not-is_quote.false) (sym c.first_byte.ensures ∙ c.if-first_byte-quote.false)
    (c.in_ok-text.ensures.front ∙ c.in_ok-content.ensures.items) c.after-self-inside.ensures

pub returns-clause-known : goal.returns-clause-known
returns-clause-known c =
    plain_passes c.next-quote.result c.plain_length-length.result c.inner-inner.result.now c.after-last.result.now c.args.self.now
    c.next-quote.ensures c.inner-inner.ensures c.plain_length-length.ensures c.after-last.ensures
    (sym c.is_quote.ensures ∙ c.if-not-is_quote.false) (sym c.first_byte.ensures ∙ c.if-first_byte-quote.false)
    _ _ c.in_ok-content.ensures.items c.in_ok-text.ensures.known c.after-self-inside.ensures
