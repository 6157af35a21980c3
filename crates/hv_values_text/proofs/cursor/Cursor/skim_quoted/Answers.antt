use Rattle.std.proofs.Common.{take, refl, sym, ◌∙◌}
use Rattle.hv_values_text.proofs.Begun.{plain_is}
use Rattle.hv_values_text.proofs.Quotes.{plain_passes, plain_fails}
use Rattle.hv_values_text.proofs.Turns.{handed}
use Rattle.hv_values_text.proofs.cursor.Cursor.skim_quoted.Goals as goal

pub returns-in_err-test_text-clause-known : goal.returns-in_err-test_text-clause-known
returns-in_err-test_text-clause-known c =
    handed _ _ _ _ c.from_residual.ensures.1
    (λ other.
    plain_fails c.next-quote.result c.plain_length-length.result c.inner-inner.result.now c.after-last.result.now c.args.self.now
    c.next-quote.ensures c.inner-inner.ensures c.plain_length-length.ensures c.after-last.ensures
    (sym c.is_quote.ensures ∙ c.if-not-is_quote.false) (sym c.first_byte.ensures ∙ c.if-first_byte-quote.false)
    (take c.plain_length-length.result c.inner-inner.result.now) refl (c.in_err-test_text.ensures.known other))

pub returns-clause-front : goal.returns-clause-front
returns-clause-front c = record {
  content = take c.plain_length-length.result c.inner-inner.result.now;
  stands =
      plain_is c.next-quote.result c.plain_length-length.result c.inner-inner.result.now c.after-last.result.now
      (take c.plain_length-length.result c.inner-inner.result.now) c.args.self.now _
      c.next-quote.ensures c.inner-inner.ensures c.plain_length-length.ensures c.after-last.ensures
      (sym c.is_quote.ensures ∙ c.if-not-is_quote.false) (sym c.first_byte.ensures ∙ c.if-first_byte-quote.false)
      refl c.after-self-inside.ensures;
}

pub returns-clause-known : goal.returns-clause-known
returns-clause-known c =
    plain_passes c.next-quote.result c.plain_length-length.result c.inner-inner.result.now c.after-last.result.now c.args.self.now
    c.next-quote.ensures c.inner-inner.ensures c.plain_length-length.ensures c.after-last.ensures
    (sym c.is_quote.ensures ∙ c.if-not-is_quote.false) (sym c.first_byte.ensures ∙ c.if-first_byte-quote.false)
    (take c.plain_length-length.result c.inner-inner.result.now) _ refl c.in_ok-test_text.ensures.known c.after-self-inside.ensures
