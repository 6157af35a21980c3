use Rattle.std.proofs.Common.{◌<◌, false, Ok, arith, sym, length, ap, ◌∙◌}
use Rattle.std.proofs.lemmas.Grind.{common_steps}
use Rattle.hv_ast.proofs.Fronts.{closing_within}
use Rattle.hv_ast.specs.Tokens.{Text}
use Rattle.hv_values_text.proofs.Begun.{quoted_is}
use Rattle.hv_values_text.proofs.Quotes.{content_passes, content_fails, escape_fails}
use Rattle.hv_values_text.proofs.Turns.{handed}
use Rattle.hv_values_text.proofs.cursor.Cursor.escaped.Goals as goal

pub slice_bounds-unescaped-end : goal.slice_bounds-unescaped-end
slice_bounds-unescaped-end c =
    let inside = closing_within c.next-quote.result false c.inner-inner.result.now c.in-Some.length (sym c.in-Some.ensures) in
    let within : c.in-Some.length < length c.inner-inner.result.now = inside.0 in
    grind (arith, common_steps)

pub returns-in_err-content-clause-known : goal.returns-in_err-content-clause-known
returns-in_err-content-clause-known c =
    handed _ _ _ _ c.from_residual.ensures.1
    (escape_fails c.next-quote.result c.in-Some.length c.inner-inner.result.now c.args.self.now c.next-quote.ensures c.inner-inner.ensures
    (sym c.is_quote.ensures ∙ c.if-not-is_quote.false) (sym c.in-Some.ensures) _ c.in_err-content.ensures)

pub returns-in_err-text-clause-known : goal.returns-in_err-text-clause-known
returns-in_err-text-clause-known c =
    handed _ _ _ _ c.from_residual-in_err-text.ensures.1
    (λ other.
    content_fails c.next-quote.result c.in-Some.length c.inner-inner.result.now c.args.self.now c.next-quote.ensures c.inner-inner.ensures
    (sym c.is_quote.ensures ∙ c.if-not-is_quote.false) (sym c.in-Some.ensures) _ c.in_ok-content.ensures (c.in_err-text.ensures.known other))

pub returns-clause-front : goal.returns-clause-front
returns-clause-front c =
    quoted_is c.next-quote.result c.in-Some.length c.inner-inner.result.now _ _ c.args.self.now _ c.next-quote.ensures c.inner-inner.ensures
    (sym c.is_quote.ensures ∙ c.if-not-is_quote.false) (sym c.in-Some.ensures)
    (c.in_ok-content.ensures ∙ ap (λ (t : Text). Ok t) (sym c.in_ok-text.ensures.front)) c.after-last.ensures c.after-self-inside.ensures

pub returns-clause-known : goal.returns-clause-known
returns-clause-known c =
    content_passes c.next-quote.result c.in-Some.length c.inner-inner.result.now c.args.self.now c.next-quote.ensures c.inner-inner.ensures
    (sym c.is_quote.ensures ∙ c.if-not-is_quote.false) (sym c.in-Some.ensures)
    _ _ _ c.in_ok-content.ensures c.in_ok-text.ensures.known c.after-last.ensures c.after-self-inside.ensures
