use Rattle.std.proofs.Common.{sym, ◌∙◌}
use Rattle.hv_lex.proofs.Quotes.{behind_quote_utf8}
use Rattle.hv_lex.proofs.fronts.front.Goals as goal

pub string-requires-clause-utf8 : goal.string-requires-clause-utf8
string-requires-clause-utf8 c =
    behind_quote_utf8 c.args.text.now c.requires.some (sym c.is_quote.ensures ∙ c.if-is_quote.true) c.requires.utf8
