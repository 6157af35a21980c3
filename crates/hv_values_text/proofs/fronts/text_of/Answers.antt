use Rattle.std.proofs.lemmas.Str.{is_utf8-from_IsUtf8}
use Rattle.hv_values_text.proofs.Quotes.{no_text}
use Rattle.hv_values_text.proofs.fronts.text_of.Goals as goal

pub returns-in-Some-clause-known : goal.returns-in-Some-clause-known
returns-in-Some-clause-known c = is_utf8-from_IsUtf8 _ c.in-Some.ensures.0

pub returns-in-None-clause-known : goal.returns-in-None-clause-known
returns-in-None-clause-known c = λ other. no_text _ c.in-None.ensures
