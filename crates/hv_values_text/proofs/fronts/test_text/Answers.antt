use Rattle.std.proofs.lemmas.Str.{is_utf8-from_IsUtf8}
use Rattle.hv_values_text.proofs.Quotes.{no_text}
use Rattle.hv_values_text.proofs.fronts.test_text.Goals as goal

pub returns-in-Ok : goal.returns-in-Ok
returns-in-Ok c = record { known = is_utf8-from_IsUtf8 c.args.content.now c.in-Ok.ensures.cases.1 }

pub returns-in-Err : goal.returns-in-Err
returns-in-Err c = record { known = λ other. no_text c.args.content.now c.in-Err.ensures.cases.0 }
