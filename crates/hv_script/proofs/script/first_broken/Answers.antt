use Rattle.std.proofs.Common.{◌∙◌}
use Rattle.hv_script.proofs.Utf8.{unbroken, broken-at}
use Rattle.hv_script.proofs.script.first_broken.Goals as goal

pub returns-in-Ok : goal.returns-in-Ok
returns-in-Ok c = record { value = unbroken c.args.bytes.now c.in-Ok.ensures.cases.1 }

pub returns-in-Err : goal.returns-in-Err
returns-in-Err c =
    record { value = broken-at c.args.bytes.now c.valid_up_to.result c.line_at.result c.in-Err.ensures.cases.0 (c.valid_up_to.ensures ∙ c.in-Err.ensures.valid_len) c.line_at.ensures.value }
