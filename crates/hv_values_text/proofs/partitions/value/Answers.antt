use Rattle.hv_values_text.proofs.Known.{no_value, some_value}
use Rattle.hv_values_text.proofs.partitions.value.Goals as goal

pub returns-then-not-sees-clause-part : goal.returns-then-not-sees-clause-part
returns-then-not-sees-clause-part c = no_value c.args.cursor.now

pub returns-clause-part : goal.returns-clause-part
returns-clause-part c = some_value c.in_ok-expect_single.ensures.front c.in_ok-literal.ensures.part
