use Rattle.hv_values_text.proofs.Known.{item_part}
use Rattle.hv_values_text.proofs.partitions.item.Goals as goal

pub returns-clause-part : goal.returns-clause-part
returns-clause-part c = item_part c.in_ok-name.ensures.front c.in_ok-value.ensures.part
