use Rattle.hv_values_text.proofs.Known.{row_part}
use Rattle.hv_values_text.proofs.rows.row.Goals as goal

pub returns-clause-part : goal.returns-clause-part
returns-clause-part c = row_part c.in_ok-expect.ensures.front c.in_ok-found.ensures.part c.in_ok-expect-2.ensures.front
