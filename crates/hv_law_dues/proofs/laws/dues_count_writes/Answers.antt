use Rattle.hv_law_dues.proofs.Dues.{dues-count}
use Rattle.hv_law_dues.proofs.laws.dues_count_writes.Goals as goal

pub returns : goal.returns
returns c = record { law = dues-count }
