use Rattle.hv_law_dues.proofs.Runs.{touches-count, files-count}
use Rattle.hv_law_dues.proofs.laws.touches_count_rows.Goals as goal

pub returns : goal.returns
returns c = record { touches = touches-count; files = files-count }
