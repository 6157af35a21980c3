use Rattle.hv_values_text.proofs.Examples.{one_row, two_rows, one_partition, no_row}
use Rattle.hv_values_text.proofs.laws.some_are_known.Goals as goal

pub returns : goal.returns
returns c = record { one = one_row; two = two_rows; partition = one_partition; none = no_row }
