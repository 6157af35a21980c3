use Rattle.std.proofs.Common.{◌≡◌, drop}
use Rattle.std.specs.List.{list_all}
use Rattle.hv_typing.specs.Creates.{is_bucket_column}
use Rattle.hv_analysis.proofs.creates.are_bucket_columns.Given as goal

abbrev pub invariant-loop-name : goal.invariant-loop-name
invariant-loop-name l = list_all (is_bucket_column l.columns) (drop l.name-index l.names) ≡ list_all (is_bucket_column l.columns) l.names
