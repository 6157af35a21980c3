-- How a transaction stands. Source: Hive Transactions (open, committed, aborted).
use Rattle.std.specs.Prelude.{Option, Some, None}
use Rattle.hv_meta.specs.hv_book.specs.hv_history.specs.declared.state.Transaction.{Transaction}
use Rattle.hv_meta.specs.hv_book.specs.hv_history.specs.declared.state.Ending.{Ending}
use Rattle.hv_meta.specs.hv_book.specs.hv_history.specs.declared.state.Ending.TheVariants as ending
use Rattle.hv_earlier.specs.declared.fates.Fate.{Fate}
use Rattle.hv_earlier.specs.declared.fates.Fate.TheVariants as fate

abbrev pub fate_by : Option Ending → Fate
fate_by None = fate.Open
fate_by (Some (ending.Committed place wrote)) = fate.Committed
fate_by (Some (ending.Aborted place cause)) = fate.Aborted
fate_by (Some (ending.Made place table)) = fate.Committed
fate_by (Some (ending.Dropped place table)) = fate.Committed

abbrev pub fate_of : Transaction → Fate
fate_of transaction = fate_by transaction.ending
