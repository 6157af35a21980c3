-- What each of the three truth values says.
use Rattle.std.specs.Prelude.{Bool, true, false, Option, Some, None}
use Rattle.hv_seen.specs.declared.truths.Truth.{Truth}
use Rattle.hv_seen.specs.declared.truths.Truth.TheVariants as truth

abbrev pub told : Truth → Option Bool
told truth.False = Some false
told truth.Unknown = None
told truth.True = Some true
