-- What a value feeds a hasher: the place of its variant, and what it holds.
use Rattle.std.specs.Prelude.{◌++◌}
use Rattle.std.specs.Hash as fed
use Rattle.std.specs.Hash.{HashWrites}
use Rattle.hv_value.specs.declared.row.Row.{Row}
use Rattle.hv_value.specs.declared.value.Value.{Value}
use Rattle.hv_value.specs.declared.value.Value.TheOpen.{Value-F}
use Rattle.hv_value.specs.declared.value.Value.TheFolds.{fold-Value}

abbrev pub layer_writes : Value-F HashWrites → HashWrites
layer_writes Value-F.Null = fed.u8 0
layer_writes (Value-F.Bool b) = fed.u8 1 ++ fed.bool b
layer_writes (Value-F.Int n) = fed.u8 2 ++ fed.i32 n
layer_writes (Value-F.Big n) = fed.u8 3 ++ fed.i64 n
layer_writes (Value-F.Str text) = fed.u8 4 ++ fed.str text
layer_writes (Value-F.Day n) = fed.u8 5 ++ fed.i32 n
layer_writes (Value-F.Array items) = fed.u8 6 ++ fed.slice (λ item. item) items

unfoldable pub value_writes : Value → HashWrites
value_writes = fold-Value HashWrites layer_writes

abbrev pub row_writes : Row → HashWrites
row_writes row = fed.slice value_writes row.values
