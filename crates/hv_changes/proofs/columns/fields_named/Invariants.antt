use Rattle.std.proofs.Common.{◌≡◌, map, take}
use Rattle.hv_typing.specs.Columns.{field_of}
use Rattle.hv_changes.proofs.columns.fields_named.Given as goal

abbrev pub invariant-loop-column : goal.invariant-loop-column
invariant-loop-column l = l.fields.items ≡ map (field_of l.alias) (take l.column-index l.columns)
