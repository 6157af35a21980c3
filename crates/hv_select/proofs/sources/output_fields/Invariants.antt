use Rattle.std.proofs.Common.{◌≡◌, map}
use Rattle.std.proofs.Common.{take}
use Rattle.hv_typing.specs.Sources.{output_field}
use Rattle.hv_select.proofs.sources.output_fields.Given as goal

abbrev pub invariant-loop-column : goal.invariant-loop-column
invariant-loop-column l = l.fields.items ≡ map (output_field l.alias) (take l.column-index l.columns)
