-- Keys with what is kept of them, as pairs.
use Rattle.std.specs.Prelude.{List, map, Option}
use Rattle.hv_value.specs.declared.value.Value.{Value}
use Rattle.hv_value.specs.declared.row.Row.{Row}
use Rattle.hv_typing.specs.Rows.{Frame}
use Rattle.hv_workers.specs.declared.parts.Entry.{Entry}

abbrev pub pair_of : Entry → Row × (Option Frame × List Value)
pair_of entry = (entry.key, entry.kept)

abbrev pub pairs_in : List Entry → List (Row × (Option Frame × List Value))
pairs_in entries = map pair_of entries
