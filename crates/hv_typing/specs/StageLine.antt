-- The line of EXPLAIN FORMATTED: one member, `stages`, the array of the stages' names, as JSON without spaces.
-- Source: RFC 8259; which members there are is this project's profile.
use Rattle.std.specs.Prelude.{ℕ, Bool, true, false, if◌then◌else◌, List, [], ◌∷◌, ◌++◌, codes}
use Rattle.hv_typing.specs.declared.stages.StageKind.{StageKind}
use Rattle.hv_typing.specs.declared.stages.StageKind.TheVariants.{Map, Shuffle, Reduce}

abbrev pub stage_name : StageKind → List ℕ
stage_name Map = codes "map"
stage_name Shuffle = codes "shuffle"
stage_name Reduce = codes "reduce"

abbrev pub quoted_name : StageKind → List ℕ
quoted_name Map = codes "\"map\""
quoted_name Shuffle = codes "\"shuffle\""
quoted_name Reduce = codes "\"reduce\""

-- a comma, where something stands before
abbrev pub comma : Bool → List ℕ
comma later = if later then 44 ∷ [] else []

-- the names, with what closes the array
abbrev pub names_from : Bool → List StageKind → List ℕ
names_from later [] = codes "]"
names_from later (kind ∷ kinds) = comma later ++ (quoted_name kind ++ names_from true kinds)

unfoldable pub stages_line : List StageKind → List ℕ
stages_line kinds = codes "{\"stages\":[" ++ (names_from false kinds ++ codes "}")
