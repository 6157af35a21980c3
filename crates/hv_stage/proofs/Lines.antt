-- The text of the value that names the stages is their line.
use Rattle.std.proofs.Common.{◌≡◌, Bool, true, false, ◌||◌, List, [], ◌∷◌, ◌++◌, map, refl, ap}
use Rattle.std.specs.Prelude.{codes}
use Rattle.json.specs.Print.{quoted}
use Rattle.serde_json.proofs.OnLiterals.{serde_json_on_literals}
use Rattle.serde_json.specs.Data.{Data, string, array, object, Items, member, no_members}
use Rattle.serde_json.specs.View.{items_of}
use Rattle.serde_json.specs.Written.{comma_if, has_float, items_have_float, compact_text, items_text}
use Rattle.hv_typing.specs.declared.stages.StageKind.{StageKind}
use Rattle.hv_typing.specs.declared.stages.StageKind.TheVariants.{Map, Shuffle, Reduce}
use Rattle.hv_typing.specs.StageLine.{stage_name, quoted_name, comma, names_from, stages_line}

abbrev name_data : StageKind → Data
name_data kind = string (stage_name kind)

abbrev items : List StageKind → Items
items kinds = items_of (map (λ kind. string (stage_name kind)) kinds)

quoted-is : (kind : StageKind) → quoted (stage_name kind) ≡ quoted_name kind
unfolding serde_json_on_literals
quoted-is Map = refl
quoted-is Shuffle = refl
quoted-is Reduce = refl

no-floats : (kinds : List StageKind) → items_have_float (items kinds) ≡ false
no-floats [] = refl
no-floats (kind ∷ kinds) = no-floats kinds

commas : (later : Bool) → comma_if later ≡ comma later
commas true = refl
commas false = refl

names-are : (later : Bool) (kinds : List StageKind) → items_text later (items kinds) ≡ names_from later kinds
names-are later [] = refl
names-are later (kind ∷ kinds) = λ i. commas later i ++ (quoted-is kind i ++ names-are true kinds i)

key-is : quoted (codes "stages") ≡ codes "\"stages\""
unfolding serde_json_on_literals
key-is = refl

pub line-has-no-float : (kinds : List StageKind) → has_float (object (member (codes "stages") (array (items kinds)) no_members)) ≡ false
line-has-no-float kinds = ap (λ b. b || false) (no-floats kinds)

pub line-is : (kinds : List StageKind) → compact_text (object (member (codes "stages") (array (items kinds)) no_members)) ≡ stages_line kinds
unfolding stages_line
line-is kinds = λ i. 123 ∷ (key-is i ++ 58 ∷ ((91 ∷ names-are false kinds i) ++ 125 ∷ []))
