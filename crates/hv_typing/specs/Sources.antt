-- What FROM brings into scope: its sources from the left, then its lateral views. At a source that is joined come its own
-- faults, an alias that is taken (Ambiguous), and ON, which sees all sources so far. The right side of LEFT SEMI JOIN is
-- seen in its ON alone. Source: Hive Language Manual, Joins and Lateral View; the order of faults is this project's profile.
use Rattle.std.specs.Prelude.{ℕ, Bool, true, false, if◌then◌else◌, ◌||◌, List, [], ◌∷◌, ◌++◌, length, map, Option, None, Some, Result, Ok, Err, codes}
use Rattle.std.specs.List.{list_any}
use Rattle.hv_base.specs.declared.refusal.Refusal.{Refusal}
use Rattle.hv_base.specs.declared.refusal.Refusal.TheVariants as refusal
use Rattle.hv_logic.specs.hv_ast.specs.declared.expr.Expr.{Expr}
use Rattle.hv_logic.specs.hv_ast.specs.declared.query.Explode.{Explode}
use Rattle.hv_logic.specs.hv_ast.specs.declared.query.Explode.TheVariants as explode
use Rattle.hv_logic.specs.hv_ast.specs.declared.query.JoinKind.{JoinKind as WrittenKind}
use Rattle.hv_logic.specs.hv_ast.specs.declared.query.JoinKind.TheVariants as written
use Rattle.hv_logic.specs.hv_ast.specs.declared.query.From.{From}
use Rattle.hv_logic.specs.hv_ast.specs.declared.query.Join.{Join}
use Rattle.hv_logic.specs.hv_ast.specs.declared.query.Lateral.{Lateral}
use Rattle.hv_logic.specs.hv_value.specs.declared.sql_type.SqlType.{SqlType}
use Rattle.hv_logic.specs.hv_value.specs.declared.sql_type.SqlType.TheVariants as type
use Rattle.hv_expr.specs.declared.tree.TypedExpr.{TypedExpr}
use Rattle.hv_typing.specs.declared.tree.JoinKind.{JoinKind}
use Rattle.hv_typing.specs.declared.tree.JoinKind.TheVariants as kind
use Rattle.hv_typing.specs.declared.tree.OutputColumn.{OutputColumn}
use Rattle.hv_typing.specs.declared.tree.TypedFrom.{TypedFrom}
use Rattle.hv_typing.specs.declared.tree.TypedJoin.{TypedJoin}
use Rattle.hv_typing.specs.declared.tree.TypedLateral.{TypedLateral}
use Rattle.hv_typing.specs.declared.tree.TypedQuery.{TypedQuery}
use Rattle.hv_typing.specs.declared.tree.TypedSource.{TypedSource}
use Rattle.hv_typing.specs.declared.tree.TypedSource.TheVariants as typed_source
use Rattle.hv_typing.specs.declared.places.Place.TheVariants as place
use Rattle.hv_typing.specs.declared.scope.Field.{Field}
use Rattle.hv_typing.specs.declared.scope.Over.TheVariants as over
use Rattle.hv_typing.specs.Faults.{and_then}
use Rattle.hv_typing.specs.Kinds.{kind_of, element_given}
use Rattle.hv_typing.specs.Nodes.{placed}
use Rattle.hv_typing.specs.Scopes.{same_name}
use Rattle.hv_typing.specs.Typing.{typed, condition_of}
use Rattle.hv_typing.specs.declared.opened.Brought.{Brought}
use Rattle.hv_typing.specs.declared.opened.Opened.{Opened}
use Rattle.hv_typing.specs.declared.opened.Sources.{Sources}

-- ---- names

abbrev pub is_among : List (List ℕ) → List ℕ → Bool
is_among names name = list_any (same_name name) names

-- those of semi-joined sources are taken too
abbrev pub is_taken : Sources → List ℕ → Bool
is_taken sources alias = is_among sources.aliases alias || is_among sources.hidden alias

abbrev pub field_as : List ℕ → List ℕ → SqlType → Field
field_as source name kind = record { source = source; name = name; kind = kind }

-- ---- conditions: of ON and of WHERE, over a row

abbrev pub filter_typed : List Field → Option Expr → Result (Option TypedExpr) Refusal
filter_typed fields None = Ok None
filter_typed fields (Some x) = and_then (condition_of fields x over.Row) (λ typed. Ok (Some typed))

-- ---- sources

-- a query in parentheses: its output columns
abbrev pub output_field : List ℕ → OutputColumn → Field
output_field alias column = field_as alias column.name column.kind

abbrev pub query_brought : List ℕ → TypedQuery TypedSource → Brought
query_brought alias query = record {
  source = typed_source.Query query;
  alias = alias;
  fields = map (output_field alias) query.columns;
}

abbrev pub from_first : Brought → TypedFrom TypedSource
from_first first = record { source = first.source; width = length first.fields; joins = []; laterals = [] }

abbrev pub first_source : Brought → Sources
first_source first = record { from = from_first first; aliases = first.alias ∷ []; hidden = []; fields = first.fields }

-- ---- joins

abbrev pub join_kind : WrittenKind → JoinKind
join_kind written.Cross = kind.Inner
join_kind written.Inner = kind.Inner
join_kind written.Left = kind.Left
join_kind written.Right = kind.Right
join_kind written.Full = kind.Full
join_kind written.LeftSemi = kind.LeftSemi

abbrev pub join_of : WrittenKind → Brought → Option TypedExpr → TypedJoin TypedSource
join_of written right on =
    record { kind = join_kind written; source = right.source; width = length right.fields; on = on }

abbrev pub with_join : TypedFrom TypedSource → TypedJoin TypedSource → TypedFrom TypedSource
with_join from join = record { source = from.source; width = from.width; joins = from.joins ++ join ∷ []; laterals = from.laterals }

abbrev pub shows_right : WrittenKind → Bool
shows_right written.LeftSemi = false
shows_right _ = true

abbrev pub if_shown : {A : Type 0} → WrittenKind → List A → List A → List A
if_shown written shown other = if shows_right written then shown else other

-- what is seen behind the join
abbrev pub joined_with : Sources → WrittenKind → Brought → Option TypedExpr → Sources
joined_with sources written right on = record {
  from = with_join sources.from (join_of written right on);
  aliases = if_shown written (sources.aliases ++ right.alias ∷ []) sources.aliases;
  hidden = if_shown written sources.hidden (sources.hidden ++ right.alias ∷ []);
  fields = if_shown written (sources.fields ++ right.fields) sources.fields;
}

unfoldable pub join_onto : Sources → WrittenKind → Option Expr → Brought → Result Sources Refusal
join_onto sources written on right =
    if is_taken sources right.alias
    then Err refusal.Ambiguous
    else and_then (filter_typed (sources.fields ++ right.fields) on) (λ on. Ok (joined_with sources written right on))

-- ---- lateral views: the array, then the alias

abbrev pub array_typed : List Field → Expr → Result TypedExpr Refusal
array_typed fields x = and_then (typed fields x over.Row) (placed place.Array)

abbrev pub or_col : Option (List ℕ) → List ℕ
or_col None = codes "col"
or_col (Some name) = name

abbrev pub element_of : TypedExpr → SqlType
element_of array = element_given (kind_of array)

abbrev pub view_fields : List ℕ → Explode → SqlType → List Field
view_fields alias (explode.Elements name) kind = field_as alias (or_col name) kind ∷ []
view_fields alias (explode.Positions position name) kind = field_as alias position type.Int ∷ field_as alias name kind ∷ []

abbrev pub has_positions : Explode → Bool
has_positions (explode.Elements name) = false
has_positions (explode.Positions position name) = true

abbrev pub view_of : Lateral → TypedExpr → TypedLateral
view_of lateral array = record { outer = lateral.outer; positions = has_positions lateral.explode; array = array }

abbrev pub with_view : TypedFrom TypedSource → TypedLateral → TypedFrom TypedSource
with_view from view = record { source = from.source; width = from.width; joins = from.joins; laterals = from.laterals ++ view ∷ [] }

abbrev pub viewed_with : Sources → Lateral → TypedExpr → Sources
viewed_with sources lateral array = record {
  from = with_view sources.from (view_of lateral array);
  aliases = sources.aliases ++ lateral.alias ∷ [];
  hidden = sources.hidden;
  fields = sources.fields ++ view_fields lateral.alias lateral.explode (element_of array);
}

abbrev pub if_free : Sources → Lateral → TypedExpr → Result Sources Refusal
if_free sources lateral array =
    if is_taken sources lateral.alias then Err refusal.Ambiguous else Ok (viewed_with sources lateral array)

unfoldable pub view_onto : Sources → Lateral → Result Sources Refusal
view_onto sources lateral = and_then (array_typed sources.fields lateral.array) (if_free sources lateral)

abbrev pub all_viewed : Sources → List Lateral → Result Sources Refusal
all_viewed sources [] = Ok sources
all_viewed sources (lateral ∷ laterals) = and_then (view_onto sources lateral) (λ sources. all_viewed sources laterals)

-- ---- FROM, where a source brings this

-- without FROM there is one row without values
abbrev pub opened_none : Opened
opened_none = record { from = None; aliases = []; fields = [] }

abbrev pub opened_of : Sources → Opened
opened_of sources = record { from = Some sources.from; aliases = sources.aliases; fields = sources.fields }

module _ {S : Type 0} (brought : S → Result Brought Refusal) where
  unfoldable pub all_joined : Sources → List (Join S) → Result Sources Refusal
  all_joined sources [] = Ok sources
  all_joined sources (join ∷ joins) =
      and_then (brought join.source) (λ right.
      and_then (join_onto sources join.kind join.on right) (λ sources. all_joined sources joins))

  unfoldable pub opened : Option (From S) → Result Opened Refusal
  opened None = Ok opened_none
  opened (Some from) =
      and_then (brought from.source) (λ first.
      and_then (all_joined (first_source first) from.joins) (λ sources.
      and_then (all_viewed sources from.laterals) (λ sources. Ok (opened_of sources))))
