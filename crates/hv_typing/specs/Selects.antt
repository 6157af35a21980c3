-- A select over what FROM brings: WHERE, GROUP BY, items, HAVING. An item or HAVING is typed whole, then tested for
-- columns outside GROUP BY; the columns of `*` one by one; behind that come too many columns (Limit). Output columns are
-- named by their alias, by their column, or `_c` with their place from 0. Source: Hive Language Manual, Select and GROUP BY;
-- the limit and the order of faults are this project's profile.
use Rattle.std.specs.Prelude.{ℕ, ◌+◌, ◌-◌, nat_lt, Bool, true, false, not, if◌then◌else◌, ◌||◌, is_some, List, [], ◌∷◌, ◌++◌, map, length, Option, None, Some, Result, Ok, Err, codes}
use Rattle.std.specs.Fmt.{decimal}
use Rattle.std.specs.List.{list_all, list_any}
use Rattle.hv_base.specs.declared.refusal.Refusal.{Refusal}
use Rattle.hv_base.specs.declared.refusal.Refusal.TheVariants as refusal
use Rattle.hv_logic.specs.hv_ast.specs.declared.expr.Expr.{Expr}
use Rattle.hv_logic.specs.hv_ast.specs.declared.expr.Expr.TheVariants as expr
use Rattle.hv_logic.specs.hv_ast.specs.declared.query.Item.{Item}
use Rattle.hv_logic.specs.hv_ast.specs.declared.query.Item.TheVariants as item
use Rattle.hv_logic.specs.hv_ast.specs.declared.query.Select.{Select}
use Rattle.hv_expr.specs.declared.tree.TypedExpr.{TypedExpr}
use Rattle.hv_expr.specs.declared.tree.TypedExpr.TheVariants as tree
use Rattle.hv_typing.specs.declared.tree.Grouping.{Grouping}
use Rattle.hv_typing.specs.declared.tree.OutputColumn.{OutputColumn}
use Rattle.hv_typing.specs.declared.tree.TypedFrom.{TypedFrom}
use Rattle.hv_typing.specs.declared.tree.TypedSelect.{TypedSelect}
use Rattle.hv_typing.specs.declared.tree.TypedSource.{TypedSource}
use Rattle.hv_typing.specs.declared.scope.Field.{Field}
use Rattle.hv_typing.specs.declared.scope.Over.{Over}
use Rattle.hv_typing.specs.declared.scope.Over.TheVariants as over
use Rattle.hv_typing.specs.Faults.{and_then, each_in_order}
use Rattle.hv_typing.specs.Kinds.{kind_of}
use Rattle.hv_typing.specs.Scopes.{same_name}
use Rattle.hv_typing.specs.Typing.{typed, condition_of}
use Rattle.hv_typing.specs.Aggregates.{has_aggregate}
use Rattle.hv_typing.specs.Standing.{stands_grouped}
use Rattle.hv_typing.specs.declared.listed.Listed.{Listed}
use Rattle.hv_typing.specs.declared.listed.Shown.{Shown}
use Rattle.hv_typing.specs.declared.opened.Opened.{Opened}
use Rattle.hv_typing.specs.Sources.{filter_typed, is_among}

abbrev pub is_empty : {A : Type 0} → List A → Bool
is_empty [] = true
is_empty (a ∷ rest) = false

-- ---- groups: there are some under GROUP BY, HAVING, or an aggregate in an item

abbrev pub aggregates_in : Item → Bool
aggregates_in (item.One x alias) = has_aggregate x
aggregates_in _ = false

abbrev pub is_grouped : {S : Type 0} → Select S → Bool
is_grouped select = not (is_empty select.group) || (is_some select.having || list_any aggregates_in select.items)

abbrev pub key_typed : List Field → Expr → Result TypedExpr Refusal
key_typed fields key = typed fields key over.Row

unfoldable pub keys_typed : List Field → List Expr → Result (List TypedExpr) Refusal
keys_typed fields keys = each_in_order (key_typed fields) keys

-- the GROUP BY expressions, None in a select without groups
abbrev pub Keys : Type 0
Keys = Option (List TypedExpr)

abbrev pub keys_of : Bool → List TypedExpr → Keys
keys_of grouped keys = if grouped then Some keys else None

-- aggregates may stand where there are groups
abbrev pub over_of : Keys → Over
over_of None = over.Row
over_of (Some keys) = over.Group

abbrev pub may_stand : Keys → TypedExpr → Bool
may_stand None x = true
may_stand (Some keys) x = stands_grouped keys x

-- ---- items

abbrev pub shown_as : Option (List ℕ) → TypedExpr → Shown
shown_as name x = record { name = name; expr = x }

abbrev pub is_of : Option (List ℕ) → Field → Bool
is_of None field = true
is_of (Some alias) field = same_name field.source alias

abbrev pub field_shown : ℕ → Field → Shown
field_shown place field = shown_as (Some field.name) (tree.Column place field.kind)

-- `*`, or those of one source
abbrev pub fields_shown : Option (List ℕ) → ℕ → List Field → List Shown
fields_shown alias place [] = []
fields_shown alias place (field ∷ fields) =
    if is_of alias field
    then field_shown place field ∷ fields_shown alias (place + 1) fields
    else fields_shown alias (place + 1) fields

abbrev pub written_name : Expr → Option (List ℕ)
written_name (expr.Column source name) = Some name
written_name _ = None

abbrev pub shown_name : Option (List ℕ) → Expr → Option (List ℕ)
shown_name (Some alias) x = Some alias
shown_name None x = written_name x

abbrev pub one_shown : List Field → Keys → Expr → Option (List ℕ) → Result (List Shown) Refusal
one_shown fields keys x alias =
    and_then (typed fields x (over_of keys)) (λ typed. Ok (shown_as (shown_name alias x) typed ∷ []))

abbrev pub all_shown : Opened → List ℕ → Result (List Shown) Refusal
all_shown opened alias =
    if is_among opened.aliases alias then Ok (fields_shown (Some alias) 0 opened.fields) else Err refusal.NoColumn

-- windows aren't built yet
abbrev pub item_shown : Opened → Keys → Item → Result (List Shown) Refusal
item_shown opened keys item.All = Ok (fields_shown None 0 opened.fields)
item_shown opened keys (item.AllOf alias) = all_shown opened alias
item_shown opened keys (item.One x alias) = one_shown opened.fields keys x alias
item_shown opened keys (item.Window window alias) = Err refusal.Syntax

abbrev pub shown_stands : Keys → Shown → Bool
shown_stands keys shown = may_stand keys shown.expr

abbrev pub tested : Keys → List Shown → Result (List Shown) Refusal
tested keys shown = if list_all (shown_stands keys) shown then Ok shown else Err refusal.NotGrouped

abbrev pub item_tested : Opened → Keys → Item → Result (List Shown) Refusal
item_tested opened keys item = and_then (item_shown opened keys item) (tested keys)

abbrev pub behind : {A : Type 0} → List A → Result (List A) Refusal → Result (List A) Refusal
behind done (Ok rest) = Ok (done ++ rest)
behind done (Err refusal) = Err refusal

-- how many columns a select shows at most. Hive has no such limit: it is this project's profile, since `*` over what itself
-- shows `*` would double them at each level
abbrev pub most_shown : ℕ
most_shown = 1024

-- the room that is left where these are shown
unfoldable pub room_after : ℕ → List Shown → Result ℕ Refusal
room_after room shown = if nat_lt room (length shown) then Err refusal.Limit else Ok (room - length shown)

-- where there is room for so many
abbrev pub items_shown : ℕ → Opened → Keys → List Item → Result (List Shown) Refusal
items_shown room opened keys [] = Ok []
items_shown room opened keys (item ∷ items) =
    and_then (item_tested opened keys item) (λ shown.
    and_then (room_after room shown) (λ left. behind shown (items_shown left opened keys items)))

-- ---- HAVING

abbrev pub condition_tested : Keys → TypedExpr → Result (Option TypedExpr) Refusal
condition_tested keys x = if may_stand keys x then Ok (Some x) else Err refusal.NotGrouped

abbrev pub having_typed : List Field → Keys → Option Expr → Result (Option TypedExpr) Refusal
having_typed fields keys None = Ok None
having_typed fields keys (Some x) = and_then (condition_of fields x over.Group) (condition_tested keys)

-- ---- output columns

abbrev pub numbered : ℕ → List ℕ
numbered place = codes "_c" ++ decimal place

abbrev pub or_numbered : ℕ → Option (List ℕ) → List ℕ
or_numbered place None = numbered place
or_numbered place (Some name) = name

abbrev pub column_shown : ℕ → Shown → OutputColumn
column_shown place shown = record { name = or_numbered place shown.name; kind = kind_of shown.expr }

abbrev pub columns_shown : ℕ → List Shown → List OutputColumn
columns_shown place [] = []
columns_shown place (one ∷ shown) = column_shown place one ∷ columns_shown (place + 1) shown

-- ---- the select

abbrev pub expr_shown : Shown → TypedExpr
expr_shown shown = shown.expr

abbrev pub grouping_of : Keys → Option TypedExpr → Option Grouping
grouping_of None having = None
grouping_of (Some keys) having = Some (record { keys = keys; having = having })

abbrev pub select_of
    : Bool → Option (TypedFrom TypedSource) → Option TypedExpr → Option Grouping → List Shown → TypedSelect TypedSource
select_of distinct from filter groups shown =
    record { distinct = distinct; items = map expr_shown shown; from = from; filter = filter; groups = groups }

-- with what ORDER BY sees
abbrev pub listed_of : Bool → Opened → Option TypedExpr → Keys → Option TypedExpr → List Shown → Listed
listed_of distinct opened filter keys having shown = record {
  select = select_of distinct opened.from filter (grouping_of keys having) shown;
  columns = columns_shown 0 shown;
  fields = opened.fields;
  over = over_of keys;
}

module _ {S : Type 0} (select : Select S) (opened : Opened) where
  unfoldable pub listed : Option TypedExpr → Keys → Result Listed Refusal
  listed filter keys =
      and_then (items_shown most_shown opened keys select.items) (λ shown.
      and_then (having_typed opened.fields keys select.having) (λ having.
      Ok (listed_of select.distinct opened filter keys having shown)))

  unfoldable pub select_over : Result Listed Refusal
  select_over =
      and_then (filter_typed opened.fields select.filter) (λ filter.
      and_then (keys_typed opened.fields select.group) (λ keys. listed filter (keys_of (is_grouped select) keys)))
