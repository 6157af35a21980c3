-- Whole queries: the first select, then each further select of a UNION with its number of columns (BadCount) and their
-- types (BadType), then ORDER BY. Types are unified column by column, and conversions are CASTs around the items; names are
-- the first select's. Source: Hive Language Manual, Union and Sort By; the order of faults is this project's profile.
use Rattle.std.specs.Prelude.{ℕ, zero, suc, ◌+◌, ◌==◌, Bool, true, false, if◌then◌else◌, List, [], ◌∷◌, ◌++◌, length, map, nat_lt, pos, ℤ, Option, None, Some, Result, Ok, Err}
use Rattle.std.specs.List.{list_any}
use Rattle.hv_base.specs.declared.refusal.Refusal.{Refusal}
use Rattle.hv_base.specs.declared.refusal.Refusal.TheVariants as refusal
use Rattle.hv_logic.specs.hv_ast.specs.declared.expr.Expr.{Expr}
use Rattle.hv_logic.specs.hv_ast.specs.declared.expr.Expr.TheVariants as expr
use Rattle.hv_logic.specs.hv_ast.specs.declared.expr.Literal.{Literal}
use Rattle.hv_logic.specs.hv_ast.specs.declared.expr.Literal.TheVariants as literal
use Rattle.hv_logic.specs.hv_ast.specs.declared.query.Key.{Key}
use Rattle.hv_logic.specs.hv_ast.specs.declared.query.Query.{Query}
use Rattle.hv_logic.specs.hv_ast.specs.declared.query.Select.{Select}
use Rattle.hv_logic.specs.hv_ast.specs.declared.query.Union.{Union}
use Rattle.hv_logic.specs.hv_value.specs.declared.sql_type.SqlType.{SqlType}
use Rattle.hv_logic.specs.hv_value.specs.declared.sql_type.SqlType.TheVariants as type
use Rattle.hv_expr.specs.declared.tree.TypedExpr.{TypedExpr}
use Rattle.hv_typing.specs.declared.tree.OutputColumn.{OutputColumn}
use Rattle.hv_typing.specs.declared.tree.SortKey.{SortKey}
use Rattle.hv_typing.specs.declared.tree.TypedQuery.{TypedQuery}
use Rattle.hv_typing.specs.declared.tree.TypedSelect.{TypedSelect}
use Rattle.hv_typing.specs.declared.tree.TypedSource.{TypedSource}
use Rattle.hv_typing.specs.declared.tree.TypedUnion.{TypedUnion}
use Rattle.hv_typing.specs.declared.fault.TypeFault.{TypeFault}
use Rattle.hv_typing.specs.Faults.{and_then, in_front, each_in_order, Types}
use Rattle.hv_typing.specs.Kinds.{kind_of, unified}
use Rattle.hv_typing.specs.Nodes.{as_kind}
use Rattle.hv_typing.specs.Scopes.{same_name}
use Rattle.hv_typing.specs.Typing.{typed}
use Rattle.hv_typing.specs.Same.{same_tree}
use Rattle.hv_typing.specs.declared.listed.Listed.{Listed}
use Rattle.hv_typing.specs.declared.listed.United.{United}
use Rattle.hv_typing.specs.declared.opened.Brought.{Brought}
use Rattle.hv_typing.specs.Selects.{is_empty, select_over}
use Rattle.hv_typing.specs.Sources.{opened}

-- ---- columns of a union: the one type of both selects, under the first one's name

abbrev pub column_as : List ℕ → Option SqlType → Result OutputColumn Refusal
column_as name None = Err refusal.BadType
column_as name (Some kind) = Ok (record { name = name; kind = kind })

abbrev pub column_met : OutputColumn → TypedExpr → Result OutputColumn Refusal
column_met column x = column_as column.name (unified column.kind (kind_of x))

abbrev pub columns_met : List OutputColumn → List TypedExpr → Result (List OutputColumn) Refusal
columns_met (column ∷ columns) (x ∷ xs) = and_then (column_met column x) (λ met. in_front met (columns_met columns xs))
columns_met _ _ = Ok []

abbrev pub columns_agreed : List OutputColumn → List TypedExpr → Result (List OutputColumn) Refusal
columns_agreed columns xs = if length xs == length columns then columns_met columns xs else Err refusal.BadCount

abbrev pub alone : List OutputColumn → United
alone columns = record { columns = columns; unions = [] }

abbrev pub union_of : Bool → TypedSelect TypedSource → TypedUnion TypedSource
union_of all select = record { all = all; select = select }

abbrev pub united_with : United → Bool → TypedSelect TypedSource → List OutputColumn → United
united_with united all select columns = record { columns = columns; unions = united.unions ++ union_of all select ∷ [] }

unfoldable pub unite : United → Bool → TypedSelect TypedSource → Result United Refusal
unite united all select =
    and_then (columns_agreed united.columns select.items) (λ columns. Ok (united_with united all select columns))

-- ---- all selects give the types of the whole

abbrev pub first_kind : List OutputColumn → SqlType
first_kind [] = type.Null
first_kind (column ∷ columns) = column.kind

abbrev pub behind_first : List OutputColumn → List OutputColumn
behind_first [] = []
behind_first (column ∷ columns) = columns

abbrev pub items_as : List OutputColumn → List TypedExpr → List TypedExpr
items_as columns [] = []
items_as columns (x ∷ xs) = as_kind (first_kind columns) x ∷ items_as (behind_first columns) xs

abbrev pub select_as : List OutputColumn → TypedSelect TypedSource → TypedSelect TypedSource
select_as columns select = record {
  distinct = select.distinct;
  items = items_as columns select.items;
  from = select.from;
  filter = select.filter;
  groups = select.groups;
}

abbrev pub union_as : List OutputColumn → TypedUnion TypedSource → TypedUnion TypedSource
union_as columns union = union_of union.all (select_as columns union.select)

-- ---- ORDER BY: a bare INT is the place of an output column from 1, a bare name that of an output column, and in a query
-- without UNION any other expression must be equal to an item. What is none of these is NoColumn.

abbrev pub Place : Type 0
Place = Result ℕ Refusal

abbrev pub place_numbered : ℕ → ℤ → Place
place_numbered count (pos (suc place)) = if nat_lt place count then Ok place else Err refusal.NoColumn
place_numbered count _ = Err refusal.NoColumn

abbrev pub is_named : List ℕ → OutputColumn → Bool
is_named name column = same_name column.name name

-- the output columns of this name: Ambiguous where there are several
abbrev pub place_named : ℕ → List ℕ → List OutputColumn → Option Place
place_named place name [] = None
place_named place name (column ∷ columns) =
    if is_named name column
    then Some (if list_any (is_named name) columns then Err refusal.Ambiguous else Ok place)
    else place_named (place + 1) name columns

abbrev pub place_of_literal : ℕ → Literal → Option Place
place_of_literal count (literal.Int number) = Some (place_numbered count number)
place_of_literal count _ = None

abbrev pub place_written : List OutputColumn → Expr → Option Place
place_written columns (expr.Literal literal) = place_of_literal (length columns) literal
place_written columns (expr.Column None name) = place_named 0 name columns
place_written columns _ = None

abbrev pub place_equal : ℕ → TypedExpr → List TypedExpr → Place
place_equal place x [] = Err refusal.NoColumn
place_equal place x (item ∷ items) = if same_tree x item then Ok place else place_equal (place + 1) x items

-- a key that has no type is no item's either
abbrev pub place_typed : Result TypedExpr Refusal → List TypedExpr → Place
place_typed (Ok x) items = place_equal 0 x items
place_typed (Err why) items = Err refusal.NoColumn

abbrev pub place_of_item : Bool → Listed → Expr → Place
place_of_item single listed x =
    if single then place_typed (typed listed.fields x listed.over) listed.select.items else Err refusal.NoColumn

abbrev pub or_item : Option Place → Place → Place
or_item None item = item
or_item (Some place) item = place

abbrev pub sort_key : Bool → ℕ → SortKey
sort_key descending place = record { place = place; descending = descending }

module _ (single : Bool) (listed : Listed) (columns : List OutputColumn) where
  abbrev pub place_of_key : Expr → Place
  place_of_key x = or_item (place_written columns x) (place_of_item single listed x)

  abbrev pub key_typed : Key → Result SortKey Refusal
  key_typed key = and_then (place_of_key key.expr) (λ place. Ok (sort_key key.descending place))

  unfoldable pub order_typed : List Key → Result (List SortKey) Refusal
  order_typed keys = each_in_order key_typed keys

-- what a call finds that takes no memory
abbrev pub Finds : Option (Result ℕ TypeFault) → Option Place → Type 0
Finds None None = Unit {0}
Finds (Some found) (Some place) = Types found place
Finds _ _ = ⊥

-- ---- the query

abbrev pub query_of : TypedSelect TypedSource → United → List SortKey → Option ℕ → TypedQuery TypedSource
query_of select united order limit = record {
  select = select_as united.columns select;
  unions = map (union_as united.columns) united.unions;
  order = order;
  limit = limit;
  columns = united.columns;
}

-- behind its selects
unfoldable pub query_over : {S : Type 0} → Query S → Listed → United → Result (TypedQuery TypedSource) Refusal
query_over query first united =
    and_then (order_typed (is_empty query.unions) first united.columns query.order) (λ order.
    Ok (query_of first.select united order query.limit))

-- where a source of FROM brings this
module _ {S : Type 0} (brought : S → Result Brought Refusal) where
  unfoldable pub select_typed : Select S → Result Listed Refusal
  select_typed select = and_then (opened brought select.from) (λ opened. select_over select opened)

  unfoldable pub all_united : United → List (Union S) → Result United Refusal
  all_united united [] = Ok united
  all_united united (union ∷ unions) =
      and_then (select_typed union.select) (λ next.
      and_then (unite united union.all next.select) (λ united. all_united united unions))

  unfoldable pub query_typed : Query S → Result (TypedQuery TypedSource) Refusal
  query_typed query =
      and_then (select_typed query.select) (λ first.
      and_then (all_united (alone first.columns) query.unions) (λ united. query_over query first united))
