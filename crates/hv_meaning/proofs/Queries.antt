-- A query without windows is never refused as Syntax.
use Rattle.std.proofs.Common.{◌≡◌, ◌&&◌, ℕ, zero, suc, ◌+◌, ◌==◌, Bool, true, false, cond, not, List, [], ◌∷◌, ◌++◌, map, length, slice_get, Option, Some, None, Result, Ok, Err, refl, sym, ap, ◌∙◌, subst}
use Rattle.std.specs.Prelude.{◌||◌, ℤ, pos, negsuc, nat_lt}
use Rattle.std.specs.List.{list_all, list_any}
use Rattle.hv_base.specs.declared.refusal.Refusal.{Refusal}
use Rattle.hv_ast.specs.declared.expr.Expr.{Expr}
use Rattle.hv_ast.specs.declared.expr.Expr.TheVariants as expr
use Rattle.hv_ast.specs.declared.expr.Literal.{Literal}
use Rattle.hv_ast.specs.declared.expr.Literal.TheVariants as literal
use Rattle.hv_ast.specs.declared.query.From.{From}
use Rattle.hv_ast.specs.declared.query.Item.{Item}
use Rattle.hv_ast.specs.declared.query.Item.TheVariants as item
use Rattle.hv_ast.specs.declared.query.Join.{Join}
use Rattle.hv_ast.specs.declared.query.JoinKind.{JoinKind}
use Rattle.hv_ast.specs.declared.query.Key.{Key}
use Rattle.hv_ast.specs.declared.query.Lateral.{Lateral}
use Rattle.hv_ast.specs.declared.query.Query.{Query}
use Rattle.hv_ast.specs.declared.query.Select.{Select}
use Rattle.hv_ast.specs.declared.query.Source.{Source}
use Rattle.hv_ast.specs.declared.query.Source.TheOpen.{Source-F}
use Rattle.hv_ast.specs.declared.query.Source.TheShapes
use Rattle.hv_ast.specs.declared.query.Source.TheFolds.{map-Source, ind-Source}
use Rattle.hv_ast.specs.declared.query.Source.TheVariants as source
use Rattle.hv_ast.specs.declared.query.Source.TheVariants.{rolls-Table, rolls-Query}
use Rattle.hv_ast.specs.declared.query.Source.TheViews.{roll-Source}
use Rattle.hv_ast.specs.declared.query.Union.{Union}
use Rattle.hv_value.specs.declared.sql_type.SqlType.{SqlType}
use Rattle.hv_typing.specs.hv_expr.specs.declared.tree.TypedExpr.{TypedExpr}
use Rattle.hv_typing.specs.hv_logic.specs.declared.catalog.TableInfo.{TableInfo}
use Rattle.hv_typing.specs.declared.tree.OutputColumn.{OutputColumn}
use Rattle.hv_typing.specs.declared.tree.TypedQuery.{TypedQuery}
use Rattle.hv_typing.specs.declared.tree.TypedSelect.{TypedSelect}
use Rattle.hv_typing.specs.declared.tree.TypedSource.{TypedSource}
use Rattle.hv_typing.specs.declared.places.Place.TheVariants as place
use Rattle.hv_typing.specs.declared.scope.Field.{Field}
use Rattle.hv_typing.specs.declared.scope.Over.TheVariants as over
use Rattle.hv_typing.specs.Faults.{and_then}
use Rattle.hv_typing.specs.Kinds.{kind_of, unified}
use Rattle.hv_typing.specs.Typing.{typed, condition_of}
use Rattle.hv_typing.specs.Same.{same_tree}
use Rattle.hv_typing.specs.declared.listed.Listed.{Listed}
use Rattle.hv_typing.specs.declared.listed.Shown.{Shown}
use Rattle.hv_typing.specs.declared.listed.United.{United}
use Rattle.hv_typing.specs.declared.opened.Brought.{Brought}
use Rattle.hv_typing.specs.declared.opened.Opened.{Opened}
use Rattle.hv_typing.specs.declared.opened.Sources.{Sources}
use Rattle.hv_typing.specs.Sources.{is_among, is_taken, filter_typed, first_source, join_onto, array_typed, view_onto, all_viewed, all_joined, opened, opened_of}
use Rattle.hv_typing.specs.Selects.{is_empty, is_grouped, keys_typed, key_typed, Keys, keys_of, over_of, may_stand, item_shown, tested, item_tested, behind, most_shown, room_after, items_shown, having_typed, listed, select_over}
use Rattle.hv_typing.specs.Queries.{column_as, column_met, columns_met, columns_agreed, alone, unite, Place, place_numbered, is_named, place_named, place_of_literal, place_written, place_equal, place_typed, or_item, place_of_key, key_typed as sort_key_typed, order_typed, query_of, query_over, select_typed, all_united, query_typed}
use Rattle.hv_typing.specs.Analysis.{is_window, is_windowless_from, is_windowless_select, is_windowless_query, windowless_joins, windowless_unions, is_windowless_source, is_windowless}
use Rattle.hv_typing.specs.Creates.{place_of}
use Rattle.hv_typing.specs.Subqueries.{or_name, info_brought, place_brought, brought, selected}
use Rattle.hv_typing.proofs.Layers.{windowless-Query, brought-Table, brought-Query}
use Rattle.hv_meaning.proofs.Stored.{both}
use Rattle.hv_meaning.proofs.Typed.{Free, free-then, free-if, free-each, free-front, free-placed, typed-free}

not-true : (b : Bool) → not b ≡ true → b ≡ false
not-true true e = cc
not-true false e = refl

neither : (a b : Bool) → (a || b) ≡ false → (a ≡ false) × (b ≡ false)
neither true b e = cc
neither false b e = (refl, e)

-- ---- conditions, joins and lateral views

pub free-filter : (fields : List Field) (filter : Option Expr) → Free (filter_typed fields filter)
free-filter fields None = tt
free-filter fields (Some x) =
    free-then (condition_of fields x over.Row) _
    (free-then (typed fields x over.Row) _ (typed-free fields x over.Row) (free-placed place.Truth)) (λ typed. tt)

free-onto : (sources : Sources) (kind : JoinKind) (on : Option Expr) (right : Brought) → Free (join_onto sources kind on right)
unfolding join_onto
free-onto sources kind on right =
    free-if (is_taken sources right.alias) _ _ tt
    (free-then (filter_typed (sources.fields ++ right.fields) on) _ (free-filter (sources.fields ++ right.fields) on) (λ on. tt))

free-view : (sources : Sources) (lateral : Lateral) → Free (view_onto sources lateral)
unfolding view_onto
free-view sources lateral =
    free-then (array_typed sources.fields lateral.array) _
    (free-then (typed sources.fields lateral.array over.Row) _ (typed-free sources.fields lateral.array over.Row) (free-placed place.Array))
    (λ array. free-if (is_taken sources lateral.alias) _ _ tt tt)

free-views : (sources : Sources) (laterals : List Lateral) → Free (all_viewed sources laterals)
free-views sources [] = tt
free-views sources (lateral ∷ laterals) =
    free-then (view_onto sources lateral) _ (free-view sources lateral) (λ sources. free-views sources laterals)

-- ---- items, and what is behind them

free-item : (opened : Opened) (keys : Keys) (one : Item) → is_window one ≡ false → Free (item_shown opened keys one)
free-item opened keys item.All e = tt
free-item opened keys (item.AllOf alias) e = free-if (is_among opened.aliases alias) _ _ tt tt
free-item opened keys (item.One x alias) e =
    free-then (typed opened.fields x (over_of keys)) _ (typed-free opened.fields x (over_of keys)) (λ typed. tt)
free-item opened keys (item.Window window alias) e = cc

free-tested : (keys : Keys) (shown : List Shown) → Free (tested keys shown)
free-tested keys shown = free-if (list_all (λ (one : Shown). may_stand keys one.expr) shown) _ _ tt tt

free-behind : {A : Type 0} (done : List A) (r : Result (List A) Refusal) → Free r → Free (behind done r)
free-behind done (Ok rest) h = tt
free-behind done (Err why) h = h

free-room : (room : ℕ) (shown : List Shown) → Free (room_after room shown)
unfolding room_after
free-room room shown = free-if (nat_lt room (length shown)) _ _ tt tt

free-items : (room : ℕ) (opened : Opened) (keys : Keys) (items : List Item) → list_any is_window items ≡ false
    → Free (items_shown room opened keys items)
free-items room opened keys [] e = tt
free-items room opened keys (one ∷ items) e =
    let parts = neither (is_window one) (list_any is_window items) e in
    free-then (item_tested opened keys one) _
    (free-then (item_shown opened keys one) _ (free-item opened keys one parts.0) (free-tested keys))
    (λ shown. free-then (room_after room shown) _ (free-room room shown)
    (λ left. free-behind shown (items_shown left opened keys items) (free-items left opened keys items parts.1)))

free-having : (fields : List Field) (keys : Keys) (having : Option Expr) → Free (having_typed fields keys having)
free-having fields keys None = tt
free-having fields keys (Some x) =
    free-then (condition_of fields x over.Group) _
    (free-then (typed fields x over.Group) _ (typed-free fields x over.Group) (free-placed place.Truth))
    (λ x. free-if (may_stand keys x) _ _ tt tt)

free-keys : (fields : List Field) (keys : List Expr) → Free (keys_typed fields keys)
unfolding keys_typed
free-keys fields keys = free-each (key_typed fields) keys (λ key. typed-free fields key over.Row)

-- ---- the columns of a union

free-column : (name : List ℕ) (kind : Option SqlType) → Free (column_as name kind)
free-column name None = tt
free-column name (Some kind) = tt

free-columns : (columns : List OutputColumn) (xs : List TypedExpr) → Free (columns_met columns xs)
free-columns [] xs = tt
free-columns (column ∷ columns) [] = tt
free-columns (column ∷ columns) (x ∷ xs) =
    free-then (column_met column x) _ (free-column column.name (unified column.kind (kind_of x)))
    (λ met. free-front met (columns_met columns xs) (free-columns columns xs))

free-unite : (united : United) (all : Bool) (select : TypedSelect TypedSource) → Free (unite united all select)
unfolding unite
free-unite united all select =
    free-then (columns_agreed united.columns select.items) _
    (free-if (length select.items == length united.columns) _ _ (free-columns united.columns select.items) tt) (λ columns. tt)

-- ---- ORDER BY

abbrev FreePlace : Option Place → Type 0
FreePlace None = Unit {0}
FreePlace (Some place) = Free place

free-number : (count : ℕ) (n : ℤ) → Free (place_numbered count n)
free-number count (pos zero) = tt
free-number count (pos (suc n)) = free-if (nat_lt n count) _ _ tt tt
free-number count (negsuc n) = tt

free-choice : (b : Bool) (place : Place) (rest : Option Place) → Free place → FreePlace rest → FreePlace (cond b (Some place) rest)
free-choice true place rest h more = h
free-choice false place rest h more = more

free-named : (place : ℕ) (name : List ℕ) (columns : List OutputColumn) → FreePlace (place_named place name columns)
free-named place name [] = tt
free-named place name (column ∷ columns) =
    free-choice (is_named name column) _ (place_named (place + 1) name columns)
    (free-if (list_any (is_named name) columns) _ _ tt tt) (free-named (place + 1) name columns)

free-literal : (count : ℕ) (written : Literal) → FreePlace (place_of_literal count written)
free-literal count (literal.Int number) = free-number count number
free-literal count other = tt

free-equal : (place : ℕ) (x : TypedExpr) (items : List TypedExpr) → Free (place_equal place x items)
free-equal place x [] = tt
free-equal place x (one ∷ items) =
    free-if (same_tree x one) (Ok place) (place_equal (place + 1) x items) tt (free-equal (place + 1) x items)

free-typed : (r : Result TypedExpr Refusal) (items : List TypedExpr) → Free (place_typed r items)
free-typed (Ok x) items = free-equal 0 x items
free-typed (Err why) items = tt

free-or : (written : Option Place) (one : Place) → FreePlace written → Free one → Free (or_item written one)
free-or None one h more = more
free-or (Some place) one h more = h

free-key : (single : Bool) (listed : Listed) (columns : List OutputColumn) (key : Key) → FreePlace (place_written columns key.expr)
    → Free (sort_key_typed single listed columns key)
free-key single listed columns key h =
    free-then (place_of_key single listed columns key.expr) _
    (free-or (place_written columns key.expr) _ h (free-if single _ _ (free-typed (typed listed.fields key.expr listed.over) listed.select.items) tt))
    (λ place. tt)

free-written : (columns : List OutputColumn) (x : Expr) → FreePlace (place_written columns x)
free-written columns (expr.Literal written) = free-literal (length columns) written
free-written columns (expr.Column None name) = free-named 0 name columns
free-written columns other = tt

free-order : (single : Bool) (listed : Listed) (columns : List OutputColumn) (keys : List Key) → Free (order_typed single listed columns keys)
unfolding order_typed
free-order single listed columns keys =
    free-each (sort_key_typed single listed columns) keys (λ key. free-key single listed columns key (free-written columns key.expr))

-- ---- a query, where no source without windows is refused so

module _ {S : Type 0} (brings : S → Result Brought Refusal) (windowless : S → Bool) (free : (s : S) → windowless s ≡ true → Free (brings s)) where
  free-joined : (sources : Sources) (joins : List (Join S)) → windowless_joins windowless joins ≡ true → Free (all_joined brings sources joins)
  unfolding all_joined windowless_joins
  free-joined sources [] e = tt
  free-joined sources (join ∷ joins) e =
      let parts = both (windowless join.source) _ e in
      free-then (brings join.source) _ (free join.source parts.0) (λ right.
      free-then (join_onto sources join.kind join.on right) _ (free-onto sources join.kind join.on right) (λ sources.
      free-joined sources joins parts.1))

  free-opened : (from : Option (From S)) → is_windowless_from windowless from ≡ true → Free (opened brings from)
  unfolding opened
  free-opened None e = tt
  free-opened (Some from) e =
      let parts = both (windowless from.source) (windowless_joins windowless from.joins) e in
      free-then (brings from.source) _ (free from.source parts.0) (λ first.
      free-then (all_joined brings (first_source first) from.joins) _ (free-joined (first_source first) from.joins parts.1) (λ sources.
      free-then (all_viewed sources from.laterals) _ (free-views sources from.laterals) (λ sources. tt)))

  free-listed : (select : Select S) (opened : Opened) (filter : Option TypedExpr) (keys : Keys) → list_any is_window select.items ≡ false
      → Free (listed select opened filter keys)
  unfolding listed
  free-listed select opened filter keys e =
      free-then (items_shown most_shown opened keys select.items) _ (free-items most_shown opened keys select.items e) (λ shown.
      free-then (having_typed opened.fields keys select.having) _ (free-having opened.fields keys select.having) (λ having. tt))

  free-over : (select : Select S) (opened : Opened) → list_any is_window select.items ≡ false → Free (select_over select opened)
  unfolding select_over
  free-over select opened e =
      free-then (filter_typed opened.fields select.filter) _ (free-filter opened.fields select.filter) (λ filter.
      free-then (keys_typed opened.fields select.group) _ (free-keys opened.fields select.group) (λ keys.
      free-listed select opened filter (keys_of (is_grouped select) keys) e))

  free-select : (select : Select S) → is_windowless_select windowless select ≡ true → Free (select_typed brings select)
  unfolding select_typed
  free-select select e =
      let parts = both (not (list_any is_window select.items)) (is_windowless_from windowless select.from) e in
      free-then (opened brings select.from) _ (free-opened select.from parts.1) (λ opened. free-over select opened (not-true _ parts.0))

  free-united : (united : United) (unions : List (Union S)) → windowless_unions windowless unions ≡ true → Free (all_united brings united unions)
  unfolding all_united windowless_unions
  free-united united [] e = tt
  free-united united (union ∷ unions) e =
      let parts = both (is_windowless_select windowless union.select) _ e in
      free-then (select_typed brings union.select) _ (free-select union.select parts.0) (λ next.
      free-then (unite united union.all next.select) _ (free-unite united union.all next.select) (λ united.
      free-united united unions parts.1))

  free-query : (query : Query S) → is_windowless_query windowless query ≡ true → Free (query_typed brings query)
  unfolding query_typed query_over
  free-query query e =
      let parts = both (is_windowless_select windowless query.select) (windowless_unions windowless query.unions) e in
      free-then (select_typed brings query.select) _ (free-select query.select parts.0) (λ first.
      free-then (all_united brings (alone first.columns) query.unions) _ (free-united (alone first.columns) query.unions parts.1) (λ united.
      free-then (order_typed (is_empty query.unions) first united.columns query.order) _
      (free-order (is_empty query.unions) first united.columns query.order) (λ order. tt)))

-- ---- a query over sources that stand for others

empty-mapped : {A B : Type 0} (f : A → B) (xs : List A) → is_empty (map f xs) ≡ is_empty xs
empty-mapped f [] = refl
empty-mapped f (x ∷ xs) = refl

module _ {K : Type 0} (f : K → Source) where
  module _ (w : Source → Bool) where
    windowless-joins : (joins : List (Join K))
        → windowless_joins w (map ((TheShapes.former-Source-Query-0-at-6).map K Source f) joins) ≡ windowless_joins (λ k. w (f k)) joins
    unfolding windowless_joins
    windowless-joins [] = refl
    windowless-joins (join ∷ joins) = ap (λ rest. w (f join.source) && rest) (windowless-joins joins)

    windowless-from : (from : Option (From K))
        → is_windowless_from w ((TheShapes.former-Source-Query-0-at-10).map K Source f from) ≡ is_windowless_from (λ k. w (f k)) from
    windowless-from None = refl
    windowless-from (Some from) = ap (λ rest. w (f from.source) && rest) (windowless-joins from.joins)

    windowless-select : (select : Select K)
        → is_windowless_select w ((TheShapes.former-Source-Query-0-at-14).map K Source f select) ≡ is_windowless_select (λ k. w (f k)) select
    windowless-select select = ap (λ rest. not (list_any is_window select.items) && rest) (windowless-from select.from)

    windowless-unions : (unions : List (Union K))
        → windowless_unions w (map ((TheShapes.former-Source-Query-0-at-31).map K Source f) unions) ≡ windowless_unions (λ k. w (f k)) unions
    unfolding windowless_unions
    windowless-unions [] = refl
    windowless-unions (union ∷ unions) = λ i. windowless-select union.select i && windowless-unions unions i

    windowless-mapped : (query : Query K)
        → is_windowless_query w ((TheShapes.former-Source-Query-0-at-36).map K Source f query) ≡ is_windowless_query (λ k. w (f k)) query
    windowless-mapped query = λ i. windowless-select query.select i && windowless-unions query.unions i

  module _ (b : Source → Result Brought Refusal) where
    joins-mapped : (sources : Sources) (joins : List (Join K))
        → all_joined b sources (map ((TheShapes.former-Source-Query-0-at-6).map K Source f) joins) ≡ all_joined (λ k. b (f k)) sources joins
    unfolding all_joined
    joins-mapped sources [] = refl
    joins-mapped sources (join ∷ joins) = λ i.
        and_then (b (f join.source)) (λ right.
        and_then (join_onto sources join.kind join.on right) (λ sources. joins-mapped sources joins i))

    from-mapped : (from : Option (From K)) → opened b ((TheShapes.former-Source-Query-0-at-10).map K Source f from) ≡ opened (λ k. b (f k)) from
    unfolding opened
    from-mapped None = refl
    from-mapped (Some from) = λ i.
        and_then (b (f from.source)) (λ first.
        and_then (joins-mapped (first_source first) from.joins i) (λ sources.
        and_then (all_viewed sources from.laterals) (λ sources. Ok (opened_of sources))))

    select-mapped : (select : Select K)
        → select_typed b ((TheShapes.former-Source-Query-0-at-14).map K Source f select) ≡ select_typed (λ k. b (f k)) select
    unfolding select_typed select_over listed
    select-mapped select = λ i. and_then (from-mapped select.from i) (λ opened. select_over select opened)

    unions-mapped : (united : United) (unions : List (Union K))
        → all_united b united (map ((TheShapes.former-Source-Query-0-at-31).map K Source f) unions) ≡ all_united (λ k. b (f k)) united unions
    unfolding all_united
    unions-mapped united [] = refl
    unions-mapped united (union ∷ unions) = λ i.
        and_then (select-mapped union.select i) (λ next.
        and_then (unite united union.all next.select) (λ united. unions-mapped united unions i))

    query-mapped : (query : Query K)
        → query_typed b ((TheShapes.former-Source-Query-0-at-36).map K Source f query) ≡ query_typed (λ k. b (f k)) query
    unfolding query_typed query_over
    query-mapped query = λ i.
        and_then (select-mapped query.select i) (λ first.
        and_then (unions-mapped (alone first.columns) query.unions i) (λ united.
        and_then (order_typed (empty-mapped ((TheShapes.former-Source-Query-0-at-31).map K Source f) query.unions i) first united.columns query.order)
        (λ order. Ok (query_of first.select united order query.limit))))

-- ---- a source

free-info : (place : ℕ) (info : Option TableInfo) (alias : List ℕ) → Free (info_brought place info alias)
free-info place None alias = tt
free-info place (Some info) alias = tt

free-place : (tables : List TableInfo) (place : Option ℕ) (alias : List ℕ) → Free (place_brought tables place alias)
free-place tables None alias = tt
free-place tables (Some place) alias = free-info place (slice_get tables place) alias

module _ (tables : List TableInfo) where
  abbrev IsFree : Source → Type 0
  IsFree s = is_windowless_source s ≡ true → Free (brought tables s)

  abbrev Known : Type 0
  Known = (s : Source) × IsFree s

  abbrev plain : Known → Source
  plain known = known.0

  abbrev forget : Source-F Known → Source-F Source
  forget y = map-Source Known Source (λ known. known.0) y

  abbrev asked : Query Known → Query Source
  asked query = (TheShapes.former-Source-Query-0-at-36).map Known Source plain query

  is-windowless : (query : Query Known) (alias : List ℕ) → is_windowless_source (source.Query (asked query) alias) ≡ true
      → is_windowless_query (λ known. is_windowless_source (plain known)) query ≡ true
  unfolding is_windowless
  is-windowless query alias e = sym (windowless-mapped plain is_windowless_source query) ∙ sym (windowless-Query (asked query) alias) ∙ e

  free-asked : (query : Query Known) (alias : List ℕ) → is_windowless_source (source.Query (asked query) alias) ≡ true
      → Free (query_typed (brought tables) (asked query))
  free-asked query alias e =
      subst (λ (r : Result (TypedQuery TypedSource) Refusal). Free r) (sym (query-mapped plain (brought tables) query))
      (free-query (λ known. brought tables (plain known)) (λ known. is_windowless_source (plain known)) (λ known. known.1) query
      (is-windowless query alias e))

  free-table : (name : List ℕ) (alias : Option (List ℕ)) → IsFree (source.Table name alias)
  free-table name alias e =
      subst (λ (r : Result Brought Refusal). Free r) (sym (brought-Table tables name alias))
      (free-place tables (place_of name tables) (or_name alias name))

  free-subquery : (query : Query Known) (alias : List ℕ) → IsFree (source.Query (asked query) alias)
  free-subquery query alias e =
      subst (λ (r : Result Brought Refusal). Free r) (sym (brought-Query tables (asked query) alias))
      (free-then (query_typed (brought tables) (asked query)) _ (free-asked query alias e) (λ typed. tt))

  layers : (y : Source-F Known) → IsFree (roll-Source (forget y))
  layers (Source-F.Table name alias) = subst IsFree (sym (rolls-Table name alias)) (free-table name alias)
  layers (Source-F.Query query alias) = subst IsFree (sym (rolls-Query (asked query) alias)) (free-subquery query alias)

  free-source : (s : Source) → IsFree s
  free-source = ind-Source IsFree (λ x y is. subst (λ (layer : Source-F Source). IsFree (roll-Source layer)) is (layers y))

  pub free-brought : (s : Source) → is_windowless_source s ≡ true → Free (brought tables s)
  free-brought s = free-source s

  pub free-selected : (query : Query Source) → is_windowless query ≡ true → Free (selected tables query)
  unfolding is_windowless
  free-selected query e = free-query (brought tables) is_windowless_source free-source query e
