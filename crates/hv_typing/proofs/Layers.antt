-- The equations of what looks into subqueries: a source that is a table, and one that is a query.
use Rattle.std.proofs.Common.{◌≡◌, ℕ, Bool, true, not, ◌&&◌, List, [], ◌∷◌, map, Option, Some, None, Result, Ok, refl, sym, ap, ◌∙◌}
use Rattle.std.specs.List.{list_any}
use Rattle.hv_base.specs.declared.refusal.Refusal.{Refusal}
use Rattle.hv_logic.specs.hv_ast.specs.declared.query.From.{From}
use Rattle.hv_logic.specs.hv_ast.specs.declared.query.Join.{Join}
use Rattle.hv_logic.specs.hv_ast.specs.declared.query.Query.{Query}
use Rattle.hv_logic.specs.hv_ast.specs.declared.query.Select.{Select}
use Rattle.hv_logic.specs.hv_ast.specs.declared.query.Source.{Source}
use Rattle.hv_logic.specs.hv_ast.specs.declared.query.Source.TheOpen.{Source-F}
use Rattle.hv_logic.specs.hv_ast.specs.declared.query.Source.TheShapes
use Rattle.hv_logic.specs.hv_ast.specs.declared.query.Source.TheFolds.{fold_out-Source, map-Source}
use Rattle.hv_logic.specs.hv_ast.specs.declared.query.Source.TheVariants as source
use Rattle.hv_logic.specs.hv_ast.specs.declared.query.Source.TheVariants.{rolls-Table, rolls-Query}
use Rattle.hv_logic.specs.hv_ast.specs.declared.query.Source.TheViews.{out-Source, roll-Source, out-roll-Source}
use Rattle.hv_logic.specs.hv_ast.specs.declared.query.Union.{Union}
use Rattle.hv_logic.specs.declared.catalog.TableInfo.{TableInfo}
use Rattle.hv_typing.specs.Faults.{and_then}
use Rattle.hv_typing.specs.declared.opened.Brought.{Brought}
use Rattle.hv_typing.specs.declared.opened.Sources.{Sources}
use Rattle.hv_typing.specs.declared.listed.United.{United}
use Rattle.hv_typing.specs.Sources.{first_source, join_onto, all_joined, all_viewed, opened, opened_none, opened_of, query_brought}
use Rattle.hv_typing.specs.Selects.{is_empty, select_over, listed}
use Rattle.hv_typing.specs.Queries.{select_typed, all_united, unite, alone, order_typed, query_of, query_over, query_typed}
use Rattle.hv_typing.specs.Analysis.{is_window, is_windowless_from, is_windowless_select, is_windowless_query, windowless_joins, windowless_unions, layer_windowless, is_windowless_source, is_windowless}
use Rattle.hv_typing.specs.Creates.{place_of}
use Rattle.hv_typing.specs.Subqueries.{or_name, place_brought, layer_brought, brought}

-- ---- one layer

as-layer : {A : Type 0} (f : Source → A) {s : Source} (layer : Source-F Source) → s ≡ roll-Source layer
    → map-Source Source A f (out-Source s) ≡ map-Source Source A f layer
as-layer {A = A} f layer is = ap (λ layer. map-Source Source A f layer) (ap out-Source is ∙ out-roll-Source layer)

empty-mapped : {A B : Type 0} (f : A → B) (xs : List A) → is_empty (map f xs) ≡ is_empty xs
empty-mapped f [] = refl
empty-mapped f (x ∷ xs) = refl

-- ---- windows

abbrev itself : Bool → Bool
itself windowless = windowless

abbrev w : Source → Bool
w = is_windowless_source

windowless-joins : (joins : List (Join Source))
    → windowless_joins itself (map ((TheShapes.former-Source-Query-0-at-6).map Source Bool w) joins) ≡ windowless_joins w joins
unfolding windowless_joins
windowless-joins [] = refl
windowless-joins (join ∷ joins) = ap (λ rest. w join.source && rest) (windowless-joins joins)

windowless-from : (from : Option (From Source))
    → is_windowless_from itself ((TheShapes.former-Source-Query-0-at-10).map Source Bool w from) ≡ is_windowless_from w from
windowless-from None = refl
windowless-from (Some from) = ap (λ rest. w from.source && rest) (windowless-joins from.joins)

windowless-select : (select : Select Source)
    → is_windowless_select itself ((TheShapes.former-Source-Query-0-at-14).map Source Bool w select) ≡ is_windowless_select w select
windowless-select select = ap (λ rest. not (list_any is_window select.items) && rest) (windowless-from select.from)

windowless-unions : (unions : List (Union Source))
    → windowless_unions itself (map ((TheShapes.former-Source-Query-0-at-31).map Source Bool w) unions) ≡ windowless_unions w unions
unfolding windowless_unions
windowless-unions [] = refl
windowless-unions (union ∷ unions) = λ i. windowless-select union.select i && windowless-unions unions i

windowless-mapped : (query : Query Source) (alias : List ℕ)
    → layer_windowless (map-Source Source Bool w (Source-F.Query query alias)) ≡ is_windowless_query w query
windowless-mapped query alias = λ i. windowless-select query.select i && windowless-unions query.unions i

windowless-out : (s : Source) → is_windowless_source s ≡ layer_windowless (map-Source Source Bool is_windowless_source (out-Source s))
unfolding is_windowless_source
windowless-out s = fold_out-Source Bool layer_windowless s

pub windowless-Table : (name : List ℕ) (alias : Option (List ℕ)) → is_windowless_source (source.Table name alias) ≡ true
windowless-Table name alias =
    windowless-out (source.Table name alias) ∙ ap layer_windowless (as-layer w (Source-F.Table name alias) (sym (rolls-Table name alias)))

pub windowless-Query : (query : Query Source) (alias : List ℕ) → is_windowless_source (source.Query query alias) ≡ is_windowless query
unfolding is_windowless
windowless-Query query alias =
    windowless-out (source.Query query alias)
    ∙ ap layer_windowless (as-layer w (Source-F.Query query alias) (sym (rolls-Query query alias)))
    ∙ windowless-mapped query alias

pub ruleset windowless = (windowless-Table, windowless-Query)

-- ---- what sources bring

abbrev Answer : Type 0
Answer = Result Brought Refusal

abbrev same : Answer → Answer
same brought = brought

module _ (tables : List TableInfo) where
  abbrev b : Source → Answer
  b = brought tables

  joins-mapped : (sources : Sources) (joins : List (Join Source))
      → all_joined same sources (map ((TheShapes.former-Source-Query-0-at-6).map Source Answer b) joins) ≡ all_joined b sources joins
  unfolding all_joined
  joins-mapped sources [] = refl
  joins-mapped sources (join ∷ joins) = λ i.
      and_then (b join.source) (λ right.
      and_then (join_onto sources join.kind join.on right) (λ sources. joins-mapped sources joins i))

  from-mapped : (from : Option (From Source)) → opened same ((TheShapes.former-Source-Query-0-at-10).map Source Answer b from) ≡ opened b from
  unfolding opened
  from-mapped None = refl
  from-mapped (Some from) = λ i.
      and_then (b from.source) (λ first.
      and_then (joins-mapped (first_source first) from.joins i) (λ sources.
      and_then (all_viewed sources from.laterals) (λ sources. Ok (opened_of sources))))

  select-mapped : (select : Select Source) → select_typed same ((TheShapes.former-Source-Query-0-at-14).map Source Answer b select) ≡ select_typed b select
  unfolding select_typed select_over listed
  select-mapped select = λ i. and_then (from-mapped select.from i) (λ opened. select_over select opened)

  unions-mapped : (united : United) (unions : List (Union Source))
      → all_united same united (map ((TheShapes.former-Source-Query-0-at-31).map Source Answer b) unions) ≡ all_united b united unions
  unfolding all_united
  unions-mapped united [] = refl
  unions-mapped united (union ∷ unions) = λ i.
      and_then (select-mapped union.select i) (λ next.
      and_then (unite united union.all next.select) (λ united. unions-mapped united unions i))

  query-mapped : (query : Query Source) → query_typed same ((TheShapes.former-Source-Query-0-at-36).map Source Answer b query) ≡ query_typed b query
  unfolding query_typed query_over
  query-mapped query = λ i.
      and_then (select-mapped query.select i) (λ first.
      and_then (unions-mapped (alone first.columns) query.unions i) (λ united.
      and_then (order_typed (empty-mapped ((TheShapes.former-Source-Query-0-at-31).map Source Answer b) query.unions i) first united.columns query.order) (λ order.
      Ok (query_of first.select united order query.limit))))

  brought-out : (s : Source) → brought tables s ≡ layer_brought tables (map-Source Source Answer b (out-Source s))
  unfolding brought
  brought-out s = fold_out-Source Answer (layer_brought tables) s

  pub brought-Table : (name : List ℕ) (alias : Option (List ℕ))
      → brought tables (source.Table name alias) ≡ place_brought tables (place_of name tables) (or_name alias name)
  brought-Table name alias =
      brought-out (source.Table name alias) ∙ ap (layer_brought tables) (as-layer b (Source-F.Table name alias) (sym (rolls-Table name alias)))

  pub brought-Query : (query : Query Source) (alias : List ℕ)
      → brought tables (source.Query query alias) ≡ and_then (query_typed (brought tables) query) (λ typed. Ok (query_brought alias typed))
  brought-Query query alias =
      brought-out (source.Query query alias)
      ∙ ap (layer_brought tables) (as-layer b (Source-F.Query query alias) (sym (rolls-Query query alias)))
      ∙ ap (λ typed. and_then typed (λ typed. Ok (query_brought alias typed))) (query-mapped query)

pub ruleset sources = (brought-Table, brought-Query)

-- ---- step by step

module _ {S : Type 0} (f : S → Answer) where
  pub joined-end : (sources : Sources) → all_joined f sources [] ≡ Ok sources
  unfolding all_joined
  joined-end sources = refl

  pub joined-step : (sources : Sources) (join : Join S) (joins : List (Join S))
      → all_joined f sources (join ∷ joins)
      ≡ and_then (f join.source) (λ right. and_then (join_onto sources join.kind join.on right) (λ sources. all_joined f sources joins))
  unfolding all_joined
  joined-step sources join joins = refl

  pub opened-nothing : opened f None ≡ Ok opened_none
  unfolding opened
  opened-nothing = refl

  pub opened-from : (from : From S)
      → opened f (Some from)
      ≡ and_then (f from.source) (λ first.
      and_then (all_joined f (first_source first) from.joins) (λ sources.
      and_then (all_viewed sources from.laterals) (λ sources. Ok (opened_of sources))))
  unfolding opened
  opened-from from = refl

  pub select-is : (select : Select S) → select_typed f select ≡ and_then (opened f select.from) (λ opened. select_over select opened)
  unfolding select_typed
  select-is select = refl

  pub united-end : (united : United) → all_united f united [] ≡ Ok united
  unfolding all_united
  united-end united = refl

  pub united-step : (united : United) (union : Union S) (unions : List (Union S))
      → all_united f united (union ∷ unions)
      ≡ and_then (select_typed f union.select) (λ next. and_then (unite united union.all next.select) (λ united. all_united f united unions))
  unfolding all_united
  united-step united union unions = refl

  pub query-is : (query : Query S)
      → query_typed f query
      ≡ and_then (select_typed f query.select) (λ first.
      and_then (all_united f (alone first.columns) query.unions) (λ united. query_over query first united))
  unfolding query_typed
  query-is query = refl

pub ruleset joins = (joined-end, joined-step)

pub ruleset opens = (opened-nothing, opened-from)

pub ruleset selects = (select-is)

pub ruleset unions = (united-end, united-step)

pub ruleset queries = (query-is)
