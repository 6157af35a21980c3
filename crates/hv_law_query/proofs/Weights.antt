-- What a query weighs: more than each of its parts that holds a query, so that the recursion ends.
use Rattle.std.proofs.Common.{◌≡◌, ℕ, zero, suc, ◌+◌, ◌<◌, List, [], ◌∷◌, length, get_or, map, Option, Some, None, refl, sym, ap, ◌∙◌, arith}
use Rattle.hv_typing.specs.declared.tree.TypedJoin.{TypedJoin}
use Rattle.hv_typing.specs.declared.tree.TypedFrom.{TypedFrom}
use Rattle.hv_typing.specs.declared.tree.TypedSelect.{TypedSelect}
use Rattle.hv_typing.specs.declared.tree.TypedUnion.{TypedUnion}
use Rattle.hv_typing.specs.declared.tree.TypedQuery.{TypedQuery}
use Rattle.hv_typing.specs.declared.tree.TypedSource.{TypedSource}
use Rattle.hv_typing.specs.declared.tree.TypedSource.TheOpen.{TypedSource-F}
use Rattle.hv_typing.specs.declared.tree.TypedSource.TheFolds.{fold-TypedSource, fold_out-TypedSource, map-TypedSource}
use Rattle.hv_typing.specs.declared.tree.TypedSource.TheShapes
use Rattle.hv_typing.specs.declared.tree.TypedSource.TheVariants as source
use Rattle.hv_typing.specs.declared.tree.TypedSource.TheVariants.{rolls-Query}
use Rattle.hv_typing.specs.declared.tree.TypedSource.TheViews.{out-TypedSource, out-roll-TypedSource}

module _ {S : Type 0} (weight : S → ℕ) where
  abbrev joins_by : List (TypedJoin S) → ℕ
  joins_by [] = 0
  joins_by (join ∷ joins) = suc (weight join.source) + joins_by joins

  abbrev from_by : TypedFrom S → ℕ
  from_by from = suc (weight from.source + joins_by from.joins)

  abbrev optional_by : Option (TypedFrom S) → ℕ
  optional_by None = 0
  optional_by (Some from) = from_by from

  abbrev select_by : TypedSelect S → ℕ
  select_by select = suc (optional_by select.from)

  abbrev unions_by : List (TypedUnion S) → ℕ
  unions_by [] = 0
  unions_by (next ∷ more) = suc (select_by next.select) + unions_by more

  abbrev query_by : TypedQuery S → ℕ
  query_by query = suc (select_by query.select + unions_by query.unions)

abbrev own : ℕ → ℕ
own n = n

abbrev layer_weight : TypedSource-F ℕ → ℕ
layer_weight (TypedSource-F.Table place) = 0
layer_weight (TypedSource-F.Query query) = suc (query_by own query)

unfoldable pub source_weight : TypedSource → ℕ
source_weight = fold-TypedSource ℕ layer_weight

unfoldable pub joins_weight : List (TypedJoin TypedSource) → ℕ
joins_weight joins = joins_by source_weight joins

unfoldable pub from_weight : TypedFrom TypedSource → ℕ
from_weight from = from_by source_weight from

unfoldable pub select_weight : TypedSelect TypedSource → ℕ
select_weight select = select_by source_weight select

unfoldable pub unions_weight : List (TypedUnion TypedSource) → ℕ
unions_weight unions = unions_by source_weight unions

unfoldable pub query_weight : TypedQuery TypedSource → ℕ
query_weight query = query_by source_weight query

-- ---- the weight of a query in FROM

joins_first : (joins : List (TypedJoin TypedSource))
    → joins_by own (map ((TheShapes.former-TypedSource-Query-0-at-8).map TypedSource ℕ source_weight) joins) ≡ joins_by source_weight joins
joins_first [] = refl
joins_first (join ∷ joins) = ap (λ n. suc (source_weight join.source) + n) (joins_first joins)

from_first : (from : Option (TypedFrom TypedSource))
    → optional_by own ((TheShapes.former-TypedSource-Query-0-at-12).map TypedSource ℕ source_weight from) ≡ optional_by source_weight from
from_first None = refl
from_first (Some from) = ap (λ n. suc (source_weight from.source + n)) (joins_first from.joins)

joins_later : (joins : List (TypedJoin TypedSource))
    → joins_by own (map ((TheShapes.former-TypedSource-Query-0-at-25).map TypedSource ℕ source_weight) joins) ≡ joins_by source_weight joins
joins_later [] = refl
joins_later (join ∷ joins) = ap (λ n. suc (source_weight join.source) + n) (joins_later joins)

from_later : (from : Option (TypedFrom TypedSource))
    → optional_by own ((TheShapes.former-TypedSource-Query-0-at-29).map TypedSource ℕ source_weight from) ≡ optional_by source_weight from
from_later None = refl
from_later (Some from) = ap (λ n. suc (source_weight from.source + n)) (joins_later from.joins)

unions_later : (unions : List (TypedUnion TypedSource))
    → unions_by own (map ((TheShapes.former-TypedSource-Query-0-at-33).map TypedSource ℕ source_weight) unions) ≡ unions_by source_weight unions
unions_later [] = refl
unions_later (next ∷ more) = λ i. suc (suc (from_later next.select.from i)) + unions_later more i

weighed : (query : TypedQuery TypedSource)
    → layer_weight (map-TypedSource TypedSource ℕ source_weight (TypedSource-F.Query query)) ≡ suc (query_by source_weight query)
weighed query = λ i. suc (suc (suc (from_first query.select.from i) + unions_later query.unions i))

source_weight-out : (s : TypedSource) → source_weight s ≡ layer_weight (map-TypedSource TypedSource ℕ source_weight (out-TypedSource s))
unfolding source_weight
source_weight-out s = fold_out-TypedSource ℕ layer_weight s

query_weighs : (query : TypedQuery TypedSource) → source_weight (source.Query query) ≡ suc (query_weight query)
unfolding query_weight
query_weighs query =
    source_weight-out (source.Query query)
    ∙ ap (λ layer. layer_weight (map-TypedSource TypedSource ℕ source_weight layer))
    (ap out-TypedSource (sym (rolls-Query query)) ∙ out-roll-TypedSource (TypedSource-F.Query query))
    ∙ weighed query

-- ---- each part weighs less

pub query_below : (s : TypedSource) (query : TypedQuery TypedSource) → s ≡ source.Query query → query_weight query < source_weight s
query_below s query is =
    let e : source_weight s ≡ suc (query_weight query) = ap source_weight is ∙ query_weighs query in
    omega (arith, e)

pub select_below : (query : TypedQuery TypedSource) → select_weight query.select < query_weight query
unfolding select_weight query_weight
select_below query = omega arith

pub unions_below : (query : TypedQuery TypedSource) → unions_weight query.unions < query_weight query
unfolding unions_weight query_weight
unions_below query = omega arith

pub from_below : (select : TypedSelect TypedSource) (from : TypedFrom TypedSource) → select.from ≡ Some from → from_weight from < select_weight select
unfolding from_weight select_weight
from_below select from is =
    let e : optional_by source_weight select.from ≡ from_by source_weight from = ap (optional_by source_weight) is in
    omega (arith, e)

pub first_below : (from : TypedFrom TypedSource) → source_weight from.source < from_weight from
unfolding from_weight
first_below from = omega arith

pub joins_below : (from : TypedFrom TypedSource) → joins_weight from.joins < from_weight from
unfolding joins_weight from_weight
joins_below from = omega arith

in_joins : (joins : List (TypedJoin TypedSource)) (i : ℕ) (join : TypedJoin TypedSource) → i < length joins → join ≡ get_or joins i join
    → source_weight join.source < joins_by source_weight joins
in_joins [] i join h is = absurd (omega (arith, h))
in_joins (first ∷ joins) zero join h is =
    let e : source_weight join.source ≡ source_weight first.source = ap (λ (j : TypedJoin TypedSource). source_weight j.source) is in
    omega (arith, e)
in_joins (first ∷ joins) (suc i) join h is =
    let less : source_weight join.source < joins_by source_weight joins = in_joins joins i join (omega (arith, h)) is in
    omega (arith, less)

pub join_below : (joins : List (TypedJoin TypedSource)) (i : ℕ) (join : TypedJoin TypedSource) → i < length joins → join ≡ get_or joins i join
    → source_weight join.source < joins_weight joins
unfolding joins_weight
join_below joins i join h is = in_joins joins i join h is

in_unions : (unions : List (TypedUnion TypedSource)) (i : ℕ) (next : TypedUnion TypedSource) → i < length unions → next ≡ get_or unions i next
    → select_by source_weight next.select < unions_by source_weight unions
in_unions [] i next h is = absurd (omega (arith, h))
in_unions (first ∷ unions) zero next h is =
    let e : select_by source_weight next.select ≡ select_by source_weight first.select = ap (λ (u : TypedUnion TypedSource). select_by source_weight u.select) is in
    omega (arith, e)
in_unions (first ∷ unions) (suc i) next h is =
    let less : select_by source_weight next.select < unions_by source_weight unions = in_unions unions i next (omega (arith, h)) is in
    omega (arith, less)

pub union_below : (unions : List (TypedUnion TypedSource)) (i : ℕ) (next : TypedUnion TypedSource) → i < length unions → next ≡ get_or unions i next
    → select_weight next.select < unions_weight unions
unfolding select_weight unions_weight
union_below unions i next h is = in_unions unions i next h is

-- ---- a list of one item more

pub joins-more : (join : TypedJoin TypedSource) (joins : List (TypedJoin TypedSource))
    → joins_weight (join ∷ joins) ≡ suc (source_weight join.source) + joins_weight joins
unfolding joins_weight
joins-more join joins = refl

pub unions-more : (next : TypedUnion TypedSource) (unions : List (TypedUnion TypedSource))
    → unions_weight (next ∷ unions) ≡ suc (select_weight next.select) + unions_weight unions
unfolding unions_weight select_weight
unions-more next unions = refl
