-- Where a query's widths are those of its tables, their rows are as wide as it says.
use Rattle.std.proofs.Common.{◌≡◌, ℕ, Bool, true, false, ◌&&◌, List, [], ◌∷◌, slice_get, Option, None, Some, refl, sym, ap, ◌∙◌, eqb-true, true≢false}
use Rattle.hv_typing.specs.declared.tree.TypedJoin.{TypedJoin}
use Rattle.hv_typing.specs.declared.tree.TypedFrom.{TypedFrom}
use Rattle.hv_typing.specs.declared.tree.TypedUnion.{TypedUnion}
use Rattle.hv_typing.specs.declared.tree.TypedQuery.{TypedQuery}
use Rattle.hv_typing.specs.declared.tree.TypedSource.{TypedSource}
use Rattle.hv_typing.specs.declared.tree.TypedSource.TheVariants as source
use Rattle.hv_typing.specs.Rows.{Tables, values_in}
use Rattle.hv_law_query.specs.Mapped.{mapped_query}
use Rattle.hv_law_query.proofs.Folds.{Known, plain, by_sources}
use Rattle.hv_rewrite.specs.Wide.{all_have_width, shows, join_wide, joins_wide, from_wide, select_wide, union_wide, unions_wide, query_wide, source_wide, is_wide}
use Rattle.hv_rewrite.specs.Fits.{fits_at, source_fits, fits, HaveCounts, FittingIsWide}
use Rattle.hv_rewrite.proofs.Lists.{front-true, back-true, both-true}
use Rattle.hv_rewrite.proofs.Spots.{wide-mapped}
use Rattle.hv_rewrite.proofs.FitNodes.{fits-Table, fits-Query}
use Rattle.hv_rewrite.proofs.WideNodes.{wide-Table, wide-Query}

-- ---- what is asked of each source, and follows from another thing that is asked of it

module _ {S : Type 0} (p q : S → ℕ → Bool) (more : (one : S) (width : ℕ) → p one width ≡ true → q one width ≡ true) where
  joins-more : (joins : List (TypedJoin S)) → joins_wide p joins ≡ true → joins_wide q joins ≡ true
  joins-more [] h = refl
  joins-more (join ∷ joins) h =
      both-true (join_wide q join) (joins_wide q joins) (more join.source join.width (front-true (join_wide p join) (joins_wide p joins) h))
      (joins-more joins (back-true (join_wide p join) (joins_wide p joins) h))

  from-more : (from : Option (TypedFrom S)) → from_wide p from ≡ true → from_wide q from ≡ true
  from-more None h = refl
  from-more (Some from) h =
      both-true (q from.source from.width) (joins_wide q from.joins)
      (more from.source from.width (front-true (p from.source from.width) (joins_wide p from.joins) h))
      (joins-more from.joins (back-true (p from.source from.width) (joins_wide p from.joins) h))

  unions-more : (unions : List (TypedUnion S)) → unions_wide p unions ≡ true → unions_wide q unions ≡ true
  unions-more [] h = refl
  unions-more (next ∷ unions) h =
      both-true (union_wide q next) (unions_wide q unions) (from-more next.select.from (front-true (union_wide p next) (unions_wide p unions) h))
      (unions-more unions (back-true (union_wide p next) (unions_wide p unions) h))

  pub query-more : (query : TypedQuery S) → query_wide p query ≡ true → query_wide q query ≡ true
  query-more query h =
      both-true (select_wide q query.select) (unions_wide q query.unions)
      (from-more query.select.from (front-true (select_wide p query.select) (unions_wide p query.unions) h))
      (unions-more query.unions (back-true (select_wide p query.select) (unions_wide p query.unions) h))

-- ---- tables, and queries in FROM

module _ (counts : List ℕ) (tables : Tables) (have : HaveCounts counts tables) where
  abbrev Holds : TypedSource → Type 0
  Holds one = (width : ℕ) → source_fits counts one width ≡ true → source_wide tables one width ≡ true

  counted : (place width : ℕ) (count : Option ℕ) → slice_get counts place ≡ count → fits_at count width ≡ true
      → all_have_width width (values_in (slice_get tables place)) ≡ true
  counted place width None is h = absurd (true≢false (sym h))
  counted place width (Some count) is h =
      ap (λ n. all_have_width n (values_in (slice_get tables place))) (sym (eqb-true count width h)) ∙ have place count is

  at-table : (place : ℕ) → Holds (source.Table place)
  at-table place width h =
      wide-Table tables place width ∙ counted place width (slice_get counts place) refl (sym (fits-Table counts place width) ∙ h)

  module _ (query : TypedQuery (Known Holds)) (width : ℕ) (h : source_fits counts (source.Query (mapped_query (plain Holds) query)) width ≡ true) where
    abbrev whole : TypedQuery TypedSource
    whole = mapped_query (plain Holds) query

    both : (shows width whole && query_wide (source_fits counts) whole) ≡ true
    both = sym (fits-Query counts whole width) ∙ h

    inside : query_wide (λ one count. source_fits counts (plain Holds one) count) query ≡ true
    inside = sym (wide-mapped (plain Holds) (source_fits counts) query) ∙ back-true (shows width whole) (query_wide (source_fits counts) whole) both

    at-query : source_wide tables (source.Query whole) width ≡ true
    at-query =
        wide-Query tables whole width
        ∙ both-true (shows width whole) (query_wide (source_wide tables) whole) (front-true (shows width whole) (query_wide (source_fits counts) whole) both)
        (wide-mapped (plain Holds) (source_wide tables) query
        ∙ query-more (λ one count. source_fits counts (plain Holds one) count) (λ one count. source_wide tables (plain Holds one) count)
        (λ one count e. one.1 count e) query inside)

  every-source : (one : TypedSource) → Holds one
  every-source = by_sources Holds at-table at-query

  pub query-wide : (query : TypedQuery TypedSource) → fits query counts ≡ true → is_wide query tables ≡ true
  unfolding fits is_wide
  query-wide query h = query-more (source_fits counts) (source_wide tables) every-source query h

pub fitting-is-wide : (query : TypedQuery TypedSource) (counts : List ℕ) → FittingIsWide query counts
fitting-is-wide query counts h tables have = query-wide counts tables have query h
