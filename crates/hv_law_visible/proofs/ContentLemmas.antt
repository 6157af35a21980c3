-- The list of visible rows is the content.
use Rattle.std.proofs.Common.{◌≡◌, ℕ, List}
use Rattle.hv_base.specs.declared.ids.RowId.{RowId}
use Rattle.hv_base.specs.Sorting.{sorted_by, rising_by}
use Rattle.hv_dirs.specs.Choice.{Sight}
use Rattle.hv_law_visible.specs.Members.{HasNoTies}
use Rattle.hv_law_visible.specs.History.{Write, Compaction, content_of}
use Rattle.hv_law_visible.specs.Visible.{Tree, by_id, visible_rows, writes_shown}
use Rattle.hv_law_visible.specs.Stands.{IsSound, HasDistinctRows, Fits, Stands}
use Rattle.hv_law_visible.specs.Laws.{ShowsRows}
use Rattle.hv_law_visible.proofs.RowLemmas.{by_id-total}
use Rattle.hv_law_visible.proofs.SortingLemmas.{Keyed, rises-sorted, rises-rising, one-list, from-rising, to-rising, from-sorted, to-sorted, distinct-flat, distinct-filter, keyed-distinct}
use Rattle.hv_law_visible.proofs.VisibleLemmas.{visible-shown, shown-visible}

pub visible-rows : {Found : Type 0} (id_of : Found → RowId) (most : ℕ) (sight : Sight)
    (past : Compaction → Type 0) (foreign : ℕ → Type 0) (writes : List (Write Found)) (jobs : List Compaction) (tree : Tree Found)
    → HasDistinctRows id_of writes
    → IsSound id_of most writes jobs → Fits sight past foreign writes jobs → Stands id_of past foreign writes jobs tree
    → rising_by (by_id id_of) (visible_rows id_of sight tree) ≡ sorted_by (by_id id_of) (content_of id_of (writes_shown sight writes))
visible-rows id_of most sight past foreign writes jobs tree distinct sound fits stands =
    let cmp = by_id id_of in
    let total = by_id-total id_of in
    let seen = visible_rows id_of sight tree in
    let rows = content_of id_of (writes_shown sight writes) in
    let apart : HasNoTies cmp rows =
    distinct-filter cmp _ _ (distinct-flat cmp (λ (w : Write _). w.inserts) (λ (w : Write _). sight.valid w.write) writes distinct) in
    let keyed : Keyed cmp rows = keyed-distinct cmp rows total apart in
    let there = visible-shown id_of most sight past foreign writes jobs tree sound fits stands in
    let back = shown-visible id_of most sight past foreign writes jobs tree sound fits stands in
    one-list cmp total (rising_by cmp seen) (sorted_by cmp rows)
    (rises-rising cmp total seen) (rises-sorted cmp total rows apart)
    (λ z at. to-sorted cmp z rows (there z (from-rising cmp z seen at)))
    (λ z at. to-rising cmp z seen (λ x y p q e. keyed x y (there x p) (there y q) e) (back z (from-sorted cmp z rows at)))

pub shows-rows : {Found : Type 0} (id_of : Found → RowId) (most : ℕ) (sight : Sight)
    (past : Compaction → Type 0) (foreign : ℕ → Type 0) (writes : List (Write Found)) (jobs : List Compaction) (tree : Tree Found)
    → IsSound id_of most writes jobs → HasDistinctRows id_of writes
    → Fits sight past foreign writes jobs → Stands id_of past foreign writes jobs tree
    → ShowsRows id_of sight tree (content_of id_of (writes_shown sight writes))
shows-rows id_of most sight past foreign writes jobs tree sound distinct fits stands = record {
  each = λ found. (
    visible-shown id_of most sight past foreign writes jobs tree sound fits stands found,
    shown-visible id_of most sight past foreign writes jobs tree sound fits stands found,
  );
  whole = visible-rows id_of most sight past foreign writes jobs tree distinct sound fits stands;
}
