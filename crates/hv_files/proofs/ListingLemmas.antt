-- What is listed of a table, from the places that were found.
use Rattle.std.proofs.Common.{◌≡◌, List, [], ◌++◌, append-nil, get_or, filter, true, sym, ap, ◌∙◌, subst}
use Rattle.std.specs.List.Sorted.{IsStrictlySortedBy}
use Rattle.std.proofs.lemmas.Bool.{eqb-true}
use Rattle.std.proofs.lemmas.List.Elements.{filter_passes}
use Rattle.std.proofs.lemmas.List.Kept.{IsStrictlySortedBy-filter}
use Rattle.hv_base.specs.declared.ids.TableId.{TableId}
use Rattle.hv_shelf.specs.declared.place.Place.{Place}
use Rattle.hv_shelf.specs.Disk.{IsListing}
use Rattle.hv_shelf.specs.Places.{place_cmp, is_of}

same_table : (table : TableId) (place : Place) → is_of table place ≡ true → place.table ≡ table
same_table table place is = λ i. record { 0 = eqb-true place.table.0 table.0 is i }

-- the rest of the places found was looked at, so what is listed rises
pub listing-found : (table : TableId) (listed rest first found : List Place) →
    listed ++ filter (is_of table) rest ≡ filter (is_of table) first →
    rest ≡ [] → first ≡ found → IsStrictlySortedBy place_cmp found → IsListing table listed
listing-found table listed rest first found so_far ended began rising =
    let is : listed ≡ filter (is_of table) found =
    sym (append-nil listed) ∙ ap (λ r. listed ++ filter (is_of table) r) (sym ended) ∙ so_far
    ∙ ap (filter (is_of table)) began
    in subst (IsListing table) (sym is) (record {
      of = λ k d within.
          same_table table (get_or (filter (is_of table) found) k d)
          (filter_passes (is_of table) found k d within);
      rising = IsStrictlySortedBy-filter place_cmp (is_of table) found rising;
    })
