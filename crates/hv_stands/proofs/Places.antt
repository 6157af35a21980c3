-- Two places are one, or apart.
use Rattle.std.proofs.Common.{refl, ◌≡◌, true, false, sym, ap, ◌∙◌}
use Rattle.std.specs.declared.cmp.Ordering.{Ordering}
use Rattle.std.specs.declared.cmp.Ordering.TheVariants.{Less, Equal, Greater}
use Rattle.std.specs.Cmp.{eq_by_cmp_equiv}
use Rattle.std.specs.Ordering.{eq_by_cmp, is_eq}
use Rattle.hv_shelf.specs.declared.place.Place.{Place}
use Rattle.hv_shelf.specs.Places.{place_cmp, place_total, place_antisymmetric}

equal-by : (o : Ordering) → is_eq o ≡ true → o ≡ Equal
equal-by Less e = cc
equal-by Equal e = refl
equal-by Greater e = cc

pub same-place : (place other : Place) → eq_by_cmp place_cmp place other ≡ true → place ≡ other
same-place place other e = place_antisymmetric place other (equal-by (place_cmp place other) e)

pub place-tied : (place : Place) → eq_by_cmp place_cmp place place ≡ true
place-tied place = (eq_by_cmp_equiv place_total).refl place

pub other-place : (place other : Place) → eq_by_cmp place_cmp place other ≡ false → place ≡ other → ⊥
other-place place other e same =
    let yes : eq_by_cmp place_cmp place other ≡ true = ap (eq_by_cmp place_cmp place) (sym same) ∙ place-tied place in
    cc
