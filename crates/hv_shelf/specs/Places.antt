-- Where a file stands: the order of places, its laws, and which places a directory has.
-- Source: this project's profile.

use Rattle.std.specs.Prelude.{◌≡◌, ℕ, List, Bool, ◌&&◌, ◌==◌, nat_eq, cond, refl}
use Rattle.std.specs.declared.cmp.Ordering.{Ordering}
use Rattle.std.specs.declared.cmp.Ordering.TheVariants.{Less, Equal, Greater}
use Rattle.std.specs.Ordering.{nat_cmp, on, then_cmp, eq_by_cmp, as_partial_cmp, ordering_then}
use Rattle.std.specs.Cmp.{IsTotalOrder, IsPartialOrder, po, on_total, then_total, nat_cmp_total, both_tied, unsigned_ties}
use Rattle.std.specs.Cmp.Lexicographic.{pointwise, slice_cmp, nat_list_cmp_total, texts_ties}
use Rattle.std.specs.FinMap.{IsAntisymmetric, nat_cmp-IsAntisymmetric, slice_cmp-IsAntisymmetric}
use Rattle.std.specs.Coded.{Coded, code_by, coded×, coded_ℕ, coded_list}
use Rattle.hv_base.specs.declared.ids.TableId.{TableId}
use Rattle.hv_shelf.specs.declared.place.Place.{Place}
use Rattle.hv_shelf.specs.declared.place.DirAt.{DirAt}

-- by table, then by partition, directory and bucket
unfoldable pub place_cmp : Place → Place → Ordering
place_cmp =
    then_cmp (on (λ (p : Place). p.table.0) nat_cmp)
    (then_cmp (on (λ (p : Place). p.partition) (slice_cmp nat_cmp))
    (then_cmp (on (λ (p : Place). p.dir) (slice_cmp nat_cmp))
    (on (λ (p : Place). p.bucket) nat_cmp)))

abbrev pub place_eq : Place → Place → Bool
place_eq x y =
    (x.table.0 == y.table.0)
    && (pointwise nat_eq x.partition y.partition
    && (pointwise nat_eq x.dir y.dir && (x.bucket == y.bucket)))

pub place_total : IsTotalOrder place_cmp
unfolding place_cmp
place_total =
    then_total (on_total (λ (p : Place). p.table.0) nat_cmp_total)
    (then_total (on_total (λ (p : Place). p.partition) nat_list_cmp_total)
    (then_total (on_total (λ (p : Place). p.dir) nat_list_cmp_total)
    (on_total (λ (p : Place). p.bucket) nat_cmp_total)))

-- what the order doesn't tell apart is equal
pub place_ties : (x y : Place) → place_eq x y ≡ eq_by_cmp place_cmp x y
unfolding place_cmp
place_ties x y =
    both_tied _ _ _ _ (unsigned_ties x.table.0 y.table.0)
    (both_tied _ _ _ _ (texts_ties x.partition y.partition)
    (both_tied _ _ _ _ (texts_ties x.dir y.dir) (unsigned_ties x.bucket y.bucket)))

pub place_laws : IsPartialOrder place_eq (as_partial_cmp place_cmp)
place_laws = po place_total place_ties

then_equal : (r s : Ordering) → ordering_then r s ≡ Equal → (r ≡ Equal) × (s ≡ Equal)
then_equal Less s e = absurd (cc)
then_equal Equal s e = (refl, e)
then_equal Greater s e = absurd (cc)

pub place_antisymmetric : IsAntisymmetric place_cmp
unfolding place_cmp
place_antisymmetric x y e =
    let first = then_equal _ _ e
    in let second = then_equal _ _ first.1
    in let third = then_equal _ _ second.1
    in let texts = slice_cmp-IsAntisymmetric nat_cmp-IsAntisymmetric
    in let table = nat_cmp-IsAntisymmetric x.table.0 y.table.0 first.0
    in let partition = texts x.partition y.partition second.0
    in let dir = texts x.dir y.dir third.0
    in let bucket = nat_cmp-IsAntisymmetric x.bucket y.bucket third.1
    in λ i.
    record { table = record { 0 = table i }; partition = partition i; dir = dir i; bucket = bucket i }

-- a place as data
abbrev pub place_code : Coded Place
place_code =
    code_by (ℕ × (List ℕ × (List ℕ × ℕ)))
    (coded× coded_ℕ (coded× (coded_list coded_ℕ) (coded× (coded_list coded_ℕ) coded_ℕ)))
    (λ p. (p.table.0, (p.partition, (p.dir, p.bucket))))
    (λ t. record { table = record { 0 = t.0 }; partition = t.1.0; dir = t.1.1.0; bucket = t.1.1.1 })
    (λ p. refl)

-- whether a place is in this directory
abbrev pub is_in : DirAt → Place → Bool
is_in dir place =
    (place.table.0 == dir.table.0)
    && (pointwise nat_eq place.partition dir.partition && pointwise nat_eq place.dir dir.dir)

-- whether a place is in this table
abbrev pub is_of : TableId → Place → Bool
is_of table place = place.table.0 == table.0

-- the place with another directory's name, and the directory with another name
abbrev pub place_named : Place → List ℕ → Place
place_named place name = record place { dir = name }

abbrev pub dir_named : DirAt → List ℕ → DirAt
dir_named dir name = record dir { dir = name }

-- where a file stands after the directory `from` was renamed
abbrev pub renamed_place : DirAt → List ℕ → Place → Place
renamed_place from to place = cond (is_in from place) (place_named place to) place
